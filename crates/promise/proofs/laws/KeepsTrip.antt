-- Ours has `RoundTrip`. Assumes nothing.
use Prim.Native.Nat.{ℕ, suc, ◌+◌, ◌≤◌}
use mathlib.Core.Path.{◌≡◌, refl, sym, ap, subst, ◌∙◌}
use mathlib.Core.Bool.{Bool, true, false}
use mathlib.Core.List.{List, [], ◌∷◌, ◌++◌, append_assoc, append-nil}
use native.Mathlib.Omega.{arith}
use borrow.Author.Tests.{le-ltb, le-leb}
use lib.ListN.{length, take, drop, length-append, length-set}
use lib.Seq.{length-take-le, take-append_seam}
use Rattle.count.specs.Pick.{pick}
use Rattle.motion.specs.Sound.{counted}
use Rattle.record.specs.declared.Held.{Held}
use Rattle.record.specs.declared.Record.{Record}
use Rattle.record.specs.Bytes.{encode, numbers_of}
use Rattle.record.specs.Memory.{Memory, RightMemory}
use Rattle.record.specs.Places.{records_from, records_of, encode_all}
use Rattle.record.specs.Places.Records.{are}
use Rattle.record.specs.Keep.{longer, has_room, store_of}
use Rattle.record.specs.Listing.{numbers_text, line_text, list_text, Telling, telling, list_of}
use Rattle.record.specs.Bytes.{Below}
use Rattle.record.proofs.laws.Right.{RightOne, take-pad}
use Rattle.record.proofs.laws.Stored.{AllRight, readable-list, encode-behind, stored-list}
use Rattle.record.proofs.laws.Faultless.{Faultless, right-faultless}
use Rattle.record.proofs.laws.Lines.{line-long}
use Rattle.program.specs.Program.{verdict_of, is_sound, passes, accepted}
use Rattle.program.proofs.laws.Accepting.{accepted-parts, accepted-list, accepted-holds}
use Rattle.line.specs.Said.{Stored}
use Rattle.line.specs.Lines.{stored_of}
use Rattle.line.proofs.laws.RoundTrip.{stored-end}
use Rattle.engine.specs.State.{nothing_held}
use Rattle.engine.specs.Sound.{axes_known, sound_of}
use Rattle.engine.proofs.laws.Facts.{facts}
use Rattle.board.specs.declared.Board.{Board}
use Rattle.board.specs.State.{board, no_line, said, sound}
use Rattle.board.specs.Direct.{first}
use Rattle.board.specs.Storing.{record_reply, record_said, named_fault, stored_said}
use Rattle.board.specs.Receive.{ear_of, returned, gathering, hearing}
use Rattle.board.specs.Calls.{fresh, listing}
use Rattle.board.proofs.laws.Hears.{sound-engine}
use Rattle.promise.specs.Machine.{ours, after_all}
use Rattle.promise.specs.Demands.{idles, Host, storing_text, sent, Restored, ListedAgain, RoundTrip}
use Rattle.promise.proofs.laws.KeepsLines.{stored_in}
use Rattle.promise.proofs.laws.KeepsSending.{with-line, line_of, Ends, line-all}
use Rattle.promise.proofs.laws.KeepsStart.{storing_with, resting_with, stores, leads}
use Rattle.promise.proofs.laws.KeepsNumbers.{line, line_plain, line-back, record-back}
use Rattle.promise.proofs.laws.KeepsAlways.{always-sound}

-- ---- a board that stores under axes, with a part in use

-- the part in use that a list of records takes
abbrev pub held_by : ℕ → List Record → Held
held_by axes l = record { used = length (encode_all l); records = length l; axes = axes }

storing-sound : (axes : ℕ) (h : Held) → axes_known axes ≡ true → h.axes ≡ axes → h.used ≤ 16384 → h.records ≤ 1000 → sound_of (storing_with axes h) ≡ true
unfolding sound_of counted
storing-sound axes h k e u r = rw (e, k, le-leb h.used 16384 u, le-leb h.records 1000 r)

-- ---- a return while storing

module _ (axes : ℕ) (h : Held) (mem : Memory) where
  abbrev here : List ℕ → Board
  here t = with-line (storing_with axes h) (line_of t)

  stored_here : (t ports : List ℕ) → length t ≤ 80 → hearing 13 ports (here t) mem ≡ stored_said (stored_of t) (here t) mem
  unfolding hearing ear_of gathering returned
  stored_here t ports n = ap (λ (s : List ℕ). stored_said (stored_of s) (here t) mem) (take-pad 80 t n)

  -- a right record with room is answered 0
  rows_none : (r : Record) → Faultless h.axes r.code r.count r.words → (store_of h r mem).kept.stored ≡ true → record_reply h r mem ≡ 48
  unfolding record_reply first
  rows_none r f s = rw (f.count-so, f.axes-so, f.ranges-so, f.speeds-so, s)

  record-said : (r : Record) (ports : List ℕ) (g : RightOne h.axes r) → length (line h.axes r g) ≤ 80 → (store_of h r mem).kept.stored ≡ true
      → hearing 13 ports (here (line h.axes r g)) mem
      ≡ said (board (storing_with axes (store_of h r mem).kept.held) false no_line) (48 ∷ []) (stored_in h r mem)
  unfolding stored_said
  record-said r ports g n s =
      let t = line h.axes r g in
      stored_here t ports n ∙ ap (λ (d : Stored). stored_said d (here t) mem) (line-back h.axes r g)
      ∙ ap (λ (x : Record). record_said x (here t) mem) (record-back h.axes r g)
      ∙ rw (rows_none r (right-faultless h.axes r g.right) s)

  end-said : (ports : List ℕ) → is_sound (verdict_of h mem.store) ≡ true → hearing 13 ports (here (57 ∷ [])) mem ≡ said (board (resting_with axes h) false no_line) (48 ∷ []) mem
  unfolding stored_said
  end-said ports s =
      stored_here (57 ∷ []) ports (omega arith) ∙ ap (λ (d : Stored). stored_said d (here (57 ∷ [])) mem) stored-end
      ∙ ap (λ (x : Bool). pick x (said (board (resting_with axes h) false no_line) (48 ∷ []) mem) (said (board (resting_with axes nothing_held) false no_line) (71 ∷ named_fault (verdict_of h mem.store)) mem)) s

  -- room for one record more
  room-stored : (r : Record) → has_room h (length (encode r)) (length mem.store) (length mem.table) ≡ true
      → ((store_of h r mem).kept.stored ≡ true) × ((store_of h r mem).kept.held ≡ longer h (length (encode r)))
  unfolding store_of
  room-stored r p = (rw p, rw p)

line-short : (axes : ℕ) (r : Record) (g : RightOne axes r) → length (line axes r g) ≤ 80
unfolding line_text
line-short axes r g =
    let n : length (numbers_text (numbers_of r) ++ 13 ∷ []) ≡ length (numbers_text (numbers_of r)) + 1 = length-append (numbers_text (numbers_of r)) (13 ∷ []) in
    omega (arith, line-long axes r g)

encode-parts : (a b : List Record) → encode_all (a ++ b) ≡ encode_all a ++ encode_all b
unfolding encode_all
encode-parts [] b = refl
encode-parts (r ∷ a) b = rw (encode-parts a b) (sym (append_assoc (encode r) (encode_all a) (encode_all b)))

encode-more : (done rest : List Record) (r : Record) → length (encode_all (done ++ r ∷ rest)) ≡ length (encode_all done) + (length (encode r) + length (encode_all rest))
unfolding encode_all
encode-more done rest r =
    ap length (encode-parts done (r ∷ rest)) ∙ length-append (encode_all done) (encode r ++ encode_all rest)
    ∙ ap (λ (n : ℕ). length (encode_all done) + n) (length-append (encode r) (encode_all rest))

held-behind : (axes : ℕ) (done : List Record) (r : Record) → longer (held_by axes done) (length (encode r)) ≡ held_by axes (done ++ r ∷ [])
held-behind axes done r =
    let u : length (encode_all done) + length (encode r) ≡ length (encode_all (done ++ r ∷ [])) =
    sym (ap length (encode-behind done r) ∙ length-append (encode_all done) (encode r)) in
    let k : length done + 1 ≡ length (done ++ r ∷ []) = sym (length-append done (r ∷ [])) in
    λ i. record { used = u i; records = k i; axes = axes }

text-so : (r : Record) (rest : List Record) → list_text (r ∷ rest) ≡ (r.code ∷ numbers_text (numbers_of r)) ++ 13 ∷ list_text rest
unfolding list_text line_text
text-so r rest = append_assoc (r.code ∷ numbers_text (numbers_of r)) (13 ∷ []) (list_text rest)

has_room-held : (axes : ℕ) (done : List Record) (r : Record) (mem : Memory) → RightMemory mem → length done + 1 ≤ 1000
    → length (encode_all done) + length (encode r) ≤ 16384 → has_room (held_by axes done) (length (encode r)) (length mem.store) (length mem.table) ≡ true
unfolding has_room
has_room-held axes done r mem n m u = rw (n.0, n.1, le-leb (length done + 1) 1000 m, le-leb (length (encode_all done) + length (encode r)) 16384 u)

-- ---- all records and the end line

module _ (host : Host) (axes : ℕ) (k : axes_known axes ≡ true) (l : List Record) (few : length l ≤ 1000) (room : length (encode_all l) ≤ 16384)
    (pass : passes l ≡ true) where
  -- what is stored at the end
  abbrev pub Kept-all : Board → Memory → Type 0
  Kept-all b mem = (b.engine.held ≡ held_by axes l) × (take (length (encode_all l)) mem.store ≡ encode_all l) × (idles b ≡ true)

  verdict : (store : List ℕ) → records_of (held_by axes l) store ≡ are l → is_sound (verdict_of (held_by axes l) store) ≡ true
  unfolding verdict_of passes
  verdict store q = rw (le-ltb 1000 (length l) few, q) pass

  at-end : (mem : Memory) (i : ℕ) → records_of (held_by axes l) mem.store ≡ are l → Below 256 mem.store → RightMemory mem
      → Ends host Kept-all (57 ∷ 13 ∷ []) (sent ours host i (57 ∷ 13 ∷ []) (with-line (storing_with axes (held_by axes l)) no_line) mem)
  unfolding sent
  at-end mem i q b n =
      line-all host Kept-all (storing_with axes (held_by axes l)) mem refl refl (storing-sound axes (held_by axes l) k refl room few) n (57 ∷ []) i []
      (board (resting_with axes (held_by axes l)) false no_line) mem ((omega arith, omega arith), tt) (omega arith)
      (λ ports. end-said axes (held_by axes l) mem ports (verdict mem.store q))
      (λ j. (refl, (refl, (readable-list (held_by axes l) mem.store l b q).bytes, refl)))

  records-all : (rest done : List Record) (mem : Memory) (i : ℕ) → done ++ rest ≡ l → AllRight axes rest → records_of (held_by axes done) mem.store ≡ are done
      → Below 256 mem.store → RightMemory mem
      → Ends host Kept-all (list_text rest) (sent ours host i (list_text rest) (with-line (storing_with axes (held_by axes done)) no_line) mem)
  unfolding list_text
  records-all [] done mem i e g q b n =
      let d : l ≡ done = sym e ∙ append-nil done in
      let p : records_of (held_by axes l) mem.store ≡ are l = rw d q in
      subst (λ (x : List Record). Ends host Kept-all (57 ∷ 13 ∷ []) (sent ours host i (57 ∷ 13 ∷ []) (with-line (storing_with axes (held_by axes x)) no_line) mem)) d
      (at-end mem i p b n)
  records-all (r ∷ rest) done mem i e g q b n =
      let h = held_by axes done in
      let t = line axes r g.0 in
      let long : length (encode_all l) ≡ length (encode_all done) + (length (encode r) + length (encode_all rest)) =
      ap (λ (x : List Record). length (encode_all x)) (sym e) ∙ encode-more done rest r in
      let many : length l ≡ length done + suc (length rest) = ap length (sym e) ∙ length-append done (r ∷ rest) in
      let c = room-stored axes h mem r (has_room-held axes done r mem n (omega arith) (omega arith)) in
      let a = stored-list h r mem done b q g.0 c.0 in
      let w : (store_of h r mem).kept.held ≡ held_by axes (done ++ r ∷ []) = c.1 ∙ held-behind axes done r in
      let m : RightMemory (stored_in h r mem) = (a.long ∙ n.0, ap length a.entry ∙ length-set mem.table h.records h.used ∙ n.1) in
      let f : (done ++ r ∷ []) ++ rest ≡ l = append_assoc done (r ∷ []) rest ∙ e in
      let z : records_of (held_by axes (done ++ r ∷ [])) (stored_in h r mem).store ≡ are (done ++ r ∷ []) = rw (← w) a.list in
      let next : (j : ℕ) → Ends host Kept-all (list_text rest)
      (sent ours host j (list_text rest) (board (storing_with axes (store_of h r mem).kept.held) false no_line) (stored_in h r mem)) =
      λ j. rw w (records-all rest (done ++ r ∷ []) (stored_in h r mem) j f g.1 z a.below m) in
      subst (λ (x : List ℕ). Ends host Kept-all x (sent ours host i x (with-line (storing_with axes h) no_line) mem))
      (sym (text-so r rest))
      (line-all host Kept-all (storing_with axes h) mem refl refl (storing-sound axes h k refl (omega arith) (omega arith)) n t i (list_text rest)
      (board (storing_with axes (store_of h r mem).kept.held) false no_line) (stored_in h r mem) (line_plain axes r g.0) (line-short axes r g.0)
      (λ ports. record-said axes h mem r ports g.0 (line-short axes r g.0) c.0) next)

-- ---- RoundTrip

no-records : (axes : ℕ) (store : List ℕ) → records_of (held_by axes []) store ≡ are []
unfolding records_of records_from encode_all
no-records axes store = refl

same-held : (h : Held) (l : List Record) → length (encode_all l) ≡ h.used → length l ≡ h.records → held_by h.axes l ≡ h
same-held h l u r = λ i. record { used = u i; records = r i; axes = h.axes }

empty-held : (axes : ℕ) → record { used = 0; records = 0; axes = axes } ≡ held_by axes []
unfolding encode_all
empty-held axes = refl

-- the lines of a program of records, sent to a fresh board
restored : (h : Held) (store : List ℕ) (l : List Record) (other : Memory) (host : Host) → length store ≡ 16384 → Below 256 store → h.used ≤ 16384
    → h.records ≤ 1000 → accepted h store ≡ true → records_of h store ≡ are l → RightMemory other → Below 256 other.store
    → Restored ours h store (storing_text h.axes (list_text l)) (sent ours host 0 (storing_text h.axes (list_text l)) fresh other)
restored h store l other host n b u r a q n' b' =
    let p = (accepted-list h store l q a).passing in
    let set = (accepted-parts h store a).1 in
    let s = stores h.axes set in
    let g = readable-list h store l b q in
    let used : length (encode_all l) ≡ h.used = ap length (sym g.bytes) ∙ length-take-le h.used store (rw n u) in
    let few : length l ≤ 1000 = rw g.count r in
    let room : length (encode_all l) ≤ 16384 = rw used u in
    let K = Kept-all host h.axes s.known l few room p in
    let x : Ends host K (storing_text h.axes (list_text l)) (sent ours host 0 (storing_text h.axes (list_text l)) fresh other) =
    leads host K other n' (64 ∷ 48 ∷ 105 ∷ 13 ∷ list_text l) h.axes set
    (λ i. line-all host K (resting_with h.axes nothing_held) other refl refl s.sound n' (64 ∷ 48 ∷ 105 ∷ []) i (list_text l)
    (board (storing_with h.axes (held_by h.axes [])) false no_line) other
    ((omega arith, omega arith), ((omega arith, omega arith), ((omega arith, omega arith), tt))) (omega arith)
    (λ ports. s.store ports other ∙ ap (λ (k : Held). said (board (storing_with h.axes k) false no_line) (48 ∷ []) other) (empty-held h.axes))
    (λ j. records-all host h.axes s.known l few room p l [] other j refl g.right (no-records h.axes other.store) b' n')) in
    record {
      replies = x.0;
      held = x.1.0 ∙ same-held h l used g.count;
      bytes = (rw used at x.1.1) ∙ sym g.bytes;
      idle = x.1.2;
    }

-- the lines that are sent are those that the lister writes
pub lister-text : (b : Board) (store t : List ℕ) (l : List Record) → length store ≡ 16384 → sound b ≡ true → 32768 ≤ length t → records_of b.engine.held store ≡ are l
    → listing b store t ≡ telling 0 (length (list_text l)) (list_text l ++ drop (length (list_text l)) t)
unfolding listing list_of
lister-text b store t l n s h q = rw (n, s, le-ltb (length t) 32768 h, le-ltb 16384 b.engine.held.used (facts b.engine (sound-engine b s)).used, q)

-- what a board that passes 103 lists is stored again
pub listed-again : (b : Board) (store text : List ℕ) (other : Memory) (host : Host) → sound b ≡ true → length store ≡ 16384 → Below 256 store
    → accepted b.engine.held store ≡ true → 32768 ≤ length text → RightMemory other → Below 256 other.store → ListedAgain ours store text other host b
listed-again b store text other host s n below a w n' below' =
    let h = b.engine.held in
    let f = facts b.engine (sound-engine b s) in
    let x = accepted-holds h store a in
    let t = lister-text b store text x.items n s w x.reads in
    let lines : take (listing b store text).listed.len (listing b store text).text ≡ list_text x.items =
    ap (λ (y : Telling). take y.listed.len y.text) t ∙ take-append_seam (list_text x.items) _ in
    record {
      listed = ap (λ (y : Telling). y.listed.refusal) t;
      restored = subst (λ (y : List ℕ). Restored ours h store (storing_text h.axes y) (sent ours host 0 (storing_text h.axes y) fresh other)) (sym lines)
          (restored h store x.items other host n below f.used f.records a x.reads n' below');
    }

pub keeps-round-trip : RoundTrip ours
keeps-round-trip es store text other host n b a w n' b' = listed-again (after_all ours es fresh) store text other host (always-sound es) n b a w n' b'
