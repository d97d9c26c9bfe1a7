-- A byte of a walk: its reply framed, and its run behind it. Assumes nothing.
use Prim.Native.Nat.{ℕ, suc, ◌+◌, ◌-◌, ◌≤◌}
use mathlib.Core.Path.{◌≡◌, refl, ap, sym, ◌∙◌}
use mathlib.Core.Bool.{true, false, not, ◌&&◌}
use mathlib.Core.List.{List, [], ◌∷◌, ◌++◌, append_assoc, append-nil}
use native.Mathlib.Omega.{arith}
use borrow.Rule.Slice.PartMut.{put_mid}
use lib.ListN.{length, take, drop, set, length-append, length-drop, take-append-drop}
use lib.Seq.{length-take-le, take_at, drop_at, drop-drop, drop-append-add, set_split}
use Rattle.count.proofs.laws.Lists.{rest, to_end}
use Rattle.record.specs.Memory.{Memory, RightMemory}
use Rattle.board.specs.Calls.{Received}
use Rattle.board.specs.State.{Said, sound}
use Rattle.board.specs.Receive.{hearing}
use Rattle.board.specs.Calls as calls
use Rattle.board.specs.Calls.{lent, receiving, answered}
use Rattle.board.proofs.laws.Laws.{hearing-sound, memory-right, reply-short, never-refused}
use Rattle.course.specs.Run.{Ran}
use Rattle.course.specs.declared.Walk.{Walk}
use Rattle.course.specs.Text.{reply_text}
use Rattle.course.specs.Run.{runs_now, Course, no_calls, course, allowed, RunOutcome, did_run, ran, run_outcome}
use Rattle.course.proofs.laws.Portions.{course-off}
use Rattle.course.specs.Walk.{no_ports, most, ready, Done, done, walk, further, next_done}
use Rattle.course.specs.Walk.{done_of}
use Rattle.course.specs.work.Work.{Wrote, same}
use Rattle.course.proofs.Behind.{wrote_then}
use Rattle.course.proofs.Outcomes.{unrefused}
use Rattle.course.proofs.Portions.{pick_yes, pick_no, ready-parts}

-- ---- a reply that stands at byte 2 of a buffer

module _ (out rep : List ℕ) (h : 2 ≤ length out) where
  abbrev held : List ℕ
  held = take 2 out ++ (rep ++ drop (length rep) (drop 2 out))

  pub reply-there : take (length rep) (drop 2 held) ≡ rep
  reply-there =
      ap (take (length rep)) (drop_at (take 2 out) (rep ++ drop (length rep) (drop 2 out)) 2 (length-take-le 2 out h))
      ∙ take_at rep (drop (length rep) (drop 2 out)) (length rep) refl

  past-some : (n : ℕ) → length rep ≡ n → drop (suc (suc (n + 1))) held ≡ drop (suc (suc (n + 1))) out
  past-some n e =
      let p : List ℕ = take 2 out ++ rep in
      let l : length p ≡ 2 + n = length-append (take 2 out) rep ∙ rw (length-take-le 2 out h, e) in
      let q : suc (suc (n + 1)) ≡ length p + 1 = omega arith in
      let r : 2 + (n + 1) ≡ suc (suc (n + 1)) = omega arith in
      ap (λ (x : List ℕ). drop (suc (suc (n + 1))) x) (sym (append_assoc (take 2 out) rep (drop (length rep) (drop 2 out))))
      ∙ ap (λ (k : ℕ). drop k (p ++ drop (length rep) (drop 2 out))) q
      ∙ drop-append-add p (drop (length rep) (drop 2 out)) 1
      ∙ ap (λ (k : ℕ). drop 1 (drop k (drop 2 out))) e
      ∙ drop-drop 1 n (drop 2 out)
      ∙ drop-drop (n + 1) 2 out
      ∙ ap (λ (k : ℕ). drop k out) r

-- bytes past the reply's line are as they were
past : (out rep : List ℕ) (h : 2 ≤ length out) → drop (length (reply_text rep)) (held out rep h) ≡ drop (length (reply_text rep)) out
past out [] h = take-append-drop 2 out
past out (c ∷ l) h =
    let e : length (reply_text (c ∷ l)) ≡ suc (suc (suc (length l) + 1)) = ap (λ (n : ℕ). suc (suc (suc n))) (length-append l (10 ∷ [])) ∙ omega arith in
    ap (λ (k : ℕ). drop k (held out (c ∷ l) h)) e ∙ past-some out (c ∷ l) h (suc (length l)) refl ∙ sym (ap (λ (k : ℕ). drop k out) e)

pub framed : (out rep : List ℕ) (h : 2 ≤ length out) {n k : ℕ} {out1 out2 : List ℕ} → out1 ≡ held out rep h → n ≡ length rep
    → Wrote (reply_text (take n (drop 2 out1))) out1 k out2 → Wrote (reply_text rep) out k out2
framed out rep h {n} {k} {out1} {out2} e m w =
    let a : take n (drop 2 out1) ≡ rep = (λ i. take (m i) (drop 2 (e i))) ∙ reply-there out rep h in
    let v : Wrote (reply_text rep) out1 k out2 = rw a at w in
    record { long = v.long; text = v.text ∙ ap (λ (x : List ℕ). reply_text rep ++ x) (ap (drop (length (reply_text rep))) e ∙ past out rep h) }

-- ---- lengths

pub mid-long : (at : ℕ) (out ys : List ℕ) → at ≤ length out → length ys ≡ length (take (length out - at) (drop at out)) → length (put_mid at (length out - at) out ys) ≡ length out
mid-long at out ys h e =
    let d : length (take (length out - at) (drop at out)) ≡ length out - at = rw (rest, length-drop) in
    ap length (to_end at out ys) ∙ length-append (take at out) ys ∙ rw (length-take-le at out h) (omega (arith, e, d))

pub reply-long : (l : List ℕ) → length (reply_text l) ≤ length l + 3
reply-long [] = omega arith
reply-long (c ∷ l) = omega (arith, length-append l (10 ∷ []))

-- a text that was written lies in the part
pub text-within : {t s o : List ℕ} {k : ℕ} → Wrote t s k o → length o ≡ length s → k ≤ length s
text-within {t} {s} {o} {k} w e =
    let l = ap length w.text ∙ length-append t (drop (length t) s) in
    omega (arith, l, w.long)

-- ---- the frame of a reply

reply-some : (l : List ℕ) → (length l ≡ 0 → ⊥) → reply_text l ≡ 82 ∷ 32 ∷ (l ++ 10 ∷ [])
reply-some [] h = absurd (h refl)
reply-some (c ∷ l) h = refl

pub reply-framed : (s : List ℕ) (n : ℕ) → n + 3 ≤ length s → (n ≡ 0 → ⊥) → Wrote (reply_text (take n (drop 2 s))) s (n + 3) (set (set (set s 0 82) 1 32) (n + 2) 10)
reply-framed [] n h z = absurd (omega arith)
reply-framed (a ∷ []) n h z = absurd (omega arith)
reply-framed (a ∷ b ∷ s) n h z =
    let l : length (take n s) ≡ n = length-take-le n s (omega arith) in
    let e : reply_text (take n s) ≡ 82 ∷ 32 ∷ (take n s ++ 10 ∷ []) = reply-some (take n s) (λ p. z (sym l ∙ p)) in
    let m : length (take n s ++ 10 ∷ []) ≡ suc n = length-append (take n s) (10 ∷ []) ∙ omega (arith, l) in
    let k : n + 2 ≡ suc (suc n) = omega arith in
    let j : n + 3 ≡ suc (suc (suc n)) = omega arith in
    record {
      long = j ∙ sym (ap length e ∙ ap (λ (x : ℕ). suc (suc x)) m);
      text =
          ap (λ (i : ℕ). set (82 ∷ 32 ∷ s) i 10) k
          ∙ ap (λ (x : List ℕ). 82 ∷ 32 ∷ x) (set_split s n 10 (omega arith) ∙ sym (append_assoc (take n s) (10 ∷ []) (drop (suc n) s)))
          ∙ (λ i. sym e i ++ drop (suc (suc (sym m i))) (a ∷ b ∷ s))
          ∙ ap (λ (x : ℕ). reply_text (take n s) ++ drop x (a ∷ b ∷ s)) (sym (ap length e));
    }

-- ---- the byte

module _ (byte : ℕ) (w : Walk) (mem : Memory) (out : List ℕ) where
  abbrev s : Said
  s = hearing byte no_ports w.board mem

  abbrev t : List ℕ
  t = reply_text s.reply

  abbrev c : Course
  c = course (allowed most (drop (length t) out)) s.memory s.board

  abbrev onward : Done
  onward = done (further c 0) (t ++ c.text) s.memory out

  pub next-on : w.over ≡ false → done_of (same w) mem out ≡ next_done byte w mem out
  unfolding next_done
  next-on o = sym (pick_no onward (done w [] mem out) (w.over && ready w mem out) (λ i. o i && ready w mem out))

  pub next-unready : w.over ≡ true → ready w mem out ≡ false → done_of (same w) mem out ≡ next_done byte w mem out
  unfolding next_done
  next-unready o e = sym (pick_no onward (done w [] mem out) (w.over && ready w mem out) (λ i. o i && e i))

  pub went-next : w.over ≡ true → ready w mem out ≡ true → next_done byte w mem out ≡ onward
  unfolding next_done
  went-next o e = pick_yes onward (done w [] mem out) (w.over && ready w mem out) (λ i. o i && e i)

  module _ (o : w.over ≡ true) (e : ready w mem out ≡ true) {r : Received} {reply : List ℕ} {mem' : Memory}
      (q : calls.did r (lent reply mem') ≡ receiving byte no_ports w.board (lent (take (length out - 2) (drop 2 out)) mem)) where
    room : 32 ≤ length (take (length out - 2) (drop 2 out))
    room = let p = ready-parts w mem out e in rw (rest, length-drop) (omega arith)

    heard : calls.did r (lent reply mem') ≡ answered s (take (length out - 2) (drop 2 out))
    heard = let p = ready-parts w mem out e in q ∙ never-refused byte no_ports w.board mem p.2 _ room p.1

    pub its-board : r.board ≡ s.board
    its-board = ap (λ (x : calls.Outcome). x.result.board) heard

    pub its-length : r.len ≡ length s.reply
    its-length = ap (λ (x : calls.Outcome). x.result.len) heard

    pub its-memory : mem' ≡ s.memory
    its-memory = ap (λ (x : calls.Outcome). x.after.memory) heard

    its-reply : reply ≡ s.reply ++ drop (length s.reply) (drop 2 out)
    its-reply = ap (λ (x : calls.Outcome). x.after.reply) heard ∙ rw rest

    pub two : 2 ≤ length out
    two = let p = ready-parts w mem out e in omega arith

    pub its_out : put_mid 2 (length out - 2) out reply ≡ held out s.reply two
    its_out = to_end 2 out reply ∙ ap (λ (x : List ℕ). take 2 out ++ x) its-reply

    -- the whole portion
    pub next-made : {n : ℕ} {out2 last : List ℕ} {m : Ran} → Wrote (reply_text (take r.len (drop 2 (put_mid 2 (length out - 2) out reply)))) (put_mid 2 (length out - 2) out reply) n out2
        → did_run m last ≡ run_outcome most r.board mem' (take (length out2 - n) (drop n out2))
        → done_of (record { walk = walk m.board m.calls m.over; len = n + m.len }) mem' (put_mid n (length out2 - n) out2 last) ≡ next_done byte w mem out
    next-made {n} {out2} {last} {m} f g =
        let p = ready-parts w mem out e in
        let v : Wrote t out n out2 = framed out s.reply two its_out its-length f in
        let d : drop n out2 ≡ drop (length t) out = rw v.text (drop_at t (drop (length t) out) n (sym v.long)) in
        let u : take (length out2 - n) (drop n out2) ≡ drop (length t) out = rest n out2 ∙ d in
        let ks : sound s.board ≡ true = hearing-sound byte no_ports w.board mem p.2 in
        let kl : RightMemory s.memory = memory-right byte no_ports w.board mem p.2 p.1 in
        let k : did_run m last ≡ ran c (drop (length t) out) =
        g ∙ (λ i. run_outcome most (its-board i) (its-memory i) (u i)) ∙ unrefused most s.board s.memory (drop (length t) out) kl ks in
        let x : Wrote c.text (take (length out2 - n) (drop n out2)) m.len last =
        record { long = ap (λ (y : RunOutcome). y.result.len) k; text = ap (λ (y : RunOutcome). y.out) k ∙ ap (λ (y : List ℕ). c.text ++ drop (length c.text) y) (sym u) } in
        let z : Wrote (t ++ c.text) out (n + m.len) (put_mid n (length out2 - n) out2 last) = wrote_then v x in
        let kb = ap (λ (y : RunOutcome). y.result.board) k in
        let kc : m.calls ≡ 0 + c.calls = ap (λ (y : RunOutcome). y.result.calls) k ∙ omega arith in
        let ko = ap (λ (y : RunOutcome). y.result.over) k in
        (λ i. done_of (record { walk = walk (kb i) (kc i) (ko i); len = z.long i }) (its-memory i) (z.text i))
        ∙ sym (went-next o e)

    -- the whole portion of a byte after which nothing runs
    pub next-still : {n : ℕ} {out2 : List ℕ} → Wrote (reply_text (take r.len (drop 2 (put_mid 2 (length out - 2) out reply)))) (put_mid 2 (length out - 2) out reply) n out2
        → runs_now r.board ≡ false → done_of (record { walk = walk r.board 0 true; len = n }) mem' out2 ≡ next_done byte w mem out
    next-still {n} {out2} f z =
        let v : Wrote t out n out2 = framed out s.reply two its_out its-length f in
        let y : runs_now s.board ≡ false = sym (ap runs_now its-board) ∙ z in
        let k : no_calls s.board ≡ c = sym (course-off s.memory (allowed most (drop (length t) out)) s.board y) in
        let ko : true ≡ not (runs_now s.board) = sym (ap not y) in
        (λ i. done_of (record { walk = walk (its-board i) 0 (ko i); len = v.long i }) (its-memory i) (v.text i))
        ∙ ap (λ (x : List ℕ). done (further (no_calls s.board) 0) x s.memory out) (sym (append-nil t))
        ∙ ap (λ (x : Course). done (further x 0) (t ++ x.text) s.memory out) k
        ∙ sym (went-next o e)

    -- the reply's line and the run's text lie in the buffer
    pub framed-here : {n : ℕ} {out2 : List ℕ} → Wrote (reply_text (take r.len (drop 2 (put_mid 2 (length out - 2) out reply)))) (put_mid 2 (length out - 2) out reply) n out2
        → Wrote t out n out2
    framed-here f = framed out s.reply two its_out its-length f

    pub reply-fits : r.len ≤ 25
    reply-fits = let p = ready-parts w mem out e in omega (arith, its-length, reply-short byte no_ports w.board mem p.2)

    pub line-fits : {n : ℕ} {out2 : List ℕ} → Wrote t out n out2 → n ≤ 28
    line-fits v = let p = ready-parts w mem out e in omega (arith, v.long, reply-long s.reply, reply-short byte no_ports w.board mem p.2)

    pub run_fits : {n : ℕ} {out2 last : List ℕ} {m : Ran} → Wrote t out n out2
        → did_run m last ≡ run_outcome most r.board mem' (take (length out2 - n) (drop n out2)) → length last ≡ length (take (length out2 - n) (drop n out2)) → m.len ≤ length out2 - n
    run_fits {n} {out2} {last} {m} v g l =
        let p = ready-parts w mem out e in
        let u = take (length out2 - n) (drop n out2) in
        let ks : sound s.board ≡ true = hearing-sound byte no_ports w.board mem p.2 in
        let kl : RightMemory s.memory = memory-right byte no_ports w.board mem p.2 p.1 in
        let k : did_run m last ≡ ran (course (allowed most u) s.memory s.board) u =
        g ∙ (λ i. run_outcome most (its-board i) (its-memory i) u) ∙ unrefused most s.board s.memory u kl ks in
        let x : Wrote (course (allowed most u) s.memory s.board).text u m.len last =
        record { long = ap (λ (y : RunOutcome). y.result.len) k; text = ap (λ (y : RunOutcome). y.out) k } in
        let d : length u ≡ length out2 - n = rw (rest, length-drop) in
        omega (arith, text-within x l, d)
