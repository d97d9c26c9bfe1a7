-- The laws of the calls (01, "Calls" and "Running a program", last sentence): a fresh board is a reset one with an emptied store; no dead
-- end; the store's bytes change from the end of the part in use on, and only by an accepted record line; store and table keep their
-- lengths. Assumes nothing.
use Prim.Native.Nat.{ℕ, ◌+◌, ◌≤◌}
use mathlib.Core.Path.{◌≡◌, refl, ap, ◌∙◌}
use mathlib.Core.Bool.{Bool, true, false, not}
use mathlib.Core.List.{List, ◌++◌, append_assoc}
use native.Mathlib.Omega.{arith}
use borrow.Author.Tests.{le-ltb, eq-eqb}
use lib.Dec.{ltb}
use lib.ListN.{length, take, drop, length-append, length-drop, length-set}
use lib.Seq.{take_at, length-take-le}
use Rattle.count.specs.Pick.{pick}
use Rattle.travel.specs.Next.{pulse_of}
use Rattle.record.specs.declared.Held.{Held}
use Rattle.record.specs.declared.Record.{Record}
use Rattle.record.specs.Memory.{Memory, RightMemory, store_fits, table_fits}
use Rattle.record.specs.Bytes.{encode}
use Rattle.record.specs.Keep.{storing, longer, has_room, with_record, store_of}
use Rattle.record.specs.Table.{fetch_of}
use Rattle.record.proofs.laws.Put.{room-so}
use Rattle.engine.specs.State.{emptied, reset_of}
use Rattle.engine.specs.Tick.{ticked}
use Rattle.engine.proofs.laws.Facts.{facts}
use Rattle.engine.proofs.laws.Kept.{tick-keeps-pulse}
use Rattle.engine.proofs.laws.Lines as engine
use Rattle.board.specs.declared.Board.{Board}
use Rattle.board.specs.Calls.{Ticked}
use Rattle.board.specs.State.{board, no_line, sound, Said}
use Rattle.board.specs.Receive.{hearing, reset_said}
use Rattle.board.specs.Calls.{lent, Outcome, answered, receiving, clocking, fresh}
use Rattle.board.proofs.laws.Hears.{sound-engine, sound-line}
use Rattle.board.proofs.laws.Fair.{Change, same, stored, line-sound, hearing-fair}

-- ---- a fresh board is a reset one with an emptied store

abbrev pub emptied_board : Board → Board
emptied_board b = board (emptied b.engine) b.standing b.line

pub fresh-is-reset : (ports : List ℕ) (b : Board) (m : Memory) → emptied_board (hearing 254 ports b m).board ≡ fresh
unfolding hearing reset_said reset_of
fresh-is-reset ports b m = refl

-- ---- no dead end

pub fresh-sound : sound fresh ≡ true
fresh-sound = line-sound _ false no_line engine.fresh-sound (omega arith)

-- a byte keeps what 103 asks
pub hearing-sound : (byte : ℕ) (ports : List ℕ) (b : Board) (m : Memory) → sound b ≡ true → sound (hearing byte ports b m).board ≡ true
hearing-sound byte ports b m h = (hearing-fair byte b m h ports).kept

tick-by : (r t f s : Bool) (x y u z w : Ticked) → sound x.board ≡ true → sound y.board ≡ true → sound u.board ≡ true → sound z.board ≡ true
    → sound w.board ≡ true → sound (pick r x (pick t y (pick f u (pick s z w)))).board ≡ true
tick-by true t f s x y u z w a b c d e = a
tick-by false true f s x y u z w a b c d e = b
tick-by false false true s x y u z w a b c d e = c
tick-by false false false true x y u z w a b c d e = d
tick-by false false false false x y u z w a b c d e = e

-- and so does a clock call
pub clocking-sound : (b : Board) (m : Memory) → sound b ≡ true → sound (clocking b m).board ≡ true
unfolding clocking
clocking-sound b m h =
    let k = tick-keeps-pulse (fetch_of b.engine.held m) b.engine (sound-engine b h) in
    tick-by (not (store_fits m)) (not (sound b)) (not (table_fits m)) b.standing _ _ _ _ _ h h h h
    (line-sound (ticked pulse_of (fetch_of b.engine.held m) b.engine).engine b.standing b.line k (sound-line b h))

-- ---- the store's bytes, and the lengths of store and table

-- the memory after a record, where there is room for it and where there is none
abbrev kept_by : Bool → Held → Record → Memory → Memory
kept_by t d r m =
    (pick t (storing (record { stored = true; held = longer d (length (encode r)) }) (with_record d r m)) (storing (record { stored = false; held = d }) m)).memory

front_by : (t : Bool) (d : Held) (r : Record) (m : Memory) → d.used ≤ length m.store → take d.used (kept_by t d r m).store ≡ take d.used m.store
front_by true d r m h =
    let s = m.store in
    rw append_assoc (take_at (take d.used s) (encode r ++ drop (d.used + length (encode r)) s) d.used (length-take-le d.used s h))
front_by false d r m h = refl

abbrev pub SameLengths : Memory → Memory → Type 0
SameLengths m m' = (length m'.store ≡ length m.store) × (length m'.table ≡ length m.table)

pub same-right : (m m' : Memory) → SameLengths m m' → RightMemory m → RightMemory m'
same-right m m' s r = (s.0 ∙ r.0, s.1 ∙ r.1)

long-by : (t : Bool) (d : Held) (r : Record) (m : Memory) → (t ≡ true → d.used + length (encode r) ≤ length m.store) → SameLengths m (kept_by t d r m)
long-by true d r m f =
    let l = f refl in
    let a : length (take d.used m.store) ≡ d.used = length-take-le d.used m.store (omega arith) in
    let b = length-drop (d.used + length (encode r)) m.store in
    (simp length-append (omega arith), length-set m.table d.records d.used)
long-by false d r m f = (refl, refl)

module _ (byte : ℕ) (ports : List ℕ) (b : Board) (m : Memory) (h : sound b ≡ true) where
  abbrev room : Record → Bool
  room r = has_room b.engine.held (length (encode r)) (length m.store) (length m.table)

  -- whatever byte comes, the bytes of the part in use stay
  front-so : (s : Said) → b.engine.held.used ≤ length m.store → Change byte b m s → take b.engine.held.used s.memory.store ≡ take b.engine.held.used m.store
  unfolding store_of
  front-so s l (same p) = ap (λ (x : Memory). take b.engine.held.used x.store) p
  front-so s l (stored r o k q p) = ap (λ (x : Memory). take b.engine.held.used x.store) p ∙ front_by (room r) b.engine.held r m l

  pub store-front : RightMemory m → take b.engine.held.used (hearing byte ports b m).memory.store ≡ take b.engine.held.used m.store
  store-front e =
      let u = (facts b.engine (sound-engine b h)).used in
      front-so (hearing byte ports b m) (omega (arith, e.0)) (hearing-fair byte b m h ports).change

  -- and store and table keep their lengths
  long-so : (s : Said) → Change byte b m s → SameLengths m s.memory
  unfolding store_of
  long-so s (same p) = (ap (λ (x : Memory). length x.store) p, ap (λ (x : Memory). length x.table) p)
  long-so s (stored r o k q p) =
      let l = long-by (room r) b.engine.held r m (λ t. (room-so b.engine.held (length (encode r)) (length m.store) (length m.table) t).2) in
      (ap (λ (x : Memory). length x.store) p ∙ l.0, ap (λ (x : Memory). length x.table) p ∙ l.1)

  pub memory-lengths : SameLengths m (hearing byte ports b m).memory
  memory-lengths = long-so (hearing byte ports b m) (hearing-fair byte b m h ports).change

  -- so a call that was not refused for them leaves what is not
  pub memory-right : RightMemory m → RightMemory (hearing byte ports b m).memory
  memory-right r = same-right m (hearing byte ports b m).memory memory-lengths r

  -- the memory changes only at the carriage return of a line while storing that is answered 0, and then as the storing of a record does
  pub store-changes : Change byte b m (hearing byte ports b m)
  store-changes = (hearing-fair byte b m h ports).change

  -- a reply has at most 25 bytes
  pub reply-short : length (hearing byte ports b m).reply ≤ 25
  reply-short = (hearing-fair byte b m h ports).short

  -- with buffers of the right lengths a byte is not refused
  pub never-refused : (reply : List ℕ) → 32 ≤ length reply → RightMemory m → receiving byte ports b (lent reply m) ≡ answered (hearing byte ports b m) reply
  unfolding receiving
  never-refused reply l k = rw (le-ltb (length reply) 32 l, eq-eqb (length m.store) 16384 k.0, h, eq-eqb (length m.table) 1000 k.1)

-- whatever the call, refused or not: store and table keep their lengths
lengths-by : (t f u v : Bool) (m : Memory) (x y z w o : Outcome) → x.after.memory ≡ m → y.after.memory ≡ m → z.after.memory ≡ m → w.after.memory ≡ m
    → (u ≡ true → SameLengths m o.after.memory) → SameLengths m (pick t x (pick f y (pick (not u) z (pick v w o)))).after.memory
lengths-by true f u v m x y z w o a b c d e = rw a (refl, refl)
lengths-by false true u v m x y z w o a b c d e = rw b (refl, refl)
lengths-by false false false v m x y z w o a b c d e = rw c (refl, refl)
lengths-by false false true true m x y z w o a b c d e = rw d (refl, refl)
lengths-by false false true false m x y z w o a b c d e = e refl

pub received-lengths : (byte : ℕ) (ports reply : List ℕ) (b : Board) (m : Memory) → SameLengths m (receiving byte ports b (lent reply m)).after.memory
unfolding receiving
received-lengths byte ports reply b m =
    lengths-by (ltb (length reply) 32) (not (store_fits m)) (sound b) (not (table_fits m)) m _ _ _ _ _ refl refl refl refl (λ h. memory-lengths byte ports b m h)

clock-by : (s : Bool) (x y : Ticked) → x.refusal ≡ 0 → y.refusal ≡ 0 → (pick s x y).refusal ≡ 0
clock-by true x y p q = p
clock-by false x y p q = q

-- nor is a clock call
pub clock-never-refused : (b : Board) (m : Memory) → sound b ≡ true → RightMemory m → (clocking b m).refusal ≡ 0
unfolding clocking
clock-never-refused b m h k = rw (eq-eqb (length m.store) 16384 k.0, h, eq-eqb (length m.table) 1000 k.1) (clock-by b.standing _ _ refl refl)

-- ---- from a fresh board on, whatever a host sends, and however it alters the memory between two calls

pub data Reached : Board → Memory → Type 0 where
  begins : (m : Memory) → RightMemory m → Reached fresh m
  hears : {b : Board} {m : Memory} (byte : ℕ) (ports reply : List ℕ) → 32 ≤ length reply → Reached b m
      → Reached (receiving byte ports b (lent reply m)).result.board (receiving byte ports b (lent reply m)).after.memory
  ticks : {b : Board} {m : Memory} → Reached b m → Reached (clocking b m).board m
  alters : {b : Board} {m : Memory} (other : Memory) → RightMemory other → Reached b m → Reached b other

pub reached-sound : {b : Board} {m : Memory} → Reached b m → (sound b ≡ true) × RightMemory m
reached-sound (begins m l) = (fresh-sound, l)
reached-sound (hears {b} {m} byte ports reply l r) =
    let p = reached-sound r in
    let e = never-refused byte ports b m p.0 reply l p.1 in (
      ap (λ (o : Outcome). sound o.result.board) e ∙ hearing-sound byte ports b m p.0,
      same-right m (receiving byte ports b (lent reply m)).after.memory (received-lengths byte ports reply b m) p.1,
    )
reached-sound (ticks {b} {m} r) =
    let p = reached-sound r in
    (clocking-sound b m p.0, p.1)
reached-sound (alters other l r) = ((reached-sound r).0, l)

-- NO CALL IS EVER REFUSED
pub reached-not-refused : {b : Board} {m : Memory} (byte : ℕ) (ports reply : List ℕ) → 32 ≤ length reply → Reached b m
    → ((receiving byte ports b (lent reply m)).result.refusal ≡ 0) × ((clocking b m).refusal ≡ 0)
reached-not-refused {b} {m} byte ports reply l r =
    let p = reached-sound r in
    (ap (λ (o : Outcome). o.result.refusal) (never-refused byte ports b m p.0 reply l p.1), clock-never-refused b m p.0 p.1)
