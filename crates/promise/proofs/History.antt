-- Demand 1 over any sequence of calls: a history is a list of results each of which the function's own contract allows, as the check reads
-- it, and there is exactly one.
use Prim.Native.Nat.{ℕ}
use mathlib.Core.List.{List, [], ◌∷◌}
use mathlib.Core.Path.{◌≡◌, refl, sym, ap, ◌∙◌}
use contract.Lifetimes.{Lfts}
use borrow.Fn.World.{ArgsD}
use borrow.Fn.Kinds.{ended_of}
use denote.Triple.Clauses.{AtExit}
use Rattle.board.specs.contracts.Board.receive as receive_contract
use Rattle.board.proofs.Board.receive.Kinds as receive_kinds
use Rattle.board.proofs.Board.receive.Reads as receive
use Rattle.board.specs.contracts.Board.clock as clock_contract
use Rattle.board.proofs.Board.clock.Kinds as clock_kinds
use Rattle.board.proofs.Board.clock.Reads as clock
use Rattle.record.specs.Memory.{Memory}
use Rattle.board.specs.declared.Board.{Board}
use Rattle.board.specs.Calls.{Ticked}
use Rattle.board.specs.declared.Received.{Received as HeardBy}
use Rattle.board.specs.declared.Ticked.{Ticked as TickedBy}
use Rattle.board.specs.Calls.{Lent, Outcome, Received, did, received, receiving, clocked_by, clocking}
use Rattle.board.proofs.Told.{heard_told, heard-any, clock_told, clock-any}
use Rattle.promise.specs.Machine.{Event, byte as heard, clock as timed}

-- ---- what a contract allows of one call

-- a result of `receive`, and what was lent afterwards
pub record Hears (v : ℕ) (ports : List ℕ) (l : Lent) (b : Board) (o : Outcome) : Type 1 where
  pub κs : Lfts 3
  pub args : ArgsD receive_contract.signature κs
  pub last : AtExit (ended_of 3 receive_kinds.ps receive_kinds.r) κs
  pub self : args.0 ≡ b
  pub given : args.1.0 ≡ v
  pub inputs : args.1.1.0 ≡ ports
  pub reply : args.1.1.1.0.now ≡ l.reply
  pub store : args.1.1.1.1.0.now ≡ l.memory.store
  pub table : args.1.1.1.1.1.0.now ≡ l.memory.table
  pub replied : last.1.1.1.0.now ≡ o.after.reply
  pub stored : last.1.1.1.1.0.now ≡ o.after.memory.store
  pub entered : last.1.1.1.1.1.0.now ≡ o.after.memory.table
  pub told : HeardBy
  pub tells : o.result ≡ received told
  pub post : receive.Post κs args told last

-- a result of `clock`
pub record Ticks (mem : Memory) (b : Board) (t : Ticked) : Type 1 where
  pub κs : Lfts 2
  pub args : ArgsD clock_contract.signature κs
  pub last : AtExit (ended_of 2 clock_kinds.ps clock_kinds.r) κs
  pub self : args.0 ≡ b
  pub store : args.1.0.now ≡ mem.store
  pub table : args.1.1.0.now ≡ mem.table
  pub told : TickedBy
  pub tells : t ≡ clocked_by told
  pub post : clock.Post κs args told last

pub hears-is : (v : ℕ) (ports : List ℕ) (l : Lent) (b : Board) (o : Outcome) → Hears v ports l b o → o ≡ receiving v ports b l
hears-is v ports l b o h = rw (h.tells, ← h.self, ← h.given, ← h.inputs, ← h.reply, ← h.store, ← h.table, ← h.replied, ← h.stored, ← h.entered) h.post

pub ticks-is : (mem : Memory) (b : Board) (t : Ticked) → Ticks mem b t → t ≡ clocking b mem
ticks-is mem b t h = h.tells ∙ rw (← h.self, ← h.store, ← h.table) h.post

pub clock-allowed : (mem : Memory) (b : Board) → Ticks mem b (clocking b mem)
clock-allowed mem b = record {
  κs = ([], ([], tt));
  args = (b, (record { ref_ptr = (0, 0); now = mem.store }, (record { ref_ptr = (0, 0); now = mem.table }, tt)));
  last = (b, (record { ref_ptr = (0, 0); now = mem.store }, (record { ref_ptr = (0, 0); now = mem.table }, tt)));
  self = refl;
  store = refl;
  table = refl;
  told = clock_told (clocking b mem);
  tells = clock-any b mem;
  post = sym (clock-any b mem);
}

pub byte-allowed : (v : ℕ) (ports : List ℕ) (l : Lent) (b : Board) → Hears v ports l b (receiving v ports b l)
byte-allowed v ports l b = record {
  κs = ([], ([], ([], tt)));
  args = (b, (v, (ports, (record { ref_ptr = (0, 0); ghost_name = 0; now = l.reply }, (record { ref_ptr = (0, 0); ghost_name = 0; now = l.memory.store }, (record { ref_ptr = (0, 0); ghost_name = 0; now = l.memory.table }, tt))))));
  last = (b, (v, (ports, (record { ref_ptr = (0, 0); ghost_name = 0; now = (receiving v ports b l).after.reply }, (record { ref_ptr = (0, 0); ghost_name = 0; now = (receiving v ports b l).after.memory.store }, (record { ref_ptr = (0, 0); ghost_name = 0; now = (receiving v ports b l).after.memory.table }, tt))))));
  self = refl;
  given = refl;
  inputs = refl;
  reply = refl;
  store = refl;
  table = refl;
  replied = refl;
  stored = refl;
  entered = refl;
  told = heard_told (receiving v ports b l).result;
  tells = heard-any v ports b l;
  post = ap (λ (r : Received). did r (receiving v ports b l).after) (sym (heard-any v ports b l));
}

-- ---- any sequence of calls

-- what came of a call
pub data Came : Type 0 where
  outcome : Outcome → Came
  tick : Ticked → Came

-- the board after it, which the next call is made on
abbrev pub after : Came → Board
after (outcome o) = o.result.board
after (tick t) = t.board

-- a history of such calls on a board
pub data History : Board → List Event → List Came → Type 1 where
  ends : {b : Board} → History b [] []
  hears : {b : Board} {es : List Event} {cs : List Came} (v : ℕ) (ports : List ℕ) (l : Lent) (o : Outcome)
      → Hears v ports l b o → History o.result.board es cs → History b (heard v ports l ∷ es) (outcome o ∷ cs)
  ticks : {b : Board} {es : List Event} {cs : List Came} (mem : Memory) (t : Ticked)
      → Ticks mem b t → History t.board es cs → History b (timed mem ∷ es) (tick t ∷ cs)

-- what the definitions say came of them
abbrev pub comes : Event → Board → Came
comes (heard v ports l) b = outcome (receiving v ports b l)
comes (timed mem) b = tick (clocking b mem)

pub all_come : List Event → Board → List Came
all_come [] b = []
all_come (e ∷ es) b = comes e b ∷ all_come es (after (comes e b))

-- a history is what the definitions say
pub history-is : {b : Board} {es : List Event} {cs : List Came} → History b es cs → cs ≡ all_come es b
unfolding all_come
history-is ends = refl
history-is (hears {b} {es} {cs} v ports l o h rest) =
    let e = hears-is v ports l b o h in
    ap (λ (c : List Came). outcome o ∷ c) (history-is rest) ∙ ap (λ (p : Outcome). outcome p ∷ all_come es p.result.board) e
history-is (ticks {b} {es} {cs} mem t h rest) =
    let e = ticks-is mem b t h in
    ap (λ (c : List Came). tick t ∷ c) (history-is rest) ∙ ap (λ (p : Ticked). tick p ∷ all_come es p.board) e

-- ONE HISTORY: no second list of results is allowed
pub one-history : {b : Board} {es : List Event} {cs ds : List Came} → History b es cs → History b es ds → cs ≡ ds
one-history h k = history-is h ∙ sym (history-is k)

-- and there is one
pub history-exists : (es : List Event) (b : Board) → History b es (all_come es b)
unfolding all_come
history-exists [] b = ends
history-exists (heard v ports l ∷ es) b =
    hears v ports l (receiving v ports b l) (byte-allowed v ports l b) (history-exists es (receiving v ports b l).result.board)
history-exists (timed mem ∷ es) b = ticks mem (clocking b mem) (clock-allowed mem b) (history-exists es (clocking b mem).board)
