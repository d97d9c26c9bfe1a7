-- The bytes of a line that are fed at once are portions of one byte each that write nothing, and what is still to be printed stays the
-- same. Assumes nothing.
use Prim.Native.Nat.{ℕ, ◌+◌, ◌≤◌}
use mathlib.Core.Path.{◌≡◌, refl, sym, ap, ◌∙◌}
use mathlib.Core.Bool.{Bool, true, false, not, ◌&&◌, ◌||◌}
use mathlib.Core.List.{List, [], ◌∷◌, ◌++◌}
use native.Mathlib.Numerals.{one-add}
use borrow.Author.Tests.{not-true}
use lib.Dec.{eqb}
use lib.ListN.{length, take, drop, take-append-drop}
use Rattle.count.specs.Pick.{pick}
use Rattle.count.proofs.laws.Truth.{never, and_left, and_right, and-false}
use Rattle.record.specs.Memory.{Memory, RightMemory}
use Rattle.engine.specs.Kinds.{Kind, kind, row_of}
use Rattle.engine.specs.Kinds.Kind.{Idle, Storing, Moving, Between, Pausing, Waiting}
use Rattle.engine.specs.Tick.{runs_of}
use Rattle.board.specs.declared.Board.{Board}
use Rattle.board.specs.declared.Line.{Line}
use Rattle.board.specs.declared.Taken.{Taken}
use Rattle.board.specs.State.{with_line, gathered}
use Rattle.board.specs.work.Take.{is_plain, plain_front, gathered_all, taken_of}
use Rattle.board.proofs.laws.Takes.{takes, taken-all, taken_none, resting, steady, plain-heard, plain-all}
use Rattle.course.specs.declared.Walk.{Walk}
use Rattle.course.specs.Run.{runs_now, allowed}
use Rattle.course.specs.Walk.{no_ports, most, walked_from, Done, done, done_of, walk, next_done, remaining}
use Rattle.course.specs.work.Feed.{fed_of}
use Rattle.course.proofs.laws.Portions.{course-off}
use Rattle.course.proofs.laws.Ends.{walked-cons, remaining-over, is-ready}

-- ---- whether bytes are fed

module _ (input : List ℕ) (w : Walk) where
  abbrev feeds : Bool
  feeds = w.over && not (eqb (taken_of input w.board).count 0)

  fed-none : feeds ≡ false → fed_of input w ≡ record { walk = w; count = 0 }
  unfolding fed_of
  fed-none h = rw h

  fed-some : feeds ≡ true → fed_of input w ≡ record { walk = walk (taken_of input w.board).board 0 true; count = (taken_of input w.board).count }
  unfolding fed_of
  fed-some h = rw h

  -- the code's test
  test-is : (o e : Bool) → o && not e ≡ not (not o || e)
  test-is true e = refl
  test-is false e = refl

  module _ {t : Taken} (e : t ≡ taken_of input w.board) where
    pub feed-stays : not w.over || eqb t.count 0 ≡ true → record { walk = w; count = 0 } ≡ fed_of input w
    feed-stays h = sym (fed-none (test-is w.over (eqb (taken_of input w.board).count 0) ∙ ap not (rw e at h)))

    pub feed-goes : not w.over || eqb t.count 0 ≡ false → record { walk = walk t.board 0 true; count = t.count } ≡ fed_of input w
    feed-goes h = rw e (sym (fed-some (test-is w.over (eqb (taken_of input w.board).count 0) ∙ ap not (rw e at h))))

-- ---- where they are, nothing runs

still-by : (s : Bool) (k : Kind) → s || (row_of k).is_resting ≡ true → (row_of k).runs && not s ≡ false
still-by true k h = and-false (row_of k).runs
still-by false Idle h = refl
still-by false Storing h = refl
still-by false Moving h = never h
still-by false Between h = never h
still-by false Pausing h = never h
still-by false Waiting h = refl

still : (b : Board) (l : Line) → takes b ≡ true → runs_now (with_line b l) ≡ false
unfolding runs_now runs_of
still b l h = still-by b.standing (kind b.engine.run.job) (resting b h)

-- ---- what is still to be printed

module _ (mem : Memory) where
  plain-walked : (byte : ℕ) (input : List ℕ) (b : Board) → takes b ≡ true → is_plain byte ≡ true
      → walked_from (byte ∷ input) b mem ≡ walked_from input (with_line b (gathered byte b.line)) mem
  plain-walked byte input b h p =
      let e = still b (gathered byte b.line) h in
      walked-cons byte input b mem ∙ rw (plain-heard b h byte p no_ports mem, course-off mem most (with_line b (gathered byte b.line)) e, e)

  all-walked : (input : List ℕ) (b : Board) → takes b ≡ true
      → walked_from input b mem ≡ walked_from (drop (plain_front input) input) (with_line b (gathered_all (take (plain_front input) input) b.line)) mem
  unfolding gathered_all
  all-walked input b h =
      ap (λ (l : List ℕ). walked_from l b mem) (sym (take-append-drop (plain_front input) input))
      ∙ plain-all (λ (l : List ℕ) (c : Board). (rest : List ℕ) → walked_from (l ++ rest) c mem ≡ walked_from rest (with_line c (gathered_all l c.line)) mem)
      (λ c rest. refl) (λ byte l c k p q rest. plain-walked byte (l ++ rest) c k p ∙ q rest) input b h (drop (plain_front input) input)

-- ---- the portions one by one

-- each byte's portion in turn, what is lent handed on; the lengths of what they wrote are added up
unfoldable pub next_all : List ℕ → Walk → Memory → List ℕ → Done
next_all [] w mem out = done w [] mem out
next_all (byte ∷ input) w mem out =
    let d = next_done byte w mem out in
    let a = next_all input d.portion.walk d.memory d.out in
    done_of (record { walk = a.portion.walk; len = d.portion.len + a.portion.len }) a.memory a.out

-- the calls of the run before, which the first byte lets go
abbrev calls_after : List ℕ → ℕ → ℕ
calls_after [] calls = calls
calls_after (byte ∷ input) calls = 0

none_after : (input : List ℕ) → calls_after input 0 ≡ 0
none_after [] = refl
none_after (byte ∷ input) = refl

some_after : (input : List ℕ) (calls : ℕ) → eqb (plain_front input) 0 ≡ false → calls_after (take (plain_front input) input) calls ≡ 0
unfolding plain_front
some_after [] calls h = never (sym h)
some_after (byte ∷ input) calls h = by (is_plain byte) h
  where
    by : (t : Bool) → eqb (pick t (1 + plain_front input) 0) 0 ≡ false → calls_after (take (pick t (1 + plain_front input) 0) (byte ∷ input)) calls ≡ 0
    by true h = rw one-add
    by false h = never (sym h)

module _ (mem : Memory) (out : List ℕ) (l : RightMemory mem) (m : 64 ≤ length out) where
  plain-next : (byte : ℕ) (b : Board) (calls : ℕ) → takes b ≡ true → is_plain byte ≡ true
      → next_done byte (walk b calls true) mem out ≡ done (walk (with_line b (gathered byte b.line)) 0 true) [] mem out
  unfolding next_done
  plain-next byte b calls h p =
      let e = still b (gathered byte b.line) h in
      rw (is-ready (walk b calls true) mem out m l (steady b h), plain-heard b h byte p no_ports mem, course-off mem (allowed most out) (with_line b (gathered byte b.line)) e, e)

  all-next : (input : List ℕ) (b : Board) → takes b ≡ true → (calls : ℕ)
      → next_all (take (plain_front input) input) (walk b calls true) mem out
      ≡ done (walk (with_line b (gathered_all (take (plain_front input) input) b.line)) (calls_after (take (plain_front input) input) calls) true) [] mem out
  unfolding gathered_all next_all
  all-next input b h =
      plain-all (λ (s : List ℕ) (c : Board). (calls : ℕ) → next_all s (walk c calls true) mem out ≡ done (walk (with_line c (gathered_all s c.line)) (calls_after s calls) true) [] mem out)
      (λ c calls. refl) (λ byte s c k p q calls. rw (plain-next byte c calls k p, q 0, none_after s)) input b h

-- ---- where bytes are fed, they are those at the front

module _ (input : List ℕ) (w : Walk) (h : feeds input w ≡ true) where
  any-taken : eqb (taken_of input w.board).count 0 ≡ false
  any-taken = not-true _ (and_right w.over (not (eqb (taken_of input w.board).count 0)) h)

  fed-takes : takes w.board ≡ true
  fed-takes = by (takes w.board) refl
    where
      by : (t : Bool) → takes w.board ≡ t → t ≡ true
      by true e = refl
      by false e = sym any-taken ∙ ap (λ (t : Taken). eqb t.count 0) (taken_none input w.board e)

  fed-all : fed_of input w
      ≡ record { walk = walk (with_line w.board (gathered_all (take (plain_front input) input) w.board.line)) 0 true; count = plain_front input }
  fed-all = fed-some input w h ∙ rw (taken-all input w.board fed-takes)

  any-plain : eqb (plain_front input) 0 ≡ false
  any-plain = ap (λ (t : Taken). eqb t.count 0) (sym (taken-all input w.board fed-takes)) ∙ any-taken

  -- the walk before them
  was-over : walk w.board w.calls true ≡ w
  was-over = ap (λ (o : Bool). walk w.board w.calls o) (sym (and_left w.over (not (eqb (taken_of input w.board).count 0)) h))

module _ (input : List ℕ) (w : Walk) (mem : Memory) where
  -- WHAT IS FED CHANGES NOTHING IN WHAT IS STILL TO BE PRINTED
  pub feed-remaining : remaining (fed_of input w).walk (drop (fed_of input w).count input) mem ≡ remaining w input mem
  feed-remaining = by (feeds input w) refl
    where
      by : (t : Bool) → feeds input w ≡ t → remaining (fed_of input w).walk (drop (fed_of input w).count input) mem ≡ remaining w input mem
      by true h =
          rw (fed-all input w h)
          (remaining-over _ 0 (drop (plain_front input) input) mem
          ∙ sym (all-walked mem input w.board (fed-takes input w h))
          ∙ sym (remaining-over w.board w.calls input mem)
          ∙ ap (λ (x : Walk). remaining x input mem) (was-over input w h))
      by false h = rw (fed-none input w h)

  -- AND IT IS PORTIONS OF ONE BYTE EACH, WHICH WRITE NOTHING
  pub feed-is-next : (out : List ℕ) → RightMemory mem → 64 ≤ length out
      → next_all (take (fed_of input w).count input) w mem out ≡ done (fed_of input w).walk [] mem out
  unfolding next_all
  feed-is-next out l m = by (feeds input w) refl
    where
      by : (t : Bool) → feeds input w ≡ t → next_all (take (fed_of input w).count input) w mem out ≡ done (fed_of input w).walk [] mem out
      by true h =
          rw (fed-all input w h)
          (ap (λ (x : Walk). next_all (take (plain_front input) input) x mem out) (sym (was-over input w h))
          ∙ all-next mem out l m input w.board (fed-takes input w h) w.calls
          ∙ ap (λ (c : ℕ). done (walk (with_line w.board (gathered_all (take (plain_front input) input) w.board.line)) c true) [] mem out) (some_after input w.calls (any-plain input w h)))
      by false h = rw (fed-none input w h)
