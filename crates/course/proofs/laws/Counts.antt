-- The clock calls of a byte's run in portions: once the run is over or its 100,000 calls are made, the walk counts the calls of the whole
-- run and has its board, however many portions there were and whatever the buffers' lengths. Assumes nothing.
use Prim.Native.Nat.{ℕ, ◌+◌, ◌-◌, ◌*◌, ◌/◌, ◌%◌, ◌≤◌, ◌<◌, min}
use mathlib.Core.Path.{◌≡◌, refl, sym, ap, ◌∙◌}
use mathlib.Core.Bool.{Bool, true, false, not, ◌&&◌, ◌||◌}
use mathlib.Core.List.{List, [], ◌∷◌}
use native.Mathlib.Omega.{arith}
use native.Mathlib.Nat.{div-add-mod', mod-lt}
use lib.Dec.{eqb}
use lib.ListN.{length, drop}
use borrow.Author.Tests.{eqb-true}
use Rattle.count.specs.Pick.{pick}
use Rattle.count.proofs.laws.Truth.{never, and_left}
use Rattle.record.specs.Memory.{Memory}
use Rattle.board.specs.declared.Board.{Board}
use Rattle.board.specs.State.{Said}
use Rattle.board.specs.Receive.{hearing}
use Rattle.course.specs.declared.Walk.{Walk}
use Rattle.course.specs.Text.{reply_text}
use Rattle.course.specs.Run.{runs_now, Course, course, allowed}
use Rattle.course.specs.Walk.{no_ports, most, Done, done, walk, further, ready, next_done, on_done}
use Rattle.course.proofs.Portions.{ready-parts, went_on}
use Rattle.course.proofs.Bytes.{went-next}
use Rattle.course.proofs.laws.Portions.{joins, course-off, course-plus, course-few, course-full}
use Rattle.course.proofs.laws.Ends.{allowed-few}

-- the walk after further portions, each with a buffer of its own
unfoldable pub portions : Walk → Memory → List (List ℕ) → Walk
portions w m [] = w
portions w m (out ∷ outs) = portions (on_done w m out).portion.walk m outs

-- the run is over, or it has made its 100,000 calls
abbrev pub ended : Walk → Bool
ended w = w.over || eqb w.calls most

-- ---- sums of calls

none_before : (n : ℕ) → 0 + n ≡ n
none_before n = omega arith

none_after : (n : ℕ) → n + 0 ≡ n
none_after n = omega arith

regroup : (m n : ℕ) → 0 + m + n ≡ 0 + (m + n)
regroup m n = omega arith

split : (k : ℕ) → k ≤ most → most ≡ k + (most - k)
split k h = omega arith

room : (k j c : ℕ) → k ≤ most → c ≡ k → j ≤ most - c → k + j ≤ most
room k j c p q r = omega arith

reach : (k c n : ℕ) → k ≤ most → c ≤ k → n ≡ 0 + c → n ≡ most → k ≡ most
reach k c n p q r s = omega arith

not-not : (x : Bool) → not x ≡ false → x ≡ true
not-not true e = refl
not-not false e = never (sym e)

not-false : (x : Bool) → not x ≡ true → x ≡ false
not-false true e = never e
not-false false e = refl

-- ---- the run of a byte

module _ (m : Memory) (b : Board) where
  -- the walk stands where some of the 100,000 calls after the byte lead
  record Along (w : Walk) : Type 0 where
    made : ℕ
    few : made ≤ most
    there : w ≡ further (course made m b) 0

  -- two parts of a run in a row are one
  joined : (k j : ℕ) (w : Walk) → w ≡ further (course k m b) 0 → further (course j m w.board) w.calls ≡ further (course (k + j) m b) 0
  joined k j w p =
      let c : Course = course k m b in
      let d : Course = course j m c.board in
      let n = regroup c.calls d.calls in
      (λ i. further (course j m (p i).board) (p i).calls)
      ∙ (λ i. walk d.board (n i) (not (runs_now d.board)))
      ∙ sym (ap (λ (x : Course). further x 0) (course-plus m k j b))

  -- a run that is not over has made all the calls it was allowed
  calls-full : (w : Walk) (a : Along w) → w.over ≡ false → w.calls ≡ a.made
  calls-full w a o =
      let c : Course = course a.made m b in
      let r : runs_now c.board ≡ true = not-not (runs_now c.board) (sym (ap (λ (x : Walk). x.over) a.there) ∙ o) in
      ap (λ (x : Walk). x.calls) a.there ∙ none_before c.calls ∙ course-full m a.made b r

  step_by : (w : Walk) (out : List ℕ) (t : Bool) → not w.over && ready w m out ≡ t → Along w
      → Along (pick t (done (further (course (allowed (most - w.calls) out) m w.board) w.calls) (course (allowed (most - w.calls) out) m w.board).text m out) (done w [] m out)).portion.walk
  step_by w out false e a = a
  step_by w out true e a =
      let j : ℕ = allowed (most - w.calls) out in
      let o : w.over ≡ false = not-false w.over (and_left (not w.over) (ready w m out) e) in
      record { made = a.made + j; few = room a.made j w.calls a.few (calls-full w a o) (allowed-few (most - w.calls) out); there = joined a.made j w a.there }

  step : (w : Walk) (out : List ℕ) → Along w → Along (on_done w m out).portion.walk
  unfolding on_done
  step w out a = step_by w out (not w.over && ready w m out) refl a

  along : (outs : List (List ℕ)) (w : Walk) → Along w → Along (portions w m outs)
  unfolding portions
  along [] w a = a
  along (out ∷ outs) w a = along outs (on_done w m out).portion.walk (step w out a)

  -- a run that is over stays so: all its calls are made
  over-whole : (w : Walk) (a : Along w) → w.over ≡ true → w ≡ further (course most m b) 0
  over-whole w a o =
      let k : ℕ = a.made in
      let c : Course = course k m b in
      let p = split k a.few in
      let r : runs_now c.board ≡ false = not-false (runs_now c.board) (sym (ap (λ (x : Walk). x.over) a.there) ∙ o) in
      let z = none_after c.calls in
      a.there
      ∙ (λ i. walk c.board (0 + sym z i) (not (runs_now c.board)))
      ∙ sym (ap (λ (x : Course). further (joins c x) 0) (course-off m (most - k) c.board r))
      ∙ sym (ap (λ (x : Course). further x 0) (course-plus m k (most - k) b))
      ∙ sym (ap (λ (j : ℕ). further (course j m b) 0) p)

  full-whole : (w : Walk) (a : Along w) → w.calls ≡ most → w ≡ further (course most m b) 0
  full-whole w a n =
      let c : Course = course a.made m b in
      let k = reach a.made c.calls w.calls a.few (course-few m a.made b) (ap (λ (x : Walk). x.calls) a.there) n in
      a.there ∙ ap (λ (j : ℕ). further (course j m b) 0) k

  whole_by : (w : Walk) (a : Along w) (x : Bool) → w.over ≡ x → (x || eqb w.calls most) ≡ true → w ≡ further (course most m b) 0
  whole_by w a true o e = over-whole w a o
  whole_by w a false o e = full-whole w a (eqb-true w.calls most e)

-- what a walk counts and where it stands is the whole run's: at most 100,000 calls on the board after the byte
pub record Counted (c : Course) (w : Walk) : Type 0 where
  pub calls : w.calls ≡ c.calls
  pub board : w.board ≡ c.board
  pub over : w.over ≡ not (runs_now c.board)

counted : (c : Course) (w : Walk) → w ≡ further c 0 → Counted c w
counted c w p = record {
  calls = ap (λ (x : Walk). x.calls) p ∙ none_before c.calls;
  board = ap (λ (x : Walk). x.board) p;
  over = ap (λ (x : Walk). x.over) p;
}

-- the board and the memory after a byte
abbrev pub heard_of : ℕ → Walk → Memory → Said
heard_of byte w m = hearing byte no_ports w.board m

-- the walk after a byte's portions: the first with one buffer, the others with others
abbrev pub after_byte : ℕ → Walk → Memory → List ℕ → List (List ℕ) → Walk
after_byte byte w m out outs = let d = next_done byte w m out in portions d.portion.walk d.memory outs

module _ (byte : ℕ) (w : Walk) (m : Memory) (out : List ℕ) (outs : List (List ℕ)) where
  -- A BYTE AND ITS RUN IN PORTIONS, until the run is over or its calls are made
  pub byte-counts : w.over ≡ true → ready w m out ≡ true → ended (after_byte byte w m out outs) ≡ true
      → Counted (course most (heard_of byte w m).memory (heard_of byte w m).board) (after_byte byte w m out outs)
  byte-counts o h e =
      let s : Said = heard_of byte w m in
      let k : ℕ = allowed most (drop (length (reply_text s.reply)) out) in
      let u : Walk = further (course k s.memory s.board) 0 in
      let v : Walk = portions u s.memory outs in
      let a : Along s.memory s.board u = record { made = k; few = allowed-few most (drop (length (reply_text s.reply)) out); there = refl } in
      let q : after_byte byte w m out outs ≡ v = ap (λ (d : Done). portions d.portion.walk d.memory outs) (went-next byte w m out o h) in
      let f : ended v ≡ true = sym (ap ended q) ∙ e in
      counted (course most s.memory s.board) (after_byte byte w m out outs)
      (q ∙ whole_by s.memory s.board v (along s.memory s.board outs u a) v.over refl f)

-- ---- and the portions come to an end: four lines fit into 64 bytes

fourth : (n q r : ℕ) → q * 13 + r ≡ n → r < 13 → 64 ≤ n → 4 ≤ q
fourth n q r p l h = omega arith

least : (limit room : ℕ) → 4 ≤ room → min 4 limit ≤ min limit room
least limit room h = omega arith

enough : (limit : ℕ) (out : List ℕ) → 64 ≤ length out → min 4 limit ≤ allowed limit out
unfolding allowed
enough limit out h =
    let l : 0 < 13 = omega arith in
    let n : ℕ = length out in
    least limit (n / 13) (fourth n (n / 13) (n % 13) (div-add-mod' n 13) (mod-lt n l) h)

grown : (a c j m n : ℕ) → n ≡ a + c → c ≡ j → m ≤ j → a + m ≤ n
grown a c j m n p q r = omega arith

-- A PORTION of a run that is not over, with a buffer of 64 bytes or more, makes four calls or as many as are left, if it does not end the run
pub on-grows : (w : Walk) (m : Memory) (out : List ℕ) → ready w m out ≡ true → w.over ≡ false → (on_done w m out).portion.walk.over ≡ false
    → w.calls + min 4 (most - w.calls) ≤ (on_done w m out).portion.walk.calls
on-grows w m out h o v =
    let j : ℕ = allowed (most - w.calls) out in
    let c : Course = course j m w.board in
    let p = went_on w m out o h in
    let r : runs_now c.board ≡ true = not-not (runs_now c.board) (sym (ap (λ (d : Done). d.portion.walk.over) p) ∙ v) in
    grown w.calls c.calls j (min 4 (most - w.calls)) (on_done w m out).portion.walk.calls
    (ap (λ (d : Done). d.portion.walk.calls) p) (course-full m j w.board r) (enough (most - w.calls) out (ready-parts w m out h).0)
