-- Where the record at a place leads a run, by what it is: a jump to own place plus offset, a wait there or on, every other record but a
-- loop on. So a path from place 0 is a route. Assumes nothing.
use Prim.Native.Nat.{ℕ, suc, ◌-◌, ◌<◌}
use mathlib.Core.Bool.{Bool, true, false}
use mathlib.Core.List.{List, [], ◌∷◌}
use mathlib.Core.Path.{◌≡◌, refl, sym, ◌∙◌, ap, subst}
use native.Mathlib.Omega.{arith}
use native.Mathlib.Numerals.{add-one}
use borrow.Author.Tests.{lt-ltb, eq-eqb, ne_eqb}
use lib.IntN.{ℤ, pos, negsuc, nat_abs, ◌+ℤ◌}
use lib.ListN.{length}
use Rattle.count.specs.Pick.{pick}
use Rattle.count.specs.Numbers.{within}
use Rattle.count.specs.Ranges.{nth}
use Rattle.count.proofs.laws.Truth.{never}
use Rattle.record.specs.declared.Record.{Record}
use Rattle.program.specs.declared.Loops.{Loops}
use Rattle.program.specs.Going.{Way, Waits}
use Rattle.program.specs.Onward.{no_loops, inside, target_of, aimed, onward_of, went, to, wrong}
use Rattle.program.specs.Rounds.{Rounds}
use Rattle.program.proofs.laws.Sends.{on-other, on-three, on-two}
use Rattle.program.proofs.laws.Run.{record_in, Accepted, Stands, taken, step_of}
use Rattle.program.proofs.laws.Discipline.{begins}
use Rattle.program.proofs.laws.Exact.{exactly}
use Rattle.promise.specs.Route.{Either, this, that, code_at, number_at, offset_at, BeginsAt0, Route}
use Rattle.promise.proofs.laws.RoutePath.{Path, path-head, choices, after-turns, each_after, none_after, all-within}

-- ---- own place plus offset

whole_by : (z : ℤ) (n : ℕ) → within (pos 0) (pos n) z ≡ true → pos (nat_abs z) ≡ z
unfolding within
whole_by (pos k) n e = refl
whole_by (negsuc k) n e = never e

whole : (p : ℕ) (z : ℤ) (n : ℕ) → inside p z n ≡ true → pos (target_of p z) ≡ pos p +ℤ z
unfolding inside
whole p z n e = whole_by (pos p +ℤ z) n e

-- a target inside, or the run is lost
sent : (t : Bool) (b : Bool) (w : Way) (o : Loops) (q : ℕ) (n : Loops) → taken b (pick t w (wrong o)) ≡ Stands q n → (t ≡ true) × (taken b w ≡ Stands q n)
sent true b w o q n e = (refl, e)
sent false b w o q n e = let z : ◌≡◌ {A = ℕ} 0 1 = cc in absurd (omega arith)

waited : (b : Bool) (t p q : ℕ) (z : ℤ) (o n : Loops) → pos t ≡ z → taken b (went Waits (suc p) t o) ≡ Stands q n → Either z (pos (suc p)) q
waited true t p q z o n h e = let g : t ≡ q = cc in this (ap pos (sym g) ∙ h)
waited false t p q z o n h e = let g : suc p ≡ q = cc in that (ap pos (sym g))

module _ (l : List Record) (i : ℕ) (b : Bool) (o : Loops) (q : ℕ) (n : Loops) (g : i < length l) (e : step_of l b i o ≡ Stands q n) where
  abbrev r : Record
  r = record_in l i

  -- the record is run
  run : taken b (onward_of r i (length l) o) ≡ Stands q n
  run = rw (lt-ltb i (length l) g) at e

  pub led-jump : code_at l i ≡ 51 → number_at l i ≡ 0 → pos q ≡ pos i +ℤ offset_at l i
  unfolding aimed
  led-jump c z =
      let d = ap (taken b) (sym (on-three r i (length l) o g (eq-eqb _ _ c))) ∙ run in
      let f = sent (inside i (nth r.words 1) (length l)) b (to (target_of i (nth r.words 1)) o) o q n (rw (c, z) at d) in
      let j : target_of i (nth r.words 1) ≡ q = cc in
      ap pos (sym j) ∙ whole i (nth r.words 1) (length l) f.0

  pub led-wait : code_at l i ≡ 50 → Either (pos i +ℤ offset_at l i) (pos (suc i)) q
  unfolding aimed
  led-wait c =
      let d = ap (taken b) (sym (on-two r i (length l) o g (rw c) (eq-eqb _ _ c))) ∙ run in
      let f = sent (inside i (nth r.words 1) (length l)) b (went Waits (suc i) (target_of i (nth r.words 1)) o) o q n (rw (c, add-one) at d) in
      waited b (target_of i (nth r.words 1)) i q (pos i +ℤ nth r.words 1) o n (whole i (nth r.words 1) (length l) f.0) f.1

  pub led_on : (code_at l i ≡ 51 → ⊥) → (code_at l i ≡ 50 → ⊥) → q ≡ suc i
  led_on x y =
      let d : Stands (suc i) o ≡ Stands q n = ap (taken b) (sym (on-other r i (length l) o g (ne_eqb _ _ x) (ne_eqb _ _ y))) ∙ run in
      cc

-- ---- a path from place 0 is a route

begins-at : (l : List Record) (v : List ℕ) → Path l 0 no_loops v → BeginsAt0 v
begins-at l [] h = tt
begins-at l (p ∷ v) h = path-head l 0 no_loops p v h

-- AN ACCEPTED LIST OF RECORDS: a path from a start is a route
pub path-route : (axes : ℕ) (l : List Record) → Accepted axes l → (v : List ℕ) → Path l 0 no_loops v → Route l v
path-route axes l a v h = record {
  begins = begins-at l v h;
  within = all-within l axes a 0 no_loops (begins axes l a) v h;
  ends = none_after l 0 no_loops v h;
  loops = λ i c k g e f p z.
      subst (Rounds (i - suc k) (suc i) c c) (sym (after-turns l i 0 no_loops v h))
      (exactly axes l a i c k g e f p z (choices l 0 no_loops v h));
  jumps = λ i g c z. each_after l i (λ q. pos q ≡ pos i +ℤ offset_at l i) (λ b o q n j e. led-jump l i b o q n j e c z) 0 no_loops v h;
  waits = λ i g c. each_after l i (Either (pos i +ℤ offset_at l i) (pos (suc i))) (λ b o q n j e. led-wait l i b o q n j e c) 0 no_loops v h;
  others = λ i g x y. each_after l i (λ q. q ≡ suc i) (λ b o q n j e. led_on l i b o q n j e x y) 0 no_loops v h;
}
