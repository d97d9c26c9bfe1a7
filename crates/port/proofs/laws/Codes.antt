-- A code is read as what it stands for, and that is written as the same code. Assumes nothing.
use Prim.Native.Nat.{ℕ, zero, suc}
use mathlib.Core.Path.{◌≡◌, refl, subst}
use mathlib.Core.Bool.{Bool, true, false}
use native.Mathlib.Omega.{arith}
use borrow.Author.Tests.{leb-true, leb-false}
use lib.Dec.{leb, eqb}
use mir.Syntax.{w8}
use mir.Val.{to_z, of_z}
use Rattle.motion.specs.declared.Move.{Move}
use Rattle.motion.specs.declared.Sign.{Sign}
use Rattle.motion.specs.declared.Sign.TheVariants.{Minus, Rest, Plus}
use Rattle.motion.specs.Phase.{sign_value}
use Rattle.circle.specs.declared.Arc.{Arc}
use Rattle.circle.specs.declared.Circling.{Circling}
use Rattle.circle.specs.declared.Direction.{Direction}
use Rattle.circle.specs.declared.Direction.TheVariants.{Clockwise, Counter}
use Rattle.circle.specs.declared.Plane.{Plane}
use Rattle.circle.specs.declared.Plane.TheVariants.{XY, XZ, YZ}
use Rattle.circle.specs.Plan.{plane_of, direction_of}
use Rattle.circle.specs.Rule.{plane_number}
use Rattle.travel.specs.declared.Travel.{Travel}
use Rattle.engine.specs.declared.Job.{Job}
use Rattle.engine.specs.declared.Job.TheVariants as job
use Rattle.engine.specs.work.Acts.{under_of}
use Rattle.port.specs.declared.Round.{Round}
use Rattle.port.specs.Code.{flag, direction_code, circling_of, arc_of, round_of, straight_in, round_in, kind_in, moved_by, straight_over, round_over, kind_over}
use Rattle.port.specs.work.Work.{of_under, straight_under, round_under, kind_under}

-- ---- what holds of each code up to the last holds of all of them

abbrev pub Each : ℕ → (ℕ → Type 0) → Type 0
Each zero P = P 0
Each (suc k) P = Each k P × P (suc k)

module _ (P : ℕ → Type 0) where
  last_or : (k n : ℕ) (t : Bool) → leb n k ≡ t → leb n (suc k) ≡ true → (leb n k ≡ true → P n) → P (suc k) → P n
  last_or k n true p h f e = f p
  last_or k n false p h f e =
      let l = leb-true n (suc k) h in
      let g = leb-false n k p in
      let q : suc k ≡ n = omega arith in
      subst P q e

  pub up_to : (k : ℕ) → Each k P → (n : ℕ) → leb n k ≡ true → P n
  up_to zero e n h =
      let l = leb-true n 0 h in
      let q : 0 ≡ n = omega arith in
      subst P q e
  up_to (suc k) e n h = last_or k n (leb n k) refl h (up_to k e.0 n) e.1

-- ---- flags

pub flag-read : (b : Bool) → eqb (flag b) 1 ≡ b
flag-read true = refl
flag-read false = refl

pub flag-written : (n : ℕ) → leb n 1 ≡ true → flag (eqb n 1) ≡ n
flag-written = up_to (λ n. flag (eqb n 1) ≡ n) 1 (refl, refl)

pub flag-known : (b : Bool) → leb (flag b) 1 ≡ true
flag-known true = refl
flag-known false = refl

-- ---- planes and directions

pub plane-read : (p : Plane) → plane_of (plane_number p) ≡ p
unfolding plane_of
plane-read XY = refl
plane-read XZ = refl
plane-read YZ = refl

pub plane-written : (n : ℕ) → leb n 2 ≡ true → plane_number (plane_of n) ≡ n
unfolding plane_of
plane-written = up_to (λ n. plane_number (plane_of n) ≡ n) 2 ((refl, refl), refl)

pub plane-known : (p : Plane) → leb (plane_number p) 2 ≡ true
plane-known XY = refl
plane-known XZ = refl
plane-known YZ = refl

pub direction-read : (d : Direction) → direction_of (direction_code d) ≡ d
unfolding direction_of
direction-read Clockwise = refl
direction-read Counter = refl

pub direction-written : (n : ℕ) → leb n 1 ≡ true → direction_code (direction_of n) ≡ n
unfolding direction_of
direction-written = up_to (λ n. direction_code (direction_of n) ≡ n) 1 (refl, refl)

pub direction-known : (d : Direction) → leb (direction_code d) 1 ≡ true
direction-known Clockwise = refl
direction-known Counter = refl

pub circling-read : (c : Circling) → circling_of (plane_number c.plane) (direction_code c.direction) ≡ c
circling-read c = rw (plane-read c.plane, direction-read c.direction) refl

-- ---- arcs

pub arc-read : (a : Arc) → arc_of (round_of a) ≡ a
arc-read a = rw (plane-read a.circling.plane, direction-read a.circling.direction) refl

pub arc-written : (r : Round) → leb r.plane 2 ≡ true → leb r.direction 1 ≡ true → round_of (arc_of r) ≡ r
arc-written r p d = rw (plane-written r.plane p, direction-written r.direction d) refl

-- ---- signs fit the machine's 8 bits

pub sign_kept : (s : Sign) → to_z w8 (of_z w8 (sign_value s)) ≡ sign_value s
sign_kept Minus = refl
sign_kept Rest = refl
sign_kept Plus = refl

-- ---- what moves, if something does, is what the job moves

of-under : {A : Type 0} (f : Travel → A) (old : A) (j : Job) → of_under f old (under_of j) ≡ moved_by f old j
of-under f old job.Idle = refl
of-under f old job.Storing = refl
of-under f old (job.Direct t) = refl
of-under f old job.Ready = refl
of-under f old (job.Moving t) = refl
of-under f old (job.Delay n) = refl
of-under f old (job.Wait c t) = refl

pub straight-under : (j : Job) (old : Move) → straight_under (under_of j) old ≡ straight_over j old
unfolding straight_under
straight-under j old = of-under (λ t. straight_in t old) old j

pub round_under-over : (j : Job) (old : Round) → round_under (under_of j) old ≡ round_over j old
unfolding round_under
round_under-over j old = of-under (λ t. round_in t old) old j

pub kind-under : (j : Job) (old : ℕ) → kind_under (under_of j) old ≡ kind_over j old
unfolding kind_under
kind-under j old = of-under kind_in old j
