-- How a right record that moves is refused when it is run: a movement by 9, a circle by 3, 1 or 9; its speed was looked at when it was
-- stored. Assumes nothing.
use Rattle.std.specs.Prelude.{Option, Result, Some, None, Ok, Err}
use Rattle.count.specs.declared.Fault.TheVariants as fault
use Rattle.count.specs.Refusals.{letter_of}
use Rattle.circle.specs.declared.Arc.{Arc}
use Rattle.count.specs.declared.Fault.{Fault}
use Rattle.motion.specs.declared.Move.{Move}
use Prim.Native.Nat.{ℕ}
use mathlib.Core.Path.{◌≡◌, refl, sym, ap, ◌∙◌}
use mathlib.Core.Bool.{Bool, true, false, ◌&&◌, ◌||◌}
use mathlib.Core.List.{List}
use mathlib.Core.Logic.{inl, inr}
use native.Mathlib.Omega.{arith}
use lib.Dec.{eqb}
use Rattle.count.specs.Ranges.{nth, in_speed, right_arc}
use Rattle.motion.specs.declared.Counters.{Counters}
use Rattle.motion.specs.Plan.{plan_of as straight_plan}
use Rattle.motion.specs.Sound.{counted}
use Rattle.circle.specs.declared.Circling.{Circling}
use Rattle.circle.specs.Rule.{on_plane}
use Rattle.circle.specs.Plan.{plane_set, start_of, ways_fit, centre_of, has_room, bend_of, bent_paper}
use Rattle.circle.proofs.laws.Papers.{replied, bend-number}
use Rattle.travel.specs.Plan.{straightly, plan_of, roundly, circle_of}
use Rattle.record.specs.declared.Record.{Record}
use Rattle.record.specs.Fault.{is_movement, speeds_right}
use Rattle.record.specs.Bytes.{is_right}
use Rattle.record.proofs.laws.Faultless.{right-faultless}
use Rattle.engine.specs.declared.Engine.{Engine}
use Rattle.engine.proofs.laws.Cases.{Travels, asked_by, planned_by, straight-plan, round-plan}

-- how a run ends without G: 0; 9 of a movement; 3, 1 or 9 of a circle
abbrev pub is_ending : ℕ → Bool
is_ending b = eqb b 48 || eqb b 57 || eqb b 51 || eqb b 49

-- ---- each kind

straight-ends : (g : Option Move) (b : Fault) → straightly g ≡ Err b → is_ending (letter_of b) ≡ true
straight-ends (Some m) b e = let z : ◌≡◌ {A = ℕ} 0 1 = cc in absurd (omega arith)
straight-ends None b e = let q : fault.Outside ≡ b = cc in ap (λ (f : Fault). is_ending (letter_of f)) (sym q)

-- a circle's reply is among them where its speed is right
replied-ends : (p r w s room : Bool) → s ≡ true → is_ending (replied p r w s room) ≡ true
replied-ends false r w s room h = refl
replied-ends true false w s room h = refl
replied-ends true true false s room h = refl
replied-ends true true true true true h = refl
replied-ends true true true true false h = refl
replied-ends true true true false room h = let z : ◌≡◌ {A = ℕ} 0 1 = cc in absurd (omega arith)

bent-number : (x : Result Arc Fault) (b : Fault) → roundly x ≡ Err b → letter_of b ≡ (bent_paper x).number
bent-number (Ok a) b e = let z : ◌≡◌ {A = ℕ} 0 1 = cc in absurd (omega arith)
bent-number (Err c) b e = let q : b ≡ c = cc in rw q

module _ (axes : ℕ) (c : Circling) (at : Counters) (l : List ℕ) where
  round-ends : (b : Fault) → in_speed (nth l 1) ≡ true → circle_of axes c at l ≡ Err b → is_ending (letter_of b) ≡ true
  unfolding circle_of
  round-ends b h e =
      ap is_ending (bent-number (bend_of axes c at l) b e ∙ bend-number axes c at l)
      ∙ replied-ends (plane_set axes c.plane) (right_arc l) (ways_fit c.direction l) (in_speed (nth l 1))
      (counted at && has_room (centre_of (on_plane c.plane at) (start_of l)) (start_of l)) h

arc-speed : (axes code : ℕ) (l : List ℕ) → code ≡ 121 → speeds_right axes code l ≡ true → in_speed (nth l 1) ≡ true
unfolding speeds_right
arc-speed axes code l e h = rw e at h

module _ (axes : ℕ) (r : Record) (h : is_right axes r ≡ true) (e : Engine) (b : Fault) (q : planned_by r e ≡ Err b) where
  pub refused-ends : Travels r.code → is_ending (letter_of b) ≡ true
  unfolding plan_of
  refused-ends (inl p) = straight-ends (straight_plan (asked_by r e)) b (sym (straight-plan r e p) ∙ q)
  refused-ends (inr p) =
      round-ends e.held.axes e.circling e.at r.words b (arc-speed axes r.code r.words p (right-faultless axes r h).speeds-so)
      (sym (round-plan r e (ap is_movement p)) ∙ q)
