-- z2 stays in 3D: a direct movement and a stored one do the same whatever their z2, if their numbers are right; with A set
-- there is no z2. Assumes nothing.
use Rattle.std.specs.Prelude.{Result}
use Rattle.count.specs.declared.Fault.{Fault}
use Rattle.travel.specs.declared.Travel.{Travel}
use mathlib.Core.Path.{◌≡◌, sym, ap, ◌∙◌}
use mathlib.Core.Bool.{Bool, true, false}
use mathlib.Core.List.{List}
use Prim.Native.Nat.{ℕ}
use Rattle.count.specs.declared.Axis.TheVariants.{A}
use Rattle.count.specs.Axes.{has}
use Rattle.motion.specs.Plan.{Asked, asked}
use Rattle.motion.proofs.laws.ThreeD.{SameButZ2, with_words, right_asked}
use Rattle.travel.specs.Plan.{plan_of}
use Rattle.travel.proofs.laws.Plans.{three-plan}
use Rattle.record.specs.declared.Record.{Record}
use Rattle.record.specs.Fault.{is_movement, is_absolute}
use Rattle.engine.specs.declared.Engine.{Engine}
use Rattle.engine.specs.State.{begun_by, begin_of}
use Rattle.engine.specs.Tick.{Rule, moving_by, performed}

-- what a direct movement and a movement of a program are planned from
abbrev pub direct_asked : Bool → List ℕ → Engine → Asked
direct_asked absolute words e = asked e.axes e.three e.at e.origin absolute words

abbrev pub stored_asked : Record → Engine → Asked
stored_asked r e = asked e.held.axes e.three e.at e.origin (is_absolute r.code) r.words

abbrev coded : ℕ → Record → Engine → Asked
coded x r e = asked e.held.axes e.three e.at e.origin (is_absolute x) r.words

-- a record of a movement is planned and run
pub movement : (rule : Rule) (r : Record) (e : Engine) → is_movement r.code ≡ true → performed rule r e ≡ moving_by rule (plan_of (stored_asked r e)) e
unfolding performed
movement rule r e k = rw k

module _ (e : Engine) (three : e.three ≡ true) where
  -- A DIRECT MOVEMENT in 3D: the reply and the engine after it, with the movement under way, do not depend on z2
  pub three-begins : (absolute : Bool) (l m : List ℕ) → SameButZ2 l m → has e.axes A ≡ false → right_asked (direct_asked absolute l e) ≡ true → right_asked (direct_asked absolute m e) ≡ true
      → begin_of absolute l e ≡ begin_of absolute m e
  unfolding begin_of
  three-begins absolute l m s n p q = ap (λ (g : Result Travel Fault). begun_by g e) (three-plan (direct_asked absolute l e) m s n p q three)

  -- A STORED MOVEMENT in 3D: two records of the same code that differ in z2 alone
  pub three-performs : (rule : Rule) (r u : Record) → r.code ≡ u.code → is_movement r.code ≡ true → SameButZ2 r.words u.words
      → has e.held.axes A ≡ false → right_asked (stored_asked r e) ≡ true → right_asked (stored_asked u e) ≡ true → performed rule r e ≡ performed rule u e
  three-performs rule r u c k s n p q =
      let v : Asked = stored_asked r e in
      let o : right_asked (with_words v u.words) ≡ true = ap (λ (x : ℕ). right_asked (coded x u e)) c ∙ q in
      movement rule r e k
      ∙ ap (λ (g : Result Travel Fault). moving_by rule g e) (three-plan v u.words s n p o three ∙ ap (λ (x : ℕ). plan_of (coded x u e)) c)
      ∙ sym (movement rule u e (ap is_movement (sym c) ∙ k))
