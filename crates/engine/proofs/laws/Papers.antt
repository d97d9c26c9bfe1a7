-- What the engine answers by what the crates below say on paper: a plan's reply, a pulse, where a record leads, what is found at a
-- place. Assumes nothing.
use Rattle.std.specs.Prelude.{Option, Some, None, Result, Ok, Err}
use Rattle.count.specs.declared.Fault.{Fault}
use mathlib.Core.Path.{◌≡◌, refl, sym, ap, ◌∙◌}
use mathlib.Core.Bool.{Bool, true, false, not}
use mathlib.Core.List.{List, [], ◌∷◌}
use Prim.Native.Nat.{ℕ}
use native.Mathlib.Omega.{arith}
use lib.Dec.{eqb}
use lib.IntN.{pos}
use Rattle.count.specs.Pick.{pick}
use Rattle.count.specs.Paper.{Paper, says}
use Rattle.motion.specs.Plan.{asked}
use Rattle.travel.specs.declared.Travel.{Travel}
use Rattle.travel.specs.declared.Travel.TheVariants as travel
use Rattle.travel.specs.Next.{Next, next_paper}
use Rattle.travel.specs.Next.Next.{Made, Over}
use Rattle.travel.specs.Plan.{plan_of, circle_of, travel_paper, planned_paper}
use Rattle.record.specs.declared.Held.{Held}
use Rattle.record.specs.declared.Record.{Record}
use Rattle.record.specs.declared.Found.{Found}
use Rattle.record.specs.declared.Found.TheVariants.{Got, End, Wrong}
use Rattle.record.specs.Places.{record_at, found_paper, spot_paper}
use Rattle.record.specs.Table.{record_from}
use Rattle.program.specs.Going.{Going}
use Rattle.program.specs.Going as going
use Rattle.program.specs.Going.{Way}
use Rattle.program.specs.Onward.{going_paper}
use Rattle.engine.specs.declared.Job.{Job}
use Rattle.engine.specs.declared.Job.TheVariants as job
use Rattle.engine.specs.declared.Engine.{Engine}
use Rattle.engine.specs.State.{paper, begun, begun_by, begin_of, circle_begun, no_pulse, with_job}
use Rattle.engine.specs.Tick.{Rule, Fetching, moving, moving_by, leading, performed, fetched, directly, moving_on, ticked_by, ticked}

-- one call that sends the number of what is on paper
abbrev pub sent : Paper → Paper
sent p = says 3 (pos p.number ∷ [])

-- a plan with a pulse to make
abbrev pub has_pulse : Result Travel Fault → Bool
has_pulse (Ok m) = not (no_pulse m)
has_pulse (Err b) = false

-- what is planned is 0 on paper, of either kind
going-number : (m : Travel) → (travel_paper m).number ≡ 48
going-number (travel.Straight m) = refl
going-number (travel.Round a) = refl

module _ (e : Engine) where
  begun-by : (x : Bool) (m : Travel) → (pick x (begun 48 e) (begun 0 (with_job e (job.Direct m)))).reply ≡ pick (not x) 0 48
  begun-by true m = refl
  begun-by false m = refl

  begins : (g : Result Travel Fault) → (begun_by g e).reply ≡ pick (has_pulse g) 0 (planned_paper g).number
  begins (Ok m) = begun-by (no_pulse m) m ∙ ap (pick (not (no_pulse m)) 0) (sym (going-number m))
  begins (Err b) = refl

  -- A DIRECT MOVEMENT replies what its plan says on paper, but nothing yet if it has a pulse to make
  pub begin-paper : (absolute : Bool) (words : List ℕ)
      → (begin_of absolute words e).reply
      ≡ (let g = plan_of (asked e.axes e.three e.at e.origin absolute words) in pick (has_pulse g) 0 (planned_paper g).number)
  unfolding begin_of
  begin-paper absolute words = begins (plan_of (asked e.axes e.three e.at e.origin absolute words))

  -- and so does A DIRECT CIRCLE
  pub circle-paper : (words : List ℕ)
      → (circle_begun words e).reply ≡ (let g = circle_of e.axes e.circling e.at words in pick (has_pulse g) 0 (planned_paper g).number)
  unfolding circle_begun
  circle-paper words = begins (circle_of e.axes e.circling e.at words)

  -- A MOVEMENT OR A CIRCLE OF A PROGRAM that is not 0 on paper sends what it is
  pub refused-paper : (rule : Rule) (g : Result Travel Fault) → ((planned_paper g).number ≡ 48 → ⊥) → paper (moving_by rule g e).answer ≡ sent (planned_paper g)
  refused-paper rule (Ok m) n = absurd (n (going-number m))
  refused-paper rule (Err b) n = refl

  -- A PULSE is answered as the next pulse is on paper: of a direct movement, and of a program's at its record and after it
  pub direct-pulse : (n : Next) → (next_paper n).number ≡ 1 → paper (directly n e).answer ≡ next_paper n
  direct-pulse (Made s) k = refl
  direct-pulse Over k = absurd (omega arith)

  pub first-pulse : (n : Next) → (next_paper n).number ≡ 1 → paper (moving n e).answer ≡ next_paper n
  first-pulse (Made s) k = refl
  first-pulse Over k = absurd (omega arith)

  pub later-pulse : (rule : Rule) (fetch : Fetching) (n : Next) → (next_paper n).number ≡ 1 → paper (moving_on rule fetch n e).answer ≡ next_paper n
  later-pulse rule fetch (Made s) k = refl
  later-pulse rule fetch Over k = absurd (omega arith)

  pub clock-pulse : (rule : Rule) (fetch : Fetching) (m : Travel) → e.run.job ≡ job.Direct m → (next_paper (rule m e.at)).number ≡ 1
      → paper (ticked rule fetch e).answer ≡ next_paper (rule m e.at)
  unfolding ticked
  clock-pulse rule fetch m j k = ap (λ (i : Job). paper (ticked_by rule fetch i e).answer) j ∙ direct-pulse (rule m e.at) k

  -- WHERE A RECORD LEADS: G is sent, all else is a record done
  pub lead-paper : (o : Way) (g : Going) (c : ℕ) → paper (leading o g c e).answer ≡ pick (eqb (going_paper g).number 71) (sent (going_paper g)) (going_paper going.To)
  lead-paper o going.To c = refl
  lead-paper o going.Waits c = refl
  lead-paper o going.Wrong c = refl

  -- WHAT IS FOUND at a place is sent, 0 at the end place and G where nothing right is; a record, 4, is performed
  pub found-paper : (rule : Rule) (f : Found) → ((found_paper f).number ≡ 4 → ⊥) → paper (fetched rule f e).answer ≡ sent (found_paper f)
  found-paper rule (Got r) n = absurd (n refl)
  found-paper rule End n = refl
  found-paper rule Wrong n = refl

  pub found-record : (rule : Rule) (f : Found) → (found_paper f).number ≡ 4 → (r : Record) × (f ≡ Got r) × (fetched rule f e ≡ performed rule r e)
  found-record rule (Got r) n = (r, refl, refl)
  found-record rule End n = absurd (omega arith)
  found-record rule Wrong n = absurd (omega arith)

  -- AND SO IS A PLACE: no byte of the part in use is its start
  pub spot-paper : (rule : Rule) (p : Option ℕ) (h : Held) (s : List ℕ) → ((spot_paper p).number ≡ 4 → ⊥) → paper (fetched rule (record_from p h s) e).answer ≡ sent (spot_paper p)
  spot-paper rule (Some at) h s n = absurd (n refl)
  spot-paper rule None h s n = refl

-- a place whose start is found is read at the byte on paper
pub spot-read : (p : Option ℕ) (h : Held) (s : List ℕ) (at : ℕ) → spot_paper p ≡ says 4 (pos at ∷ []) → record_from p h s ≡ record_at h s at
spot-read (Some at') h s at e =
    let f : pos at' ∷ [] ≡ pos at ∷ [] = ap (λ (x : Paper). x.values) e in
    let q : at' ≡ at = cc in
    ap (λ (i : ℕ). record_at h s i) q
spot-read None h s at e = let q : ◌≡◌ {A = ℕ} 71 4 = ap (λ (x : Paper). x.number) e in absurd (omega arith)
