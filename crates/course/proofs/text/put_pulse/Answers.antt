-- `course::text::put_pulse` meets its contract. Assumes nothing.
use Prim.Native.Nat.{ℕ}
use mathlib.Core.Path.{refl, ap}
use mathlib.Core.List.{List, [], ◌∷◌, ◌++◌}
use native.Mathlib.Omega.{arith}
use lib.ListN.{drop}
use Rattle.course.specs.Text.{pulse_text}
use Rattle.course.proofs.Behind.{wrote_then}
use Rattle.course.proofs.text.put_pulse.Goals as goal

pub returns-then-turns : goal.returns-then-turns
unfolding pulse_text
returns-then-turns c =
    let t = ap (λ (l : List ℕ). l ++ drop 7 c.args.out.now) c.copy_from_slice.ensures.after in
    rw (c.if-turns.true, ← c.character-x.ensures, ← c.character-y.ensures, ← c.character-z.ensures, ← c.character-a.ensures)
    (wrote_then {t = 80 ∷ 32 ∷ c.character-x.result ∷ c.character-y.result ∷ c.character-z.result ∷ c.character-a.result ∷ 32 ∷ []} (record { long = refl; text = t }) c.put_speed-j.ensures.0, omega (arith, c.put_speed-j.ensures.1))

pub returns : goal.returns
unfolding pulse_text
returns c =
    let t = ap (λ (l : List ℕ). l ++ drop 6 c.args.out.now) c.copy_from_slice-2.ensures.after in
    rw (c.if-turns.false, ← c.character-x.ensures, ← c.character-y.ensures, ← c.character-z.ensures)
    (wrote_then {t = 80 ∷ 32 ∷ c.character-x.result ∷ c.character-y.result ∷ c.character-z.result ∷ 32 ∷ []} (record { long = refl; text = t }) c.put_speed-k.ensures.0, omega (arith, c.put_speed-k.ensures.1))
