-- THE THEOREM of 02 §2: the chain of the definitions, which is that of the contract of `sheet::chain`, is as requested; two wrong ones are not. Assumes nothing.
use Prim.Native.Nat.{ℕ}
use mathlib.Core.Path.{◌≡◌, refl, sym, ap, ◌∙◌}
use mathlib.Core.List.{List, [], ◌∷◌}
use native.Mathlib.Omega.{arith}
use lib.IntN.{ℤ, pos, nat_abs}
use lib.ListN.{get_or}
use lib.Ieee.{round, of_int, le, mul, div}
use Rattle.sheet.specs.Sheet.{Converted, axis, float, distance_steps, axis_right, rounded, whole_steps, near, half_up}
use Rattle.sheet.specs.Chain.{total, in_mm, result_of, results, chain_of}
use Rattle.sheet.proofs.laws.Chain.{alone-is, every-prefix, whole-chain, refused-keeps}
use Rattle.sheet.proofs.laws.Examples.{apart}
use Rattle.promise.specs.Chain.{ChainRequested}
use Rattle.promise.specs.Fakes.{one_by_one, clears}

pub chain-requested : ChainRequested chain_of
chain-requested = record {
  follows = λ a l output. refl;
  whole = whole-chain;
  prefixes = every-prefix;
  alone-refused = λ a t o. (alone-is a t o).refused;
  alone = λ a t o. (alone-is a t o).delivered;
  kept = refused-keeps;
}

-- ---- the conversion of each distance by itself: three times 33 steps are 99, and the total is 100

pub one_by_one-fails : ChainRequested one_by_one → ⊥
unfolding one_by_one total results result_of in_mm of_int distance_steps rounded whole_steps near half_up float mul div le
one_by_one-fails d =
    let l = pos 333 ∷ pos 333 ∷ pos 333 ∷ [] in
    let h = d.whole (axis 1 100 1) l (pos 0 ∷ pos 0 ∷ pos 0 ∷ []) refl in
    let n : ◌≡◌ {A = ℕ} 100 99 = ap (λ (c : Converted). nat_abs c.value) (sym apart.1 ∙ h) in
    absurd (omega arith)

-- ---- an output that a refusal clears

pub clears-fails : ChainRequested clears → ⊥
unfolding chain_of axis_right float le round
clears-fails d =
    let h = d.kept (axis 0 1 1) (pos 1 ∷ []) (pos 7 ∷ []) (λ e. omega arith) in
    let n : ◌≡◌ {A = ℕ} 0 7 = ap (λ (s : List ℤ). nat_abs (get_or s 0 (pos 0))) h in
    absurd (omega arith)
