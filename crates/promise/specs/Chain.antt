-- 02 §2, of any way to turn a chain of distances into steps: the steps delivered sum to the conversion of the total, so that a rack's last tooth stands right.
use Rattle.std.specs.Prelude.{ℕ, ◌≡◌, List, [], ◌∷◌, ℤ, take}
use Rattle.sheet.specs.declared.Axis.{Axis}
use Rattle.sheet.specs.Sheet.{found, distance_of}
use Rattle.sheet.specs.Chain.{total, in_mm, Chained, chain_of}

-- an axis, distances in thousandths of a mm and an output give the refusal and the output afterwards
abbrev pub Chaining : Type 0
Chaining = Axis → List ℤ → List ℤ → Chained

pub record ChainRequested (chain : Chaining) : Type 0 where
  -- the sums, results, differences and refusals are the definition's
  pub follows : (a : Axis) (l output : List ℤ) → chain a l output ≡ chain_of a l output
  -- the steps delivered sum to the conversion of the total
  pub whole : (a : Axis) (l output : List ℤ) → (chain a l output).refusal ≡ 0 → distance_of a (in_mm (total l)) ≡ found (total (chain a l output).steps)
  -- and those of every first part to the conversion of its total
  pub prefixes : (a : Axis) (l output : List ℤ) (k : ℕ) → (chain a l output).refusal ≡ 0
      → distance_of a (in_mm (total (take k l))) ≡ found (total (take k (chain a l output).steps))
  -- one distance alone is `distance` of it: it is refused alike, and where it is accepted the number is the same
  pub alone-refused : (a : Axis) (t o : ℤ) → (chain a (t ∷ []) (o ∷ [])).refusal ≡ (distance_of a (in_mm t)).refusal
  pub alone : (a : Axis) (t o : ℤ) → (chain a (t ∷ []) (o ∷ [])).refusal ≡ 0 → (chain a (t ∷ []) (o ∷ [])).steps ≡ (distance_of a (in_mm t)).value ∷ []
  -- with a refusal nothing is delivered
  pub kept : (a : Axis) (l output : List ℤ) → ((chain a l output).refusal ≡ 0 → ⊥) → (chain a l output).steps ≡ output
