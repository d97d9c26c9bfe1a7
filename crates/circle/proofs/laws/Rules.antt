-- NO DEAD END OF AN ARC, whatever its direction: the rule's move goes on in the square. Assumes nothing.
use mathlib.Core.Path.{refl}
use Prim.Native.Nat.{ℕ, ◌+◌, ◌*◌, ◌<◌}
use native.Mathlib.Omega.{arith}
use Rattle.count.specs.Numbers.{far}
use Rattle.motion.specs.declared.Sign.{Sign}
use Rattle.motion.specs.declared.Sign.TheVariants.{Minus, Rest, Plus}
use Rattle.circle.specs.declared.Direction.{Direction}
use Rattle.circle.specs.declared.Direction.TheVariants.{Clockwise, Counter}
use Rattle.circle.specs.declared.Pair.{Pair}
use Rattle.circle.specs.Rule.{side, turning, ways_at, move_of}
use Rattle.circle.proofs.laws.Square.{Side, side-is, Lies, Goes, only-first, only-second, out-in, in-out}

module _ (n reach : ℕ) (c p : Pair) (high : n < reach * reach) (l : Lies reach c.first p.first) (k : Lies reach c.second p.second)
    (apart : 0 < far c.first p.first + far c.second p.second) where
  goes_by : (d : Direction) (x y : Sign) → Side c.first p.first x → Side c.second p.second y → Goes reach c p (move_of n c p (turning d x y))
  unfolding move_of
  goes_by d Rest Rest h g = absurd (omega arith)
  goes_by Clockwise Rest Minus h g = only-first n reach c p high l k Minus Minus g refl h refl
  goes_by Clockwise Rest Plus h g = only-first n reach c p high l k Plus Plus g refl h refl
  goes_by Clockwise Minus Rest h g = only-second n reach c p high l k Minus Plus h refl g refl
  goes_by Clockwise Plus Rest h g = only-second n reach c p high l k Plus Minus h refl g refl
  goes_by Clockwise Minus Minus h g = out-in n reach c p high l k Minus Minus h g refl refl
  goes_by Clockwise Minus Plus h g = in-out n reach c p high l k Minus Plus h g refl refl
  goes_by Clockwise Plus Minus h g = in-out n reach c p high l k Plus Minus h g refl refl
  goes_by Clockwise Plus Plus h g = out-in n reach c p high l k Plus Plus h g refl refl
  goes_by Counter Rest Minus h g = only-first n reach c p high l k Minus Plus g refl h refl
  goes_by Counter Rest Plus h g = only-first n reach c p high l k Plus Minus g refl h refl
  goes_by Counter Minus Rest h g = only-second n reach c p high l k Minus Minus h refl g refl
  goes_by Counter Plus Rest h g = only-second n reach c p high l k Plus Plus h refl g refl
  goes_by Counter Minus Minus h g = in-out n reach c p high l k Minus Minus h g refl refl
  goes_by Counter Minus Plus h g = out-in n reach c p high l k Minus Plus h g refl refl
  goes_by Counter Plus Minus h g = out-in n reach c p high l k Plus Minus h g refl refl
  goes_by Counter Plus Plus h g = in-out n reach c p high l k Plus Plus h g refl refl

  pub goes : (d : Direction) → Goes reach c p (move_of n c p (ways_at d c p))
  unfolding ways_at
  goes d =
      goes_by d (side c.first p.first) (side c.second p.second) (side-is c.first p.first) (side-is c.second p.second)
