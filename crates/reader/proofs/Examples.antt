-- Fields of bytes, computed. Assumes nothing.
use mathlib.Core.Path.{◌≡◌, refl}
use mathlib.Core.Bool.{true, false}
use mathlib.Core.List.{[], ◌∷◌}
use Rattle.count.specs.Chars.{codes}
use Rattle.count.specs.Pick.{every}
use Rattle.reader.specs.Reader.{hex_value}
use Rattle.reader.specs.Fields.{is_dash, are_pairs, pairs, given, bytes_of}

-- two bytes at the front of three
pub front : bytes_of (codes "0aff") (1 ∷ 2 ∷ 3 ∷ []) ≡ given true (10 ∷ 255 ∷ 3 ∷ [])
unfolding bytes_of is_dash are_pairs every pairs hex_value
front = refl

pub none : bytes_of (codes "-") (1 ∷ []) ≡ given true (1 ∷ [])
unfolding bytes_of is_dash
none = refl

-- an odd digit, a capital letter, a byte too many, nothing at all
pub odd : bytes_of (codes "0af") (1 ∷ 2 ∷ []) ≡ given false (1 ∷ 2 ∷ [])
unfolding bytes_of is_dash are_pairs
odd = refl

pub capital : bytes_of (codes "0A") (1 ∷ 2 ∷ []) ≡ given false (1 ∷ 2 ∷ [])
unfolding bytes_of is_dash are_pairs every
capital = refl

pub too_many : bytes_of (codes "0aff") (1 ∷ []) ≡ given false (1 ∷ [])
unfolding bytes_of is_dash are_pairs
too_many = refl

pub nothing : bytes_of [] (1 ∷ []) ≡ given false (1 ∷ [])
unfolding bytes_of is_dash are_pairs
nothing = refl
