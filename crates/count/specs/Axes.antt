-- The axes, and the numbers that name them (01, "Lines", rows axes, n and N; 02, §7): 1, 2, 4 and 8 of an axes number are x, y, z and a,
-- so that 1 is x, 3 is x and y, 7 is x, y and z, 8 is A alone, and 15 is all four. What is the same for each axis is said once, over the
-- axis.
use Rattle.std.specs.Prelude.{ℕ, ◌/◌, ◌%◌, max, Bool, true, false, ◌&&◌, ◌||◌, List, [], ◌∷◌, ◌++◌, eqb}
use Rattle.count.specs.declared.Axis.{Axis}
use Rattle.count.specs.declared.Axis.TheVariants.{X, Y, Z, A}

-- an axis's part of an axes number
abbrev pub part : Axis → ℕ
part X = 1
part Y = 2
part Z = 4
part A = 8

-- an axes number names an axis
abbrev pub has : ℕ → Axis → Bool
has axes i = eqb (axes / part i % 2) 1

-- axes that lines set: x; x and y; x, y and z; A alone; all four
abbrev pub axes_set : ℕ → Bool
axes_set axes = eqb axes 1 || eqb axes 3 || eqb axes 7 || eqb axes 8 || eqb axes 15

-- ---- over all axes

-- every axis passes a test
abbrev pub on_all : (Axis → Bool) → Bool
on_all test = test X && test Y && test Z && test A

-- something holds of every axis
abbrev pub Each : (Axis → Type 0) → Type 0
Each P = P X × P Y × P Z × P A

-- the greatest that an axis has
abbrev pub greatest : (Axis → ℕ) → ℕ
greatest f = max (f X) (max (f Y) (max (f Z) (f A)))

-- what the axes have, in their order, before others
abbrev pub each_then : {T : Type 0} → (Axis → T) → List T → List T
each_then f l = f X ∷ f Y ∷ f Z ∷ f A ∷ l

-- the axes that are shown: x, y and z always, and A with them or not
abbrev pub shown_axes : Bool → List Axis
shown_axes true = X ∷ Y ∷ Z ∷ A ∷ []
shown_axes false = X ∷ Y ∷ Z ∷ []

-- a text for each of some axes, end to end
abbrev pub end_to_end : (Axis → List ℕ) → List Axis → List ℕ
end_to_end f [] = []
end_to_end f (i ∷ l) = f i ++ end_to_end f l
