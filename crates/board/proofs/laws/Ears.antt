-- A byte that is sorted first comes to what the definition says. Assumes nothing.
use Prim.Native.Nat.{ℕ}
use mathlib.Core.Path.{◌≡◌, refl, ap, ◌∙◌}
use mathlib.Core.Bool.{Bool, true, false}
use mathlib.Core.List.{List, []}
use Rattle.count.specs.Pick.{pick}
use Rattle.record.specs.Memory.{Memory}
use Rattle.board.specs.declared.Board.{Board}
use Rattle.board.specs.declared.Ear.{Ear}
use Rattle.board.specs.declared.Ear.TheVariants as ear
use Rattle.board.specs.State.{gathered, with_line, Said, said}
use Rattle.board.specs.Receive.{gathering, hearing}
use Rattle.board.specs.work.Ears.{ear_for, heard_as}
use Rattle.board.proofs.laws.Hears.{ear-so}

-- the first of the control codes
abbrev pub codes_from : ℕ
codes_from = 253

module _ (byte : ℕ) (ports : List ℕ) (b : Board) (m : Memory) where
  heard-pick : (t : Bool) (x y : Ear) → heard_as (pick t x y) byte ports b m ≡ pick t (heard_as x byte ports b m) (heard_as y byte ports b m)
  heard-pick true x y = refl
  heard-pick false x y = refl

  pub heard-is-hearing : heard_as (ear_for byte b) byte ports b m ≡ hearing byte ports b m
  unfolding ear_for hearing gathering
  heard-is-hearing = simp (heard-pick, ear-so byte ports b m)

  pub heard-so : {e : Ear} → e ≡ ear_for byte b → {x : Said} → x ≡ heard_as e byte ports b m → x ≡ hearing byte ports b m
  heard-so e p = p ∙ ap (λ (x : Ear). heard_as x byte ports b m) e ∙ heard-is-hearing

  pub gathered-so : ear.Gather ≡ ear_for byte b → {g : Board} → g ≡ with_line b (gathered byte b.line) → said g [] m ≡ hearing byte ports b m
  gathered-so e p = heard-so e (ap (λ (x : Board). said x [] m) p)
