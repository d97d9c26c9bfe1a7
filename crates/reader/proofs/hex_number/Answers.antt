-- `reader::hex_number` meets its contract: as `fold` says.
use Rattle.std.proofs.Common.{rules, ◌≡◌, ◌∙◌, refl, ◌+◌, ◌*◌, ◌%◌, ℕ, List, [], ◌∷◌, drop, fold}
use Rattle.std.proofs.lemmas.Iterator.{YieldsList-from_slice, YieldsList-from_take}
use Rattle.std.proofs.lemmas.Iterator.Consumers.{fold_from_yields_List}
use Rattle.reader.proofs.laws.Chains.{by_source}
use Rattle.reader.specs.Reader.{hex_value, with_hex}
use Rattle.reader.proofs.hex_number.Goals as goal

-- one digit more
abbrev more : ℕ → ℕ → ℕ
more n b = n % 0x1000000000000000 * 16 + hex_value b

folds : (s : List ℕ) (n : ℕ) → fold more n s ≡ with_hex s n
unfolding with_hex
folds [] n = refl
folds (b ∷ s) n = folds s (more n b)

pub returns : goal.returns
returns c =
    let behind = YieldsList-from_slice (drop c.args.from c.args.text.now) (c.iter.ensures.rest ∙ c.behind.ensures) in
    let near = YieldsList-from_take c.args.digits (by_source c.take.ensures.source behind) c.take.ensures.count in
    fold_from_yields_List _ more 0 _ c.fold.ensures.ran near (λ a x b q h. (refl, search rules)) ∙ folds _ 0
