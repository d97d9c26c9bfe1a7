-- `reader::field_end` meets its contract: as `take_while` and `count` say.
use Rattle.std.proofs.Common.{rules, ◌≡◌, ◌≤◌, ◌-◌, ◌∙◌, ℕ, Bool, not, ◌==◌, refl, ap, ◌+◌, arith, drop, length, length-drop}
use Rattle.std.specs.List.{prefix_len}
use Rattle.std.proofs.lemmas.Iterator.{YieldsList-from_slice}
use Rattle.std.proofs.lemmas.Iterator.Consumers.{count_from_yields_List}
use Rattle.std.proofs.lemmas.Iterator.Search.{YieldsList-from_take_while}
use Rattle.std.proofs.lemmas.List.Folds.{length-prefix_len}
use Rattle.std.proofs.lemmas.List.Sums.{prefix_len-le-length}
use Rattle.reader.proofs.laws.Chains.{by_source}
use Rattle.reader.proofs.laws.Fields.{field_is}
use Rattle.reader.proofs.fields.field_end.Goals as goal

abbrev no_space : ℕ → Bool
no_space b = not (b == 32)

count_is : (c : goal.After-count) → c.count.result ≡ prefix_len no_space (drop c.args.from c.args.text.now)
count_is c =
    let behind = YieldsList-from_slice (drop c.args.from c.args.text.now) (c.iter.ensures.rest ∙ c.behind.ensures) in
    count_from_yields_List
    _
    _
    c.count.ensures.ran
    (YieldsList-from_take_while _ no_space (by_source c.take_while.ensures.source behind) c.take_while.ensures.closure c.take_while.ensures.done (λ x b q h. (refl, search rules)))
    ∙ length-prefix_len no_space (drop c.args.from c.args.text.now)

pub overflow_add-result : goal.overflow_add-result
overflow_add-result c =
    let few : c.count.result ≤ length c.args.text.now - c.args.from = rw (count_is c, ← length-drop c.args.from c.args.text.now) (prefix_len-le-length no_space (drop c.args.from c.args.text.now)) in
    record { fits = omega arith }

pub returns : goal.returns
returns c = ap (λ (n : ℕ). c.args.from + n) (count_is c ∙ field_is (drop c.args.from c.args.text.now))
