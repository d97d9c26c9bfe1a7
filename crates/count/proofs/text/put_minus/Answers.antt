-- `count::put_minus` meets its contract: the digits behind the minus. Assumes nothing.
use mathlib.Core.Path.{◌≡◌, ap, ◌∙◌}
use mathlib.Core.List.{List, ◌∷◌, ◌++◌}
use Prim.Native.Nat.{ℕ, suc, ◌+◌, ◌-◌, ◌≤◌}
use native.Mathlib.Numerals.{add-one}
use native.Mathlib.Omega.{arith}
use lib.IntN.{negsuc}
use lib.ListN.{length, take, drop, set}
use borrow.Rule.Slice.PartMut.{put_mid}
use Rattle.count.specs.Text.{digits, shown}
use Rattle.count.proofs.laws.Lists.{rest, set_front, drop-one}
use Rattle.count.proofs.laws.Digits.{digits-most}
use Rattle.count.proofs.text.put_minus.Goals as goal

minus-text : (n : ℕ) (s : List ℕ) {k : ℕ} {l : List ℕ} → 1 ≤ length s → k ≡ length (digits (n + 1))
    → l ≡ digits (n + 1) ++ drop (length (digits (n + 1))) (take (length s - 1) (drop 1 s))
    → (k + 1 ≡ length (shown (negsuc n))) × (set (put_mid 1 (length s - 1) s l) 0 45 ≡ shown (negsuc n) ++ drop (length (shown (negsuc n))) s)
unfolding shown
minus-text n s {k} {l} h e f =
    let d = digits (suc n) in
    let g : digits (n + 1) ≡ d = ap digits (add-one n) in
    let m : l ≡ d ++ drop (suc (length d)) s = f ∙ rw (g, rest, drop-one) in
    (add-one k ∙ ap suc (e ∙ ap length g), set_front s l 45 h ∙ ap (λ (t : List ℕ). 45 ∷ t) m)

pub overflow_add-result : goal.overflow_add-result
overflow_add-result c = omega (arith, c.put_digits-k.ensures.0, digits-most (c.args.n + 1))

pub returns : goal.returns
returns c =
    let p = c.put_digits-k in
    minus-text c.args.n c.args.text.now (omega arith) p.ensures.0 p.ensures.1
