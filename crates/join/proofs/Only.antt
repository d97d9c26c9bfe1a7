-- No second outcome satisfies the contract of an exported function: of any two results that the contract itself allows for the same
-- arguments, and of what the lent part then holds, each is the other. Assumes nothing.
use Rattle.std.specs.Prelude.{◌≡◌, Result, Ok, Err}
use Rattle.std.proofs.Common.{sym, ap, ◌∙◌}
use Rattle.count.specs.declared.Refusal.{Refusal}
use Rattle.record.specs.declared.Held.{Held}
use Rattle.record.proofs.laws.Replies.{number-one, number-some}
use Rattle.join.specs.Join.{Joined, Joining, outcome}
use Rattle.join.proofs.joining.join.Reads as join

-- the second and the third parameter, `store: &mut [u8]` and `table: &mut [u16]`, as they are left
abbrev join-store : {X A B : Type 0} → A × (X × B) → X
join-store s = s.1.0

abbrev join-table : {X A B C : Type 0} → A × (B × (X × C)) → X
join-table s = s.1.1.0

outcome-one : (h : Held) (r s : Result Held Refusal) → outcome h r ≡ outcome h s → r ≡ s
outcome-one h (Ok x) (Ok y) e = ap (λ (k : Held). Ok k) (ap (λ (j : Joined). j.held) e)
outcome-one h (Ok x) (Err y) e = absurd (number-some y (sym (ap (λ (j : Joined). j.refusal) e)))
outcome-one h (Err x) (Ok y) e = absurd (number-some x (ap (λ (j : Joined). j.refusal) e))
outcome-one h (Err x) (Err y) e = ap (λ (k : Refusal). Err k) (number-one x y (ap (λ (j : Joined). j.refusal) e))

pub join_one : (κs : _) (a : _) (r r' : _) (s s' : _) → join.Post κs a r s → join.Post κs a r' s'
    → (r ≡ r') × ((join-store s).now ≡ (join-store s').now) × ((join-table s).now ≡ (join-table s').now)
join_one κs a r r' s s' p q =
    let e = p ∙ sym q in
    (outcome-one a.0 r r' (ap (λ (x : Joining). x.joined) e), ap (λ (x : Joining). x.memory.store) e, ap (λ (x : Joining). x.memory.table) e)
