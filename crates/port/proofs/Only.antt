-- No second outcome satisfies the contract of an exported function: of any two results that the contract itself allows for the same
-- arguments, and of what each lent buffer then holds, each is the other. Assumes nothing.
use mathlib.Core.Path.{◌≡◌, sym, ap, ◌∙◌}
use Rattle.record.specs.Table.{Filling}
use Rattle.sheet.specs.Chain.{Chained}
use Rattle.join.specs.Join.{Joining}
use Rattle.port.specs.Calls.{Hearing, Listing}
use Rattle.port.proofs.calls.board_fresh.Reads as fresh
use Rattle.port.proofs.calls.board_clock.Reads as clock
use Rattle.port.proofs.calls.board_receive.Reads as receive
use Rattle.port.proofs.calls.board_list.Reads as list
use Rattle.port.proofs.calls.board_show.Reads as show
use Rattle.port.proofs.store.board_fill.Reads as fill
use Rattle.port.proofs.store.board_join.Reads as join
use Rattle.port.proofs.store.board_chain.Reads as chain

pub fresh-one : (κs : _) (a : _) (r r' : _) (s s' : _) → fresh.Post κs a r s → fresh.Post κs a r' s' → r ≡ r'
fresh-one κs a r r' s s' p q = p ∙ sym q

pub clock-one : (κs : _) (a : _) (r r' : _) (s s' : _) → clock.Post κs a r s → clock.Post κs a r' s' → r ≡ r'
clock-one κs a r r' s s' p q = p ∙ sym q

pub show-one : (κs : _) (a : _) (r r' : _) (s s' : _) → show.Post κs a r s → show.Post κs a r' s' → r ≡ r'
show-one κs a r r' s s' p q = p ∙ sym q

-- the fourth, fifth and sixth parameter, `reply`, `store` and `table`, as they are left
abbrev receive-reply : {X A B C D : Type 0} → A × (B × (C × (X × D))) → X
receive-reply s = s.1.1.1.0

abbrev receive-store : {X A B C D E : Type 0} → A × (B × (C × (D × (X × E)))) → X
receive-store s = s.1.1.1.1.0

abbrev receive-table : {X A B C D E F : Type 0} → A × (B × (C × (D × (E × (X × F))))) → X
receive-table s = s.1.1.1.1.1.0

pub receive-one : (κs : _) (a : _) (r r' : _) (s s' : _) → receive.Post κs a r s → receive.Post κs a r' s'
    → (r ≡ r') × ((receive-reply s).now ≡ (receive-reply s').now) × ((receive-store s).now ≡ (receive-store s').now) × ((receive-table s).now ≡ (receive-table s').now)
receive-one κs a r r' s s' p q =
    let e = p ∙ sym q in
    (ap (λ (o : Hearing). o.result) e, ap (λ (o : Hearing). o.after.reply) e, ap (λ (o : Hearing). o.after.memory.store) e, ap (λ (o : Hearing). o.after.memory.table) e)

-- the third, `text`
abbrev list-text : {X A B C : Type 0} → A × (B × (X × C)) → X
list-text s = s.1.1.0

pub list-one : (κs : _) (a : _) (r r' : _) (s s' : _) → list.Post κs a r s → list.Post κs a r' s' → (r ≡ r') × ((list-text s).now ≡ (list-text s').now)
list-one κs a r r' s s' p q = (ap (λ (t : Listing). t.result) (p ∙ sym q), ap (λ (t : Listing). t.text) (p ∙ sym q))

-- the fifth, `table`
abbrev fill-table : {X A B C D E : Type 0} → A × (B × (C × (D × (X × E)))) → X
fill-table s = s.1.1.1.1.0

pub fill_one : (κs : _) (a : _) (r r' : _) (s s' : _) → fill.Post κs a r s → fill.Post κs a r' s' → (r ≡ r') × ((fill-table s).now ≡ (fill-table s').now)
fill_one κs a r r' s s' p q = (ap (λ (x : Filling). x.refusal) (p ∙ sym q), ap (λ (x : Filling). x.table) (p ∙ sym q))

-- the first to fifth
abbrev join-used : {X A : Type 0} → X × A → X
join-used s = s.0

abbrev join-records : {X A B : Type 0} → A × (X × B) → X
join-records s = s.1.0

abbrev join-axes : {X A B C : Type 0} → A × (B × (X × C)) → X
join-axes s = s.1.1.0

abbrev join-store : {X A B C D : Type 0} → A × (B × (C × (X × D))) → X
join-store s = s.1.1.1.0

abbrev join-table : {X A B C D E : Type 0} → A × (B × (C × (D × (X × E)))) → X
join-table s = s.1.1.1.1.0

pub join_one : (κs : _) (a : _) (r r' : _) (s s' : _) → join.Post κs a r s → join.Post κs a r' s'
    → (r ≡ r') × ((join-used s).now ≡ (join-used s').now) × ((join-records s).now ≡ (join-records s').now) × ((join-axes s).now ≡ (join-axes s').now) × ((join-store s).now ≡ (join-store s').now)
    × ((join-table s).now ≡ (join-table s').now)
join_one κs a r r' s s' p q =
    let e = p ∙ sym q in
    (ap (λ (x : Joining). x.joined.refusal) e, ap (λ (x : Joining). x.joined.held.used) e, ap (λ (x : Joining). x.joined.held.records) e, ap (λ (x : Joining). x.joined.held.axes) e, ap (λ (x : Joining). x.memory.store) e, ap (λ (x : Joining). x.memory.table) e)

-- the fifth, `distances`
abbrev chain-distances : {X A B C D E : Type 0} → A × (B × (C × (D × (X × E)))) → X
chain-distances s = s.1.1.1.1.0

pub chain-one : (κs : _) (a : _) (r r' : _) (s s' : _) → chain.Post κs a r s → chain.Post κs a r' s' → (r ≡ r') × ((chain-distances s).now ≡ (chain-distances s').now)
chain-one κs a r r' s s' p q = (ap (λ (x : Chained). x.refusal) (p ∙ sym q), ap (λ (x : Chained). x.steps) (p ∙ sym q))
