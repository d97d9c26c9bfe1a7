-- No second outcome satisfies the contract of an exported function: of any two results that the contract itself allows for the same
-- arguments, and of what each lent buffer then holds, each is the other. Assumes nothing.
use mathlib.Core.Path.{◌≡◌, sym, ap, ◌∙◌}
use seplogic.Ra.Ura.{Ura}
use base.Logic.{SProp, ent}
use prog.Memory.{Memory}
use prog.Routine.{Routine}
use types.Logic.{Logic}
use contract.Lifetimes.{Lfts}
use contract.Monad.{Fun, fact, fact_i, fact_use}
use denote.Triple.Clauses.{Ended, Clauses, Lasts, at_exit}
use denote.Triple.Entry.{Args}
use Rattle.record.specs.Table.{Filling}
use Rattle.sheet.specs.Chain.{Chained}
use Rattle.join.specs.Join.{Joining}
use Rattle.port.specs.Calls.{Hearing, Listing}
use Rattle.inplace.specs.contracts.board_fresh_in as fresh
use Rattle.inplace.specs.contracts.board_clock_in as clock
use Rattle.inplace.specs.contracts.board_receive_in as receive
use Rattle.inplace.specs.contracts.board_list_in as list
use Rattle.inplace.specs.contracts.board_show_in as show
use Rattle.inplace.proofs.board_fill_in.Reads as fill
use Rattle.inplace.proofs.board_join_in.Reads as join
use Rattle.inplace.proofs.board_chain_in.Reads as chain

-- ---- numbers and buffers

-- the fifth parameter, `table`, as it is left
abbrev fill-table : {X A B C D E : Type 0} → A × (B × (C × (D × (X × E)))) → X
fill-table s = s.1.1.1.1.0

pub fill_one : (κs : _) (a : _) (r r' : _) (s s' : _) → fill.Post κs a r s → fill.Post κs a r' s' → (r ≡ r') × ((fill-table s).now ≡ (fill-table s').now)
fill_one κs a r r' s s' p q = (ap (λ (x : Filling). x.refusal) (p ∙ sym q), ap (λ (x : Filling). x.table) (p ∙ sym q))

-- the first to fifth
abbrev join-used : {X A : Type 0} → X × A → X
join-used s = s.0

abbrev join-records : {X A B : Type 0} → A × (X × B) → X
join-records s = s.1.0

abbrev join-axes : {X A B C : Type 0} → A × (B × (X × C)) → X
join-axes s = s.1.1.0

abbrev join-store : {X A B C D : Type 0} → A × (B × (C × (X × D))) → X
join-store s = s.1.1.1.0

abbrev join-table : {X A B C D E : Type 0} → A × (B × (C × (D × (X × E)))) → X
join-table s = s.1.1.1.1.0

pub join_one : (κs : _) (a : _) (r r' : _) (s s' : _) → join.Post κs a r s → join.Post κs a r' s'
    → (r ≡ r') × ((join-used s).now ≡ (join-used s').now) × ((join-records s).now ≡ (join-records s').now) × ((join-axes s).now ≡ (join-axes s').now) × ((join-store s).now ≡ (join-store s').now)
    × ((join-table s).now ≡ (join-table s').now)
join_one κs a r r' s s' p q =
    let e = p ∙ sym q in (
      ap (λ (x : Joining). x.joined.refusal) e,
      ap (λ (x : Joining). x.joined.held.used) e,
      ap (λ (x : Joining). x.joined.held.records) e,
      ap (λ (x : Joining). x.joined.held.axes) e,
      ap (λ (x : Joining). x.memory.store) e,
      ap (λ (x : Joining). x.memory.table) e,
    )

-- the fifth, `distances`
abbrev chain-distances : {X A B C D E : Type 0} → A × (B × (C × (D × (X × E)))) → X
chain-distances s = s.1.1.1.1.0

pub chain-one : (κs : _) (a : _) (r r' : _) (s s' : _) → chain.Post κs a r s → chain.Post κs a r' s' → (r ≡ r') × ((chain-distances s).now ≡ (chain-distances s').now)
chain-one κs a r r' s s' p q = (ap (λ (x : Chained). x.refusal) (p ∙ sym q), ap (λ (x : Chained). x.steps) (p ∙ sym q))

-- ---- a struct that is lent: the clause is read where it stands, inside the logic: what shows the `ensures` at two
-- choices of the last values shows that they are one.

-- the first, `at`
abbrev lent_at : {X A : Type 0} → X × A → X
lent_at s = s.0

-- of `receive` the fourth, fifth and sixth, `reply`, `store` and `table`
abbrev receive-reply : {X A B C D : Type 0} → A × (B × (C × (X × D))) → X
receive-reply s = s.1.1.1.0

abbrev receive-store : {X A B C D E : Type 0} → A × (B × (C × (D × (X × E)))) → X
receive-store s = s.1.1.1.1.0

abbrev receive-table : {X A B C D E F : Type 0} → A × (B × (C × (D × (E × (X × F))))) → X
receive-table s = s.1.1.1.1.1.0

-- of `list` the third, `text`
abbrev list-text : {X A B C : Type 0} → A × (B × (X × C)) → X
list-text s = s.1.1.0

module _ {M : Type 1} (𝓤 : Ura M) where
  two-say : (P : SProp 𝓤) (φ ψ χ : Type 0) → (φ → ψ → χ) → ent 𝓤 P (fact 𝓤 φ) → ent 𝓤 P (fact 𝓤 ψ) → ent 𝓤 P (fact 𝓤 χ)
  two-say P φ ψ χ k p q = fact_use 𝓤 φ p (λ x. fact_use 𝓤 ψ q (λ y. fact_i 𝓤 χ P (k x y)))

  module _ (F : Ended) (c : Clauses 𝓤 F) where
    -- whatever shows the `ensures` of what is left as s and of what is left as s' shows `Same s s'`
    abbrev pub One : ((κs : Lfts F.signature.lifetimes) (a : Args F.signature κs) → Lasts F κs a → Lasts F κs a → Type 0) → Type 2
    One Same = (κs : Lfts F.signature.lifetimes) (a : Args F.signature κs) (g : (c κs a).ghost) (r r' : _) (s s' : Lasts F κs a) (P : SProp 𝓤)
        → ent 𝓤 P ((c κs a).ensures g r (at_exit F κs a s)) → ent 𝓤 P ((c κs a).ensures g r' (at_exit F κs a s')) → ent 𝓤 P (fact 𝓤 (Same κs a s s'))

module _ {M : Type 1} {𝓤 : Ura M} (𝓛 : Logic 𝓤) (at_mem : Memory → SProp 𝓤) (run : Routine → Fun 𝓤) where
  pub fresh-one : One 𝓤 fresh.ended (fresh.clauses 𝓛 at_mem run) (λ κs a s s'. lent_at s ≡ lent_at s')
  fresh-one κs a g r r' s s' P p q = two-say 𝓤 P _ _ _ (λ x y. x ∙ sym y) p q

  pub clock-one : One 𝓤 clock.ended (clock.clauses 𝓛 at_mem run) (λ κs a s s'. lent_at s ≡ lent_at s')
  clock-one κs a g r r' s s' P p q = two-say 𝓤 P _ _ _ (λ x y. x ∙ sym y) p q

  pub show-one : One 𝓤 show.ended (show.clauses 𝓛 at_mem run) (λ κs a s s'. lent_at s ≡ lent_at s')
  show-one κs a g r r' s s' P p q = two-say 𝓤 P _ _ _ (λ x y. x ∙ sym y) p q

  -- the struct, `reply`, `store` and `table`
  pub receive-one : One 𝓤 receive.ended (receive.clauses 𝓛 at_mem run) (λ κs a s s'. (lent_at s ≡ lent_at s') × (receive-reply s ≡ receive-reply s') × (receive-store s ≡ receive-store s') × (receive-table s ≡ receive-table s'))
  receive-one κs a g r r' s s' P p q = two-say 𝓤 P _ _ _ (λ x y.
      let e = x ∙ sym y in
      (ap (λ (o : Hearing). o.result) e, ap (λ (o : Hearing). o.after.reply) e, ap (λ (o : Hearing). o.after.memory.store) e, ap (λ (o : Hearing). o.after.memory.table) e)) p q

  -- the struct and `text`
  pub list-one : One 𝓤 list.ended (list.clauses 𝓛 at_mem run) (λ κs a s s'. (lent_at s ≡ lent_at s') × (list-text s ≡ list-text s'))
  list-one κs a g r r' s s' P p q = two-say 𝓤 P _ _ _ (λ x y. (ap (λ (t : Listing). t.result) (x ∙ sym y), ap (λ (t : Listing). t.text) (x ∙ sym y))) p q
