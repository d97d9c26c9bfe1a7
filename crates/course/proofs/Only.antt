-- No second outcome satisfies the contract of an exported function: of any two results that the contract itself allows for the same
-- arguments, and of what the lent buffers then hold, each is the other. Assumes nothing.
use mathlib.Core.Path.{◌≡◌, sym, ap, ◌∙◌}
use Rattle.count.specs.Text.{Written}
use Rattle.course.specs.Run.{RunOutcome}
use Rattle.course.proofs.Answered.{ran-only}
use Rattle.course.specs.Walk.{Done}
use Rattle.course.proofs.runs.run.Reads as run
use Rattle.course.proofs.Walk.new.Reads as new
use Rattle.course.proofs.Walk.head.Reads as head
use Rattle.course.proofs.Walk.next.Reads as next
use Rattle.course.proofs.Walk.feed.Reads as feed
use Rattle.course.proofs.Walk.go_on.Reads as go_on
use Rattle.course.proofs.Walk.tail.Reads as tail
use Rattle.course.proofs.Ran.len.Reads as ran-len

-- the fifth parameter, `out: &mut [u8]`, as it is left
abbrev run_out : {X A B C D E : Type 0} → A × (B × (C × (D × (X × E)))) → X
run_out s = s.1.1.1.1.0

pub run-one : (κs : _) (a : _) (r r' : _) (s s' : _) → run.Post κs a r s → run.Post κs a r' s' → (r ≡ r') × ((run_out s).now ≡ (run_out s').now)
run-one κs a r r' s s' p q = (ran-only r r' (ap (λ (o : RunOutcome). o.result) (p ∙ sym q)), ap (λ (o : RunOutcome). o.out) (p ∙ sym q))

pub new-one : (κs : _) (a : _) (r r' : _) (s s' : _) → new.Post κs a r s → new.Post κs a r' s' → r ≡ r'
new-one κs a r r' s s' p q = p ∙ sym q

-- the first parameter, `out: &mut [u8]`, as it is left
abbrev head-out : {X A : Type 0} → X × A → X
head-out s = s.0

pub head-one : (κs : _) (a : _) (r r' : _) (s s' : _) → head.Post κs a r s → head.Post κs a r' s' → (r ≡ r') × ((head-out s).now ≡ (head-out s').now)
head-one κs a r r' s s' p q = (ap (λ (w : Written). w.len) (p ∙ sym q), ap (λ (w : Written). w.text) (p ∙ sym q))

-- the third parameter, `store: &mut [u8]`, as it is left
abbrev next-store : {X A B C : Type 0} → A × (B × (X × C)) → X
next-store s = s.1.1.0

-- the fourth parameter, `table: &mut [u16]`, as it is left
abbrev next-table : {X A B C D : Type 0} → A × (B × (C × (X × D))) → X
next-table s = s.1.1.1.0

-- the fifth parameter, `out: &mut [u8]`, as it is left
abbrev next-out : {X A B C D E : Type 0} → A × (B × (C × (D × (X × E)))) → X
next-out s = s.1.1.1.1.0

pub next_one : (κs : _) (a : _) (r r' : _) (s s' : _) → next.Post κs a r s → next.Post κs a r' s'
    → (r ≡ r') × ((next-store s).now ≡ (next-store s').now) × ((next-table s).now ≡ (next-table s').now) × ((next-out s).now ≡ (next-out s').now)
next_one κs a r r' s s' p q =
    let e = p ∙ sym q in (
      ap (λ (d : Done). d.portion) e,
      ap (λ (d : Done). d.memory.store) e,
      ap (λ (d : Done). d.memory.table) e,
      ap (λ (d : Done). d.out) e,
    )

pub feed-one : (κs : _) (a : _) (r r' : _) (s s' : _) → feed.Post κs a r s → feed.Post κs a r' s' → r ≡ r'
feed-one κs a r r' s s' p q = p ∙ sym q

-- the fourth parameter, `out: &mut [u8]`, as it is left
abbrev go-on-out : {X A B C D : Type 0} → A × (B × (C × (X × D))) → X
go-on-out s = s.1.1.1.0

pub go-on-one : (κs : _) (a : _) (r r' : _) (s s' : _) → go_on.Post κs a r s → go_on.Post κs a r' s' → (r ≡ r') × ((go-on-out s).now ≡ (go-on-out s').now)
go-on-one κs a r r' s s' p q = (ap (λ (d : Done). d.portion) (p ∙ sym q), ap (λ (d : Done). d.out) (p ∙ sym q))

-- the second parameter, `out: &mut [u8]`, as it is left
abbrev tail-out : {X A B : Type 0} → A × (X × B) → X
tail-out s = s.1.0

pub tail-one : (κs : _) (a : _) (r r' : _) (s s' : _) → tail.Post κs a r s → tail.Post κs a r' s' → (r ≡ r') × ((tail-out s).now ≡ (tail-out s').now)
tail-one κs a r r' s s' p q = (ap (λ (w : Written). w.len) (p ∙ sym q), ap (λ (w : Written). w.text) (p ∙ sym q))

pub ran-len-one : (κs : _) (a : _) (r r' : _) (s s' : _) → ran-len.Post κs a r s → ran-len.Post κs a r' s' → r ≡ r'
ran-len-one κs a r r' s s' p q = p ∙ sym q
