-- No second outcome satisfies the contract of an exported function: of any two results that the contract itself allows for the same
-- arguments, each is the other. Assumes nothing.
use mathlib.Core.Path.{◌≡◌, sym, ◌∙◌}
use Rattle.engine.proofs.Engine.fresh.Reads as fresh
use Rattle.engine.proofs.Engine.tick.Reads as tick
use Rattle.engine.proofs.Engine.see.Reads as see
use Rattle.engine.proofs.Engine.act.Reads as act
use Rattle.engine.proofs.Engine.under_way.Reads as under-way
use Rattle.engine.proofs.Engine.runs.Reads as runs
use Rattle.engine.proofs.Engine.sound.Reads as sound
use Rattle.engine.proofs.Engine.hear.Reads as hear
use Rattle.engine.proofs.Answered.{begun-only}
use Rattle.engine.proofs.Engine.begin.Reads as begin
use Rattle.engine.proofs.Engine.begin_circle.Reads as begin-circle
use Rattle.engine.proofs.Engine.start.Reads as start
use Rattle.engine.proofs.Engine.cease.Reads as cease
use Rattle.engine.proofs.Engine.reset.Reads as reset
use Rattle.engine.proofs.Engine.set_axes.Reads as set-axes
use Rattle.engine.proofs.Engine.set_zero.Reads as set-zero
use Rattle.engine.proofs.Engine.set_origin.Reads as set-origin
use Rattle.engine.proofs.Engine.set_three.Reads as set-three
use Rattle.engine.proofs.Engine.set_plane.Reads as set-plane
use Rattle.engine.proofs.Engine.set_direction.Reads as set-direction
use Rattle.engine.proofs.Engine.set_output.Reads as set-output
use Rattle.engine.proofs.Engine.set_held.Reads as set-held
use Rattle.engine.proofs.Engine.empty.Reads as empty
use Rattle.engine.proofs.Engine.store.Reads as store
use Rattle.engine.proofs.Engine.glide.Reads as glide

pub fresh-one : (κs : _) (a : _) (r r' : _) (s s' : _) → fresh.Post κs a r s → fresh.Post κs a r' s' → r ≡ r'
fresh-one κs a r r' s s' p q = p ∙ sym q

pub tick-one : (κs : _) (a : _) (r r' : _) (s s' : _) → tick.Post κs a r s → tick.Post κs a r' s' → r ≡ r'
tick-one κs a r r' s s' p q = p ∙ sym q

pub runs-one : (κs : _) (a : _) (r r' : _) (s s' : _) → runs.Post κs a r s → runs.Post κs a r' s' → r ≡ r'
runs-one κs a r r' s s' p q = p ∙ sym q

pub sound-one : (κs : _) (a : _) (r r' : _) (s s' : _) → sound.Post κs a r s → sound.Post κs a r' s' → r ≡ r'
sound-one κs a r r' s s' p q = p ∙ sym q

pub hear-one : (κs : _) (a : _) (r r' : _) (s s' : _) → hear.Post κs a r s → hear.Post κs a r' s' → r ≡ r'
hear-one κs a r r' s s' p q = p ∙ sym q

pub begin-one : (κs : _) (a : _) (r r' : _) (s s' : _) → begin.Post κs a r s → begin.Post κs a r' s' → r ≡ r'
begin-one κs a r r' s s' p q = begun-only _ r r' (p ∙ sym q)

pub begin-circle-one : (κs : _) (a : _) (r r' : _) (s s' : _) → begin-circle.Post κs a r s → begin-circle.Post κs a r' s' → r ≡ r'
begin-circle-one κs a r r' s s' p q = begun-only _ r r' (p ∙ sym q)

pub start-one : (κs : _) (a : _) (r r' : _) (s s' : _) → start.Post κs a r s → start.Post κs a r' s' → r ≡ r'
start-one κs a r r' s s' p q = p ∙ sym q

pub cease-one : (κs : _) (a : _) (r r' : _) (s s' : _) → cease.Post κs a r s → cease.Post κs a r' s' → r ≡ r'
cease-one κs a r r' s s' p q = p ∙ sym q

pub reset-one : (κs : _) (a : _) (r r' : _) (s s' : _) → reset.Post κs a r s → reset.Post κs a r' s' → r ≡ r'
reset-one κs a r r' s s' p q = p ∙ sym q

pub set-axes-one : (κs : _) (a : _) (r r' : _) (s s' : _) → set-axes.Post κs a r s → set-axes.Post κs a r' s' → r ≡ r'
set-axes-one κs a r r' s s' p q = p ∙ sym q

pub set-zero-one : (κs : _) (a : _) (r r' : _) (s s' : _) → set-zero.Post κs a r s → set-zero.Post κs a r' s' → r ≡ r'
set-zero-one κs a r r' s s' p q = p ∙ sym q

pub set-origin-one : (κs : _) (a : _) (r r' : _) (s s' : _) → set-origin.Post κs a r s → set-origin.Post κs a r' s' → r ≡ r'
set-origin-one κs a r r' s s' p q = p ∙ sym q

pub set-three-one : (κs : _) (a : _) (r r' : _) (s s' : _) → set-three.Post κs a r s → set-three.Post κs a r' s' → r ≡ r'
set-three-one κs a r r' s s' p q = p ∙ sym q

pub set-plane-one : (κs : _) (a : _) (r r' : _) (s s' : _) → set-plane.Post κs a r s → set-plane.Post κs a r' s' → r ≡ r'
set-plane-one κs a r r' s s' p q = p ∙ sym q

pub set-direction-one : (κs : _) (a : _) (r r' : _) (s s' : _) → set-direction.Post κs a r s → set-direction.Post κs a r' s' → r ≡ r'
set-direction-one κs a r r' s s' p q = p ∙ sym q

pub set-output-one : (κs : _) (a : _) (r r' : _) (s s' : _) → set-output.Post κs a r s → set-output.Post κs a r' s' → r ≡ r'
set-output-one κs a r r' s s' p q = p ∙ sym q

pub set-held-one : (κs : _) (a : _) (r r' : _) (s s' : _) → set-held.Post κs a r s → set-held.Post κs a r' s' → r ≡ r'
set-held-one κs a r r' s s' p q = p ∙ sym q

pub empty-one : (κs : _) (a : _) (r r' : _) (s s' : _) → empty.Post κs a r s → empty.Post κs a r' s' → r ≡ r'
empty-one κs a r r' s s' p q = p ∙ sym q

pub store-one : (κs : _) (a : _) (r r' : _) (s s' : _) → store.Post κs a r s → store.Post κs a r' s' → r ≡ r'
store-one κs a r r' s s' p q = p ∙ sym q

pub glide-one : (κs : _) (a : _) (r r' : _) (s s' : _) → glide.Post κs a r s → glide.Post κs a r' s' → r ≡ r'
glide-one κs a r r' s s' p q = p ∙ sym q

pub see-one : (κs : _) (a : _) (r r' : _) (s s' : _) → see.Post κs a r s → see.Post κs a r' s' → r ≡ r'
see-one κs a r r' s s' p q = p ∙ sym q

pub act-one : (κs : _) (a : _) (r r' : _) (s s' : _) → act.Post κs a r s → act.Post κs a r' s' → r ≡ r'
act-one κs a r r' s s' p q = p ∙ sym q

pub under-way-one : (κs : _) (a : _) (r r' : _) (s s' : _) → under-way.Post κs a r s → under-way.Post κs a r' s' → r ≡ r'
under-way-one κs a r r' s s' p q = p ∙ sym q
