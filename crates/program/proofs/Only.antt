-- No second outcome satisfies the contract of an exported function: of any two results that the contract itself allows for the same
-- arguments each is the other. Assumes nothing.
use mathlib.Core.Path.{◌≡◌, sym, ◌∙◌}
use Rattle.program.proofs.Told.{verdict-only, acceptance-only, way-only, lead-only}
use Rattle.program.proofs.accepting.accepts.Reads as accepts
use Rattle.program.proofs.ending.check.Reads as check
use Rattle.program.proofs.running.leap.Reads as leap
use Rattle.program.proofs.Lead.loops.Reads as loops
use Rattle.program.proofs.Loops.none.Reads as none
use Rattle.program.proofs.Rule.letter.Reads as letter
use Rattle.program.proofs.running.onward.Reads as onward

pub check-one : (κs : _) (a : _) (r r' : _) (s s' : _) → check.Post κs a r s → check.Post κs a r' s' → r ≡ r'
check-one κs a r r' s s' p q = verdict-only r r' (p ∙ sym q)

pub leap-one : (κs : _) (a : _) (r r' : _) (s s' : _) → leap.Post κs a r s → leap.Post κs a r' s' → r ≡ r'
leap-one κs a r r' s s' p q = lead-only r r' (p ∙ sym q)

pub loops-one : (κs : _) (a : _) (r r' : _) (s s' : _) → loops.Post κs a r s → loops.Post κs a r' s' → r ≡ r'
loops-one κs a r r' s s' p q = p ∙ sym q

pub onward-one : (κs : _) (a : _) (r r' : _) (s s' : _) → onward.Post κs a r s → onward.Post κs a r' s' → r ≡ r'
onward-one κs a r r' s s' p q = way-only r r' (p ∙ sym q)

pub accepts-one : (κs : _) (a : _) (r r' : _) (s s' : _) → accepts.Post κs a r s → accepts.Post κs a r' s' → r ≡ r'
accepts-one κs a r r' s s' p q = acceptance-only r r' (p ∙ sym q)

pub letter-one : (κs : _) (a : _) (r r' : _) (s s' : _) → letter.Post κs a r s → letter.Post κs a r' s' → r ≡ r'
letter-one κs a r r' s s' p q = p ∙ sym q

pub none-one : (κs : _) (a : _) (r r' : _) (s s' : _) → none.Post κs a r s → none.Post κs a r' s' → r ≡ r'
none-one κs a r r' s s' p q = p ∙ sym q
