-- No second outcome satisfies the contract of an exported function: of any two results that the contract itself allows for the same
-- line, each is the other. Assumes nothing.
use Rattle.std.specs.Prelude.{Option, Some, None}
use mathlib.Core.Path.{◌≡◌, refl, sym, ap, ◌∙◌}
use Rattle.line.specs.declared.Letter.{Letter as Found}
use Rattle.line.specs.declared.Letter.TheVariants as found
use Rattle.line.specs.declared.Direct.{Direct as FoundDirect}
use Rattle.line.specs.declared.Code.{Code as FoundCode}
use Rattle.line.specs.declared.Code.TheVariants as mark
use Rattle.line.specs.declared.Stored.{Stored as FoundStored}
use Rattle.line.specs.Letter.{Letter}
use Rattle.line.specs.Letter as letter
use Rattle.line.specs.Code.{Code}
use Rattle.line.specs.Code as code
use Rattle.line.specs.Said.{Direct, Stored, letter_said, code_said, direct_found, stored_found}
use Rattle.line.proofs.letters.direct_line.Reads as direct-line
use Rattle.line.proofs.codes.stored_line.Reads as stored-line

-- ---- the code's lines are read back from what they say

abbrev letter_back : Letter → Option Found
letter_back letter.Wrong = None
letter_back letter.Axes = Some found.Axes
letter_back letter.Relative = Some found.Relative
letter_back letter.Absolute = Some found.Absolute
letter_back letter.Origin = Some found.Origin
letter_back letter.Zero = Some found.Zero
letter_back letter.Three = Some found.Three
letter_back letter.Position = Some found.Position
letter_back letter.Input = Some found.Input
letter_back letter.Output = Some found.Output
letter_back letter.Store = Some found.Store
letter_back letter.Empty = Some found.Empty
letter_back letter.Start = Some found.Start
letter_back letter.Plane = Some found.Plane
letter_back letter.Direction = Some found.Direction
letter_back letter.Circle = Some found.Circle

letter-same : (l : Found) → letter_back (letter_said l) ≡ Some l
letter-same found.Axes = refl
letter-same found.Relative = refl
letter-same found.Absolute = refl
letter-same found.Origin = refl
letter-same found.Zero = refl
letter-same found.Three = refl
letter-same found.Position = refl
letter-same found.Input = refl
letter-same found.Output = refl
letter-same found.Store = refl
letter-same found.Empty = refl
letter-same found.Start = refl
letter-same found.Plane = refl
letter-same found.Direction = refl
letter-same found.Circle = refl

abbrev direct_by : Option Found → Direct → Option FoundDirect
direct_by (Some l) d = Some (record { letter = l; count = d.count; words = d.words })
direct_by None d = None

direct-back : (r : Option FoundDirect) → direct_by (letter_back (direct_found r).letter) (direct_found r) ≡ r
direct-back (Some d) = rw (letter-same d.letter)
direct-back None = refl

abbrev code_back : Code → Option FoundCode
code_back code.Wrong = None
code_back (code.Record c) = Some (mark.Record c)
code_back code.End = Some mark.End

code-same : (k : FoundCode) → code_back (code_said k) ≡ Some k
code-same (mark.Record c) = refl
code-same mark.End = refl

abbrev stored_by : Option FoundCode → Stored → Option FoundStored
stored_by (Some k) d = Some (record { code = k; count = d.count; words = d.words })
stored_by None d = None

stored-back : (r : Option FoundStored) → stored_by (code_back (stored_found r).code) (stored_found r) ≡ r
stored-back (Some d) = rw (code-same d.code)
stored-back None = refl

-- ---- so a line says one thing

pub direct-found-one : (r r' : Option FoundDirect) → direct_found r ≡ direct_found r' → r ≡ r'
direct-found-one r r' e = sym (direct-back r) ∙ ap (λ (d : Direct). direct_by (letter_back d.letter) d) e ∙ direct-back r'

pub stored-found-one : (r r' : Option FoundStored) → stored_found r ≡ stored_found r' → r ≡ r'
stored-found-one r r' e = sym (stored-back r) ∙ ap (λ (d : Stored). stored_by (code_back d.code) d) e ∙ stored-back r'

pub direct-line-one : (κs : _) (a : _) (r r' : _) (s s' : _) → direct-line.Post κs a r s → direct-line.Post κs a r' s' → r ≡ r'
direct-line-one κs a r r' s s' p q = direct-found-one r r' (p ∙ sym q)

pub stored-line-one : (κs : _) (a : _) (r r' : _) (s s' : _) → stored-line.Post κs a r s → stored-line.Post κs a r' s' → r ≡ r'
stored-line-one κs a r r' s s' p q = stored-found-one r r' (p ∙ sym q)
