-- No second answer meets the contract of an exported function: the text, the place and how many numbers are asked for decide what is read
-- and where the text goes on. Assumes nothing.
use mathlib.Core.Path.{◌≡◌, sym, ap, ◌∙◌}
use Rattle.reader.specs.Fields.{Given}
use Rattle.reader.proofs.next_number.Reads as next-number
use Rattle.reader.proofs.next_numbers.Reads as next-numbers
use Rattle.reader.proofs.hex_number.Reads as hex-number
use Rattle.reader.proofs.fields.field_end.Reads as field_end
use Rattle.reader.proofs.fields.read_whole.Reads as read_whole
use Rattle.reader.proofs.fields.read_bits.Reads as read-bits
use Rattle.reader.proofs.fields.read_bytes.Reads as read-bytes
use Rattle.reader.proofs.fields.float.Reads as float
use Rattle.reader.proofs.fields.magnitude.Reads as magnitude

pub next-number-one : (κs : _) (a : _) (r r' : _) (s s' : _) → next-number.Post κs a r s → next-number.Post κs a r' s' → r ≡ r'
next-number-one κs a r r' s s' p q = p ∙ sym q

abbrev next-numbers-words : {X A B C : Type 0} → A × (B × (X × C)) → X
next-numbers-words s = s.1.1.0

pub next-numbers-one : (κs : _) (a : _) (r r' : _) (s s' : _) → next-numbers.Post κs a r s → next-numbers.Post κs a r' s' → (r ≡ r') × ((next-numbers-words s).now ≡ (next-numbers-words s').now)
next-numbers-one κs a r r' s s' p q = (p.0 ∙ sym q.0, p.1 ∙ sym q.1)

pub hex-number-one : (κs : _) (a : _) (r r' : _) (s s' : _) → hex-number.Post κs a r s → hex-number.Post κs a r' s' → r ≡ r'
hex-number-one κs a r r' s s' p q = p ∙ sym q

pub field-end-one : (κs : _) (a : _) (r r' : _) (s s' : _) → field_end.Post κs a r s → field_end.Post κs a r' s' → r ≡ r'
field-end-one κs a r r' s s' p q = p ∙ sym q

pub read-whole-one : (κs : _) (a : _) (r r' : _) (s s' : _) → read_whole.Post κs a r s → read_whole.Post κs a r' s' → r ≡ r'
read-whole-one κs a r r' s s' p q = p ∙ sym q

pub read-bits-one : (κs : _) (a : _) (r r' : _) (s s' : _) → read-bits.Post κs a r s → read-bits.Post κs a r' s' → r ≡ r'
read-bits-one κs a r r' s s' p q = p ∙ sym q

-- the second parameter, `bytes: &mut [u8]`, as it is left
abbrev read-bytes-bytes : {X A B : Type 0} → A × (X × B) → X
read-bytes-bytes s = s.1.0

pub read-bytes-one : (κs : _) (a : _) (r r' : _) (s s' : _) → read-bytes.Post κs a r s → read-bytes.Post κs a r' s' → (r ≡ r') × ((read-bytes-bytes s).now ≡ (read-bytes-bytes s').now)
read-bytes-one κs a r r' s s' p q = (ap (λ (x : Given). x.right) (p ∙ sym q), ap (λ (x : Given). x.bytes) (p ∙ sym q))

pub float_one : (κs : _) (a : _) (r r' : _) (s s' : _) → float.Post κs a r s → float.Post κs a r' s' → r ≡ r'
float_one κs a r r' s s' p q = p ∙ sym q

pub magnitude-one : (κs : _) (a : _) (r r' : _) (s s' : _) → magnitude.Post κs a r s → magnitude.Post κs a r' s' → r ≡ r'
magnitude-one κs a r r' s s' p q = p ∙ sym q
