-- No second outcome satisfies the contract of an exported function: of any two results that the contract itself allows for the same
-- arguments, and of what the lent part then holds, each is the other. Assumes nothing.
use mathlib.Core.Path.{◌≡◌, sym, ap, ◌∙◌}
use Rattle.count.specs.Text.{Written}
use Rattle.count.proofs.in_range.Reads as in-range
use Rattle.count.proofs.add.Reads as add
use Rattle.count.proofs.distance.Reads as distance
use Rattle.count.proofs.word_of.Reads as word_of
use Rattle.count.proofs.count_of.Reads as count_of
use Rattle.count.proofs.count_word.Reads as count_word
use Rattle.count.proofs.number.Reads as number
use Rattle.count.proofs.ranges.is_24.Reads as is-24
use Rattle.count.proofs.ranges.is_speed.Reads as is-speed
use Rattle.count.proofs.ranges.is_offset.Reads as is-offset
use Rattle.count.proofs.ranges.is_back.Reads as is-back
use Rattle.count.proofs.ranges.is_loop.Reads as is-loop
use Rattle.count.proofs.ranges.is_delay.Reads as is-delay
use Rattle.count.proofs.ranges.is_character.Reads as is-character
use Rattle.count.proofs.ranges.is_switch.Reads as is-switch
use Rattle.count.proofs.ranges.is_port.Reads as is-port
use Rattle.count.proofs.ranges.is_byte.Reads as is-byte
use Rattle.count.proofs.ranges.is_zero.Reads as is_zero
use Rattle.count.proofs.ranges.is_plane.Reads as is-plane
use Rattle.count.proofs.ranges.is_direction.Reads as is-direction
use Rattle.count.proofs.ranges.is_arc.Reads as is-arc
use Rattle.count.proofs.ranges.is_start.Reads as is-start
use Rattle.count.proofs.ranges.is_way.Reads as is-way
use Rattle.count.proofs.text.put_report.Reads as put-report
use Rattle.count.proofs.text.put_byte.Reads as put_byte
use Rattle.count.proofs.text.put_word.Reads as put_word
use Rattle.count.proofs.text.put_count.Reads as put_count
use Rattle.count.proofs.text.put_place.Reads as put-place
use Rattle.count.proofs.axes.has.Reads as has
use Rattle.count.proofs.axes.axes_set.Reads as axes-set
use Rattle.count.proofs.movement.right_count.Reads as right-count
use Rattle.count.proofs.movement.right_distances.Reads as right-distances
use Rattle.count.proofs.movement.right_speeds.Reads as right-speeds
use Rattle.count.proofs.arcs.right_arc.Reads as right-arc
use Rattle.count.proofs.chosen.Reads as chosen
use Rattle.count.proofs.Fault.letter.Reads as letter
use Rattle.count.proofs.Refusal.number.Reads as refusal-number

pub in-range-one : (κs : _) (a : _) (r r' : _) (s s' : _) → in-range.Post κs a r s → in-range.Post κs a r' s' → r ≡ r'
in-range-one κs a r r' s s' p q = p ∙ sym q

pub add-one : (κs : _) (a : _) (r r' : _) (s s' : _) → add.Post κs a r s → add.Post κs a r' s' → r ≡ r'
add-one κs a r r' s s' p q = p ∙ sym q

pub distance-one : (κs : _) (a : _) (r r' : _) (s s' : _) → distance.Post κs a r s → distance.Post κs a r' s' → r ≡ r'
distance-one κs a r r' s s' p q = p ∙ sym q

pub word-of-one : (κs : _) (a : _) (r r' : _) (s s' : _) → word_of.Post κs a r s → word_of.Post κs a r' s' → r ≡ r'
word-of-one κs a r r' s s' p q = p ∙ sym q

pub count-of-one : (κs : _) (a : _) (r r' : _) (s s' : _) → count_of.Post κs a r s → count_of.Post κs a r' s' → r ≡ r'
count-of-one κs a r r' s s' p q = p ∙ sym q

pub count-word-one : (κs : _) (a : _) (r r' : _) (s s' : _) → count_word.Post κs a r s → count_word.Post κs a r' s' → r ≡ r'
count-word-one κs a r r' s s' p q = p ∙ sym q

pub number-one : (κs : _) (a : _) (r r' : _) (s s' : _) → number.Post κs a r s → number.Post κs a r' s' → r ≡ r'
number-one κs a r r' s s' p q = p ∙ sym q

pub is-24-one : (κs : _) (a : _) (r r' : _) (s s' : _) → is-24.Post κs a r s → is-24.Post κs a r' s' → r ≡ r'
is-24-one κs a r r' s s' p q = p ∙ sym q

pub is-speed-one : (κs : _) (a : _) (r r' : _) (s s' : _) → is-speed.Post κs a r s → is-speed.Post κs a r' s' → r ≡ r'
is-speed-one κs a r r' s s' p q = p ∙ sym q

pub is-offset-one : (κs : _) (a : _) (r r' : _) (s s' : _) → is-offset.Post κs a r s → is-offset.Post κs a r' s' → r ≡ r'
is-offset-one κs a r r' s s' p q = p ∙ sym q

pub is-back-one : (κs : _) (a : _) (r r' : _) (s s' : _) → is-back.Post κs a r s → is-back.Post κs a r' s' → r ≡ r'
is-back-one κs a r r' s s' p q = p ∙ sym q

pub is-loop-one : (κs : _) (a : _) (r r' : _) (s s' : _) → is-loop.Post κs a r s → is-loop.Post κs a r' s' → r ≡ r'
is-loop-one κs a r r' s s' p q = p ∙ sym q

pub is-delay-one : (κs : _) (a : _) (r r' : _) (s s' : _) → is-delay.Post κs a r s → is-delay.Post κs a r' s' → r ≡ r'
is-delay-one κs a r r' s s' p q = p ∙ sym q

pub is-character-one : (κs : _) (a : _) (r r' : _) (s s' : _) → is-character.Post κs a r s → is-character.Post κs a r' s' → r ≡ r'
is-character-one κs a r r' s s' p q = p ∙ sym q

pub is-switch-one : (κs : _) (a : _) (r r' : _) (s s' : _) → is-switch.Post κs a r s → is-switch.Post κs a r' s' → r ≡ r'
is-switch-one κs a r r' s s' p q = p ∙ sym q

pub is-port-one : (κs : _) (a : _) (r r' : _) (s s' : _) → is-port.Post κs a r s → is-port.Post κs a r' s' → r ≡ r'
is-port-one κs a r r' s s' p q = p ∙ sym q

pub is-byte-one : (κs : _) (a : _) (r r' : _) (s s' : _) → is-byte.Post κs a r s → is-byte.Post κs a r' s' → r ≡ r'
is-byte-one κs a r r' s s' p q = p ∙ sym q

pub is-zero-one : (κs : _) (a : _) (r r' : _) (s s' : _) → is_zero.Post κs a r s → is_zero.Post κs a r' s' → r ≡ r'
is-zero-one κs a r r' s s' p q = p ∙ sym q

pub is-plane-one : (κs : _) (a : _) (r r' : _) (s s' : _) → is-plane.Post κs a r s → is-plane.Post κs a r' s' → r ≡ r'
is-plane-one κs a r r' s s' p q = p ∙ sym q

pub is-direction-one : (κs : _) (a : _) (r r' : _) (s s' : _) → is-direction.Post κs a r s → is-direction.Post κs a r' s' → r ≡ r'
is-direction-one κs a r r' s s' p q = p ∙ sym q

pub is-arc-one : (κs : _) (a : _) (r r' : _) (s s' : _) → is-arc.Post κs a r s → is-arc.Post κs a r' s' → r ≡ r'
is-arc-one κs a r r' s s' p q = p ∙ sym q

pub is-start-one : (κs : _) (a : _) (r r' : _) (s s' : _) → is-start.Post κs a r s → is-start.Post κs a r' s' → r ≡ r'
is-start-one κs a r r' s s' p q = p ∙ sym q

pub is-way-one : (κs : _) (a : _) (r r' : _) (s s' : _) → is-way.Post κs a r s → is-way.Post κs a r' s' → r ≡ r'
is-way-one κs a r r' s s' p q = p ∙ sym q

-- the first parameter, `text: &mut [u8]`, as it is left
abbrev put-report-text : {X A : Type 0} → X × A → X
put-report-text s = s.0

pub put-report-one : (κs : _) (a : _) (r r' : _) (s s' : _) → put-report.Post κs a r s → put-report.Post κs a r' s' → (r ≡ r') × ((put-report-text s).now ≡ (put-report-text s').now)
put-report-one κs a r r' s s' p q = (ap (λ (w : Written). w.len) (p ∙ sym q), ap (λ (w : Written). w.text) (p ∙ sym q))

-- the first parameter, `text: &mut [u8]`, as it is left
abbrev put-byte-text : {X A : Type 0} → X × A → X
put-byte-text s = s.0

pub put-byte-one : (κs : _) (a : _) (r r' : _) (s s' : _) → put_byte.Post κs a r s → put_byte.Post κs a r' s' → (r ≡ r') × ((put-byte-text s).now ≡ (put-byte-text s').now)
put-byte-one κs a r r' s s' p q = (ap (λ (w : Written). w.len) (p ∙ sym q), ap (λ (w : Written). w.text) (p ∙ sym q))

-- the first parameter, `text: &mut [u8]`, as it is left
abbrev put-word-text : {X A : Type 0} → X × A → X
put-word-text s = s.0

pub put-word-one : (κs : _) (a : _) (r r' : _) (s s' : _) → put_word.Post κs a r s → put_word.Post κs a r' s' → (r ≡ r') × ((put-word-text s).now ≡ (put-word-text s').now)
put-word-one κs a r r' s s' p q = (ap (λ (w : Written). w.len) (p ∙ sym q), ap (λ (w : Written). w.text) (p ∙ sym q))

-- the first parameter, `text: &mut [u8]`, as it is left
abbrev put-count-text : {X A : Type 0} → X × A → X
put-count-text s = s.0

pub put-count-one : (κs : _) (a : _) (r r' : _) (s s' : _) → put_count.Post κs a r s → put_count.Post κs a r' s' → (r ≡ r') × ((put-count-text s).now ≡ (put-count-text s').now)
put-count-one κs a r r' s s' p q = (ap (λ (w : Written). w.len) (p ∙ sym q), ap (λ (w : Written). w.text) (p ∙ sym q))

-- the first parameter, `text: &mut [u8]`, as it is left
abbrev put-place-text : {X A : Type 0} → X × A → X
put-place-text s = s.0

pub put-place-one : (κs : _) (a : _) (r r' : _) (s s' : _) → put-place.Post κs a r s → put-place.Post κs a r' s' → (r ≡ r') × ((put-place-text s).now ≡ (put-place-text s').now)
put-place-one κs a r r' s s' p q = (ap (λ (w : Written). w.len) (p ∙ sym q), ap (λ (w : Written). w.text) (p ∙ sym q))

pub has_one : (κs : _) (a : _) (r r' : _) (s s' : _) → has.Post κs a r s → has.Post κs a r' s' → r ≡ r'
has_one κs a r r' s s' p q = p ∙ sym q

pub axes-set-one : (κs : _) (a : _) (r r' : _) (s s' : _) → axes-set.Post κs a r s → axes-set.Post κs a r' s' → r ≡ r'
axes-set-one κs a r r' s s' p q = p ∙ sym q

pub right-count-one : (κs : _) (a : _) (r r' : _) (s s' : _) → right-count.Post κs a r s → right-count.Post κs a r' s' → r ≡ r'
right-count-one κs a r r' s s' p q = p ∙ sym q

pub right-distances-one : (κs : _) (a : _) (r r' : _) (s s' : _) → right-distances.Post κs a r s → right-distances.Post κs a r' s' → r ≡ r'
right-distances-one κs a r r' s s' p q = p ∙ sym q

pub right-speeds-one : (κs : _) (a : _) (r r' : _) (s s' : _) → right-speeds.Post κs a r s → right-speeds.Post κs a r' s' → r ≡ r'
right-speeds-one κs a r r' s s' p q = p ∙ sym q

pub right-arc-one : (κs : _) (a : _) (r r' : _) (s s' : _) → right-arc.Post κs a r s → right-arc.Post κs a r' s' → r ≡ r'
right-arc-one κs a r r' s s' p q = p ∙ sym q

-- of a value of any type: `g` to `w` are what the bound on the type brings
pub chosen-one : (g : _) (x : _) (y : _) (z : _) (w : _) (κs : _) (a : _) (r r' : _) (s s' : _) → chosen.Post g x y z w κs a r s → chosen.Post g x y z w κs a r' s' → r ≡ r'
chosen-one g x y z w κs a r r' s s' p q = p ∙ sym q

pub letter-one : (κs : _) (a : _) (r r' : _) (s s' : _) → letter.Post κs a r s → letter.Post κs a r' s' → r ≡ r'
letter-one κs a r r' s s' p q = p ∙ sym q

pub refusal-number-one : (κs : _) (a : _) (r r' : _) (s s' : _) → refusal-number.Post κs a r s → refusal-number.Post κs a r' s' → r ≡ r'
refusal-number-one κs a r r' s s' p q = p ∙ sym q
