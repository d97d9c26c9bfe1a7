-- The code's way through a line outside storing is the definition's: the table's rows one after the other, then the effect. Assumes nothing.
use Rattle.std.specs.Prelude.{Option, Result, Some, None, Ok, Err}
use Rattle.count.specs.Refusals.{letter_of}
use Rattle.circle.specs.declared.Arc.{Arc}
use Rattle.count.specs.declared.Fault.{Fault}
use Rattle.motion.specs.declared.Move.{Move}
use Rattle.travel.specs.declared.Travel.{Travel}
use Prim.Native.Nat.{ℕ, ◌%◌, ◌<◌}
use mathlib.Core.Path.{◌≡◌, refl, sym, ap, ◌∙◌}
use mathlib.Core.Bool.{Bool, true, false, not, ◌&&◌}
use mathlib.Core.List.{List, [], ◌∷◌}
use native.Mathlib.Nat.{mod-eq_of_lt}
use native.Mathlib.Omega.{arith}
use borrow.Author.Tests.{eqb-true, leb-true, ne_eqb}
use lib.Dec.{eqb}
use lib.ListN.{get_or}
use Rattle.count.specs.Pick.{pick}
use Rattle.count.specs.Numbers.{signed}
use Rattle.count.specs.Ranges.{in_byte, in_zero}
use Rattle.count.proofs.laws.Laws.{within-zero}
use Rattle.count.proofs.laws.Truth.{never, and_right}
use Rattle.motion.specs.declared.Counters.{Counters}
use Rattle.motion.specs.Plan.{Asked, asked, plan_of as straight_plan}
use Rattle.circle.specs.declared.Circling.{Circling}
use Rattle.circle.specs.Plan.{bend_of, bent_paper}
use Rattle.circle.proofs.laws.Papers.{is_reply, bend-replies}
use Rattle.travel.specs.Plan.{straightly, roundly, plan_of, circle_of, refusal}
use Rattle.record.specs.Memory.{Memory}
use Rattle.record.specs.Fault.{is_code, count_right, axes_right, ranges_right, speeds_right, numbers_reply, fault_of}
use Rattle.record.proofs.laws.Faultless.{fault-none}
use Rattle.line.specs.Letter.{Letter}
use Rattle.line.specs.Letter as letter
use Rattle.line.specs.Said.{Direct}
use Rattle.engine.specs.declared.Engine.{Engine}
use Rattle.engine.specs.State.{Begun}
use Rattle.engine.specs.State.{axes_of, origin_of, zero_of, with_output, started, begun_by, begin_of, circle_begun}
use Rattle.engine.specs.Sound.{axes_known}
use Rattle.board.specs.declared.Board.{Board}
use Rattle.board.specs.State.{board, no_line, line_done, Said, said}
use Rattle.board.specs.Direct.{axes_allowed, is_wrong, heard_standing, needs_axes, count_fits, axes_fit, ranges_fit, speeds_fit, plan_reply, is_start, first, reply_of, effect, effect_of, started_with, accepted_said, direct_said}
use Rattle.board.specs.declared.Saying.TheVariants as saying
use Rattle.board.specs.work.Work.{spoke, spoke_of, replied_with, silent_with, begun_with, started_by, affected, obeyed, axes_fault, input_fault, output_fault, numbers_fault, line_fault}
use Rattle.board.proofs.laws.Axes.{allowed-small, allowed-known, named-below}
use Rattle.board.proofs.laws.Stores.{four}

-- ---- the rows of the table

-- 7, 3, 1 and D of each letter
numbers_as : (k : Letter) (axes n : ℕ) (l : List ℕ)
    → numbers_fault k axes n l ≡ numbers_reply (count_fits k axes n) (axes_fit k axes l) (ranges_fit k axes l) (speeds_fit k axes l) 48
unfolding fault_of is_code count_right axes_right ranges_right speeds_right axes_fault input_fault output_fault
numbers_as letter.Wrong axes n l = refl
numbers_as letter.Axes axes n l = refl
numbers_as letter.Relative axes n l = refl
numbers_as letter.Absolute axes n l = refl
numbers_as letter.Origin axes n l = refl
numbers_as letter.Zero axes n l = refl
numbers_as letter.Three axes n l = refl
numbers_as letter.Position axes n l = refl
numbers_as letter.Input axes n l = refl
numbers_as letter.Output axes n l = refl
numbers_as letter.Store axes n l = refl
numbers_as letter.Empty axes n l = refl
numbers_as letter.Start axes n l = refl
numbers_as letter.Plane axes n l = refl
numbers_as letter.Direction axes n l = refl
numbers_as letter.Circle axes n l = refl

-- with what comes behind them
numbers-so : (k : Letter) (axes n : ℕ) (l : List ℕ) (o : ℕ)
    → numbers_reply (count_fits k axes n) (axes_fit k axes l) (ranges_fit k axes l) (speeds_fit k axes l) o
    ≡ pick (eqb (numbers_fault k axes n l) 48) o (numbers_fault k axes n l)
numbers-so k axes n l o = rw (numbers_as k axes n l) (four (count_fits k axes n) (axes_fit k axes l) (ranges_fit k axes l) (speeds_fit k axes l) o)

-- 5, W and 4 before them
three : (a b c : Bool) (f o : ℕ) → pick a 53 (pick b 87 (pick c 52 (pick (eqb f 48) o f)))
    ≡ pick (eqb (pick a 53 (pick b 87 (pick c 52 f))) 48) o (pick a 53 (pick b 87 (pick c 52 f)))
three true b c f o = refl
three false true c f o = refl
three false false true f o = refl
three false false false f o = refl

-- what refuses a plan, 8 and G behind them
abbrev rest_of : Letter → Engine → Bool → List ℕ → ℕ
rest_of k e s l =
    pick (not (eqb (plan_reply k e l) 48)) (plan_reply k e l)
    (pick (is_start k && not s && eqb e.held.records 0) 56
    (pick (is_start k && not s && not (eqb e.axes e.held.axes)) 71 48))

reply-so : (e : Engine) (s : Bool) (d : Direct)
    → reply_of e s d ≡ pick (eqb (line_fault e.axes s d) 48) (rest_of d.letter e s d.words) (line_fault e.axes s d)
unfolding reply_of first line_fault
reply-so e s d =
    let a = is_wrong d.letter in
    let b = s && not (heard_standing d.letter) in
    let c = needs_axes d.letter && eqb e.axes 0 in
    let o = rest_of d.letter e s d.words in
    ap (λ (x : ℕ). pick a 53 (pick b 87 (pick c 52 x))) (numbers-so d.letter e.axes d.count d.words o)
    ∙ three a b c (numbers_fault d.letter e.axes d.count d.words) o

-- ---- a line without a fault has numbers that fit a byte where the code takes one

no-three : (a b c : Bool) (f : ℕ) → pick a 53 (pick b 87 (pick c 52 f)) ≡ 48 → f ≡ 48
no-three true b c f p = absurd (omega arith)
no-three false true c f p = absurd (omega arith)
no-three false false true f p = absurd (omega arith)
no-three false false false f p = p

pub no-fault : (axes : ℕ) (s : Bool) (d : Direct) → line_fault axes s d ≡ 48 → numbers_fault d.letter axes d.count d.words ≡ 48
unfolding line_fault
no-fault axes s d p = no-three (is_wrong d.letter) (s && not (heard_standing d.letter)) (needs_axes d.letter && eqb axes 0) _ p

no_second : (a b c : Bool) (f : ℕ) → pick a 53 (pick b 87 (pick c 52 f)) ≡ 48 → b ≡ false
no_second true b c f p = absurd (omega arith)
no_second false true c f p = absurd (omega arith)
no_second false false c f p = refl

-- and is heard while something stands
pub no-standing : (axes : ℕ) (s : Bool) (d : Direct) → line_fault axes s d ≡ 48 → s && not (heard_standing d.letter) ≡ false
unfolding line_fault
no-standing axes s d p = no_second (is_wrong d.letter) (s && not (heard_standing d.letter)) (needs_axes d.letter && eqb axes 0) _ p

pick_two : (a b : Bool) (x : ℕ) → (x ≡ 48 → ⊥) → pick (not a) 55 (pick (not b) x 48) ≡ 48 → b ≡ true
pick_two true true x h p = refl
pick_two true false x h p = absurd (h p)
pick_two false b x h p = absurd (omega arith)

axes-small : (axes n w : ℕ) → axes_fault axes n w ≡ 48 → w < 256
unfolding axes_fault
axes-small axes n w p = allowed-small axes w (pick_two (eqb n 1) (axes_allowed axes w) 51 (λ q. omega arith) p)

-- the axes after such a line are known where those before it are
pub axes-fit : (e : Engine) (n w : ℕ) → axes_known e.axes ≡ true → axes_fault e.axes n w ≡ 48 → axes_known (axes_of (w % 256) e).axes ≡ true
unfolding axes_fault
axes-fit e n w k p =
    let q : w % 256 ≡ w = mod-eq_of_lt (axes-small e.axes n w p) in
    rw q (allowed-known e w k (pick_two (eqb n 1) (axes_allowed e.axes w) 51 (λ q. omega arith) p))

byte_small : (n w v : ℕ) → output_fault n w v ≡ 48 → v < 256
unfolding output_fault in_byte
byte_small n w v p =
    let h = and_right (in_zero (signed w)) (in_byte (signed v)) (pick_two (eqb n 2) (in_zero (signed w) && in_byte (signed v)) 49 (λ q. omega arith) p) in
    omega (arith, leb-true v 255 (sym (within-zero 255 v (omega arith)) ∙ h))

named_small : (axes n : ℕ) (l : List ℕ) → fault_of axes 110 n l ≡ 48 → get_or l 0 0 < 256
unfolding axes_right
named_small axes n l p = named-below axes (get_or l 0 0) (fault-none axes 110 n l p).axes-so

-- ---- the effect of each letter

begun-by : (t : Bool) (b : Board) (g : Begun) (m : Memory)
    → said (board g.engine b.standing no_line) (pick t [] (g.reply ∷ [])) m ≡ spoke (pick t (silent_with b g.engine) (replied_with b g.engine g.reply)) m
begun-by true b g m = refl
begun-by false b g m = refl

-- the reply to a plan
abbrev planned-reply : ℕ → ℕ
planned-reply r = pick (not (eqb r 48)) r 48

refused-by : (t : Bool) (r : ℕ) (b : Board) (m : Memory) → eqb r 48 ≡ t → eqb r 0 ≡ false
    → pick (eqb (pick (not t) r 48) 48) (accepted_said (effect b.engine b.standing (pick (eqb r 0) [] (r ∷ []))) m) (said (line_done b) (pick (not t) r 48 ∷ []) m)
    ≡ spoke (pick (eqb r 0) (silent_with b b.engine) (replied_with b b.engine r)) m
refused-by true r b m e z = rw z
refused-by false r b m e z = rw (e, z)

begin-so : (p : Result Travel Fault) (b : Board) (m : Memory) → eqb (refusal p) 0 ≡ false
    → pick (eqb (planned-reply (refusal p)) 48) (accepted_said (started_with (begun_by p b.engine) b.standing) m) (said (line_done b) (planned-reply (refusal p) ∷ []) m)
    ≡ spoke (begun_with b (begun_by p b.engine)) m
unfolding begun_with
begin-so (Ok v) b m z = begun-by (eqb (begun_by (Ok v) b.engine).reply 0) b (begun_by (Ok v) b.engine) m
begin-so (Err r) b m z = refused-by (eqb (letter_of r) 48) (letter_of r) b m refl z

-- what refuses a plan is a character, and so not the 0 of a reply that is still to come
straight-by : (p : Option Move) → eqb (refusal (straightly p)) 0 ≡ false
straight-by (Some v) = refl
straight-by None = refl

plan-replies : (q : Asked) → eqb (refusal (plan_of q)) 0 ≡ false
unfolding plan_of
plan-replies q = straight-by (straight_plan q)

round_by : (p : Result Arc Fault) → is_reply (bent_paper p).number ≡ true → eqb (refusal (roundly p)) 0 ≡ false
round_by (Ok a) h = refl
round_by (Err r) h = ne_eqb (letter_of r) 0 (λ e. never (ap is_reply (sym e) ∙ h))

circle-replies : (axes : ℕ) (c : Circling) (at : Counters) (l : List ℕ) → eqb (refusal (circle_of axes c at l)) 0 ≡ false
unfolding circle_of
circle-replies axes c at l = round_by (bend_of axes c at l) (bend-replies axes c at l)

start-by : (s r a : Bool) (b : Board) (e : Engine) (m : Memory) → b.standing ≡ s
    → pick (eqb (pick (true && not s && r) 56 (pick (true && not s && not a) 71 48)) 48)
    (accepted_said (pick s (effect b.engine false []) (effect e false [])) m)
    (said (line_done b) (pick (true && not s && r) 56 (pick (true && not s && not a) 71 48) ∷ []) m)
    ≡ spoke (pick s (spoke_of (board b.engine false no_line) saying.Silent) (pick r (replied_with b b.engine 56) (pick a (silent_with b e) (replied_with b b.engine 71)))) m
start-by true r a b e m p = refl
start-by false true a b e m p = refl
start-by false false true b e m p = rw p
start-by false false false b e m p = refl

module _ (axes n : ℕ) (l ports : List ℕ) (b : Board) (m : Memory) where
  effect-so : (k : Letter) → numbers_fault k axes n l ≡ 48
      → pick (eqb (rest_of k b.engine b.standing l) 48) (accepted_said (effect_of k l ports b.engine b.standing) m)
      (said (line_done b) (rest_of k b.engine b.standing l ∷ []) m)
      ≡ spoke (affected k l ports b) m
  unfolding started_by begin_of circle_begun
  effect-so letter.Wrong p = refl
  effect-so letter.Axes p =
      let q : get_or l 0 0 % 256 ≡ get_or l 0 0 = mod-eq_of_lt (axes-small axes n (get_or l 0 0) p) in
      ap (λ (w : ℕ). said (board (axes_of w b.engine) b.standing no_line) (48 ∷ []) m) (sym q)
  effect-so letter.Relative p = let q = asked b.engine.axes b.engine.three b.engine.at b.engine.origin false l in begin-so (plan_of q) b m (plan-replies q)
  effect-so letter.Absolute p = let q = asked b.engine.axes b.engine.three b.engine.at b.engine.origin true l in begin-so (plan_of q) b m (plan-replies q)
  effect-so letter.Origin p =
      let q : get_or l 0 0 % 256 ≡ get_or l 0 0 = mod-eq_of_lt (named_small axes n l p) in
      ap (λ (w : ℕ). said (board (origin_of w b.engine) b.standing no_line) (48 ∷ []) m) (sym q)
  effect-so letter.Zero p =
      let q : get_or l 0 0 % 256 ≡ get_or l 0 0 = mod-eq_of_lt (named_small axes n l p) in
      ap (λ (w : ℕ). said (board (zero_of w b.engine) b.standing no_line) (48 ∷ []) m) (sym q)
  effect-so letter.Three p = refl
  effect-so letter.Position p = refl
  effect-so letter.Input p = refl
  effect-so letter.Output p =
      let q : get_or l 1 0 % 256 ≡ get_or l 1 0 = mod-eq_of_lt (byte_small n (get_or l 0 0) (get_or l 1 0) p) in
      ap (λ (w : ℕ). said (board (with_output b.engine w) b.standing no_line) (48 ∷ []) m) (sym q)
  effect-so letter.Store p = refl
  effect-so letter.Empty p = refl
  effect-so letter.Start p = start-by b.standing (eqb b.engine.held.records 0) (eqb b.engine.axes b.engine.held.axes) b (started b.engine) m refl
  effect-so letter.Plane p = refl
  effect-so letter.Direction p = refl
  effect-so letter.Circle p =
      begin-so (circle_of b.engine.axes b.engine.circling b.engine.at l) b m (circle-replies b.engine.axes b.engine.circling b.engine.at l)

-- ---- the whole line

module _ (d : Direct) (ports : List ℕ) (b : Board) (m : Memory) where
  abbrev faulty : ℕ
  faulty = line_fault b.engine.axes b.standing d

  abbrev behind : ℕ
  behind = rest_of d.letter b.engine b.standing d.words

  abbrev effected : Said
  effected = accepted_said (effect_of d.letter d.words ports b.engine b.standing) m

  line-by : (t : Bool) → eqb faulty 48 ≡ t
      → pick (eqb (pick t behind faulty) 48) effected (said (line_done b) (pick t behind faulty ∷ []) m)
      ≡ spoke (pick t (affected d.letter d.words ports b) (replied_with b b.engine faulty)) m
  line-by true e = effect-so b.engine.axes d.count d.words ports b m d.letter (no-fault b.engine.axes b.standing d (eqb-true faulty 48 e))
  line-by false e = rw e

  pub obey-so : direct_said d ports b m ≡ spoke (obeyed d ports b) m
  unfolding direct_said obeyed
  obey-so = rw (reply-so b.engine b.standing d) (line-by (eqb faulty 48) refl)
