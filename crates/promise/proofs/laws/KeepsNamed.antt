-- Ours has `EndNames`: the end line names the smallest faulty place and of its faults the earliest letter. What has no fault is accepted, and
-- nothing else is. Assumes nothing.
use Prim.Native.Nat.{ℕ, ◌≤◌, ◌<◌}
use mathlib.Core.Path.{◌≡◌, refl, sym, ap, ◌∙◌, subst}
use mathlib.Core.Bool.{Bool, true, false, ◌&&◌, ◌||◌}
use mathlib.Core.List.{List, [], ◌∷◌}
use native.Mathlib.Omega.{arith}
use borrow.Author.Tests.{ne_eqb, le-ltb}
use lib.Dec.{ltb, eqb}
use lib.ListN.{length, get_or, take, drop}
use Rattle.count.specs.Pick.{pick}
use Rattle.count.specs.Text.{four_digits}
use Rattle.count.proofs.laws.Truth.{never, and-false, both}
use Rattle.count.proofs.laws.Digits.{four-one}
use Rattle.record.specs.declared.Held.{Held}
use Rattle.record.specs.declared.Record.{Record}
use Rattle.record.specs.Places.{Records, records_of}
use Rattle.record.specs.Places.Records.{are, none-are}
use Rattle.program.specs.Verdict.{Verdict, Sound, Fault, Unreadable}
use Rattle.program.specs.Check.{outside, early, overlaps, holders, strays, letter, checked}
use Rattle.count.specs.Axes.{axes_set}
use Rattle.program.specs.Program.{loop_at, turn_at, target_at, check_of, verdict_on, verdict_of, is_sound, passes, passing, sized, accepted}
use Rattle.program.proofs.laws.Accepting.{sized-so, sized-parts, accepted-parts}
use Rattle.program.proofs.laws.First.{Told, told, first, sound-if}
use Rattle.engine.proofs.laws.Facts.{facts}
use Rattle.board.specs.declared.Board.{Board}
use Rattle.board.specs.State.{Said, said}
use Rattle.board.specs.Storing.{named_fault}
use Rattle.record.specs.Memory.{Memory}
use Rattle.board.specs.Calls.{receiving}
use Rattle.board.proofs.laws.Hears.{sound-engine}
use Rattle.promise.specs.Machine.{ours}
use Rattle.promise.specs.Named.{faulty, Named, Faultless, EndReply, passed, failed, unreadable, EndNames, Right, AcceptedExactly}
use Rattle.promise.proofs.laws.KeepsCalls.{calm-sound}
use Rattle.promise.proofs.laws.KeepsReturn.{out-reply}
use Rattle.promise.proofs.laws.KeepsEnd.{end-heard}

-- ---- the letter of a place, by its five tests

-- the fault that letter k stands for, and the earlier letter of a place
abbrev has : ℕ → Bool → Bool → Bool → Bool → Bool → Bool
has k a b c d e = (eqb k 97 && a) || (eqb k 98 && b) || (eqb k 99 && c) || (eqb k 100 && d) || (eqb k 101 && e)

abbrev least : Bool → Bool → Bool → Bool → Bool → ℕ
least a b c d e = pick a 97 (pick b 98 (pick c 99 (pick d 100 (pick e 101 0))))

-- without any, no letter's
has-none : (k : ℕ) → has k false false false false false ≡ false
has-none k = rw (and-false (eqb k 97), and-false (eqb k 98), and-false (eqb k 99), and-false (eqb k 100), and-false (eqb k 101))

none-by : (k : ℕ) (a b c d e : Bool) → least a b c d e ≡ 0 → has k a b c d e ≡ false
none-by k true b c d e z = absurd (omega arith)
none-by k false true c d e z = absurd (omega arith)
none-by k false false true d e z = absurd (omega arith)
none-by k false false false true e z = absurd (omega arith)
none-by k false false false false true z = absurd (omega arith)
none-by k false false false false false z = has-none k

-- and the other way about
zero-by : (a b c d e : Bool) → ((k : ℕ) → has k a b c d e ≡ false) → least a b c d e ≡ 0
zero-by true b c d e f = never (sym (f 97))
zero-by false true c d e f = never (sym (f 98))
zero-by false false true d e f = never (sym (f 99))
zero-by false false false true e f = never (sym (f 100))
zero-by false false false false true f = never (sym (f 101))
zero-by false false false false false f = refl

-- with some, the least letter's
its-by : (a b c d e : Bool) → (least a b c d e ≡ 0 → ⊥) → has (least a b c d e) a b c d e ≡ true
its-by true b c d e z = refl
its-by false true c d e z = refl
its-by false false true d e z = refl
its-by false false false true e z = refl
its-by false false false false true z = refl
its-by false false false false false z = absurd (z refl)

-- and none of an earlier one
other : (k n : ℕ) → k < n → eqb k n ≡ false
other k n h = ne_eqb k n (λ e. omega arith)

before-by : (k : ℕ) (a b c d e : Bool) → k < least a b c d e → has k a b c d e ≡ false
before-by k true b c d e h = rw (other k 97 h, other k 98 (omega arith), other k 99 (omega arith), other k 100 (omega arith), other k 101 (omega arith))
before-by k false true c d e h =
    rw (and-false (eqb k 97), other k 98 h, other k 99 (omega arith), other k 100 (omega arith), other k 101 (omega arith))
before-by k false false true d e h =
    rw (and-false (eqb k 97), and-false (eqb k 98), other k 99 h, other k 100 (omega arith), other k 101 (omega arith))
before-by k false false false true e h =
    rw (and-false (eqb k 97), and-false (eqb k 98), and-false (eqb k 99), other k 100 h, other k 101 (omega arith))
before-by k false false false false true h =
    rw (and-false (eqb k 97), and-false (eqb k 98), and-false (eqb k 99), and-false (eqb k 100), other k 101 h)
before-by k false false false false false h = absurd (omega arith)

-- ---- the same of a place of a program

module _ (l : List Record) (p : ℕ) where
  abbrev out : Bool
  out = outside (turn_at l) (target_at l) (length l) p

  abbrev low : Bool
  low = early (loop_at l) (target_at l) p

  abbrev over : Bool
  over = overlaps (loop_at l) (target_at l) p

  abbrev deep : Bool
  deep = ltb 7 (holders (loop_at l) (target_at l) (length l) p)

  abbrev astray : Bool
  astray = strays (loop_at l) (turn_at l) (target_at l) (length l) p

  abbrev its : ℕ
  its = letter (loop_at l) (turn_at l) (target_at l) (length l) p

  no-fault : its ≡ 0 → (k : ℕ) → faulty l k p ≡ false
  unfolding faulty letter
  no-fault z k = none-by k out low over deep astray z

  no-letter : ((k : ℕ) → faulty l k p ≡ false) → its ≡ 0
  unfolding faulty letter
  no-letter f = zero-by out low over deep astray f

  its-fault : (its ≡ 0 → ⊥) → faulty l its p ≡ true
  unfolding faulty letter
  its-fault z = its-by out low over deep astray z

  no-earlier : (k : ℕ) → k < its → faulty l k p ≡ false
  unfolding faulty letter
  no-earlier k h = before-by k out low over deep astray h

-- ---- what a verdict says

module _ (l : List Record) where
  meaning : (v : Verdict) → check_of l ≡ v → Told (letter (loop_at l) (turn_at l) (target_at l) (length l)) (length l) 0 v
  unfolding check_of checked
  meaning v e = subst (Told (letter (loop_at l) (turn_at l) (target_at l) (length l)) (length l) 0) e (told (letter (loop_at l) (turn_at l) (target_at l) (length l)) (length l) 0)

  -- SOUND: no place has a fault, and the other way about
  faultless : check_of l ≡ Sound → Faultless l
  faultless e p k h = no-fault l p (meaning Sound e p (omega arith) (omega arith)) k

  found-sound : Faultless l → check_of l ≡ Sound
  unfolding check_of
  found-sound f = sound-if (loop_at l) (turn_at l) (target_at l) (length l) (λ i h. no-letter l i (λ k. f i k h))

  -- A FAULT is the one that is to be named
  found-fault : (a p : ℕ) → check_of l ≡ Fault a p → Named l a p
  unfolding check_of
  found-fault a p e =
      let f = first (loop_at l) (turn_at l) (target_at l) (length l) a p e in
      record {
        place = f.in_field;
        fault = subst (λ (k : ℕ). faulty l k p ≡ true) f.its-letter (its-fault l p (λ z. f.a-fault (sym f.its-letter ∙ z)));
        earliest = λ k h. no-earlier l p k (subst (λ (n : ℕ). k < n) (sym f.its-letter) h);
        smallest = λ q k h. rw (no-fault l q (f.smallest q h) k);
      }

-- ---- EndNames

module _ (h : Held) (store : List ℕ) where
  abbrev sent : Verdict → List ℕ
  sent v = pick (is_sound v) (48 ∷ []) (71 ∷ named_fault v)

  reply-on : (v : Verdict) (l : List Record) → records_of h store ≡ are l → check_of l ≡ v → EndReply h store (sent v)
  reply-on Sound l r e = passed l r (faultless l e) refl
  reply-on (Fault a p) l r e = failed l a p r (found-fault l a p e) refl
  reply-on Unreadable l r e = absurd (meaning l Unreadable e)

  reply-by : (x : Records) → records_of h store ≡ x → EndReply h store (sent (verdict_on x))
  reply-by (are l) r = reply-on (check_of l) l r refl
  reply-by none-are r = unreadable r refl

  end-reply : h.records ≤ 1000 → EndReply h store (sent (verdict_of h store))
  unfolding verdict_of
  end-reply n = rw (le-ltb 1000 h.records n) (reply-by (records_of h store) refl)

sent-by : (x : Bool) (c d : Board) (t u : List ℕ) (mem : Memory) → (pick x (said c t mem) (said d u mem)).reply ≡ pick x t u
sent-by true c d t u mem = refl
sent-by false c d t u mem = refl

pub keeps-end-names : EndNames ours
keeps-end-names ports l s e h =
    let n = (facts s.engine (sound-engine s (calm-sound 13 ports s l h))).records in
    let v = verdict_of s.engine.held l.memory.store in
    let r : take (receiving 13 ports s l).result.len (receiving 13 ports s l).after.reply ≡ pick (is_sound v) (48 ∷ []) (71 ∷ named_fault v) =
    out-reply 13 ports l s h ∙ ap (λ (x : Said). x.reply) (end-heard s ports l.memory e) ∙ sent-by (is_sound v) _ _ (48 ∷ []) (71 ∷ named_fault v) l.memory in
    subst (λ (t : List ℕ). EndReply s.engine.held l.memory.store t) (sym r) (end-reply s.engine.held l.memory.store n)

-- THE SIX CHARACTERS say one letter and one place
pub six-one : (a b p q : ℕ) → p < 10000 → q < 10000 → 71 ∷ a ∷ four_digits p ≡ 71 ∷ b ∷ four_digits q → (a ≡ b) × (p ≡ q)
six-one a b p q h k e = (ap (λ (l : List ℕ). get_or l 1 0) e, four-one p q h k (ap (λ (l : List ℕ). drop 2 l) e))

-- ---- AcceptedExactly

is-sound : (v : Verdict) → is_sound v ≡ true → v ≡ Sound
is-sound Sound e = refl
is-sound (Fault a p) e = never e
is-sound Unreadable e = never e

module _ (h : Held) (store : List ℕ) where
  right_by : (x : Records) → records_of h store ≡ x → sized h ≡ true → axes_set h.axes ≡ true → passing x ≡ true → Right h store
  unfolding passes
  right_by (are l) r z a p =
      let d = sized-parts h z in
      record { bytes = d.0; records = d.1; axes = a; items = l; reads = r; faultless = faultless l (is-sound (check_of l) p) }
  right_by none-are r z a p = never p

  only-right : accepted h store ≡ true → Right h store
  only-right e = let p = accepted-parts h store e in right_by (records_of h store) refl p.0 p.1 p.2

  all_right : Right h store → accepted h store ≡ true
  unfolding accepted passes
  all_right r =
      both (sized-so h r.bytes r.records)
      (both r.axes (ap passing r.reads ∙ ap is_sound (found-sound r.items r.faultless)))

  pub accepted-exactly : AcceptedExactly h store
  accepted-exactly = record { only = only-right; all = all_right }
