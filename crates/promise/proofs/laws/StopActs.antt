-- What counts, and what it says: on a board that never stops, at each moment either a clock call counts or a byte is taken, never both;
-- so as many calls and the same bytes are the same acts.
use Prim.Native.Nat.{ℕ, ◌≤◌}
use native.Mathlib.Omega.{arith}
use mathlib.Core.Bool.{Bool, true, false, not, ◌&&◌, ◌||◌, true≢false}
use mathlib.Core.List.{List, [], ◌∷◌, ◌++◌, tail}
use mathlib.Core.Path.{◌≡◌, refl, sym, ◌∙◌, ap, subst}
use lib.Dec.{ltb}
use lib.ListN.{length}
use Rattle.count.specs.Pick.{pick}
use Rattle.count.specs.Paper.{Paper}
use Rattle.count.proofs.laws.Truth.{and_right}
use Rattle.record.specs.Memory.{Memory}
use Rattle.board.specs.declared.Board.{Board}
use Rattle.promise.specs.Machine.{ours}
use Rattle.promise.proofs.laws.Guard as G
use Rattle.promise.specs.Steps.{reached, shown, Along}
use Rattle.promise.specs.Stop.{Step, receive, call, own, other, is_own, rightly, Mild, in_wait, rests, counts, takes, ahead, answer_of, count_of, byte_of}
use Rattle.promise.proofs.laws.StopSteps.{Act, byte, tick, At, twin, act_of, right, tells, acted, act_answer, our-answer, refused-tick, one_answer}
use Rattle.promise.proofs.laws.StopOne.{keeps, FitAt}

-- ---- what the acts show: the calls, and the bytes

abbrev pub act_count : At → Act → List Step
act_count p (byte v) = []
act_count p tick = call own ∷ []

abbrev pub act_byte : At → Act → List ℕ
act_byte p (byte v) = v ∷ []
act_byte p tick = []

abbrev pub Shows : {A : Type 0} → (At → Step → List A) → (At → Act → List A) → Bool → At → Step → Type 0
Shows told told2 k p e = G.Shows (ahead ours) acted keeps act_of twin FitAt Mild told told2 k p e

none : {A : Type 0} (k : Bool) (told : At → Step → List A) (told2 : At → Act → List A) (p : At) (e : Step) → told p e ≡ [] → told2 (twin p) (act_of e) ≡ [] →
    Shows told told2 k p e
none true told told2 p e h g = h ∙ sym g
none false told told2 p e h g = h

pub shows-count : (p : At) (e : Step) → FitAt p → Mild e → Shows (count_of ours) act_count (keeps p e) p e
shows-count p (receive v ports reply d) f m = none (keeps p (receive v ports reply d)) (count_of ours) act_count p (receive v ports reply d) refl refl
shows-count p (call own) f m = by (counts p.0) refl
  where
    by : (c : Bool) → counts p.0 ≡ c → Shows (count_of ours) act_count c p (call own)
    by true h = rw h
    by false h = rw h
shows-count p (call (other t)) f m = refl

pub shows-byte : (p : At) (e : Step) → FitAt p → Mild e → Shows (byte_of ours) act_byte (keeps p e) p e
shows-byte p (receive v ports reply d) f m = by (keeps p (receive v ports reply d)) refl
  where
    by : (c : Bool) → keeps p (receive v ports reply d) ≡ c → Shows (byte_of ours) act_byte c p (receive v ports reply d)
    by true h = rw h
    by false h = rw h
shows-byte p (call d) f m = none (keeps p (call d)) (byte_of ours) act_byte p (call d) refl refl

awake-told : (s : Bool) (b : Board) (mem : Memory) → b.standing ≡ s → counts b ≡ true → tells (b, mem) ≡ tells (twin (b, mem))
awake-told true b mem q h = absurd (true≢false (sym (rw q at h)))
awake-told false b mem q h = rw q

pick-none : (g : Bool) (l : List Paper) → l ≡ [] → pick g l [] ≡ []
pick-none true l h = h
pick-none false l h = refl

pub shows-answer : (p : At) (e : Step) → FitAt p → Mild e → Shows (answer_of ours) act_answer (keeps p e) p e
shows-answer p (receive v ports reply d) f m = none (keeps p (receive v ports reply d)) (answer_of ours) act_answer p (receive v ports reply d) refl refl
shows-answer p (call (other t)) f m = (refused-tick t p m).1
shows-answer (b, mem) (call own) f m = by (counts b) refl
  where
    by : (c : Bool) → counts b ≡ c → Shows (answer_of ours) act_answer c (b, mem) (call own)
    by true h = our-answer (b, mem) f.short ∙ ap (λ (l : List Paper). pick (right b.engine mem) l []) (awake-told b.standing b mem refl h)
    by false h = our-answer (b, mem) f.short ∙ pick-none (right b.engine mem) (tells (b, mem)) (one_answer b.engine b.line mem b.standing h)

-- ---- an act does something where it is made

abbrev pub Works : At → Act → Type 0
Works p (byte v) = takes p.0 ≡ true
Works p tick = counts p.0 ≡ true

twin-takes : (s k : Bool) → not s && k ≡ true → k ≡ true
twin-takes true k h = absurd (true≢false (sym h))
twin-takes false k h = h

pub works : (p : At) (e : Step) → FitAt p → Mild e → keeps p e ≡ true → Works (twin p) (act_of e)
works p (receive v ports reply d) f m h =
    twin-takes p.0.standing (in_wait p.0 || rests p.0)
    (and_right (ltb v 253) (takes p.0) (and_right (rightly (receive v ports reply d)) (ltb v 253 && takes p.0) h))
works p (call d) f m h = twin-takes p.0.standing (not (in_wait p.0 || rests p.0)) (and_right (is_own d) (counts p.0) h)

pub apart : (b : Board) → counts b ≡ true → takes b ≡ true → ⊥
apart b c t = by b.standing (in_wait b || rests b) c t
  where
    by : (s k : Bool) → not s && not k ≡ true → not s && k ≡ true → ⊥
    by true k c t = true≢false (sym c)
    by false true c t = true≢false (sym c)
    by false false c t = true≢false (sym t)

-- ---- the acts are determined

abbrev calls : At → List Act → ℕ
calls s xs = length (shown acted act_count s xs)

abbrev bytes : At → List Act → List ℕ
bytes s xs = shown acted act_byte s xs

abbrev first_of : List ℕ → ℕ
first_of [] = 0
first_of (x ∷ l) = x

abbrev IsFilled : List ℕ → Type 0
IsFilled [] = ⊥
IsFilled (x ∷ l) = Unit

-- as many calls and the same bytes
pub determined : (s : At) (xs ys : List Act) → Along acted Works s xs → Along acted Works s ys → calls s xs ≡ calls s ys → bytes s xs ≡ bytes s ys → xs ≡ ys
unfolding shown
determined s [] [] f g c h = refl
determined s [] (tick ∷ ys) f g c h = absurd (omega arith)
determined s [] (byte w ∷ ys) f g c h = absurd (subst IsFilled (sym h) tt)
determined s (tick ∷ xs) [] f g c h = absurd (omega arith)
determined s (byte v ∷ xs) [] f g c h = absurd (subst IsFilled h tt)
determined s (tick ∷ xs) (tick ∷ ys) f g c h = ap (λ (l : List Act). tick ∷ l) (determined (acted s tick) xs ys f.1 g.1 (omega arith) h)
determined s (tick ∷ xs) (byte w ∷ ys) f g c h = absurd (apart s.0 f.0 g.0)
determined s (byte v ∷ xs) (tick ∷ ys) f g c h = absurd (apart s.0 g.0 f.0)
determined s (byte v ∷ xs) (byte w ∷ ys) f g c h =
    subst (λ (u : ℕ). Along acted Works s (byte u ∷ ys) → calls s (byte v ∷ xs) ≡ calls s (byte u ∷ ys) → bytes s (byte v ∷ xs) ≡ bytes s (byte u ∷ ys) →
    byte v ∷ xs ≡ byte u ∷ ys)
    (ap first_of h)
    (λ g' c' h'. ap (λ (l : List Act). byte v ∷ l) (determined (acted s (byte v)) xs ys f.1 g'.1 c' (ap tail h')))
    g c h

-- the same bytes, and both followed until no call counts
pub determined-over : (s : At) (xs ys : List Act) → Along acted Works s xs → Along acted Works s ys →
    takes (reached acted s xs).0 ≡ true → takes (reached acted s ys).0 ≡ true → bytes s xs ≡ bytes s ys → xs ≡ ys
unfolding shown reached
determined-over s [] [] f g o q h = refl
determined-over s [] (tick ∷ ys) f g o q h = absurd (apart s.0 g.0 o)
determined-over s [] (byte w ∷ ys) f g o q h = absurd (subst IsFilled (sym h) tt)
determined-over s (tick ∷ xs) [] f g o q h = absurd (apart s.0 f.0 q)
determined-over s (byte v ∷ xs) [] f g o q h = absurd (subst IsFilled h tt)
determined-over s (tick ∷ xs) (tick ∷ ys) f g o q h = ap (λ (l : List Act). tick ∷ l) (determined-over (acted s tick) xs ys f.1 g.1 o q h)
determined-over s (tick ∷ xs) (byte w ∷ ys) f g o q h = absurd (apart s.0 f.0 g.0)
determined-over s (byte v ∷ xs) (tick ∷ ys) f g o q h = absurd (apart s.0 g.0 f.0)
determined-over s (byte v ∷ xs) (byte w ∷ ys) f g o q h =
    subst (λ (u : ℕ). Along acted Works s (byte u ∷ ys) → takes (reached acted s (byte u ∷ ys)).0 ≡ true → bytes s (byte v ∷ xs) ≡ bytes s (byte u ∷ ys) →
    byte v ∷ xs ≡ byte u ∷ ys)
    (ap first_of h)
    (λ g' q' h'. ap (λ (l : List Act). byte v ∷ l) (determined-over (acted s (byte v)) xs ys f.1 g'.1 o q' (ap tail h')))
    g q h

-- at most as many calls, and the bytes begin the same: the one begins the other
pub record Begun (xs ys : List Act) : Type 0 where
  pub more : List Act
  pub joins : ys ≡ xs ++ more

one_more : (a : Act) (xs ys : List Act) → Begun xs ys → Begun (a ∷ xs) (a ∷ ys)
one_more a xs ys b = record { more = b.more; joins = ap (λ (l : List Act). a ∷ l) b.joins }

pub determined-begun : (s : At) (xs ys : List Act) (later : List ℕ) → Along acted Works s xs → Along acted Works s ys →
    calls s xs ≤ calls s ys → bytes s ys ≡ bytes s xs ++ later → Begun xs ys
unfolding shown
determined-begun s [] ys later f g c h = record { more = ys; joins = refl }
determined-begun s (tick ∷ xs) [] later f g c h = absurd (omega arith)
determined-begun s (byte v ∷ xs) [] later f g c h = absurd (subst IsFilled (sym h) tt)
determined-begun s (tick ∷ xs) (tick ∷ ys) later f g c h = one_more tick xs ys (determined-begun (acted s tick) xs ys later f.1 g.1 (omega arith) h)
determined-begun s (tick ∷ xs) (byte w ∷ ys) later f g c h = absurd (apart s.0 f.0 g.0)
determined-begun s (byte v ∷ xs) (tick ∷ ys) later f g c h = absurd (apart s.0 g.0 f.0)
determined-begun s (byte v ∷ xs) (byte w ∷ ys) later f g c h =
    subst (λ (u : ℕ). Along acted Works s (byte u ∷ ys) → calls s (byte v ∷ xs) ≤ calls s (byte u ∷ ys) →
    bytes s (byte u ∷ ys) ≡ bytes s (byte v ∷ xs) ++ later → Begun (byte v ∷ xs) (byte u ∷ ys))
    (sym (ap first_of h))
    (λ g' c' h'. one_more (byte v) xs ys (determined-begun (acted s (byte v)) xs ys later f.1 g'.1 c' (ap tail h')))
    g c h
