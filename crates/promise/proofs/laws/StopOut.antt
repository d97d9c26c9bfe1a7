-- The same schedule never stopped: a schedule without its stops, all that comes while it stands, dropped bytes, and calls refused for what
-- is lent is a schedule too, counts the same and never stands (see `StopsCanBeLeftOut` in `Stop.antt`). So every stopped run is the same as
-- one that is never stopped.
use mathlib.Core.Bool.{Bool, true, false, not, ◌&&◌, ◌||◌, true≢false}
use mathlib.Core.List.{List, [], ◌∷◌}
use mathlib.Core.Path.{◌≡◌, refl, sym, ◌∙◌, ap, subst}
use borrow.Author.Tests.{ltb-true}
use lib.Dec.{ltb}
use lib.ListN.{length}
use Rattle.count.specs.Pick.{pick}
use Rattle.count.proofs.laws.Truth.{never, and_left, and_right}
use Rattle.record.specs.Memory.{Memory}
use Rattle.board.specs.declared.Board.{Board}
use Rattle.promise.specs.Machine.{ours}
use Rattle.promise.proofs.laws.Guard as G
use Rattle.promise.specs.Steps.{Each, reached, shown, Along, kept_of, cons_if}
use Rattle.promise.specs.Stop.{Step, receive, call, own, other, is_own, rightly, Mild, Mildly, in_wait, rests, takes, ahead, count_of, byte_of, stays, unstopped, Unstopped, Begun, Same, StopsCanBeLeftOut}
use Rattle.promise.proofs.laws.StopQuiet.{twin-of}
use Rattle.promise.proofs.laws.StopSteps.{At, twin, act_of, right, ticks, acted, our-tick, Result}
use Rattle.promise.proofs.laws.StopOne.{keeps, FitAt, awake, result}
use Rattle.promise.proofs.laws.StopLaws.{fits, ours-stop}

abbrev out : At → Step → Bool
out p e = stays ours p e

not-true : (s : Bool) → not s ≡ true → s ≡ false
not-true true h = absurd (true≢false (sym h))
not-true false h = refl

not-false : (s : Bool) → not s ≡ false → s ≡ true
not-false true h = refl
not-false false h = absurd (true≢false h)

-- a step that stays comes while nothing stands, and nothing stands afterwards
before : (p : At) (e : Step) → out p e ≡ true → p.0.standing ≡ false
before p (receive v ports reply d) h = awake p (receive v ports reply d) h
before p (call d) h = not-true p.0.standing (and_right (is_own d) (not p.0.standing) h)

afterwards : (p : At) (e : Step) → FitAt p → Mild e → out p e ≡ true → (ahead ours p e).0.standing ≡ false
afterwards p (receive v ports reply d) f m h =
    let e : Step = receive v ports reply d in
    let r : Result true p (acted (twin p) (act_of e)) (ahead ours p e) =
    subst (λ (k : Bool). Result k p (acted (twin p) (act_of e)) (ahead ours p e)) h (result p e f m) in
    r.2
afterwards p (call (other t)) f m h = never h
afterwards p (call own) f m h =
    subst (λ (q : At). q.0.standing ≡ false) (sym (our-tick p f.short))
    (either (right p.0.engine p.1) (ticks p) p (ticks-awake p.0 p.1 p.0.standing refl (before p (call own) h)) (before p (call own) h))
  where
    either : (g : Bool) (q r : At) → q.0.standing ≡ false → r.0.standing ≡ false → (pick {A = At} g q r).0.standing ≡ false
    either true q r h k = h
    either false q r h k = k

    ticks-awake : (b : Board) (mem : Memory) (s : Bool) → b.standing ≡ s → b.standing ≡ false → (ticks (b, mem)).0.standing ≡ false
    ticks-awake b mem true q k = absurd (true≢false (sym q ∙ k))
    ticks-awake b mem false q k = rw q

same-twin : (p : At) → p.0.standing ≡ false → twin p ≡ p
same-twin p h = λ i. (twin-of p.0 h i, p.1)

-- ---- one step beside the same machine never stopped

abbrev Moves : Bool → At → Step → Type 0
Moves k p e = G.Moves (ahead ours) (ahead ours) out (λ d. d) twin FitAt Mild k p e

-- what does not stay does not count
dropped : (p : At) (e : Step) → out p e ≡ false → keeps p e ≡ false
dropped p (receive v ports reply d) h = h
dropped p (call (other t)) h = refl
dropped p (call own) h = by p.0.standing (not (in_wait p.0 || rests p.0)) (not-false p.0.standing h)
  where
    by : (s k : Bool) → s ≡ true → not s && k ≡ false
    by true k q = refl
    by false k q = absurd (true≢false (sym q))

one : (p : At) (e : Step) → FitAt p → Mild e → Moves (out p e) p e × FitAt (ahead ours p e)
one p e f m = by (out p e) refl
  where
    fit : (k : Bool) → Result k p (acted (twin p) (act_of e)) (ahead ours p e) → FitAt (ahead ours p e)
    fit true r = r.1
    fit false r = r.1

    by : (k : Bool) → out p e ≡ k → Moves k p e × FitAt (ahead ours p e)
    by true h = (
      ap (λ (q : At). ahead ours q e) (same-twin p (before p e h)) ∙ sym (same-twin (ahead ours p e) (afterwards p e f m h)),
      fit (keeps p e) (result p e f m),
    )
    by false h =
        let r : Result false p (acted (twin p) (act_of e)) (ahead ours p e) =
        subst (λ (k : Bool). Result k p (acted (twin p) (act_of e)) (ahead ours p e)) (dropped p e h) (result p e f m) in
        (r.0, r.1)

-- what a step shows that stays, it shows there too; what does not stay shows nothing
module _ {A : Type 0} (told : At → Step → List A) (none : (p : At) (e : Step) → FitAt p → keeps p e ≡ false → told p e ≡ []) where
  shows : (p : At) (e : Step) → FitAt p → Mild e → G.Shows (ahead ours) (ahead ours) out (λ d. d) twin FitAt Mild told told (out p e) p e
  shows p e f m = by (out p e) refl
    where
      by : (k : Bool) → out p e ≡ k → G.Shows (ahead ours) (ahead ours) out (λ d. d) twin FitAt Mild told told k p e
      by true h = ap (λ (q : At). told q e) (sym (same-twin p (before p e h)))
      by false h = none p e f (dropped p e h)

  same_out : (p : At) (es : List Step) → FitAt p → Mildly es → shown (ahead ours) told p es ≡ shown (ahead ours) told (twin p) (unstopped ours p es)
  same_out p es f m = G.same-shown (ahead ours) (ahead ours) out (λ d. d) twin FitAt Mild one told told shows p es f m

no-count : (p : At) (e : Step) → FitAt p → keeps p e ≡ false → count_of ours p e ≡ []
no-count p (receive v ports reply d) f h = refl
no-count p (call d) f h = rw h

no_byte : (p : At) (e : Step) → FitAt p → keeps p e ≡ false → byte_of ours p e ≡ []
no_byte p (receive v ports reply d) f h = rw h
no_byte p (call d) f h = refl

-- ---- THEOREM 2

mild-out : (p : At) (es : List Step) → Mildly es → Mildly (unstopped ours p es)
unfolding kept_of
mild-out p [] m = tt
mild-out p (e ∷ es) (m, ms) = by (out p e) (unstopped ours (ahead ours p e) es) (mild-out (ahead ours p e) es ms)
  where
    by : (k : Bool) (fs : List Step) → Mildly fs → Mildly (cons_if k e fs)
    by true fs h = (m, h)
    by false fs h = h

ordinary : (p : At) (e : Step) → out p e ≡ true → Unstopped e
ordinary p (receive v ports reply d) h =
    ltb-true v 253 (and_left (ltb v 253) (takes p.0) (and_right (rightly (receive v ports reply d)) (ltb v 253 && takes p.0) h))
ordinary p (call d) h = tt

no_stop : (p : At) (es : List Step) → Each Unstopped (unstopped ours p es)
unfolding kept_of
no_stop p [] = tt
no_stop p (e ∷ es) = by (out p e) (unstopped ours (ahead ours p e) es) (ordinary p e) (no_stop (ahead ours p e) es)
  where
    by : (k : Bool) (fs : List Step) → (k ≡ true → Unstopped e) → Each Unstopped fs → Each Unstopped (cons_if k e fs)
    by true fs q h = (q refl, h)
    by false fs q h = h

pub ours-unstopped : StopsCanBeLeftOut ours
ours-unstopped p es b m =
    let f = fits p.0 b.line in
    let t = same-twin p b.standing in
    let fs = unstopped ours p es in
    record {
      mild = mild-out p es m;
      unstopped = no_stop p es;
      counted = sym (ap (λ (l : List Step). length l) (same_out (count_of ours) no-count p es f m ∙ ap (λ (q : At). shown (ahead ours) (count_of ours) q fs) t));
      taken = sym (same_out (byte_of ours) no_byte p es f m ∙ ap (λ (q : At). shown (ahead ours) (byte_of ours) q fs) t);
      stands =
          subst (λ (q : At). Along (ahead ours) (λ (r : At) (e : Step). r.0.standing ≡ false) q fs) t
          (G.all-along (ahead ours) (ahead ours) out (λ d. d) twin FitAt Mild one (λ q e. q.0.standing ≡ false) (λ q e g n h. refl) p es f m);
      last =
          ap (λ (q : At). q.0.standing) (sym (G.same-state (ahead ours) (ahead ours) out (λ d. d) twin FitAt Mild one p es f m
          ∙ ap (λ (q : At). reached (ahead ours) q fs) t));
    }

-- so every run is the same as one that is never stopped
pub ours-as-unstopped : (p : At) (es : List Step) → Begun ours p → Mildly es → Same ours p es (unstopped ours p es)
ours-as-unstopped p es b m =
    let h = ours-unstopped p es b m in
    ours-stop p es (unstopped ours p es) b m h.mild (sym h.counted) (sym h.taken)
