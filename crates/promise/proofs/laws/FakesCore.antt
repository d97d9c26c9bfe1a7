-- A fake that is ours up to the first stop and afterwards shows another board or gives other answers (`sinceStop`) makes our steps,
-- whatever it shows: its places, and what of its schedules counts, are ours. Assumes nothing.
use mathlib.Core.Bool.{Bool, true, false, ◌&&◌}
use mathlib.Core.List.{List, [], ◌∷◌}
use mathlib.Core.Path.{◌≡◌, refl, ◌∙◌, ap}
use lib.Dec.{leb, ltb}
use lib.ListN.{length}
use Rattle.count.specs.Pick.{pick}
use Rattle.count.specs.Paper.{Paper}
use Rattle.board.specs.declared.Board.{Board}
use Rattle.promise.specs.Machine.{Machine, Clocked, ours}
use Rattle.promise.specs.Steps.{Each, shown, kept_of}
use Rattle.promise.specs.Stop.{Step, receive, call, own, other, counts, takes, spoken, Place, ahead, answer_of, count_of, byte_of, is_own, last, answers, counted, taken}
use Rattle.promise.specs.Fakes.{since_stop, told_as}
use Rattle.promise.proofs.laws.Guard as G

abbrev pub At : Type 0
At = Place ours

abbrev Any : {A : Type 0} → A → Type 0
Any a = Unit

any : (es : List Step) → Each {E = Step} Any es
any [] = tt
any (e ∷ es) = (tt, any es)

shown-as : (shows : Board → Board) (P : Board → Bool) → ((b : Board) → P (shows b) ≡ P b) → (flag : Bool) (b : Board) → P (pick flag (shows b) b) ≡ P b
shown-as shows P h true b = h b
shown-as shows P h false b = refl

told-as : (tells : Paper → Paper) → ((a : Paper) → tells a ≡ a) → (flag : Bool) (c : Clocked) → (pick flag (told_as tells c) c).answer ≡ c.answer
told-as tells h true c = h c.answer
told-as tells h false c = refl

module _ (shows : Board → Board) (tells : Paper → Paper) where
  abbrev fake : Machine
  fake = since_stop shows tells

  -- what it is without its flag
  abbrev pub core : Place fake → At
  core p = (p.0.0, p.1)

  abbrev always : Place fake → Step → Bool
  always p e = true

  one : (p : Place fake) (e : Step) → Any p → Any e → G.Moves (ahead fake) (ahead ours) always (λ d. d) core Any Any (always p e) p e × Any (ahead fake p e)
  one p (receive v ports reply own) f m = (refl, tt)
  one p (receive v ports reply (other t)) f m = (refl, tt)
  one p (call own) f m = (refl, tt)
  one p (call (other t)) f m = (refl, tt)

  all : (p : Place fake) (es : List Step) → kept_of (ahead fake) always (λ d. d) p es ≡ es
  unfolding kept_of
  all p [] = refl
  all p (e ∷ es) = ap (λ (l : List Step). e ∷ l) (all (ahead fake p e) es)

  pub core-last : (p : Place fake) (es : List Step) → core (last fake p es) ≡ last ours (core p) es
  core-last p es =
      G.same-state (ahead fake) (ahead ours) always (λ d. d) core Any Any one p es tt (any es)
      ∙ ap (λ (l : List Step). last ours (core p) l) (all p es)

  -- what each step shows alike is alike of all
  core-shown : {A : Type 0} (told : Place fake → Step → List A) (told2 : At → Step → List A) → ((p : Place fake) (e : Step) → told p e ≡ told2 (core p) e)
      → (p : Place fake) (es : List Step) → shown (ahead fake) told p es ≡ shown (ahead ours) told2 (core p) es
  core-shown told told2 h p es =
      G.same-shown (ahead fake) (ahead ours) always (λ d. d) core Any Any one told told2 (λ q e f m. h q e) p es tt (any es)
      ∙ ap (λ (l : List Step). shown (ahead ours) told2 (core p) l) (all p es)

  -- a board shown takes and counts what the true one does
  module _ (same_takes : (b : Board) → takes (shows b) ≡ takes b) where
    shows-byte : (p : Place fake) (e : Step) → byte_of fake p e ≡ byte_of ours (core p) e
    shows-byte p (receive v ports reply d) =
        ap (λ (t : Bool). pick ((leb 32 (length reply) && is_own d) && (ltb v 253 && t)) (v ∷ []) []) (shown-as shows takes same_takes p.0.1 p.0.0)
    shows-byte p (call d) = refl

    pub core-taken : (p : Place fake) (es : List Step) → taken fake p es ≡ taken ours (core p) es
    core-taken p es = core-shown (byte_of fake) (byte_of ours) shows-byte p es

  module _ (same-counts : (b : Board) → counts (shows b) ≡ counts b) where
    shows-count : (p : Place fake) (e : Step) → count_of fake p e ≡ count_of ours (core p) e
    shows-count p (receive v ports reply d) = refl
    shows-count p (call d) =
        ap (λ (t : Bool). pick (is_own d && t) (call own ∷ []) []) (shown-as shows counts same-counts p.0.1 p.0.0)

    pub core-counted : (p : Place fake) (es : List Step) → counted fake p es ≡ counted ours (core p) es
    core-counted p es = ap (λ (l : List Step). length l) (core-shown (count_of fake) (count_of ours) shows-count p es)

  module _ (same-told : (a : Paper) → tells a ≡ a) where
    shows-answer : (p : Place fake) (e : Step) → answer_of fake p e ≡ answer_of ours (core p) e
    shows-answer p (receive v ports reply d) = refl
    shows-answer p (call own) = ap (λ (a : Paper). spoken a) (told-as tells same-told p.0.1 (ours.tick p.1 p.0.0).1)
    shows-answer p (call (other t)) = ap (λ (a : Paper). spoken a) (told-as tells same-told p.0.1 (ours.tick t p.0.0).1)

    pub core-answers : (p : Place fake) (es : List Step) → answers fake p es ≡ answers ours (core p) es
    core-answers p es = core-shown (answer_of fake) (answer_of ours) shows-answer p es
