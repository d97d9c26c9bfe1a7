-- Our machine keeps demand 3 (see `Stop.antt`), for every schedule. Nothing is assumed: a call that the board refuses is a step like any
-- other, refused with a stop or without.
use Prim.Native.Nat.{ℕ, ◌≤◌}
use mathlib.Core.Bool.{Bool, true, false, not, ◌&&◌, ◌||◌, true≢false}
use mathlib.Core.List.{List, [], ◌∷◌, ◌++◌, map, append_assoc}
use mathlib.Core.Path.{◌≡◌, refl, sym, ◌∙◌, ap, subst}
use lib.IntN.{ℤ}
use lib.ListN.{length}
use Rattle.count.specs.Paper.{Paper}
use Rattle.board.specs.declared.Line.{Line}
use Rattle.board.specs.declared.Board.{Board}
use Rattle.board.specs.State.{board, no_line}
use Rattle.promise.specs.Machine.{Machine, ours}
use Rattle.promise.proofs.laws.Guard as G
use Rattle.promise.specs.Steps.{reached, shown, Along, kept_of}
use Rattle.promise.proofs.laws.Guard.{shown-join}
use Rattle.promise.specs.Stop.{Step, Mild, Mildly, in_wait, rests, takes, over, unsped, speed_of, speeds_of, final, Place, ahead, answer_of, count_of, byte_of, last, answers, counted, taken, Same, Begins, StopChangesNothing, SameWhenOver, SameAsFarAsFollowed}
use Rattle.promise.proofs.laws.StopBoard.{twin_board, Fit, fit_of}
use Rattle.promise.proofs.laws.StopSteps.{Act, At, twin, act_of, acted, act_answer}
use Rattle.promise.proofs.laws.StopOne.{keeps, FitAt, one}
use Rattle.promise.proofs.laws.StopActs.{Works, works, act_count, act_byte, shows-count, shows-byte, shows-answer, determined, determined-over, determined-begun}
use Rattle.promise.proofs.laws.StopActs.{Begun as Starts}

-- what counts of a schedule
abbrev pub acts : At → List Step → List Act
acts p es = kept_of (ahead ours) keeps act_of p es

pub fits : (b : Board) → b.line ≡ no_line → Fit b
fits b h = subst (λ (l : Line). Fit (board b.engine b.standing l)) (sym h) (fit_of b.engine b.standing)

module _ (p : At) (es : List Step) (f : FitAt p) (m : Mildly es) where
  pub state-by : twin (last ours p es) ≡ reached acted (twin p) (acts p es)
  state-by = G.same-state (ahead ours) acted keeps act_of twin FitAt Mild one p es f m

  pub answers_by : answers ours p es ≡ shown acted act_answer (twin p) (acts p es)
  answers_by = G.same-shown (ahead ours) acted keeps act_of twin FitAt Mild one (answer_of ours) act_answer shows-answer p es f m

  calls_by : shown (ahead ours) (count_of ours) p es ≡ shown acted act_count (twin p) (acts p es)
  calls_by = G.same-shown (ahead ours) acted keeps act_of twin FitAt Mild one (count_of ours) act_count shows-count p es f m

  counted-by : counted ours p es ≡ length (shown acted act_count (twin p) (acts p es))
  counted-by = ap (λ (l : List Step). length l) calls_by

  taken-by : taken ours p es ≡ shown acted act_byte (twin p) (acts p es)
  taken-by = G.same-shown (ahead ours) acted keeps act_of twin FitAt Mild one (byte_of ours) act_byte shows-byte p es f m

  works-by : Along acted Works (twin p) (acts p es)
  works-by = G.all-along (ahead ours) acted keeps act_of twin FitAt Mild one Works works p es f m

-- ---- THEOREM 1: the same list of clock answers other than nothing, the same engine and the same memory

pub record Alike (p : At) (es fs : List Step) : Type 0 where
  pub answers : answers ours p es ≡ answers ours p fs
  pub last : twin (last ours p es) ≡ twin (last ours p fs)

pub same_of : (p : At) (es fs : List Step) → Alike p es fs → Same ours p es fs
same_of p es fs a = record {
  axes = ap (λ (l : List Paper). map unsped l) a.answers;
  speeds = ap speeds_of a.answers;
  engine = ap (λ (q : At). final q.0) a.last;
  memory = ap (λ (q : At). q.1) a.last;
}

module _ (p : At) (es fs : List Step) (f : FitAt p) (m : Mildly es) (n : Mildly fs) where
  alike : acts p es ≡ acts p fs → Alike p es fs
  alike h = record {
    answers = answers_by p es f m ∙ ap (λ (l : List Act). shown acted act_answer (twin p) l) h ∙ sym (answers_by p fs f n);
    last = state-by p es f m ∙ ap (λ (l : List Act). reached acted (twin p) l) h ∙ sym (state-by p fs f n);
  }

  pub same-run : counted ours p es ≡ counted ours p fs → taken ours p es ≡ taken ours p fs → Alike p es fs
  same-run c t =
      alike (determined (twin p) (acts p es) (acts p fs) (works-by p es f m) (works-by p fs f n)
      (sym (counted-by p es f m) ∙ c ∙ counted-by p fs f n) (sym (taken-by p es f m) ∙ t ∙ taken-by p fs f n))

  over_by : (gs : List Step) → Mildly gs → over (last ours p gs).0 ≡ true → takes (reached acted (twin p) (acts p gs)).0 ≡ true
  over_by gs k o = subst (λ (q : At). takes q.0 ≡ true) (state-by p gs f k) (awake (last ours p gs).0 (last ours p gs).0.standing o)
    where
      awake : (b : Board) (s : Bool) → not s && (in_wait b || rests b) ≡ true → takes (twin_board b) ≡ true
      awake b true h = absurd (true≢false (sym h))
      awake b false h = h

  pub same_over : over (last ours p es).0 ≡ true → over (last ours p fs).0 ≡ true → taken ours p es ≡ taken ours p fs → Alike p es fs
  same_over o q t =
      alike (determined-over (twin p) (acts p es) (acts p fs) (works-by p es f m) (works-by p fs f n) (over_by es m o) (over_by fs n q)
      (sym (taken-by p es f m) ∙ t ∙ taken-by p fs f n))

  -- the longer schedule's answers begin with the shorter one's
  pub same-begin : (later : List ℕ) → counted ours p es ≤ counted ours p fs → taken ours p fs ≡ taken ours p es ++ later →
      (more : List Paper) × (answers ours p fs ≡ answers ours p es ++ more)
  same-begin later c t =
      let h : Starts (acts p es) (acts p fs) =
      determined-begun (twin p) (acts p es) (acts p fs) later (works-by p es f m) (works-by p fs f n)
      (rw (counted-by p es f m, counted-by p fs f n) at c)
      (sym (taken-by p fs f n) ∙ t ∙ ap (λ (l : List ℕ). l ++ later) (taken-by p es f m)) in (
        shown acted act_answer (reached acted (twin p) (acts p es)) h.more,
        answers_by p fs f n ∙ ap (λ (l : List Act). shown acted act_answer (twin p) l) h.joins
            ∙ shown-join acted act_answer (twin p) (acts p es) h.more
            ∙ ap (λ (l : List Paper). l ++ shown acted act_answer (reached acted (twin p) (acts p es)) h.more) (sym (answers_by p es f m)),
      )

-- ---- DEMAND 3

pub ours-stop : StopChangesNothing ours
ours-stop p es fs b m n c t = same_of p es fs (same-run p es fs (fits p.0 b.line) m n c t)

-- for a run that ends
pub ours-over : SameWhenOver ours
ours-over p es fs b m n o q t = same_of p es fs (same_over p es fs (fits p.0 b.line) m n o q t)

map-join : (f : Paper → Paper) (l k : List Paper) → map f (l ++ k) ≡ map f l ++ map f k
map-join f [] k = refl
map-join f (a ∷ l) k = ap (λ (r : List Paper). f a ∷ r) (map-join f l k)

speeds-join : (l k : List Paper) → speeds_of (l ++ k) ≡ speeds_of l ++ speeds_of k
speeds-join [] k = refl
speeds-join (a ∷ l) k =
    let v : List ℤ = speed_of a in
    ap (λ (r : List ℤ). v ++ r) (speeds-join l k) ∙ sym (append_assoc v (speeds_of l) (speeds_of k))

-- of any machine: answers that begin with others begin with their axes and with their speeds
pub begins-of : (m : Machine) (p : Place m) (es fs : List Step) (more : List Paper) → answers m p fs ≡ answers m p es ++ more → Begins m p es fs
begins-of m p es fs more h = record {
  more_axes = map unsped more;
  more_speeds = speeds_of more;
  axes = ap (λ (l : List Paper). map unsped l) h ∙ map-join unsped (answers m p es) more;
  speeds = ap speeds_of h ∙ speeds-join (answers m p es) more;
}

-- as a prefix, for a run without end
pub ours-followed : SameAsFarAsFollowed ours
ours-followed p es fs later b m n c t =
    let h = same-begin p es fs (fits p.0 b.line) m n later c t in
    begins-of ours p es fs h.0 h.1
