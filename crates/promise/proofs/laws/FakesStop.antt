-- Where one demand alone does not shut 01's fourth fake out. With the positions claimed it has demand 3 for every run that ends and for every
-- run without end, and fails the sum of the pulses (demand 2). With the pulses muted it fails demand 3 by its pulses alone: its boards and
-- memories, so its last positions, origins and outputs, are ours at every moment. Assumes nothing.
use mathlib.Core.Bool.{Bool, true, false, not, ◌&&◌, ◌||◌, true≢false}
use mathlib.Core.List.{List, ◌++◌, map}
use mathlib.Core.Path.{◌≡◌, refl, sym, ◌∙◌, ap}
use Prim.Native.Nat.{ℕ, ◌≤◌}
use Rattle.count.specs.Pick.{pick}
use Rattle.count.specs.Paper.{Paper}
use Rattle.engine.specs.declared.Job.{Job}
use Rattle.engine.specs.declared.Job.TheVariants as job
use Rattle.engine.specs.State.{with_at}
use Rattle.board.specs.declared.Board.{Board}
use Rattle.board.specs.State.{board, no_line}
use Rattle.promise.specs.Machine.{ours}
use Rattle.promise.specs.Demands.{is_waiting}
use Rattle.promise.specs.Stop.{Step, Mildly, rests_by, takes, over, unsped, speeds_of, final, Place, board_at, last, answers, counted, taken, Begun, SameWhenOver, SameAsFarAsFollowed}
use Rattle.promise.specs.Three.{Equals, Agrees, Never}
use Rattle.promise.specs.Fakes.{claimed, claim, claims, muted, mutes}
use Rattle.promise.proofs.laws.StopLaws.{Alike, fits, same_over, same-begin, begins-of}
use Rattle.promise.proofs.laws.ThreeLaws.{equals, agrees}
use Rattle.promise.proofs.laws.FakesCore as C
use Rattle.promise.proofs.laws.FakesCore.{At}

-- ---- positions claimed

abbrev core : Place claims → At
core p = (p.0.0, p.1)

module _ (p : Place claims) (es : List Step) where
  core-last : core (last claims p es) ≡ last ours (core p) es
  core-last = C.core-last claim (λ a. a) p es

  core-answers : answers claims p es ≡ answers ours (core p) es
  core-answers = C.core-answers claim (λ a. a) (λ a. refl) p es

  core-taken : taken claims p es ≡ taken ours (core p) es
  core-taken = C.core-taken claim (λ a. a) (λ b. refl) p es

  core-counted : counted claims p es ≡ counted ours (core p) es
  core-counted = C.core-counted claim (λ a. a) (λ b. refl) p es

claim-takes : (flag : Bool) (b : Board) → takes (pick flag (claim b) b) ≡ takes b
claim-takes true b = refl
claim-takes false b = refl

-- when the run is over it shows our board
over-shows : (flag : Bool) (b : Board) (s : Bool) (j : Job) → b.engine.run.job ≡ j → not s && (is_waiting j || rests_by j) ≡ true →
    final (pick flag (claim b) b) ≡ final b
over-shows false b s j q h = refl
over-shows true b true j q h = absurd (true≢false (sym h))
over-shows true b false job.Idle q h = ap (λ (i : Job). final (board (with_at b.engine (claimed i b.engine.at)) b.standing b.line)) q
over-shows true b false job.Storing q h = ap (λ (i : Job). final (board (with_at b.engine (claimed i b.engine.at)) b.standing b.line)) q
over-shows true b false (job.Direct m) q h = absurd (true≢false (sym h))
over-shows true b false job.Ready q h = absurd (true≢false (sym h))
over-shows true b false (job.Moving m) q h = absurd (true≢false (sym h))
over-shows true b false (job.Delay n) q h = absurd (true≢false (sym h))
over-shows true b false (job.Wait c t) q h = ap (λ (i : Job). final (board (with_at b.engine (claimed i b.engine.at)) b.standing b.line)) q

claim-line : (flag : Bool) (b : Board) → (pick flag (claim b) b).line ≡ no_line → b.line ≡ no_line
claim-line true b h = h
claim-line false b h = h

module _ (p : Place claims) (es : List Step) (o : over (board_at claims (last claims p es)) ≡ true) where
  abbrev b : Board
  b = (last claims p es).0.0

  over-core : over (last claims p es).0.0 ≡ true
  over-core = sym (claim-takes (last claims p es).0.1 (last claims p es).0.0) ∙ o

  over-ours : over (last ours (core p) es).0 ≡ true
  over-ours = ap (λ (q : At). over q.0) (sym (core-last p es)) ∙ over-core

  shows-ours : final (board_at claims (last claims p es)) ≡ final (last ours (core p) es).0
  shows-ours = over-shows (last claims p es).0.1 b b.standing b.engine.run.job refl over-core ∙ ap (λ (q : At). final q.0) (core-last p es)

claims-over : SameWhenOver claims
claims-over p es fs g m n o q t =
    let a : Alike (core p) es fs =
    same_over (core p) es fs (fits p.0.0 (claim-line p.0.1 p.0.0 g.line)) m n (over-ours p es o) (over-ours p fs q)
    (sym (core-taken p es) ∙ t ∙ core-taken p fs) in
    let k : answers claims p es ≡ answers claims p fs = core-answers p es ∙ a.answers ∙ sym (core-answers p fs) in
    record {
      axes = ap (λ (l : List Paper). map unsped l) k;
      speeds = ap speeds_of k;
      engine = shows-ours p es o ∙ ap (λ (r : At). final r.0) a.last ∙ sym (shows-ours p fs q);
      memory = ap (λ (r : At). r.1) (core-last p es) ∙ ap (λ (r : At). r.1) a.last ∙ sym (ap (λ (r : At). r.1) (core-last p fs));
    }

claims-followed : SameAsFarAsFollowed claims
claims-followed p es fs later g m n c t =
    let h =
    same-begin (core p) es fs (fits p.0.0 (claim-line p.0.1 p.0.0 g.line)) m n later
    (rw (core-counted p es, core-counted p fs) at c)
    (sym (core-taken p fs) ∙ t ∙ ap (λ (l : List ℕ). l ++ later) (core-taken p es)) in
    begins-of claims p es fs h.0
    (core-answers p fs ∙ h.1 ∙ ap (λ (l : List Paper). l ++ h.0) (sym (core-answers p es)))

-- it keeps demand 3's words for every run that ends (the field `ends`)
pub claims-keeps : (p : Place claims) (es fs : List Step) → Begun claims p → Mildly es → Never claims fs
    → over (board_at claims (last claims p es)) ≡ true → over (board_at claims (last claims p fs)) ≡ true → taken claims p es ≡ taken claims p fs
    → Equals claims p es fs
claims-keeps p es fs b m n o q t = equals claims p es fs (claims-over p es fs b m n.mild o q t)

-- and for every run without end (the field `goesOn`)
pub claims-keeps-following : (p : Place claims) (es fs : List Step) (later : List ℕ) → Begun claims p → Mildly es → Never claims fs
    → counted claims p es ≤ counted claims p fs → taken claims p fs ≡ taken claims p es ++ later → Agrees claims p es fs
claims-keeps-following p es fs later b m n c t = agrees claims p es fs (claims-followed p es fs later b m n.mild c t)

-- ---- pulses muted

same : (flag : Bool) (b : Board) → pick flag b b ≡ b
same true b = refl
same false b = refl

-- its board and its memory are ours at every moment
pub mutes-moves : (p : Place mutes) (es : List Step)
    → (board_at mutes (last mutes p es) ≡ board_at ours (last ours (p.0.0, p.1) es)) × ((last mutes p es).1 ≡ (last ours (p.0.0, p.1) es).1)
mutes-moves p es =
    let h : ◌≡◌ {A = At} ((last mutes p es).0.0, (last mutes p es).1) (last ours (p.0.0, p.1) es) = C.core-last (λ b. b) muted p es in
    (same (last mutes p es).0.1 (last mutes p es).0.0 ∙ ap (λ (q : At). q.0) h, ap (λ (q : At). q.1) h)

-- so of a run that ends it has the last engine (positions, origins, outputs, the store's part in use) and the memory; what fails is its pulses
pub mutes-keeps-the-rest : (p : Place mutes) (es fs : List Step) → Begun mutes p → Mildly es → Never mutes fs
    → over (board_at mutes (last mutes p es)) ≡ true → over (board_at mutes (last mutes p fs)) ≡ true → taken mutes p es ≡ taken mutes p fs
    → (final (board_at mutes (last mutes p es)) ≡ final (board_at mutes (last mutes p fs))) × ((last mutes p es).1 ≡ (last mutes p fs).1)
mutes-keeps-the-rest p es fs b m n o q t =
    let u = mutes-moves p es in
    let v = mutes-moves p fs in
    let a : Alike (p.0.0, p.1) es fs =
    same_over (p.0.0, p.1) es fs (fits p.0.0 (ap (λ (c : Board). c.line) (sym (same p.0.1 p.0.0)) ∙ b.line)) m n.mild
    (ap (λ (c : Board). over c) (sym u.0) ∙ o) (ap (λ (c : Board). over c) (sym v.0) ∙ q)
    (sym (C.core-taken (λ c. c) muted (λ c. refl) p es) ∙ t ∙ C.core-taken (λ c. c) muted (λ c. refl) p fs) in (
      ap (λ (c : Board). final c) u.0 ∙ ap (λ (r : At). final r.0) a.last ∙ ap (λ (c : Board). final c) (sym v.0),
      u.1 ∙ ap (λ (r : At). r.1) a.last ∙ sym v.1,
    )
