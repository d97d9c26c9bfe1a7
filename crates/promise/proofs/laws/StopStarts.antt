-- Where a run begins on our machine, and what a stop and `@0S` come to, from a fresh board on after any events (see the end of
-- `Stop.antt`). Assumes nothing.
use mathlib.Core.Bool.{Bool, true, false, not, ◌&&◌, ◌||◌, true≢false}
use mathlib.Core.Path.{◌≡◌, refl, sym, ◌∙◌, ap, subst}
use borrow.Author.Tests.{not-true}
use Rattle.count.proofs.laws.Truth.{never, and_left, and_right}
use Rattle.record.specs.Memory.{RightMemory}
use Rattle.engine.specs.declared.Job.{Job}
use Rattle.engine.specs.declared.Job.TheVariants as job
use Rattle.engine.specs.Tick.{runs_by, runs_of}
use Rattle.board.specs.declared.Board.{Board}
use Rattle.board.specs.State.{board, no_line, sound}
use Rattle.board.specs.Calls.{Outcome, fresh}
use Rattle.board.proofs.laws.Hears.{sound-engine}
use Rattle.board.proofs.laws.Laws.{hearing-sound, clocking-sound, memory-right}
use Rattle.course.specs.Run.{runs_now}
use Rattle.promise.specs.Machine.{ours, byte, next, after_all}
use Rattle.promise.specs.Demands.{is_idle, idles, Silent, begun, onward, dropped, taken}
use Rattle.promise.specs.Stop.{rests_by, in_wait, rests, counts, delays_by, stoppable, LineBegins, StopAndStart}
use Rattle.promise.proofs.laws.KeepsCalls.{calm-memory}
use Rattle.promise.proofs.laws.KeepsReturn.{out-so, keeps-silent-return}
use Rattle.promise.proofs.laws.KeepsOn.{event-kept}
use Rattle.promise.proofs.laws.StopHolds.{Stood, both}
use Rattle.promise.proofs.laws.KeepsAlways.{always-sound}
use Rattle.promise.proofs.laws.StopBegins.{all_runs, event-runs, clear-line}

-- ---- LineBegins

-- without a reply on an idle board, something runs
runs_then : (b b' : Board) → Silent b b' → idles b ≡ true → runs_now b' ≡ true
runs_then b b' (begun i r) h = r
runs_then b b' (onward s e) h = absurd (true≢false (sym s ∙ not-true b.standing (and_right (is_idle b.engine.run.job) (not b.standing) h)))
runs_then b b' (dropped r e) h = ap runs_now e ∙ r
runs_then b b' (taken w r e) h = r

runs_on : (j : Job) → runs_by j ≡ true → rests_by j ≡ false
runs_on job.Idle h = never h
runs_on job.Storing h = never h
runs_on (job.Direct m) h = refl
runs_on job.Ready h = refl
runs_on (job.Moving m) h = refl
runs_on (job.Delay q) h = refl
runs_on (job.Wait c t) h = refl

under-way : (b : Board) → runs_now b ≡ true → (rests b ≡ false) × (b.standing ≡ false)
unfolding runs_now runs_of
under-way b h =
    let j = b.engine.run.job in
    (runs_on j (and_left (runs_by j) (not b.standing) h), not-true b.standing (and_right (runs_by j) (not b.standing) h))

pub ours-begins : LineBegins ours
ours-begins es ports l i r n =
    let b : Board = after_all ours es fresh in
    let b' : Board = next ours (byte 13 ports l) b in
    let g = under-way b' (runs_then b b' (keeps-silent-return ports l b r n) i) in
    let h = event-runs (byte 13 ports l) b (all_runs es) in
    record {
      sound = event-kept (λ (x : Board). sound x ≡ true) hearing-sound clocking-sound (byte 13 ports l) b (always-sound es);
      runs = g.0;
      standing = g.1;
      line = clear-line b' h.fit g.0 g.1;
      memory =
          subst (λ (o : Outcome). RightMemory o.after.memory) (sym (out-so 13 ports l b r))
          (memory-right 13 ports b l.memory (always-sound es) (calm-memory 13 ports b l r));
    }

-- ---- StopAndStart

-- where a clock call counts, something is under way and does not stand
counts-facts : (b : Board) → counts b ≡ true → (b.standing ≡ false) × (rests b ≡ false)
counts-facts b h = by b.standing (in_wait b) (rests b) h
  where
    by : (s w r : Bool) → not s && not (w || r) ≡ true → (s ≡ false) × (r ≡ false)
    by true w r h = never h
    by false true r h = never h
    by false false true h = never h
    by false false false h = (refl, refl)

pub ours-stop-and-start : StopAndStart ours
ours-stop-and-start es mem ports reply n r h =
    let b : Board = after_all ours es fresh in
    let c = counts-facts b (and_left (counts b) (not (delays_by b.engine.run.job)) h) in
    let k = all_runs es in
    let l : b.line ≡ no_line = clear-line b k.fit c.1 c.0 in
    let q : b ≡ board b.engine false no_line = λ i. board b.engine (c.0 i) (l i) in
    subst (λ (d : Board). Stood d ports reply mem) (sym q)
    (both ports reply b.engine mem r n (sound-engine b (always-sound es)) (subst (λ (d : Board). stoppable d ≡ true) q h) (k.axes c.1))
