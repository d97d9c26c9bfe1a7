-- One byte while a program runs on its store: what ends the run leaves nothing to come to; every other byte keeps the engine, or a wait
-- takes it. Assumes nothing.
use Prim.Native.Nat.{ℕ}
use mathlib.Core.Bool.{Bool, true, false, not, ◌&&◌, ◌||◌}
use mathlib.Core.List.{List}
use mathlib.Core.Path.{◌≡◌, refl, sym, ◌∙◌, ap, subst}
use lib.Dec.{leb, eqb}
use Rattle.count.specs.Pick.{pick}
use Rattle.count.proofs.laws.Truth.{never}
use Rattle.record.specs.declared.Held.{Held}
use Rattle.record.specs.declared.Record.{Record}
use Rattle.record.specs.Memory.{Memory}
use Rattle.engine.specs.declared.Engine.{Engine}
use Rattle.engine.specs.declared.Job.{Job}
use Rattle.engine.specs.declared.Job.TheVariants as job
use Rattle.engine.specs.State.{reset_of}
use Rattle.board.specs.declared.Line.{Line}
use Rattle.board.specs.declared.Board.{Board}
use Rattle.board.specs.State.{board, Said}
use Rattle.engine.specs.Kinds.Ear.{gathers}
use Rattle.board.specs.Receive.{ear_by, ear_of, holds_by, ends_by, stopped, broken, reset_said, ordinary, hearing}
use Rattle.promise.specs.Stop.{rests_by, rests}
use Rattle.promise.proofs.laws.StopBoard.{left, held-byte}
use Rattle.promise.proofs.laws.RouteCall.{Goes, goes_none, rests-none, heard-goes}

abbrev pub At : Type 0
At = Board × Memory

module _ (l : List Record) (h : Held) (mem : Memory) where
  -- what a byte leaves: unless nothing runs any more, the memory and the store's part in use; and what the run comes to, it came to before
  pub record Follows (e : Engine) (q : At) : Type 0 where
    pub keeps : rests q.0 ≡ false → (q.0.engine.held ≡ h) × (q.1 ≡ mem)
    pub goes : (v : List ℕ) → Goes l q.0.engine v → Goes l e v

  module _ (e : Engine) (d : e.held ≡ h) where
    pub same : (q : At) → q.0.engine ≡ e → q.1 ≡ mem → Follows e q
    same q i j = record {
      keeps = λ r. (ap (λ (x : Engine). x.held) i ∙ d, j);
      goes = λ v g. subst (λ (x : Engine). Goes l x v) i g;
    }

    over : (q : At) → rests q.0 ≡ true → Follows e q
    over q r = record {
      keeps = λ z. never (sym z ∙ r);
      goes = λ v g.
          subst (Goes l e) (sym (rests-none l q.0.engine.run.job q.0.engine.run.place q.0.engine.run.loops v r g))
          (goes_none l e.run.job e.run.place e.run.loops);
    }

    either : (t : Bool) (x y : Said) → Follows e (left x) → Follows e (left y) → Follows e (left (pick t x y))
    either true x y f g = f
    either false x y f g = g

    module _ (v : ℕ) (ports : List ℕ) (k : Line) (n : leb k.len 80 ≡ true) where
      -- a byte from 0 to 252: while something stands it is gathered; else it is dropped, or a wait takes it
      ear : (st : Bool) (j : Job) → rests_by j ≡ false → Follows e (left (ordinary (pick st gathers (ear_by j)) v ports (board e st k) mem))
      ear true j r =
          let f = held-byte e mem ports k v n in
          same _ (ap (λ (x : Board). x.engine) f.twin) f.memory
      ear false job.Idle r = never (sym r)
      ear false job.Storing r = never (sym r)
      ear false (job.Direct m) r = same _ refl refl
      ear false job.Ready r = same _ refl refl
      ear false (job.Moving m) r = same _ refl refl
      ear false (job.Delay q) r = same _ refl refl
      ear false (job.Wait c t) r = let f = heard-goes l v e in record { keeps = λ z. (f.held ∙ d, refl); goes = f.goes }

      pub hears : (st : Bool) → rests_by e.run.job ≡ false → Follows e (left (hearing v ports (board e st k) mem))
      unfolding hearing stopped reset_said broken reset_of ear_of
      hears st r =
          either (eqb v 253) _ _ (either (holds_by e.run.job && not st) _ _ (same _ refl refl) (same _ refl refl))
          (either (eqb v 254) _ _ (over _ refl)
          (either (eqb v 255) _ _ (either (ends_by e.run.job || st) _ _ (over _ refl) (same _ refl refl)) (ear st e.run.job r)))
