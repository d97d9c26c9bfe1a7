-- The clock calls of an arc under way on our machine: each pulse by the rule, no dead end, and the 0 after the last (02 §3). Assumes nothing.
use Prim.Native.Nat.{ℕ, zero, suc, ◌+◌, ◌≤◌, ◌<◌}
use mathlib.Core.Path.{◌≡◌, refl, ap, subst, ◌∙◌}
use mathlib.Core.Bool.{Bool, true, false, not}
use native.Mathlib.Omega.{arith}
use Rattle.motion.specs.declared.Signs.{Signs}
use Rattle.motion.specs.Phase.{moved_all}
use Rattle.circle.specs.declared.Ways.{Ways}
use Rattle.circle.specs.declared.Arc.{Arc}
use Rattle.circle.specs.Rule.{rests}
use Rattle.circle.specs.Arc.{arc_signs, with_made, arc_left}
use Rattle.circle.specs.Sound.{arc_under_way}
use Rattle.circle.proofs.laws.Beats.{moves, makes, signs-are, none_left}
use Rattle.travel.specs.declared.Travel.TheVariants as travel
use Rattle.travel.specs.Next.{Next, pulse_of, arc_next}
use Rattle.travel.specs.Next.Next.{Made, Over}
use Rattle.travel.specs.Sound.{under_way}
use Rattle.record.specs.Memory.{Memory, RightMemory}
use Rattle.record.specs.Table.{fetch_of}
use Rattle.engine.specs.declared.Answer.TheVariants as answer
use Rattle.engine.specs.declared.Job.{Job}
use Rattle.engine.specs.declared.Engine.{Engine}
use Rattle.engine.specs.declared.Told.{Told}
use Rattle.engine.specs.State.{paper, with_job}
use Rattle.engine.specs.Tick.{Fetching, told, finished, directly, moving_on, ticked_by, ticked}
use Rattle.engine.specs.Sound.{job_sound}
use Rattle.engine.proofs.laws.Facts.{facts}
use Rattle.board.specs.declared.Board.{Board}
use Rattle.board.specs.Calls.{Ticked}
use Rattle.board.specs.State.{sound}
use Rattle.board.specs.Calls.{went_on, clocking}
use Rattle.board.proofs.laws.Hears.{sound-engine}
use Rattle.board.proofs.laws.Laws.{clocking-sound}
use Rattle.promise.specs.Machine.{ours, clocked_by}
use Rattle.promise.specs.Demands.{idles, ticks}
use Rattle.promise.specs.Circles.{Asker, line, program, turning, Turns, move_at, OneGoes, first, second, Pulsed}
use Rattle.promise.proofs.laws.KeepsCalls.{engine_call, right-store, right-table}

-- a call on a board that 103 lets pass, where nothing stands, is the engine's
called : (b : Board) (mem : Memory) → sound b ≡ true → b.standing ≡ false → RightMemory mem → clocking b mem ≡ engine_call b mem
unfolding clocking
called b mem n s r = rw (right-store mem r, n, right-table mem r, s)

-- of two axes one rests and the other does not
one-by : (w : Ways) (x y : Bool) → rests w.first ≡ x → rests w.second ≡ y → x ≡ not y → OneGoes w
one-by w true true p q e = let z : ◌≡◌ {A = ℕ} 0 1 = cc in absurd (omega arith)
one-by w true false p q e = second p q
one-by w false true p q e = first p q
one-by w false false p q e = let z : ◌≡◌ {A = ℕ} 0 1 = cc in absurd (omega arith)

module _ (w : Asker) (a : Arc) (b : Board) (mem : Memory) (t : Turns w a b) (r : RightMemory mem) where
  abbrev e : Engine
  e = b.engine

  abbrev fetch : Fetching
  fetch = fetch_of e.held mem

  under-by : (x : Asker) → job_sound (turning x a) e.at ≡ true → arc_under_way a e.at ≡ true
  unfolding under_way
  under-by line h = h
  under-by program h = h

  under : arc_under_way a e.at ≡ true
  under = under-by w (subst (λ (j : Job). job_sound j e.at ≡ true) t.job (facts e (sound-engine b t.sound)).job)

  our-call : clocking b mem ≡ went_on b (ticked_by pulse_of fetch (turning w a) e)
  unfolding ticked
  our-call = called b mem t.sound t.standing r ∙ ap (λ (j : Job). went_on b (ticked_by pulse_of fetch j e)) t.job

  -- ---- with a pulse left

  abbrev pulsing : Told
  pulsing = told (with_job e (turning w (with_made a (a.made + 1)))) (answer.Pulse (arc_signs a e.at) a.speed)

  abbrev made : Next
  made = Made (record { signs = arc_signs a e.at; speed = a.speed; at = moved_all e.at (arc_signs a e.at); rest = travel.Round (with_made a (a.made + 1)) })

  makes-next : a.made < a.length → pulse_of (travel.Round a) e.at ≡ made
  unfolding pulse_of
  makes-next h = ap (arc_next a) (makes a e.at under h)

  told-by : (x : Asker) → a.made < a.length
      → ticked_by pulse_of fetch (turning x a) e ≡ told (with_job e (turning x (with_made a (a.made + 1)))) (answer.Pulse (arc_signs a e.at) a.speed)
  told-by line h = ap (λ (n : Next). directly n e) (makes-next h)
  told-by program h = ap (λ (n : Next). moving_on pulse_of fetch n e) (makes-next h)

  left_is : 0 < arc_left a → a.made < a.length
  unfolding arc_left
  left_is h = omega arith

  pub pulsed : 0 < arc_left a → Pulsed w a b (clocking b mem).board (clocked_by (clocking b mem))
  pulsed h =
      let c : clocking b mem ≡ went_on b pulsing = our-call ∙ ap (λ (x : Told). went_on b x) (told-by w (left_is h)) in
      record {
        answer = ap (λ (x : Ticked). paper x.answer) c ∙ ap (λ (s : Signs). paper (answer.Pulse s a.speed)) (signs-are a e.at);
        refusal = ap (λ (x : Ticked). x.refusal) c;
        one = let m = move_at a b in one-by m (rests m.first) (rests m.second) refl refl (moves a e.at under).one;
        there = ap (λ (x : Ticked). x.board.engine.at) c ∙ ap (λ (s : Signs). moved_all e.at s) (signs-are a e.at);
        next = record {
          sound = clocking-sound b mem t.sound;
          standing = ap (λ (x : Ticked). x.board.standing) c ∙ t.standing;
          job = ap (λ (x : Ticked). x.board.engine.run.job) c;
        };
      }

-- ---- n pulses

pub goes : (w : Asker) (mem : Memory) → RightMemory mem → (n : ℕ) (a : Arc) (b : Board) → Turns w a b → n ≤ arc_left a
    → Turns w (with_made a (a.made + n)) (ticks ours n mem b)
unfolding ticks arc_left
goes w mem r zero a b t h = let q : a.made ≡ a.made + 0 = omega arith in subst (λ (k : ℕ). Turns w (with_made a k) b) q t
goes w mem r (suc n) a b t h =
    let p = (pulsed w a b mem t r (omega arith)).next in
    let q : a.made + 1 + n ≡ a.made + suc n = omega arith in
    subst (λ (k : ℕ). Turns w (with_made a k) (ticks ours n mem (clocking b mem).board)) q
    (goes w mem r n (with_made a (a.made + 1)) (clocking b mem).board p (omega arith))

-- ---- with none left

module _ (a : Arc) (b : Board) (mem : Memory) (t : Turns line a b) (r : RightMemory mem) (h : arc_left a ≡ 0) where
  over-next : pulse_of (travel.Round a) b.engine.at ≡ Over
  unfolding pulse_of
  over-next = ap (arc_next a) (none_left a b.engine.at h)

  last : clocking b mem ≡ went_on b (finished 48 b.engine)
  last = our-call line a b mem t r ∙ ap (λ (n : Next). went_on b (directly n b.engine)) over-next

  pub ended_so : (paper (clocking b mem).answer ≡ paper (answer.Send 48)) × (idles (clocking b mem).board ≡ true)
  ended_so =
      (ap (λ (x : Ticked). paper x.answer) last, ap (λ (x : Ticked). idles x.board) last ∙ ap (λ (s : Bool). not s) t.standing)
