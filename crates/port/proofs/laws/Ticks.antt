-- A clock call on the board of a state, as the code makes it: what was refused or did nothing leaves the state, a pulse writes the counters
-- and the mark, and anything else writes the engine. Assumes nothing.
use Prim.Native.Nat.{ℕ, zero, suc, ◌≤◌}
use mathlib.Core.Path.{◌≡◌, refl, sym, ap, ◌∙◌}
use mathlib.Core.Bool.{Bool, true, false, ◌||◌}
use native.Mathlib.Omega.{arith}
use borrow.Author.Tests.{eq-eqb, ne_eqb, leb-true, not-false}
use lib.Dec.{ltb}
use lib.ListN.{length}
use Rattle.count.proofs.laws.Truth.{never}
use Rattle.motion.specs.declared.Beat.{Beat}
use Rattle.motion.specs.declared.Move.{Move}
use Rattle.motion.specs.Next.{at_phase}
use Rattle.travel.specs.work.Beat.{next_of, at_mark}
use Rattle.record.specs.Memory.{Memory, RightMemory}
use Rattle.record.specs.Table.{fetch_of}
use Rattle.engine.specs.declared.Act.{Act}
use Rattle.engine.specs.declared.Act.TheVariants as act
use Rattle.engine.specs.declared.Answer.TheVariants as answer
use Rattle.engine.specs.declared.Job.TheVariants as job
use Rattle.engine.specs.declared.Told.{Told}
use Rattle.engine.specs.State.{running}
use Rattle.engine.specs.work.Acts.{act_by, seen_of, is_wrong, marked_job, pulsed, acted_by}
use Rattle.engine.proofs.laws.Acts.{seen-act}
use Rattle.board.specs.Calls.{Ticked}
use Rattle.board.specs.State.{board, sound}
use Rattle.board.specs.Calls.{clocked, clocking}
use Rattle.board.proofs.laws.Hears.{sound-engine, refused-so, acted-so, clocked-so}
use Rattle.port.specs.declared.Round.{Round}
use Rattle.port.specs.declared.State.{State}
use Rattle.port.specs.Code.{flag, straight_in, round_in, kind_in, travel_of, job_of, known, engine_of, board_of, coded_over, over}
use Rattle.port.specs.Calls.{clocked_by, ticked_state}
use Rattle.port.specs.work.Work.{is_still, moved}
use Rattle.port.proofs.laws.Codes.{Each, up_to, flag-written, plane-written, direction-written}
use Rattle.port.proofs.laws.Code.{Writes, codes, written-by, written_read, job-writes, travel_in}

abbrev is_pulse : Act → Bool
is_pulse act.Wrong = false
is_pulse act.Still = false
is_pulse (act.Pulse b) = true
is_pulse (act.Pause q) = false
is_pulse act.Finish = false
is_pulse act.Record = false

no-pulse : {A : Type 0} {b : Beat} (x : Act) → is_pulse x ≡ false → x ≡ act.Pulse b → A
no-pulse x p e = never (sym p ∙ ap is_pulse e)

still-is : (x : Act) → is_still x ≡ true → x ≡ act.Still
still-is act.Wrong p = never p
still-is act.Still p = refl
still-is (act.Pulse b) p = never p
still-is (act.Pause q) p = never p
still-is act.Finish p = never p
still-is act.Record p = never p

-- a round at another number of pulses made
abbrev pub made_at : Round → ℕ → Round
made_at r n = record { centre = r.centre; start = r.start; length = r.length; made = n; speed = r.speed; plane = r.plane; direction = r.direction }

one_of : (n : ℕ) → n ≤ 1 → (n ≡ 0 → ⊥) → n ≡ 1
one_of zero l f = absurd (f refl)
one_of (suc n) l f = omega arith

module _ (s : State) (h : known s ≡ true) where
  -- an arc is what moves where the movement is not
  pub kind-round : (s.kind ≡ 0 → ⊥) → s.kind ≡ 1
  kind-round f =
      let l = leb-true s.kind 1 (codes s h).kind in
      one_of s.kind l f

  -- ---- nothing was done

  pub left_so : (n : ℕ) {x : Ticked} → x ≡ clocked n (board_of s) answer.Nothing → clocked_by n s answer.Nothing ≡ ticked_state s x
  left_so n e = rw (e, written_read s h) refl

  module _ (m : Memory) (n : length m.store ≡ 16384) {a : Act} (e : a ≡ seen_of (engine_of s)) {r : Bool} (q : r ≡ is_wrong a) where
    pub wrong-so : r || ltb 80 s.len ≡ true → clocked_by 103 s answer.Nothing ≡ ticked_state s (clocking (board_of s) m)
    unfolding clocking
    wrong-so t = left_so 103 {x = clocking (board_of s) m} (rw (eq-eqb (length m.store) 16384 n, sym (refused-so (board_of s) e q) ∙ t) refl)

    pub right_so : r || ltb 80 s.len ≡ false → sound (board_of s) ≡ true
    right_so f = not-false (sound (board_of s)) (sym (refused-so (board_of s) e q) ∙ f)

    pub tableless-so : r || ltb 80 s.len ≡ false → (length m.table ≡ 1000 → ⊥) → clocked_by 104 s answer.Nothing ≡ ticked_state s (clocking (board_of s) m)
    unfolding clocking
    tableless-so f t =
        left_so 104 {x = clocking (board_of s) m} (rw (eq-eqb (length m.store) 16384 n, right_so f, ne_eqb (length m.table) 1000 t) refl)

  stood-so : (m : Memory) → RightMemory m → sound (board_of s) ≡ true → (board_of s).standing ≡ true → clocked_by 0 s answer.Nothing ≡ ticked_state s (clocking (board_of s) m)
  unfolding clocking
  stood-so m l o g = left_so 0 {x = clocking (board_of s) m} (rw (eq-eqb (length m.store) 16384 l.0, o, eq-eqb (length m.table) 1000 l.1, g) refl)

  module _ (m : Memory) (l : RightMemory m) (o : sound (board_of s) ≡ true) (g : (board_of s).standing ≡ false) {a : Act} (e : a ≡ seen_of (engine_of s)) where
    -- ---- what the engine did

    told-so : {t : Told} → t ≡ acted_by next_of (fetch_of s.held m) a (engine_of s)
        → clocked_by 0 (over s (board t.engine (board_of s).standing (board_of s).line)) t.answer ≡ ticked_state s (clocking (board_of s) m)
    told-so p = ap (ticked_state s) (clocked-so (board_of s) m l o g (acted-so (board_of s) m o e p))

    pub went-so : {t : Told} → t ≡ acted_by next_of (fetch_of s.held m) a (engine_of s)
        → clocked_by 0 (coded_over s t.engine s.line s.len s.over s.standing) t.answer ≡ ticked_state s (clocking (board_of s) m)
    went-so {t} p =
        let c = codes s h in
        ap (λ (n : ℕ). clocked_by 0 (coded_over s t.engine s.line s.len n s.standing) t.answer) (sym (flag-written s.over c.over))
        ∙ ap (λ (n : ℕ). clocked_by 0 (coded_over s t.engine s.line s.len (flag (board_of s).line.over) n) t.answer) (sym (flag-written s.standing c.standing))
        ∙ told-so p

    -- where nothing runs
    still-so : is_still a ≡ true → clocked_by 0 s answer.Nothing ≡ ticked_state s (clocking (board_of s) m)
    still-so q =
        ap (λ (x : State). clocked_by 0 x answer.Nothing) (sym (written_read s h))
        ∙ told-so (ap (λ (x : Act). acted_by next_of (fetch_of s.held m) x (engine_of s)) (sym (still-is a q)))

    -- ---- a pulse

    module _ (b : Beat) (p : a ≡ act.Pulse b) (v : Move) (r : Round) (i : straight_in (at_mark (travel_in s) b.mark) s.straight ≡ v)
        (u : round_in (at_mark (travel_in s) b.mark) s.round ≡ r) (k : kind_in (at_mark (travel_in s) b.mark) ≡ s.kind) where
      abbrev Marks : ℕ → Type 0
      Marks j =
          s.job ≡ j → act_by next_of (job_of j (travel_in s) s.number s.byte) s.at ≡ act.Pulse b
          → Writes s v r (marked_job b.mark (job_of j (travel_in s) s.number s.byte))

      -- only what moves has a pulse
      each-marks : Each 6 Marks
      unfolding job_of act_by
      each-marks = (
        (
          (
            (
              (
                (λ f q. no-pulse act.Still refl q, λ f q. no-pulse act.Still refl q),
                λ f q. job-writes s v r (job.Direct (at_mark (travel_in s) b.mark)) 2 refl i u k refl refl f,
              ),
              λ f q. no-pulse act.Record refl q,
            ),
            λ f q. job-writes s v r (job.Moving (at_mark (travel_in s) b.mark)) 4 refl i u k refl refl f,
          ),
          λ f q. no-pulse (act.Pause s.number) refl q,
        ),
        λ f q. no-pulse act.Still refl q,
      )

      pub pulse-so : clocked_by 0 (moved s b.at v r) (answer.Pulse b.signs b.speed) ≡ ticked_state s (clocking (board_of s) m)
      pulse-so =
          let q : act_by next_of (engine_of s).run.job s.at ≡ act.Pulse b = sym (seen-act (engine_of s) (sound-engine (board_of s) o)) ∙ sym e ∙ p in
          let w = up_to Marks 6 each-marks s.job (codes s h).job refl q in
          ap (λ (x : State). clocked_by 0 x (answer.Pulse b.signs b.speed)) (sym (written-by s v r (marked_job b.mark (engine_of s).run.job) b.at h w))
          ∙ told-so {t = pulsed (running (marked_job b.mark (engine_of s).run.job) s.place s.loops) b (engine_of s)}
          (ap (λ (x : Act). acted_by next_of (fetch_of s.held m) x (engine_of s)) (sym p))

    pub straight-so : (b : Beat) → a ≡ act.Pulse b → s.kind ≡ 0
        → clocked_by 0 (moved s b.at (at_phase s.straight b.mark.phase b.mark.made) s.round) (answer.Pulse b.signs b.speed) ≡ ticked_state s (clocking (board_of s) m)
    unfolding travel_of
    straight-so b p z =
        pulse-so b p (at_phase s.straight b.mark.phase b.mark.made) s.round (rw z refl) (rw z refl) (rw z refl)

    pub round-so : (b : Beat) → a ≡ act.Pulse b → s.kind ≡ 1
        → clocked_by 0 (moved s b.at s.straight (made_at s.round b.mark.made)) (answer.Pulse b.signs b.speed) ≡ ticked_state s (clocking (board_of s) m)
    unfolding travel_of
    round-so b p z =
        let c = codes s h in
        pulse-so b p s.straight (made_at s.round b.mark.made) (rw z refl)
        (rw (z, plane-written s.round.plane c.round-plane, direction-written s.round.direction c.round-direction) refl) (rw z refl)

  -- it stands stopped, or nothing runs
  pub rest-so : (m : Memory) → RightMemory m → sound (board_of s) ≡ true → {a : Act} → a ≡ seen_of (engine_of s) → (t : Bool) → (board_of s).standing ≡ t
      → t || is_still a ≡ true → clocked_by 0 s answer.Nothing ≡ ticked_state s (clocking (board_of s) m)
  rest-so m l o e true g q = stood-so m l o g
  rest-so m l o e false g q = still-so m l o g e q
