-- The laws of one clock call: both rules agree on a sound engine; idle, storing and waiting it answers nothing and changes nothing;
-- the counters move by the answer alone; an origin changes only by a record `n`, plane and direction only by `e` and `f`; the store's part
-- in use only by G. Assumes nothing.
use Rattle.std.specs.Prelude.{Result, Ok, Err}
use Rattle.count.specs.declared.Fault.{Fault}
use mathlib.Core.Path.{◌≡◌, refl, sym, ap, ◌∙◌}
use mathlib.Core.Bool.{Bool, true, false}
use mathlib.Core.Logic.{◌⊎◌, inl, inr}
use lib.Dec.{eqb}
use Rattle.count.specs.Pick.{pick}
use Rattle.count.proofs.laws.Truth.{never}
use Rattle.motion.specs.declared.Counters.{Counters}
use Rattle.motion.specs.Phase.{moved_all}
use Rattle.motion.specs.Sound.{counted}
use Rattle.travel.specs.declared.Travel.{Travel}
use Rattle.travel.specs.Next.{Next, pulse_of}
use Rattle.travel.specs.Next.Next.{Made, Over}
use Rattle.travel.specs.Plan.{plan_of}
use Rattle.travel.specs.Sound.{under_way}
use Rattle.travel.specs.work.Beat.{next_of}
use Rattle.travel.proofs.laws.Onward.{next-is-pulse}
use Rattle.travel.proofs.laws.Plans.{plan-sound, circle-sound}
use Rattle.record.specs.declared.Record.{Record}
use Rattle.record.specs.Fault.{is_movement}
use Rattle.record.specs.declared.Found.{Found}
use Rattle.record.specs.declared.Found.TheVariants.{Got, End, Wrong}
use Rattle.engine.specs.declared.Answer.{Answer}
use Rattle.engine.specs.declared.Answer.TheVariants as answer
use Rattle.engine.specs.declared.Job.{Job}
use Rattle.engine.specs.declared.Job.TheVariants as job
use Rattle.engine.specs.declared.Engine.{Engine}
use Rattle.engine.specs.declared.Told.{Told}
use Rattle.engine.specs.Tick.{Rule, Fetching, told, failed, moving, moving_by, performed, fetched, directly, moving_on, ticked_by, ticked, runs_by, runs_of}
use Rattle.engine.specs.Sound.{job_sound, sound_of}
use Rattle.engine.proofs.laws.Cases.{asked_by, round_by, planned_by, straight-plan, round-plan, record-cases, cases}
use Rattle.engine.proofs.laws.Facts.{facts}

-- ---- a stored movement and a stored circle

-- 103 lets pass what is planned, of either kind
pub planned-sound : (r : Record) (e : Engine) (m : Travel) → counted e.at ≡ true → planned_by r e ≡ Ok m → under_way m e.at ≡ true
planned-sound r e m h q = by (is_movement r.code) refl
  where
    by : (t : Bool) → is_movement r.code ≡ t → under_way m e.at ≡ true
    by true p = plan-sound (asked_by r e) m h (sym (straight-plan r e p) ∙ q)
    by false p = circle-sound e.held.axes e.circling e.at r.words m (sym (round-plan r e p) ∙ q)

-- ---- both rules agree

both : (t : Bool) {a b c d : Told} → a ≡ b → c ≡ d → pick t a c ≡ pick t b d
both true p q = p
both false p q = q

module _ (e : Engine) (h : counted e.at ≡ true) where
  planned-same : (p : Result Travel Fault) → ((m : Travel) → p ≡ Ok m → next_of m e.at ≡ pulse_of m e.at) → moving_by next_of p e ≡ moving_by pulse_of p e
  planned-same (Ok m) f = ap (λ (n : Next). moving n e) (f m refl)
  planned-same (Err b) f = refl

  straight-same : (r : Record) → moving_by next_of (plan_of (asked_by r e)) e ≡ moving_by pulse_of (plan_of (asked_by r e)) e
  straight-same r = planned-same (plan_of (asked_by r e)) (λ m q. next-is-pulse m e.at (plan-sound (asked_by r e) m h q))

  round_same : (r : Record) → moving_by next_of (round_by r e) e ≡ moving_by pulse_of (round_by r e) e
  round_same r = planned-same (round_by r e) (λ m q. next-is-pulse m e.at (circle-sound e.held.axes e.circling e.at r.words m q))

  -- a record is run by the rule where it is a movement's or a circle's alone
  performed-same : (r : Record) → performed next_of r e ≡ performed pulse_of r e
  unfolding performed
  performed-same r =
      both (is_movement r.code) (straight-same r)
      (both (eqb r.code 110) refl
      (both (eqb r.code 122) refl
      (both (eqb r.code 53) refl
      (both (eqb r.code 49) refl
      (both (eqb r.code 101) refl
      (both (eqb r.code 102) refl
      (both (eqb r.code 121) (round_same r) refl)))))))

  fetched-same : (x : Found) → fetched next_of x e ≡ fetched pulse_of x e
  fetched-same (Got r) = performed-same r
  fetched-same End = refl
  fetched-same Wrong = refl

  on_same : (f : Fetching) (n : Next) → moving_on next_of f n e ≡ moving_on pulse_of f n e
  on_same f (Made s) = refl
  on_same f Over = fetched-same (f e.run.place)

  job-same : (f : Fetching) (j : Job) → job_sound j e.at ≡ true → ticked_by next_of f j e ≡ ticked_by pulse_of f j e
  job-same f job.Idle p = refl
  job-same f job.Storing p = refl
  job-same f (job.Direct m) p = ap (λ (n : Next). directly n e) (next-is-pulse m e.at p)
  job-same f job.Ready p = fetched-same (f e.run.place)
  job-same f (job.Moving m) p = ap (λ (n : Next). moving_on next_of f n e) (next-is-pulse m e.at p) ∙ on_same f (pulse_of m e.at)
  job-same f (job.Delay q) p = refl
  job-same f (job.Wait k t) p = refl

-- ON A SOUND ENGINE THE CODE'S RULE AND 01'S ARE ONE, whatever is fetched
pub rules-agree : (f : Fetching) (e : Engine) → sound_of e ≡ true → ticked next_of f e ≡ ticked pulse_of f e
unfolding ticked
rules-agree f e h = let s = facts e h in job-same e s.at f e.run.job s.job

-- ---- nothing to do

quiet_by : (r : Rule) (f : Fetching) (j : Job) (e : Engine) → runs_by j ≡ false → ticked_by r f j e ≡ told e answer.Nothing
quiet_by r f job.Idle e h = refl
quiet_by r f job.Storing e h = refl
quiet_by r f (job.Direct m) e h = never (sym h)
quiet_by r f job.Ready e h = never (sym h)
quiet_by r f (job.Moving m) e h = never (sym h)
quiet_by r f (job.Delay q) e h = never (sym h)
quiet_by r f (job.Wait k t) e h = refl

-- IDLE, STORING AND WAITING A CALL ANSWERS NOTHING AND CHANGES NOTHING
pub quiet : (r : Rule) (f : Fetching) (e : Engine) → runs_of e ≡ false → ticked r f e ≡ told e answer.Nothing
unfolding ticked runs_of
quiet r f e h = quiet_by r f e.run.job e h

-- ---- counters

-- what an answer adds to the counters
abbrev pub moved_by : Answer → Counters → Counters
moved_by (answer.Pulse s v) c = moved_all c s
moved_by answer.Pause c = c
moved_by (answer.Send b) c = c
moved_by answer.Done c = c
moved_by answer.Nothing c = c

abbrev Moves : Engine → Told → Type 0
Moves e t = t.engine.at ≡ moved_by t.answer e.at

-- THE COUNTERS MOVE BY THE ANSWER ALONE, under any rule and whatever is fetched
pub counters-move : (r : Rule) (f : Fetching) (e : Engine) → (ticked r f e).engine.at ≡ moved_by (ticked r f e).answer e.at
counters-move r f e = cases r f e (Moves e) (record {
  nothing = λ p. refl;
  direct = λ m s p q. refl;
  arrived = λ m p q. refl;
  on = λ m s p q. refl;
  pause = λ q p. refl;
  end = λ p q. refl;
  wrong = λ p q. refl;
  got = λ b g p. record-cases r g e (Moves e) (record {
    pulse = λ l m s p q. refl;
    still = λ l. refl;
    refused = λ b k p. refl;
    origin = λ l p. refl;
    three = λ l b. refl;
    turned = λ l k c. refl;
    pause = λ l t. refl;
    send = λ p q. refl;
    to = λ p. refl;
    waits = λ p. refl;
    lost = λ p. refl;
  });
})

abbrev Stays : Engine → Told → Type 0
Stays e t = t.engine.origin ≡ e.origin

-- AN ORIGIN CHANGES ONLY BY A RECORD `n`
pub origins-stay : (r : Rule) (f : Fetching) (e : Engine) → ((g : Record) → f e.run.place ≡ Got g → g.code ≡ 110 → ⊥)
    → (ticked r f e).engine.origin ≡ e.origin
origins-stay r f e h = cases r f e (Stays e) (record {
  nothing = λ p. refl;
  direct = λ m s p q. refl;
  arrived = λ m p q. refl;
  on = λ m s p q. refl;
  pause = λ q p. refl;
  end = λ p q. refl;
  wrong = λ p q. refl;
  got = λ b g p. record-cases r g e (Stays e) (record {
    pulse = λ l m s p q. refl;
    still = λ l. refl;
    refused = λ b k q. refl;
    origin = λ l q. absurd (h g p q);
    three = λ l b. refl;
    turned = λ l k c. refl;
    pause = λ l t. refl;
    send = λ l q. refl;
    to = λ q. refl;
    waits = λ q. refl;
    lost = λ q. refl;
  });
})

abbrev Rounds : Engine → Told → Type 0
Rounds e t = t.engine.circling ≡ e.circling

-- PLANE AND DIRECTION CHANGE ONLY BY RECORDS `e` AND `f`
pub circling-stays : (r : Rule) (f : Fetching) (e : Engine) → ((g : Record) → f e.run.place ≡ Got g → (g.code ≡ 101) ⊎ (g.code ≡ 102) → ⊥)
    → (ticked r f e).engine.circling ≡ e.circling
circling-stays r f e h = cases r f e (Rounds e) (record {
  nothing = λ p. refl;
  direct = λ m s p q. refl;
  arrived = λ m p q. refl;
  on = λ m s p q. refl;
  pause = λ q p. refl;
  end = λ p q. refl;
  wrong = λ p q. refl;
  got = λ b g p. record-cases r g e (Rounds e) (record {
    pulse = λ l m s p q. refl;
    still = λ l. refl;
    refused = λ b k q. refl;
    origin = λ l q. refl;
    three = λ l b. refl;
    turned = λ l k c. absurd (h g p k);
    pause = λ l t. refl;
    send = λ l q. refl;
    to = λ q. refl;
    waits = λ q. refl;
    lost = λ q. refl;
  });
})

-- ---- the store's part in use

abbrev Holds : Engine → Told → Type 0
Holds e t = (t.engine.held ≡ e.held) ⊎ (t ≡ failed e)

-- THE STORE'S PART IN USE STAYS, unless the run ends with G, which empties it
pub held_stays : (r : Rule) (f : Fetching) (e : Engine) → ((ticked r f e).engine.held ≡ e.held) ⊎ (ticked r f e ≡ failed e)
held_stays r f e = cases r f e (Holds e) (record {
  nothing = λ p. inl refl;
  direct = λ m s p q. inl refl;
  arrived = λ m p q. inl refl;
  on = λ m s p q. inl refl;
  pause = λ q p. inl refl;
  end = λ p q. inl refl;
  wrong = λ p q. inr refl;
  got = λ b g p. record-cases r g e (Holds e) (record {
    pulse = λ l m s p q. inl refl;
    still = λ l. inl refl;
    refused = λ b k p. inl refl;
    origin = λ l p. inl refl;
    three = λ l b. inl refl;
    turned = λ l k c. inl refl;
    pause = λ l t. inl refl;
    send = λ l p. inl refl;
    to = λ p. inl refl;
    waits = λ p. inl refl;
    lost = λ p. inr refl;
  });
})
