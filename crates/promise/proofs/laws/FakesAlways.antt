-- The fakes that spoil a run at a stop, or at a call that is refused, fail demand 3 in the middle of a run: a direct movement of three steps
-- on x at speed 600 that each of them comes to from its first state. Assumes nothing.
use Prim.Native.Nat.{ℕ, suc}
use mathlib.Core.Bool.{true}
use mathlib.Core.List.{List, [], ◌∷◌, ◌++◌, map}
use mathlib.Core.Path.{◌≡◌, refl, sym, ◌∙◌, ap}
use borrow.Author.Tests.{leb-true, eqb-false}
use lib.Dec.{leb}
use lib.IntN.{ℤ}
use lib.ListN.{length, get_or}
use Rattle.count.specs.Chars.{codes}
use Rattle.count.specs.Paper.{Paper}
use Rattle.count.specs.Numbers.{within, in24, signed, word, placed, added}
use Rattle.count.specs.Ranges.{in_speed, right_count, right_z2, right_distances, right_speeds}
use Rattle.motion.specs.Phase.{pulses, steps, count_after, sign_at}
use Rattle.motion.specs.Plan.{goal, goal_of, goal_z2, first_speed, later_speed, route, going_to, plan_of as straight_plan}
use Rattle.motion.specs.Next.{from_of, to_of, left_of as straight_left, after_of, pulse_of as straight_pulse, next_by, skipped, speed_at}
use Rattle.motion.specs.Sound.{counted, in_range, under_way as straight_under_way}
use Rattle.travel.specs.Next.{pulse_of, left_of}
use Rattle.travel.specs.Plan.{plan_of}
use Rattle.travel.specs.Sound.{under_way}
use Rattle.line.specs.Numbers.{digits_behind, digits_of, number_of, parted, items_of, numbers_of}
use Rattle.line.specs.Lines.{direct_of, after_address, letter_of, behind}
use Rattle.record.specs.Fault.{count_right, axes_right, ranges_right, speeds_right}
use Rattle.engine.specs.State.{begin_of}
use Rattle.engine.specs.Tick.{ticked}
use Rattle.engine.specs.Sound.{sound_of}
use Rattle.board.specs.State.{gathered, sound}
use Rattle.board.specs.Direct.{first, reply_of, direct_said}
use Rattle.board.specs.Receive.{ear_of, hearing, gathering, returned, stopped}
use Rattle.board.specs.Calls.{receiving, clocking}
use Rattle.engine.specs.declared.Engine.{Engine}
use Rattle.course.specs.Walk.{no_memory}
use Rattle.promise.specs.Machine.{Machine, ours}
use Rattle.promise.specs.Steps.{reached, shown}
use Rattle.promise.specs.Stop.{Step, receive, call, own, other, Mild, Mildly, Place, last, answers, counted as count_of, taken, over, board_at, Begun, Same, StopChangesNothing}
use Rattle.promise.specs.Three.{Equals, DemandThree}
use Rattle.promise.specs.Demanded.{Demanded}
use Rattle.promise.specs.Fakes.{claims, mutes, slows, turns, loses_pulse, stirs}
use Rattle.promise.proofs.laws.FakesTyped.{reply0, with_store, steps_of, number}

-- where a machine comes to by the lines `@01` and `@0A3,600`
abbrev pub moving : (m : Machine) → Place m
moving m = last m (m.first, no_memory) (steps_of (codes "@01\r@0A3,600\r"))

-- ---- the schedules: a stop; a stop, the line `@0S` and clock calls; clock calls alone; a call that is refused 102

abbrev pub stop : Step
stop = receive 253 [] reply0 own

abbrev pub again : List Step → List Step
again es = stop ∷ receive 64 [] reply0 own ∷ receive 48 [] reply0 own ∷ receive 83 [] reply0 own ∷ receive 13 [] reply0 own ∷ es

abbrev pub once : List Step
once = call own ∷ []

abbrev pub thrice : List Step
thrice = call own ∷ call own ∷ call own ∷ []

abbrev elsewhere : List Step
elsewhere = call (other (with_store [])) ∷ []

abbrev fits : (v : ℕ) → leb (suc v) 254 ≡ true → Mild (receive v [] reply0 own)
fits v h = ((λ q. leb-true (suc v) 254 h), tt)

pub mild-again : (es : List Step) → Mildly es → Mildly (again es)
mild-again es m = (fits 253 refl, (fits 64 refl, (fits 48 refl, (fits 83 refl, (fits 13 refl, m)))))

-- ---- 01's fourth: a stop alone changes the positions that it shows

claims-begun : Begun claims (moving claims)
unfolding reached shown number receiving sound sound_of counted in_range under_way straight_under_way hearing stopped ear_of gathering gathered returned direct_said reply_of first direct_of after_address letter_of behind digits_behind digits_of number_of parted items_of numbers_of within in24 signed word placed added in_speed right_count right_z2 right_distances right_speeds pulses steps count_after goal goal_of goal_z2 first_speed later_speed route going_to plan_of straight_plan from_of to_of left_of straight_left after_of count_right axes_right ranges_right speeds_right begin_of clocking ticked pulse_of straight_pulse next_by skipped sign_at speed_at
claims-begun = record { sound = refl; runs = refl; standing = refl; line = refl; memory = (refl, refl) }

pub claims-fails-midway : StopChangesNothing claims → ⊥
unfolding reached shown number receiving sound sound_of counted in_range under_way straight_under_way hearing stopped ear_of gathering gathered returned direct_said reply_of first direct_of after_address letter_of behind digits_behind digits_of number_of parted items_of numbers_of within in24 signed word placed added in_speed right_count right_z2 right_distances right_speeds pulses steps count_after goal goal_of goal_z2 first_speed later_speed route going_to plan_of straight_plan from_of to_of left_of straight_left after_of count_right axes_right ranges_right speeds_right begin_of clocking ticked pulse_of straight_pulse next_by skipped sign_at speed_at
claims-fails-midway f =
    let s : Same claims (moving claims) (stop ∷ []) [] = f (moving claims) (stop ∷ []) [] claims-begun (fits 253 refl, tt) tt refl refl in
    eqb-false 8388611 8388608 refl (ap (λ (e : Engine). e.at.x) s.engine)

-- ---- 01's fourth in its other reading: a run stopped once and followed to its end has no pulse where the run never stopped has three

mutes-begun : Begun mutes (moving mutes)
unfolding reached shown number receiving sound sound_of counted in_range under_way straight_under_way hearing stopped ear_of gathering gathered returned direct_said reply_of first direct_of after_address letter_of behind digits_behind digits_of number_of parted items_of numbers_of within in24 signed word placed added in_speed right_count right_z2 right_distances right_speeds pulses steps count_after goal goal_of goal_z2 first_speed later_speed route going_to plan_of straight_plan from_of to_of left_of straight_left after_of count_right axes_right ranges_right speeds_right begin_of clocking ticked pulse_of straight_pulse next_by skipped sign_at speed_at
mutes-begun = record { sound = refl; runs = refl; standing = refl; line = refl; memory = (refl, refl) }

abbrev four : List Step
four = call own ∷ thrice

mutes-same : (over (board_at mutes (last mutes (moving mutes) (again four))) ≡ true) × (over (board_at mutes (last mutes (moving mutes) four)) ≡ true)
    × (taken mutes (moving mutes) (again four) ≡ []) × (taken mutes (moving mutes) four ≡ [])
unfolding reached shown number receiving sound sound_of counted in_range under_way straight_under_way hearing stopped ear_of gathering gathered returned direct_said reply_of first direct_of after_address letter_of behind digits_behind digits_of number_of parted items_of numbers_of within in24 signed word placed added in_speed right_count right_z2 right_distances right_speeds pulses steps count_after goal goal_of goal_z2 first_speed later_speed route going_to plan_of straight_plan from_of to_of left_of straight_left after_of count_right axes_right ranges_right speeds_right begin_of clocking ticked pulse_of straight_pulse next_by skipped sign_at speed_at
mutes-same = (refl, refl, refl, refl)

pub mutes-fails-ends : DemandThree mutes → ⊥
unfolding reached shown number receiving sound sound_of counted in_range under_way straight_under_way hearing stopped ear_of gathering gathered returned direct_said reply_of first direct_of after_address letter_of behind digits_behind digits_of number_of parted items_of numbers_of within in24 signed word placed added in_speed right_count right_z2 right_distances right_speeds pulses steps count_after goal goal_of goal_z2 first_speed later_speed route going_to plan_of straight_plan from_of to_of left_of straight_left after_of count_right axes_right ranges_right speeds_right begin_of clocking ticked pulse_of straight_pulse next_by skipped sign_at speed_at
mutes-fails-ends d =
    let e : Equals mutes (moving mutes) (again four) four =
    d.ends (moving mutes) (again four) four mutes-begun (mild-again four (tt, (tt, (tt, (tt, tt)))))
    (record { mild = (tt, (tt, (tt, (tt, tt)))); unstopped = (tt, (tt, (tt, (tt, tt)))) }) mutes-same.0 mutes-same.1 (mutes-same.2 ∙ sym mutes-same.3) in
    eqb-false 0 3 refl (ap (λ (l : List Paper). length l) e.pulses)

-- ---- slower after a stop: at 30, not at 600

slows-begun : Begun slows (moving slows)
unfolding reached shown number receiving sound sound_of counted in_range under_way straight_under_way hearing stopped ear_of gathering gathered returned direct_said reply_of first direct_of after_address letter_of behind digits_behind digits_of number_of parted items_of numbers_of within in24 signed word placed added in_speed right_count right_z2 right_distances right_speeds pulses steps count_after goal goal_of goal_z2 first_speed later_speed route going_to plan_of straight_plan from_of to_of left_of straight_left after_of count_right axes_right ranges_right speeds_right begin_of clocking ticked pulse_of straight_pulse next_by skipped sign_at speed_at
slows-begun = record { sound = refl; runs = refl; standing = refl; line = refl; memory = (refl, refl) }

slows-same : (count_of slows (moving slows) (again once) ≡ 1) × (count_of slows (moving slows) once ≡ 1) × (taken slows (moving slows) (again once) ≡ []) × (taken slows (moving slows) once ≡ [])
unfolding reached shown number receiving sound sound_of counted in_range under_way straight_under_way hearing stopped ear_of gathering gathered returned direct_said reply_of first direct_of after_address letter_of behind digits_behind digits_of number_of parted items_of numbers_of within in24 signed word placed added in_speed right_count right_z2 right_distances right_speeds pulses steps count_after goal goal_of goal_z2 first_speed later_speed route going_to plan_of straight_plan from_of to_of left_of straight_left after_of count_right axes_right ranges_right speeds_right begin_of clocking ticked pulse_of straight_pulse next_by skipped sign_at speed_at
slows-same = (refl, refl, refl, refl)

pub slows-fails : Demanded slows → ⊥
unfolding reached shown number receiving sound sound_of counted in_range under_way straight_under_way hearing stopped ear_of gathering gathered returned direct_said reply_of first direct_of after_address letter_of behind digits_behind digits_of number_of parted items_of numbers_of within in24 signed word placed added in_speed right_count right_z2 right_distances right_speeds pulses steps count_after goal goal_of goal_z2 first_speed later_speed route going_to plan_of straight_plan from_of to_of left_of straight_left after_of count_right axes_right ranges_right speeds_right begin_of clocking ticked pulse_of straight_pulse next_by skipped sign_at speed_at
slows-fails d =
    let s : Same slows (moving slows) (again once) once =
    d.demand-3.always (moving slows) (again once) once slows-begun (mild-again once (tt, tt)) (tt, tt) (slows-same.0 ∙ sym slows-same.1) (slows-same.2 ∙ sym slows-same.3) in
    eqb-false 30 600 refl (ap (λ (l : List ℤ). get_or (map number l) 0 0) s.speeds)

-- ---- turned after a stop: along y, not along x

abbrev signs : List Paper → List ℕ
signs [] = []
signs (a ∷ l) = map number a.values ++ signs l

turns-begun : Begun turns (moving turns)
unfolding reached shown number receiving sound sound_of counted in_range under_way straight_under_way hearing stopped ear_of gathering gathered returned direct_said reply_of first direct_of after_address letter_of behind digits_behind digits_of number_of parted items_of numbers_of within in24 signed word placed added in_speed right_count right_z2 right_distances right_speeds pulses steps count_after goal goal_of goal_z2 first_speed later_speed route going_to plan_of straight_plan from_of to_of left_of straight_left after_of count_right axes_right ranges_right speeds_right begin_of clocking ticked pulse_of straight_pulse next_by skipped sign_at speed_at
turns-begun = record { sound = refl; runs = refl; standing = refl; line = refl; memory = (refl, refl) }

turns_same : (count_of turns (moving turns) (again once) ≡ 1) × (count_of turns (moving turns) once ≡ 1) × (taken turns (moving turns) (again once) ≡ []) × (taken turns (moving turns) once ≡ [])
unfolding reached shown number receiving sound sound_of counted in_range under_way straight_under_way hearing stopped ear_of gathering gathered returned direct_said reply_of first direct_of after_address letter_of behind digits_behind digits_of number_of parted items_of numbers_of within in24 signed word placed added in_speed right_count right_z2 right_distances right_speeds pulses steps count_after goal goal_of goal_z2 first_speed later_speed route going_to plan_of straight_plan from_of to_of left_of straight_left after_of count_right axes_right ranges_right speeds_right begin_of clocking ticked pulse_of straight_pulse next_by skipped sign_at speed_at
turns_same = (refl, refl, refl, refl)

pub turns-fails : Demanded turns → ⊥
unfolding reached shown number receiving sound sound_of counted in_range under_way straight_under_way hearing stopped ear_of gathering gathered returned direct_said reply_of first direct_of after_address letter_of behind digits_behind digits_of number_of parted items_of numbers_of within in24 signed word placed added in_speed right_count right_z2 right_distances right_speeds pulses steps count_after goal goal_of goal_z2 first_speed later_speed route going_to plan_of straight_plan from_of to_of left_of straight_left after_of count_right axes_right ranges_right speeds_right begin_of clocking ticked pulse_of straight_pulse next_by skipped sign_at speed_at
turns-fails d =
    let s : Same turns (moving turns) (again once) once =
    d.demand-3.always (moving turns) (again once) once turns-begun (mild-again once (tt, tt)) (tt, tt) (turns_same.0 ∙ sym turns_same.1) (turns_same.2 ∙ sym turns_same.3) in
    eqb-false 0 1 refl (ap (λ (l : List Paper). get_or (signs l) 0 0) s.axes)

-- ---- a pulse lost at a stop: pulse, pulse, 0 where there are three pulses

loses_pulse-begun : Begun loses_pulse (moving loses_pulse)
unfolding reached shown number receiving sound sound_of counted in_range under_way straight_under_way hearing stopped ear_of gathering gathered returned direct_said reply_of first direct_of after_address letter_of behind digits_behind digits_of number_of parted items_of numbers_of within in24 signed word placed added in_speed right_count right_z2 right_distances right_speeds pulses steps count_after goal goal_of goal_z2 first_speed later_speed route going_to plan_of straight_plan from_of to_of left_of straight_left after_of count_right axes_right ranges_right speeds_right begin_of clocking ticked pulse_of straight_pulse next_by skipped sign_at speed_at
loses_pulse-begun = record { sound = refl; runs = refl; standing = refl; line = refl; memory = (refl, refl) }

loses_pulse-same : (count_of loses_pulse (moving loses_pulse) (again thrice) ≡ 3) × (count_of loses_pulse (moving loses_pulse) thrice ≡ 3) × (taken loses_pulse (moving loses_pulse) (again thrice) ≡ []) × (taken loses_pulse (moving loses_pulse) thrice ≡ [])
unfolding reached shown number receiving sound sound_of counted in_range under_way straight_under_way hearing stopped ear_of gathering gathered returned direct_said reply_of first direct_of after_address letter_of behind digits_behind digits_of number_of parted items_of numbers_of within in24 signed word placed added in_speed right_count right_z2 right_distances right_speeds pulses steps count_after goal goal_of goal_z2 first_speed later_speed route going_to plan_of straight_plan from_of to_of left_of straight_left after_of count_right axes_right ranges_right speeds_right begin_of clocking ticked pulse_of straight_pulse next_by skipped sign_at speed_at
loses_pulse-same = (refl, refl, refl, refl)

pub loses_pulse-fails : Demanded loses_pulse → ⊥
unfolding reached shown number receiving sound sound_of counted in_range under_way straight_under_way hearing stopped ear_of gathering gathered returned direct_said reply_of first direct_of after_address letter_of behind digits_behind digits_of number_of parted items_of numbers_of within in24 signed word placed added in_speed right_count right_z2 right_distances right_speeds pulses steps count_after goal goal_of goal_z2 first_speed later_speed route going_to plan_of straight_plan from_of to_of left_of straight_left after_of count_right axes_right ranges_right speeds_right begin_of clocking ticked pulse_of straight_pulse next_by skipped sign_at speed_at
loses_pulse-fails d =
    let s : Same loses_pulse (moving loses_pulse) (again thrice) thrice =
    d.demand-3.always (moving loses_pulse) (again thrice) thrice loses_pulse-begun (mild-again thrice (tt, (tt, (tt, tt)))) (tt, (tt, (tt, tt))) (loses_pulse-same.0 ∙ sym loses_pulse-same.1) (loses_pulse-same.2 ∙ sym loses_pulse-same.3) in
    eqb-false 3 1 refl (ap (λ (l : List Paper). get_or (map (λ (a : Paper). a.number) l) 2 0) s.axes)

-- ---- a refused call that moves: one step where there is none

stirs-begun : Begun stirs (moving stirs)
unfolding reached shown number receiving sound sound_of counted in_range under_way straight_under_way hearing stopped ear_of gathering gathered returned direct_said reply_of first direct_of after_address letter_of behind digits_behind digits_of number_of parted items_of numbers_of within in24 signed word placed added in_speed right_count right_z2 right_distances right_speeds pulses steps count_after goal goal_of goal_z2 first_speed later_speed route going_to plan_of straight_plan from_of to_of left_of straight_left after_of count_right axes_right ranges_right speeds_right begin_of clocking ticked pulse_of straight_pulse next_by skipped sign_at speed_at
stirs-begun = record { sound = refl; runs = refl; standing = refl; line = refl; memory = (refl, refl) }

pub stirs-fails : Demanded stirs → ⊥
unfolding reached shown number receiving sound sound_of counted in_range under_way straight_under_way hearing stopped ear_of gathering gathered returned direct_said reply_of first direct_of after_address letter_of behind digits_behind digits_of number_of parted items_of numbers_of within in24 signed word placed added in_speed right_count right_z2 right_distances right_speeds pulses steps count_after goal goal_of goal_z2 first_speed later_speed route going_to plan_of straight_plan from_of to_of left_of straight_left after_of count_right axes_right ranges_right speeds_right begin_of clocking ticked pulse_of straight_pulse next_by skipped sign_at speed_at
stirs-fails d =
    let s : Same stirs (moving stirs) elsewhere [] =
    d.demand-3.always (moving stirs) elsewhere [] stirs-begun (λ r. eqb-false (length {A = ℕ} []) 16384 refl r.0, tt) tt refl refl in
    eqb-false 8388609 8388608 refl (ap (λ (e : Engine). e.at.x) s.engine)

-- ---- and ours on the same case: two clock calls while it stands do not count and answer nothing, so that counting them would be wrong

pub standing-does-not-count : (count_of ours (moving ours) (stop ∷ call own ∷ call own ∷ []) ≡ 0)
    × (answers ours (moving ours) (stop ∷ call own ∷ call own ∷ []) ≡ []) × (count_of ours (moving ours) thrice ≡ 3)
unfolding reached shown number receiving sound sound_of counted in_range under_way straight_under_way hearing stopped ear_of gathering gathered returned direct_said reply_of first direct_of after_address letter_of behind digits_behind digits_of number_of parted items_of numbers_of within in24 signed word placed added in_speed right_count right_z2 right_distances right_speeds pulses steps count_after goal goal_of goal_z2 first_speed later_speed route going_to plan_of straight_plan from_of to_of left_of straight_left after_of count_right axes_right ranges_right speeds_right begin_of clocking ticked pulse_of straight_pulse next_by skipped sign_at speed_at
standing-does-not-count = (refl, refl, refl)
