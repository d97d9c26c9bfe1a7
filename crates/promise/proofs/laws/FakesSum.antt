-- 01's fourth fake, in both its readings, fails demand 2 on a state that it comes to from its first one: its positions are not the sum of
-- its pulses. A movement of three steps on x, stopped after the first. Assumes nothing.
use mathlib.Core.List.{List, [], ◌∷◌, ◌++◌}
use mathlib.Core.Path.{refl, ap}
use borrow.Author.Tests.{eqb-false}
use Rattle.count.specs.Chars.{codes}
use Rattle.count.specs.Numbers.{within, in24, signed, word, placed, added}
use Rattle.count.specs.Ranges.{in_speed, right_count, right_z2, right_distances, right_speeds}
use Rattle.motion.specs.Phase.{pulses, steps, count_after, sign_at}
use Rattle.motion.specs.Plan.{goal, goal_of, goal_z2, first_speed, later_speed, route, going_to, plan_of as straight_plan}
use Rattle.motion.specs.Next.{from_of, to_of, left_of as straight_left, after_of, pulse_of as straight_pulse, next_by, skipped, speed_at}
use Rattle.motion.specs.Sound.{counted, in_range, under_way as straight_under_way}
use Rattle.travel.specs.Next.{pulse_of, left_of}
use Rattle.travel.specs.Plan.{plan_of}
use Rattle.travel.specs.Sound.{under_way}
use Rattle.line.specs.Numbers.{digits_behind, digits_of, number_of, parted, items_of, numbers_of}
use Rattle.line.specs.Lines.{direct_of, after_address, letter_of, behind}
use Rattle.record.specs.Fault.{count_right, axes_right, ranges_right, speeds_right}
use Rattle.engine.specs.State.{begin_of}
use Rattle.engine.specs.Tick.{ticked}
use Rattle.engine.specs.Sound.{sound_of}
use Rattle.board.specs.State.{gathered, sound}
use Rattle.board.specs.Direct.{first, reply_of, direct_said}
use Rattle.board.specs.Receive.{ear_of, hearing, gathering, returned, stopped}
use Rattle.board.specs.Calls.{receiving, clocking}
use Rattle.course.specs.Walk.{no_memory}
use Rattle.promise.specs.Machine.{Event, clock, after_all}
use Rattle.count.specs.declared.Axis.TheVariants.{X}
use Rattle.promise.specs.Demands.{adds, zero_line, zeroes, pulse_sum}
use Rattle.promise.specs.Demanded.{Demanded}
use Rattle.promise.specs.Fakes.{claims, mutes}
use Rattle.promise.proofs.laws.FakesTyped.{typed, number}

abbrev stopped-once : List Event
stopped-once = typed (codes "@01\r@0A3,600\r") ++ clock no_memory ∷ typed (253 ∷ [])

-- it shows three steps, and one pulse was made
pub claims-fails : Demanded claims → ⊥
unfolding number after_all pulse_sum zeroes zero_line adds receiving sound sound_of counted in_range under_way straight_under_way hearing stopped ear_of gathering gathered returned direct_said reply_of first direct_of after_address letter_of behind digits_behind digits_of number_of parted items_of numbers_of within in24 signed word placed added in_speed right_count right_z2 right_distances right_speeds pulses steps count_after goal goal_of goal_z2 first_speed later_speed route going_to plan_of straight_plan from_of to_of left_of straight_left after_of count_right axes_right ranges_right speeds_right begin_of clocking ticked pulse_of straight_pulse next_by skipped sign_at speed_at
claims-fails d = eqb-false 3 1 refl (ap number (d.demand-2.sum-of-pulses X stopped-once))

-- started again, it has made two steps, and one pulse was answered
pub mutes-fails : Demanded mutes → ⊥
unfolding number after_all pulse_sum zeroes zero_line adds receiving sound sound_of counted in_range under_way straight_under_way hearing stopped ear_of gathering gathered returned direct_said reply_of first direct_of after_address letter_of behind digits_behind digits_of number_of parted items_of numbers_of within in24 signed word placed added in_speed right_count right_z2 right_distances right_speeds pulses steps count_after goal goal_of goal_z2 first_speed later_speed route going_to plan_of straight_plan from_of to_of left_of straight_left after_of count_right axes_right ranges_right speeds_right begin_of clocking ticked pulse_of straight_pulse next_by skipped sign_at speed_at
mutes-fails d = eqb-false 2 1 refl (ap number (d.demand-2.sum-of-pulses X (stopped-once ++ typed (codes "@0S\r") ++ clock no_memory ∷ [])))
