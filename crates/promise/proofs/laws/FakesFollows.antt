-- 01's first three fakes fail demand 2 on a state that they come to from their first one: they do not follow the definitions. So does the
-- machine that does not see what 103 refuses, on a state that it is given. Assumes nothing.
use mathlib.Core.Bool.{false}
use mathlib.Core.List.{[]}
use mathlib.Core.Path.{refl, ap}
use borrow.Author.Tests.{eqb-false}
use lib.ListN.{get_or}
use Rattle.count.specs.Chars.{codes}
use Rattle.count.specs.Numbers.{within, in24, signed, word, placed, added}
use Rattle.count.specs.Ranges.{in_speed, right_count, right_z2, right_distances, right_speeds}
use Rattle.motion.specs.Phase.{pulses, steps, count_after, sign_at}
use Rattle.motion.specs.Plan.{goal, goal_of, goal_z2, first_speed, later_speed, route, going_to, plan_of as straight_plan}
use Rattle.motion.specs.Next.{from_of, to_of, left_of as straight_left, after_of, pulse_of as straight_pulse, next_by, skipped, speed_at}
use Rattle.motion.specs.Sound.{counted, in_range, under_way as straight_under_way}
use Rattle.circle.specs.Plan.{at_first}
use Rattle.travel.specs.Next.{pulse_of, left_of}
use Rattle.travel.specs.Plan.{plan_of}
use Rattle.travel.specs.Sound.{under_way}
use Rattle.line.specs.Numbers.{digits_behind, digits_of, number_of, parted, items_of, numbers_of}
use Rattle.line.specs.Lines.{direct_of, after_address, letter_of, behind}
use Rattle.record.specs.Fault.{count_right, axes_right, ranges_right, speeds_right}
use Rattle.engine.specs.State.{begin_of}
use Rattle.engine.specs.Tick.{ticked}
use Rattle.engine.specs.Sound.{sound_of}
use Rattle.board.specs.State.{gathered, sound}
use Rattle.board.specs.Direct.{first, reply_of, direct_said}
use Rattle.board.specs.Receive.{ear_of, hearing, gathering, returned, stopped}
use Rattle.board.specs.Calls.{receiving, clocking}
use Rattle.engine.specs.State.{zeroes, nothing_held, idle}
use Rattle.board.specs.declared.Board.{Board}
use Rattle.board.specs.State.{board, no_line}
use Rattle.course.specs.Walk.{no_memory}
use Rattle.promise.specs.Machine.{Heard, Clocked, after_all}
use Rattle.promise.specs.Demanded.{Demanded}
use Rattle.promise.specs.Fakes.{refuses, agrees, sleeps, blind}
use Rattle.promise.proofs.laws.FakesTyped.{lent0, typed}

-- `@0k` is accepted with 0, and it answers 5
pub refuses-fails : Demanded refuses → ⊥
unfolding after_all receiving sound sound_of counted in_range under_way straight_under_way hearing stopped ear_of gathering gathered returned direct_said reply_of first direct_of after_address letter_of behind digits_behind digits_of number_of parted items_of numbers_of within in24 signed word placed added in_speed right_count right_z2 right_distances right_speeds pulses steps count_after goal goal_of goal_z2 first_speed later_speed route going_to plan_of straight_plan from_of to_of left_of straight_left after_of count_right axes_right ranges_right speeds_right begin_of
refuses-fails d =
    eqb-false 53 48 refl
    (ap (λ (h : Heard). get_or h.after.reply 0 0) (d.demand-2.follows.hears 13 [] lent0 (after_all refuses (typed (codes "@0k")) refuses.first)))

-- an empty line is refused 5, and it answers 0
pub agrees-fails : Demanded agrees → ⊥
unfolding after_all receiving sound sound_of counted in_range under_way straight_under_way hearing stopped ear_of gathering gathered returned direct_said reply_of first direct_of after_address letter_of behind digits_behind digits_of number_of parted items_of numbers_of within in24 signed word placed added in_speed right_count right_z2 right_distances right_speeds pulses steps count_after goal goal_of goal_z2 first_speed later_speed route going_to plan_of straight_plan from_of to_of left_of straight_left after_of count_right axes_right ranges_right speeds_right begin_of
agrees-fails d =
    eqb-false 48 53 refl
    (ap (λ (h : Heard). get_or h.after.reply 0 0) (d.demand-2.follows.hears 13 [] lent0 (after_all agrees (typed (codes "")) agrees.first)))

-- in a movement of three steps a clock call makes a pulse, 1, and it answers nothing, 5
pub sleeps-fails : Demanded sleeps → ⊥
unfolding after_all receiving sound sound_of counted in_range under_way straight_under_way hearing stopped ear_of gathering gathered returned direct_said reply_of first direct_of after_address letter_of behind digits_behind digits_of number_of parted items_of numbers_of within in24 signed word placed added in_speed right_count right_z2 right_distances right_speeds pulses steps count_after goal goal_of goal_z2 first_speed later_speed route going_to plan_of straight_plan from_of to_of left_of straight_left after_of count_right axes_right ranges_right speeds_right begin_of clocking ticked pulse_of straight_pulse next_by skipped sign_at speed_at
sleeps-fails d =
    eqb-false 5 1 refl
    (ap (λ (c : Clocked). c.answer.number) (d.demand-2.follows.ticks no_memory (after_all sleeps (typed (codes "@01\r@0A3,600\r")) sleeps.first)))

-- axes 2 are refused 103
abbrev odd : Board
odd = board (record { axes = 2; at = zeroes; origin = zeroes; three = false; circling = at_first; output = 0; held = nothing_held; run = idle }) false no_line

pub blind-fails : Demanded blind → ⊥
unfolding receiving sound sound_of counted in_range under_way straight_under_way hearing stopped ear_of gathering gathered returned direct_said reply_of first direct_of after_address letter_of behind digits_behind digits_of number_of parted items_of numbers_of within in24 signed word placed added in_speed right_count right_z2 right_distances right_speeds pulses steps count_after goal goal_of goal_z2 first_speed later_speed route going_to plan_of straight_plan from_of to_of left_of straight_left after_of count_right axes_right ranges_right speeds_right begin_of
blind-fails d = eqb-false 0 103 refl (ap (λ (h : Heard). h.refusal) (d.demand-2.follows.hears 13 [] lent0 odd))
