-- More machines that the requests must shut out: ours but for the move of an arc's pulse (02 §3). The file FakesCircles of proofs/laws shows
-- what each fails.
use Rattle.std.specs.Prelude.{ℕ, not, ltb, None}
use Rattle.count.specs.Pick.{pick}
use Rattle.motion.specs.declared.Signs.{Signs}
use Rattle.motion.specs.declared.Counters.{Counters}
use Rattle.motion.specs.Pulse.{step_to}
use Rattle.circle.specs.declared.Pair.{Pair}
use Rattle.circle.specs.declared.Ways.{Ways}
use Rattle.circle.specs.declared.Arc.{Arc}
use Rattle.circle.specs.Rule.{on_plane, on_axes, measure, ways_at, rests, first_only, second_only, shifted, off, move_of}
use Rattle.circle.specs.Arc.{start_value, beat_to}
use Rattle.travel.specs.declared.Travel.TheVariants as travel
use Rattle.travel.specs.Next.{arc_next, pulse_of}
use Rattle.record.specs.Memory.{Memory, store_fits, table_fits}
use Rattle.record.specs.Table.{fetch_of}
use Rattle.engine.specs.declared.Answer.TheVariants as answer
use Rattle.engine.specs.Tick.{Rule, ticked}
use Rattle.board.specs.declared.Board.{Board}
use Rattle.board.specs.Calls.{Ticked}
use Rattle.board.specs.State.{sound}
use Rattle.board.specs.Calls.{clocked, went_on, fresh}
use Rattle.promise.specs.Machine.{Machine, clocked_by, ours}

-- ---- ours but for the rule of the next pulse

abbrev pub rule_tick : Rule → Board → Memory → Ticked
rule_tick rule b mem =
    pick (not (store_fits mem)) (clocked 102 b answer.Nothing)
    (pick (not (sound b)) (clocked 103 b answer.Nothing)
    (pick (not (table_fits mem)) (clocked 104 b answer.Nothing)
    (pick b.standing (clocked 0 b answer.Nothing) (went_on b (ticked rule (fetch_of b.engine.held mem) b.engine)))))

abbrev pub by_rule : Rule → Machine
by_rule rule = record {
  State = Board;
  board = λ b. b;
  first = fresh;
  hear = ours.hear;
  tick = λ mem b. ((rule_tick rule b mem).board, clocked_by (rule_tick rule b mem));
  go = ours.go;
  list = ours.list;
}

-- an arc's move at a point by another choice, a straight movement as ours
abbrev pub signs_by : (Arc → Pair → Ways) → Arc → Counters → Signs
signs_by move a at = on_axes a.circling.plane (move a (on_plane a.circling.plane at))

abbrev pub arcs_by : (Arc → Pair → Ways) → Rule
arcs_by move (travel.Straight m) at = pulse_of (travel.Straight m) at
arcs_by move (travel.Round a) at =
    arc_next a (pick (ltb a.made a.length) (beat_to a (signs_by move a at) (step_to at (signs_by move a at))) None)

-- ---- at a tie it takes the second axis

abbrev pub later_move : ℕ → Pair → Pair → Ways → Ways
later_move value centre at w =
    pick (rests w.first) (second_only w)
    (pick (rests w.second) (first_only w)
    (pick (ltb (off value centre (shifted at (first_only w))) (off value centre (shifted at (second_only w)))) (first_only w) (second_only w)))

abbrev pub second_at_tie : Machine
second_at_tie = by_rule (arcs_by (λ a p. later_move (start_value a) a.centre p (ways_at a.circling.direction a.centre p)))

-- ---- it measures by the value at the present point, and not by the one at the start

abbrev pub measures_here : Machine
measures_here = by_rule (arcs_by (λ a p. move_of (measure a.centre p) a.centre p (ways_at a.circling.direction a.centre p)))
