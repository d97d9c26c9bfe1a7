-- A started program is a run that begins: a program typed to a fresh board, line by line, and started is `Begun`, by `LineBegins`. Assumes
-- nothing.
use Prim.Native.Nat.{ℕ}
use mathlib.Core.Bool.{true}
use mathlib.Core.List.{List, [], ◌∷◌}
use mathlib.Core.Path.{◌≡◌, refl, sym, subst}
use lib.ListN.{replicate}
use Rattle.count.specs.Chars.{codes}
use Rattle.count.specs.Numbers.{within, in24, signed, word, placed, added}
use Rattle.count.specs.Ranges.{in_speed, right_count, right_z2, right_distances, right_speeds}
use Rattle.motion.specs.Sound.{counted}
use Rattle.line.specs.Lines.{behind, letter_of, after_address, direct_of, code_of, stored_of}
use Rattle.line.specs.Numbers.{digits_behind, digits_of, number_of, parted, items_of, numbers_of}
use Rattle.record.specs.Bytes.{bytes4, num_bytes, encode, word_at, words_of, front}
use Rattle.record.specs.Fault.{is_code, count_right, axes_right, loop_right, ranges_right, speeds_right, fault_of}
use Rattle.record.specs.Keep.{has_room, store_of}
use Rattle.record.specs.Places.{records_from, records_of}
use Rattle.program.specs.Check.{holds, share, around, crosses, early, overlaps, holders, outside, strays, letter, checked}
use Rattle.program.specs.Program.{check_of, verdict_of}
use Rattle.board.specs.Storing.{record_reply, stored_said}
use Rattle.engine.specs.declared.Job.TheVariants as job
use Rattle.engine.specs.Sound.{sound_of}
use Rattle.board.specs.declared.Board.{Board}
use Rattle.board.specs.Calls.{Lent, lent, receiving, fresh}
use Rattle.board.specs.Direct.{first, reply_of, direct_said}
use Rattle.board.specs.Receive.{ear_of, returned, gathering, hearing}
use Rattle.board.specs.State.{gathered, sound}
use Rattle.course.specs.Walk.{no_ports, no_memory}
use Rattle.promise.specs.Machine.{Machine, ours, Event, byte, clock, after_all}
use Rattle.promise.specs.Demands.{idles}
use Rattle.promise.specs.Steps.{reached}
use Rattle.promise.specs.Stop.{Step, receive, call, own, Place, lent_to, stoppable, ahead, last, Begun}
use Rattle.promise.proofs.laws.StopStarts.{ours-begins}

-- ---- of any machine: a schedule is a list of events

module _ (m : Machine) where
  unfoldable pub events_of : Place m → List Step → List Event
  events_of p [] = []
  events_of p (receive v ports reply d ∷ es) = byte v ports (lent reply (lent_to m p d)) ∷ events_of (ahead m p (receive v ports reply d)) es
  events_of p (call d ∷ es) = clock (lent_to m p d) ∷ events_of (ahead m p (call d)) es

  pub as-events : (p : Place m) (es : List Step) → (last m p es).0 ≡ after_all m (events_of p es) p.0
  unfolding events_of reached after_all
  as-events p [] = refl
  as-events p (receive v ports reply d ∷ es) = as-events (ahead m p (receive v ports reply d)) es
  as-events p (call d ∷ es) = as-events (ahead m p (call d)) es

-- ---- a program of one movement, typed and started

abbrev typed : List ℕ → List Step
typed [] = []
typed (v ∷ l) = receive v no_ports (replicate 32 0) own ∷ typed l

-- all but the return of S
abbrev lines : List Step
lines = typed (codes "@01\r@0i\r0 3,600\r9\r@0S")

abbrev almost : Place ours
almost = last ours (fresh, no_memory) lines

abbrev pub program : Place ours
program = ahead ours almost (receive 13 no_ports (replicate 32 0) own)

-- it is idle, its return is not refused and has no reply, and then a program of one record runs and may be stopped
computed : (idles almost.0 ≡ true)
    × ((receiving 13 no_ports almost.0 (lent (replicate 32 0) almost.1)).result.refusal ≡ 0)
    × ((receiving 13 no_ports almost.0 (lent (replicate 32 0) almost.1)).result.len ≡ 0)
    × (program.0.engine.run.job ≡ job.Ready) × (program.0.engine.held.records ≡ 1) × (stoppable program.0 ≡ true)
unfolding reached within in24 signed word placed added in_speed right_count right_z2 right_distances right_speeds counted behind letter_of after_address direct_of code_of stored_of digits_behind digits_of number_of parted items_of numbers_of bytes4 num_bytes encode word_at words_of front is_code count_right axes_right loop_right ranges_right speeds_right fault_of has_room store_of records_from records_of holds share around crosses early overlaps holders outside strays letter checked check_of verdict_of sound_of receiving first reply_of direct_said ear_of returned gathering hearing gathered sound record_reply stored_said
computed = (refl, refl, refl, refl, refl, refl)

pub program-begun : Begun ours program
program-begun =
    let es : List Event = events_of ours (fresh, no_memory) lines in
    let l : Lent = lent (replicate 32 0) almost.1 in
    subst (λ (b : Board). idles b ≡ true → (ours.hear 13 no_ports l b).1.refusal ≡ 0 → (ours.hear 13 no_ports l b).1.len ≡ 0 →
    Begun ours ((ours.hear 13 no_ports l b).0, (ours.hear 13 no_ports l b).1.after.memory))
    (sym (as-events ours (fresh, no_memory) lines)) (ours-begins es no_ports l) computed.0 computed.1 computed.2

-- and it is the program that runs, where a stop is allowed
pub program_runs : (program.0.engine.run.job ≡ job.Ready) × (program.0.engine.held.records ≡ 1) × (stoppable program.0 ≡ true)
program_runs = (computed.3, computed.4, computed.5)
