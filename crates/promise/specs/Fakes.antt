-- The machines of the fakes: 01's five ("How tight the statements are"), the fourth in both its readings, and others that the demands must
-- shut out. Each is ours but for the one thing that it does wrong; the files Fakes.. of proofs/laws show which demand it fails.
use Rattle.std.specs.Prelude.{ℕ, zero, suc, ◌+◌, Bool, false, not, ◌&&◌, ◌||◌, List, [], ◌∷◌, ◌++◌, eqb, ltb, ℤ, pos, length, take, drop, get_or, replicate}
use Rattle.count.specs.Sizes.{reply_bytes}
use Rattle.count.specs.Chars.{ch}
use Rattle.count.specs.Pick.{pick}
use Rattle.count.specs.Paper.{Paper, says}
use Rattle.sheet.specs.Sheet.{Converted}
use Rattle.sheet.specs.Chain.{results, chained, chain_of}
use Rattle.motion.specs.declared.Counters.{Counters}
use Rattle.travel.specs.declared.Travel.{Travel}
use Rattle.travel.specs.declared.Travel.TheVariants as travel
use Rattle.travel.specs.Next.{pulse_of}
use Rattle.record.specs.declared.Record.{Record}
use Rattle.record.specs.Memory.{Memory, store_fits, table_fits}
use Rattle.record.specs.Places.{Records, records_of}
use Rattle.record.specs.Places.Records.{are, none-are}
use Rattle.record.specs.Table.{fetch_of}
use Rattle.program.specs.Verdict.{Verdict, Sound, Fault, Unreadable}
use Rattle.program.specs.Check.{letter, fault_from}
use Rattle.program.specs.Program.{loop_at, turn_at, target_at}
use Rattle.line.specs.Spaces.{unspaced}
use Rattle.engine.specs.declared.Answer.TheVariants as answer
use Rattle.engine.specs.declared.Job.{Job}
use Rattle.engine.specs.declared.Job.TheVariants as job
use Rattle.engine.specs.State.{with_at, with_run, running}
use Rattle.engine.specs.Tick.{ticked, runs_of}
use Rattle.board.specs.declared.Board.{Board}
use Rattle.board.specs.Calls.{Ticked}
use Rattle.board.specs.State.{board, text_of, line_done}
use Rattle.board.specs.Storing.{named_fault}
use Rattle.board.specs.Receive.{hearing, stop_code}
use Rattle.board.specs.Calls.{Lent, lent, Outcome, refused, answered, clocked, went_on, receiving, clocking, fresh}
use Rattle.course.specs.Walk.{no_memory}
use Rattle.promise.specs.Machine.{Machine, Heard, Clocked, heard_by, clocked_by, ours}
use Rattle.promise.specs.Demands.{idles, stores}
use Rattle.promise.specs.Named.{faulty}
use Rattle.promise.specs.Stop.{stoppable}
use Rattle.promise.specs.Chain.{Chaining}
use Rattle.promise.specs.Route.{comes}

-- ---- ours but for what it hears, for its clock calls, or for what its runs say

abbrev hears_so : (ℕ → List ℕ → Lent → Board → Board × Heard) → Machine
hears_so h = record { State = Board; board = λ b. b; first = fresh; hear = h; tick = ours.tick; go = ours.go; list = ours.list }

abbrev ticks_so : (Memory → Board → Board × Clocked) → Machine
ticks_so t = record { State = Board; board = λ b. b; first = fresh; hear = ours.hear; tick = t; go = ours.go; list = ours.list }

abbrev goes_so : (ℕ → Memory → Board → Board × ℕ) → Machine
goes_so g = record { State = Board; board = λ b. b; first = fresh; hear = ours.hear; tick = ours.tick; go = g; list = ours.list }

-- ---- 01's first, second and third

-- every return is answered with one byte
abbrev says_alone : ℕ → Lent → Heard
says_alone c l = record { len = 1; refusal = 0; after = lent (c ∷ drop 1 l.reply) l.memory }

-- it refuses all lines: every return is answered 5
abbrev pub refuses : Machine
refuses = hears_so (λ v ports l b. pick (eqb v (ch "\r")) (line_done b, says_alone (ch "5") l) (ours.hear v ports l b))

-- it replies 0 to all: every return is answered 0
abbrev pub agrees : Machine
agrees = hears_so (λ v ports l b. pick (eqb v (ch "\r")) (line_done b, says_alone (ch "0") l) (ours.hear v ports l b))

-- its clock call does nothing
abbrev pub sleeps : Machine
sleeps = ticks_so (λ mem b. (b, record { answer = says 5 []; refusal = 0 }))

-- ---- 01's fourth: ours with a flag that is set once it has stood stopped; from then on a host reads another board, or hears other answers

abbrev pub told_as : (Paper → Paper) → Clocked → Clocked
told_as f c = record { answer = f c.answer; refusal = c.refusal }

abbrev pub since_stop : (Board → Board) → (Paper → Paper) → Machine
since_stop shows tells = record {
  State = Board × Bool;
  board = λ s. pick s.1 (shows s.0) s.0;
  first = (fresh, false);
  hear = λ v ports l s. (((ours.hear v ports l s.0).0, s.1 || (ours.hear v ports l s.0).0.standing), (ours.hear v ports l s.0).1);
  tick = λ mem s. (((ours.tick mem s.0).0, s.1), pick s.1 (told_as tells (ours.tick mem s.0).1) (ours.tick mem s.0).1);
  go = λ limit mem s. (((ours.go limit mem s.0).0, s.1), (ours.go limit mem s.0).1);
  list = λ store text s. ours.list store text s.0;
}

-- from the first stop on the positions of a straight movement are those of its end, while its pulses are still answered
abbrev pub end_of : Travel → Counters → Counters
end_of (travel.Straight m) at = m.third
end_of (travel.Round a) at = at

abbrev pub claimed : Job → Counters → Counters
claimed (job.Direct m) at = end_of m at
claimed (job.Moving m) at = end_of m at
claimed job.Idle at = at
claimed job.Storing at = at
claimed job.Ready at = at
claimed (job.Delay q) at = at
claimed (job.Wait c t) at = at

abbrev pub claim : Board → Board
claim b = board (with_at b.engine (claimed b.engine.run.job b.engine.at)) b.standing b.line

abbrev pub claims : Machine
claims = since_stop claim (λ a. a)

-- from the first stop on no pulse is answered any more, while the positions move
abbrev pub muted : Paper → Paper
muted a = pick (eqb a.number 1) (says 5 []) a

abbrev pub mutes : Machine
mutes = since_stop (λ b. b) muted

-- ---- 01's fifth: it invents its number of clock calls, by any rule; one more than it made

abbrev pub miscounts : (ℕ → ℕ) → Machine
miscounts f = goes_so (λ limit mem b. ((ours.go limit mem b).0, f (ours.go limit mem b).1))

abbrev pub invents : Machine
invents = miscounts (λ n. n + 1)

-- ---- beside 01's: what a stop must not do

-- the pulses are spoiled from the first stop on
abbrev pub spoils : (Paper → Paper) → Machine
spoils f = since_stop (λ b. b) f

-- they are slower, at speed 30
abbrev pub slowed : Paper → Paper
slowed a = pick (eqb a.number 1) (says 1 (take 4 a.values ++ (pos 30 ∷ []))) a

abbrev pub slows : Machine
slows = spoils slowed

-- they are turned, x and y exchanged
abbrev pub turned : Paper → Paper
turned a = pick (eqb a.number 1) (says 1 (get_or a.values 1 (pos 0) ∷ get_or a.values 0 (pos 0) ∷ drop 2 a.values)) a

abbrev pub turns : Machine
turns = spoils turned

-- a stop loses a pulse: it makes one clock call whose answer nobody sees
abbrev pub loses_pulse : Machine
loses_pulse = hears_so (λ v ports l b. ours.hear v ports l (pick (eqb v stop_code && stoppable b) (ours.tick l.memory b).0 b))

-- ---- calls that are to be refused

-- a state that 103 refuses is not refused: it hears and ticks on
abbrev pub unseen : ℕ → List ℕ → Board → Lent → Outcome
unseen v ports b l =
    pick (ltb (length l.reply) reply_bytes) (refused 101 b l)
    (pick (not (store_fits l.memory)) (refused 102 b l)
    (pick (not (table_fits l.memory)) (refused 104 b l) (answered (hearing v ports b l.memory) l.reply)))

abbrev pub unseen_tick : Board → Memory → Ticked
unseen_tick b mem =
    pick (not (store_fits mem)) (clocked 102 b answer.Nothing)
    (pick (not (table_fits mem)) (clocked 104 b answer.Nothing)
    (pick b.standing (clocked 0 b answer.Nothing) (went_on b (ticked pulse_of (fetch_of b.engine.held mem) b.engine))))

abbrev pub blind : Machine
blind = record {
  State = Board;
  board = λ b. b;
  first = fresh;
  hear = λ v ports l b. ((unseen v ports b l).result.board, heard_by (unseen v ports b l));
  tick = λ mem b. ((unseen_tick b mem).board, clocked_by (unseen_tick b mem));
  go = ours.go;
  list = ours.list;
}

-- a clock call that is refused 102 is answered so, and yet makes the call on an empty store
abbrev pub stirs : Machine
stirs = ticks_so (λ mem b.
    pick (store_fits mem) (ours.tick mem b) ((ours.tick no_memory b).0, record { answer = says 5 []; refusal = 102 }))

-- ---- where a program goes

-- the place is one further
abbrev pub further : Board → Board
further b = board (with_run b.engine (running b.engine.run.job (b.engine.run.place + 1) b.engine.run.loops)) b.standing b.line

abbrev pub shifts_if : (Board → Ticked → Bool) → Machine
shifts_if when = ticks_so (λ mem b. (pick (when b (clocking b mem)) (further (clocking b mem).board) (clocking b mem).board, clocked_by (clocking b mem)))

-- whatever goes back and runs on goes back one record short: a loop at i with offset -k to i - k + 1
abbrev pub shorts : Machine
shorts = shifts_if (λ b t. ltb t.board.engine.run.place b.engine.run.place && runs_of t.board.engine)

-- a record is passed over after a movement: when a program's movement has made its last pulse the place is one further
abbrev pub overleaps : Machine
overleaps = shifts_if (λ b t. eqb (clocked_by t).answer.number 1 && comes t.board)

-- ---- what is stored

-- every line is answered as ours answers it, and the store's bytes are lost where storing has ended
abbrev pub lost : Board → Outcome → Memory
lost b o = pick (stores b && idles o.result.board) no_memory o.after.memory

abbrev pub lossy : Board → Outcome → Board × Heard
lossy b o = (o.result.board, record { len = o.result.len; refusal = o.result.refusal; after = lent o.after.reply (lost b o) })

abbrev pub loses_bytes : Machine
loses_bytes = hears_so (λ v ports l b. lossy b (receiving v ports b l))

-- ---- the fault that the end line names (02 §1)

-- a reply, and what is lent else as given
abbrev says_text : List ℕ → Lent → Heard
says_text t l = record { len = length t; refusal = 0; after = lent (t ++ drop (length t) l.reply) l.memory }

abbrev told_on : (List Record → Verdict) → Records → Verdict
told_on f (are l) = f l
told_on f none-are = Unreadable

-- where ours names a fault, which is where a reply has six bytes, this one says another verdict on the program
abbrev pub renamed : (List Record → Verdict) → Lent → Board → Board × Heard → Board × Heard
renamed f l b x =
    pick (eqb x.1.len 6) (x.0, says_text (ch "G" ∷ named_fault (told_on f (records_of b.engine.held l.memory.store))) l) x

abbrev renames : (List Record → Verdict) → Machine
renames f = hears_so (λ v ports l b. renamed f l b (ours.hear v ports l b))

-- the board before: a single G, as for a store that is not readable
abbrev pub bare : Machine
bare = renames (λ l. Unreadable)

-- it names the largest faulty place
abbrev pub last_fault : (ℕ → ℕ) → ℕ → Verdict
last_fault f zero = Sound
last_fault f (suc k) = pick (eqb (f k) 0) (last_fault f k) (Fault (f k) k)

abbrev pub largest : Machine
largest = renames (λ l. last_fault (letter (loop_at l) (turn_at l) (target_at l) (length l)) (length l))

-- at one place it names the later letter
abbrev pub later_letter : List Record → ℕ → ℕ
later_letter l p =
    pick (faulty l (ch "e") p) (ch "e")
    (pick (faulty l (ch "d") p) (ch "d") (pick (faulty l (ch "c") p) (ch "c") (pick (faulty l (ch "b") p) (ch "b") (pick (faulty l (ch "a") p) (ch "a") 0))))

abbrev pub later : Machine
later = renames (λ l. fault_from (later_letter l) (length l) 0)

-- ---- spaces after commas (02 §8)

-- the board before: a line with such a space is answered 5
abbrev pub has_spaces : Board → Bool
has_spaces b = not (eqb (length (unspaced (text_of b.line))) b.line.len)

abbrev pub strict : Machine
strict = hears_so (λ v ports l b. pick (eqb v (ch "\r") && has_spaces b) (line_done b, says_alone (ch "5") l) (ours.hear v ports l b))

-- ---- a chain of distances (02 §2)

abbrev pub values : List Converted → List ℤ
values [] = []
values (r ∷ l) = r.value ∷ values l

-- 01's way for a single distance, used for a chain: each is converted by itself
unfoldable pub one_by_one : Chaining
one_by_one a l output = chained 0 (values (results a l))

-- a refusal sets the output to zeros
abbrev pub clears : Chaining
clears a l output = pick (eqb (chain_of a l output).refusal 0) (chain_of a l output) (chained (chain_of a l output).refusal (replicate (length output) (pos 0)))
