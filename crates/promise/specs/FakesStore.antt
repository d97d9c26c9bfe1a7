-- More machines and ways to join that the requests must shut out: joins that refuse or write otherwise (02 §4), and tables that are not true
-- (02 §6). The files FakesJoin and FakesTable of proofs/laws show which promise each fails.
use Rattle.std.specs.Prelude.{ℕ, ◌+◌, ◌&&◌, ◌||◌, List, [], ◌++◌, map, eqb, pos, ◌+ℤ◌, drop, set}
use Rattle.count.specs.Chars.{ch}
use Rattle.count.specs.Pick.{pick}
use Rattle.count.specs.Numbers.{word}
use Rattle.count.specs.Ranges.{nth}
use Rattle.record.specs.declared.Record.{Record}
use Rattle.record.specs.Memory.{Memory, memory}
use Rattle.record.specs.Places.{in_use, Records, records_of, encode_all}
use Rattle.record.specs.Places.Records.{are, none-are}
use Rattle.program.specs.Edges.{leads_out, of_these}
use Rattle.join.specs.Join.{counted, refusal_of, both, joined_memory, joining, answer, join_of}
use Rattle.board.specs.declared.Board.{Board}
use Rattle.board.specs.Calls.{lent, Outcome, receiving, fresh}
use Rattle.promise.specs.Machine.{Machine, Heard, ours}
use Rattle.promise.specs.Join.{Joiner}

-- ---- joining two programs (02 §4)

-- G for every jump or wait to the first's end place, whatever stands behind it
abbrev pub any_end : Joiner
any_end a m b t =
    pick (eqb (refusal_of a m b t) 0 && of_these leads_out (records_of (counted a b) m.store)) (joining (answer (ch "G") a) m) (join_of a m b t)

-- the second's bytes are written before anything is tested
abbrev pub writes_first : Joiner
writes_first a m b t = joining (join_of a m b t).joined (joined_memory a m b t)

-- the offsets of the second's loops, jumps and waits are moved by the first's count of records
abbrev pub moved : ℕ → Record → Record
moved n r =
    pick (eqb r.code (ch "3") || eqb r.code (ch "2"))
    (record { code = r.code; count = r.count; words = set r.words 1 (word (nth r.words 1 +ℤ pos n)) }) r

abbrev pub moved_bytes : ℕ → Records → List ℕ
moved_bytes n (are l) = encode_all (map (moved n) l)
moved_bytes n none-are = []

abbrev pub moves_offsets : Joiner
moves_offsets a m b t =
    pick (eqb (refusal_of a m b t) 0)
    (joining (answer 0 (both a b))
    (memory (in_use a m.store ++ moved_bytes a.records (records_of (counted b a) t) ++ drop (a.used + b.used) m.store) (joined_memory a m b t).table))
    (join_of a m b t)

-- ---- the table (02 §6)

-- a stored record's entry is the start of the record after it
abbrev pub next_start : Board → Outcome → Memory
next_start b o =
    pick (eqb o.result.board.engine.held.records (b.engine.held.records + 1))
    (memory o.after.memory.store (set o.after.memory.table b.engine.held.records o.result.board.engine.held.used))
    o.after.memory

abbrev entering : Board → Outcome → Board × Heard
entering b o =
    (o.result.board, record { len = o.result.len; refusal = o.result.refusal; after = lent o.after.reply (next_start b o) })

abbrev pub enters_after : Machine
enters_after = record {
  State = Board;
  board = λ b. b;
  first = fresh;
  hear = λ v ports l b. entering b (receiving v ports b l);
  tick = ours.tick;
  go = ours.go;
  list = ours.list;
}

-- a join leaves the table as it was
abbrev pub leaves_table : Joiner
leaves_table a m b t = joining (join_of a m b t).joined (memory (join_of a m b t).memory.store m.table)
