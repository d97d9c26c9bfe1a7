-- Stands in contracts of functions that are not exported: nothing of it need be believed. Its laws: proofs/laws/Work.antt.
use Rattle.std.specs.Prelude.{◌<◌, ◌≡◌, get_or}
use Rattle.record.specs.declared.Record.{Record}

-- the words that become smaller numbers fit: a character, sent or waited for, and a delay
pub record Fits (r : Record) : Type 0 where
  pub sent : r.code ≡ 49 → get_or r.words 0 0 < 256
  pub awaited : r.code ≡ 50 → get_or r.words 0 0 < 256
  pub pauses : r.code ≡ 53 → get_or r.words 0 0 < 65536
