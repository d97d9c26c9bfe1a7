-- `board::receive::job_ear` meets its contract. Assumes nothing.
use Rattle.board.proofs.receive.job_ear.Goals as goal

pub returns-then-standing-is_gathering : goal.returns-then-standing-is_gathering
returns-then-standing-is_gathering c = simp (← c.is_gathering.ensures, c.if-standing-is_gathering.true, c.line_ear.ensures)

pub returns-then-is_waiting : goal.returns-then-is_waiting
returns-then-is_waiting c = simp (← c.is_gathering.ensures, c.if-standing-is_gathering.false, ← c.is_waiting.ensures, c.if-is_waiting.true)

pub returns : goal.returns
returns c = simp (← c.is_gathering.ensures, c.if-standing-is_gathering.false, ← c.is_waiting.ensures, c.if-is_waiting.false)
