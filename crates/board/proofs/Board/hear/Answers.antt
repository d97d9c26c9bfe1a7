-- `board::Board::hear` meets its contract. Assumes nothing.
use mathlib.Core.Path.{sym, ap, ◌∙◌}
use Rattle.count.proofs.laws.Truth.{never}
use Rattle.board.specs.Receive.{reset_said}
use Rattle.board.specs.work.Ears.{is_gather}
use Rattle.board.proofs.laws.Hears.{spoke-as, stop-so, break-so}
use Rattle.board.proofs.Board.hear.Goals as goal

-- a byte that is gathered does not come here
pub returns-in-Gather : goal.returns-in-Gather
returns-in-Gather c = never (sym c.requires.1 ∙ ap is_gather c.in-Gather.is)

pub returns-in-Return : goal.returns-in-Return
returns-in-Return c = rw c.in-Return.is c.end_line.ensures

pub returns-in-Listen : goal.returns-in-Listen
returns-in-Listen c = rw c.in-Listen.is (spoke-as _ c.listen.ensures)

pub returns-in-Ignore : goal.returns-in-Ignore
returns-in-Ignore c = rw c.in-Ignore.is (spoke-as _ c.says-in-Ignore.ensures)

pub returns-in-Stop : goal.returns-in-Stop
returns-in-Stop c = rw c.in-Stop.is (stop-so _ _ c.stop.ensures)

pub returns-in-Reset : goal.returns-in-Reset
unfolding reset_said
returns-in-Reset c = rw c.in-Reset.is (spoke-as _ c.reset.ensures)

pub returns-in-Quit : goal.returns-in-Quit
returns-in-Quit c = rw c.in-Quit.is (break-so _ _ c.quit.ensures)
