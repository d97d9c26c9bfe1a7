-- `port::calls::board_show` meets its contract. Assumes nothing.
use Rattle.port.proofs.laws.Calls.{shown-refused, shown-so}
use Rattle.port.proofs.calls.board_show.Goals as goal

pub returns-then-is_known-sound : goal.returns-then-is_known-sound
returns-then-is_known-sound c = shown-refused c.args.state c.open-board.ensures c.is_known.ensures c.sound.ensures c.shown.ensures c.if-is_known-sound.true

pub returns : goal.returns
returns c = shown-so c.args.state c.open-board.ensures c.is_known.ensures c.sound.ensures c.runs.ensures c.shown-2.ensures c.if-is_known-sound.false
