-- `motion::Move::look_on` meets its contract. Assumes nothing.
use Rattle.motion.specs.work.Here.{next_of}
use Rattle.motion.proofs.laws.Beats.{looked-made, looked-over}
use Rattle.motion.proofs.Move.look_on.Goals as goal

pub returns-in-Some : goal.returns-in-Some
returns-in-Some c = looked-made (next_of c.args.self c.args.at) c.beat.ensures _ c.in-Some.is

pub returns-in-None : goal.returns-in-None
returns-in-None c = looked-over (next_of c.args.self c.args.at) c.beat.ensures c.in-None.is
