-- `board::reply::put` meets its contract. Assumes nothing.
use Rattle.board.proofs.reply.put.Goals as goal

pub returns-in-Silent : goal.returns-in-Silent
returns-in-Silent c = simp c.in-Silent.is

pub returns-in-One : goal.returns-in-One
returns-in-One c = simp (c.in-One.is, c.put_one.ensures)

pub returns-in-Positions : goal.returns-in-Positions
returns-in-Positions c = simp (c.in-Positions.is, c.put_positions.ensures)

pub returns-in-Port : goal.returns-in-Port
returns-in-Port c = simp (c.in-Port.is, c.put_port.ensures)

pub returns-in-Fault : goal.returns-in-Fault
returns-in-Fault c = simp (c.in-Fault.is, c.put_fault.ensures)
