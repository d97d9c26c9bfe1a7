-- `board::calls::as_point` meets its contract. Assumes nothing.
use mir.Syntax.{w32}
use mir.ValLaws.{to_z-of_z}
use Rattle.board.specs.Calls.{number_of}
use Rattle.board.proofs.Signed.{number_fits}
use Rattle.board.proofs.calls.as_point.Goals as goal

pub returns : goal.returns
returns c = let p = c.args.c in
    rw (c.number.ensures, c.number-2.ensures, c.number-3.ensures, c.number-4.ensures, to_z-of_z w32 (number_of p.x) (number_fits p.x), to_z-of_z w32 (number_of p.y) (number_fits p.y), to_z-of_z w32 (number_of p.z) (number_fits p.z), to_z-of_z w32 (number_of p.a) (number_fits p.a))
