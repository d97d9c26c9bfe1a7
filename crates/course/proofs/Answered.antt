-- What a run is told to come to says which result it was: no two results of the code read alike. Assumes nothing.
use Rattle.std.specs.Prelude.{◌≡◌}
use Rattle.std.proofs.Common.{ap}
use Rattle.board.proofs.Told.{reply-one}
use Rattle.course.specs.declared.Ran.{Ran as RanBy}
use Rattle.course.specs.Run.{Ran, ran_in}

pub ran-only : (r s : RanBy) → ran_in r ≡ ran_in s → r ≡ s
ran-only r s e =
    let b : r.board ≡ s.board = ap (λ (x : Ran). x.board) e in
    let k : r.calls ≡ s.calls = ap (λ (x : Ran). x.calls) e in
    let o : r.over ≡ s.over = ap (λ (x : Ran). x.over) e in
    let w = reply-one r.written s.written (ap (λ (x : Ran). x.len) e) (ap (λ (x : Ran). x.refusal) e) in
    rw (b, k, o, w)
