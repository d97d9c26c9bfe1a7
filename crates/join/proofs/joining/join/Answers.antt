-- `join::join` meets its contract. Assumes nothing.
use Rattle.std.proofs.Common.{ℕ, List, ◌≡◌, ◌+◌, ◌≤◌, length, sym, arith}
use Rattle.std.proofs.lemmas.Result.{err_from_is_err_and}
use Rattle.record.specs.declared.Held.{Held}
use Rattle.record.specs.Bytes.{Below}
use Rattle.record.specs.Memory.{Memory, memory}
use Rattle.record.proofs.laws.Replies.{number-some}
use Rattle.join.specs.Join.{both, end_to_end, refusal_of}
use Rattle.join.proofs.laws.Passed.{passed, long, few, refused}
use Rattle.join.proofs.laws.Joined.{joined-zero, joined-so}
use Rattle.join.proofs.joining.join.Goals as goal

record Fits (a : Held) (m : Memory) (b : Held) (t : List ℕ) : Type 0 where
  records : a.records + b.records ≤ 1000
  used : a.used + b.used ≤ 16384
  store : length m.store ≡ 16384
  other : length t ≡ 16384

fits : (a : Held) (m : Memory) (b : Held) (t : List ℕ) → 0 ≡ refusal_of a m b t → Fits a m b t
fits a m b t z =
    let p = passed a m b t (sym z) in
    let f = few a m b t p in
    let l = long a m b t p in
    record { records = f.0; used = f.1; store = l.0; other = l.1 }

pub returns-in_err-refusal_of : goal.returns-in_err-refusal_of
returns-in_err-refusal_of c =
    let p = err_from_is_err_and c.from_residual.result c.from_residual.ensures.1 in
    rw (p.1, p.2) (refused _ _ _ _ c.in_err-refusal_of.ensures (number-some c.in_err-refusal_of.field-0.0))

pub put_bytes-requires : goal.put_bytes-requires
put_bytes-requires c =
    let a = c.args in
    let f = fits a.first (memory a.store.now a.table.now) a.second a.other.now c.in_ok-refusal_of.ensures in
    (omega (arith, f.used, f.store), omega (arith, f.used, f.other))

pub overflow_cast-held : goal.overflow_cast-held
overflow_cast-held c =
    let a = c.args in
    omega (arith, (fits a.first (memory a.store.now a.table.now) a.second a.other.now c.in_ok-refusal_of.ensures).used)

pub overflow_add-held-2 : goal.overflow_add-held-2
overflow_add-held-2 c =
    let a = c.args in
    omega (arith, (fits a.first (memory a.store.now a.table.now) a.second a.other.now c.in_ok-refusal_of.ensures).records)

-- the joined program is readable
pub returns-in_err-fill : goal.returns-in_err-fill
unfolding both end_to_end
returns-in_err-fill c =
    let a = c.args in
    let m = memory a.store.now a.table.now in
    let g : Below 256 a.store.now = record { at = λ j. omega (arith, c.slice_known-1.given j) } in
    let h : Below 256 a.other.now = record { at = λ j. omega (arith, c.type_inv.other j) } in
    absurd (number-some _ (joined-zero a.first m a.second a.other.now (sym c.in_ok-refusal_of.ensures) g h (rw (c.put_bytes.ensures, c.from-at.ensures, c.from-n.ensures, c.axes_beside.ensures) at c.in_err-fill.ensures)))

pub returns : goal.returns
unfolding both end_to_end
returns c =
    let a = c.args in
    let m = memory a.store.now a.table.now in
    let g : Below 256 a.store.now = record { at = λ j. omega (arith, c.slice_known-1.given j) } in
    let h : Below 256 a.other.now = record { at = λ j. omega (arith, c.type_inv.other j) } in
    rw (c.put_bytes.ensures, c.from-at.ensures, c.from-n.ensures, c.axes_beside.ensures)
    (joined-so a.first m a.second a.other.now (sym c.in_ok-refusal_of.ensures) g h (rw (c.put_bytes.ensures, c.from-at.ensures, c.from-n.ensures, c.axes_beside.ensures) at c.in_ok-fill.ensures))
