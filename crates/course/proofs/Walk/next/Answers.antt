-- `course::Walk::next` meets its contract: the reply framed, and the run behind it. Assumes nothing.
use Prim.Native.Nat.{ℕ, ◌-◌, ◌≤◌}
use borrow.Rule.Slice.PartMut.{put_mid}
use mathlib.Core.Path.{◌≡◌, ap, sym, ◌∙◌}
use mathlib.Core.Bool.{true}
use native.Mathlib.Omega.{arith}
use lib.ListN.{length}
use borrow.Author.Tests.{not-true, not-false}
use Rattle.record.specs.Memory.{memory}
use Rattle.course.specs.declared.Portion.{Portion}
use Rattle.course.specs.Walk.{walk, ready}
use Rattle.course.specs.Walk.{done_of}
use Rattle.course.proofs.Portions.{ready-parts}
use Rattle.course.proofs.Bytes.{next-on, next-unready, next-made, next-still, framed-here, reply-fits, line-fits, run_fits, mid-long}
use Rattle.course.proofs.Walk.next.Goals as goal

pub returns-then-not-self : goal.returns-then-not-self
returns-then-not-self c =
    let a = c.args in
    let m = memory a.store.now a.table.now in
    ap (λ (x : Portion). done_of x m a.out.now) c.stay.ensures ∙ next-on a.byte a.self m a.out.now (not-true _ c.if-not-self.true)

pub returns-then-not-is_ready : goal.returns-then-not-is_ready
unfolding ready
returns-then-not-is_ready c =
    let a = c.args in
    let m = memory a.store.now a.table.now in
    ap (λ (x : Portion). done_of x m a.out.now) c.stay-then-not-is_ready.ensures ∙ next-unready a.byte a.self m a.out.now (not-false _ c.if-not-self.false) (sym c.is_ready.ensures ∙ c.if-not-is_ready.true)

pub slice_bounds-receive-count : goal.slice_bounds-receive-count
unfolding ready
slice_bounds-receive-count c =
    let a = c.args in
    let m = memory a.store.now a.table.now in
    let e : ready a.self m a.out.now ≡ true = sym c.is_ready.ensures ∙ c.if-not-is_ready.false in
    let p = ready-parts a.self m a.out.now e in
    omega (arith, p.0)

pub slice_bounds-receive-start : goal.slice_bounds-receive-start
unfolding ready
slice_bounds-receive-start c =
    let a = c.args in
    let m = memory a.store.now a.table.now in
    let e : ready a.self m a.out.now ≡ true = sym c.is_ready.ensures ∙ c.if-not-is_ready.false in
    let p = ready-parts a.self m a.out.now e in
    omega (arith, p.0)

pub put_reply-n-requires : goal.put_reply-n-requires
unfolding ready
put_reply-n-requires c =
    let a = c.args in
    let m = memory a.store.now a.table.now in
    let o : a.self.over ≡ true = not-false _ c.if-not-self.false in
    let e : ready a.self m a.out.now ≡ true = sym c.is_ready.ensures ∙ c.if-not-is_ready.false in
    let q = c.receive-heard in
    let p = ready-parts a.self m a.out.now e in
    omega (arith, reply-fits a.byte a.self m a.out.now o e q.ensures, mid-long 2 a.out.now q.new.reply (omega (arith, p.0)) q.auto.reply, p.0)

pub shape_of-store-then-not-runs_now : goal.shape_of-store-then-not-runs_now
shape_of-store-then-not-runs_now c = c.receive-heard.auto.store

pub shape_of-table-then-not-runs_now : goal.shape_of-table-then-not-runs_now
shape_of-table-then-not-runs_now c = c.receive-heard.auto.table

pub shape_of-out-then-not-runs_now : goal.shape_of-out-then-not-runs_now
unfolding ready
shape_of-out-then-not-runs_now c =
    let a = c.args in
    let m = memory a.store.now a.table.now in
    let e : ready a.self m a.out.now ≡ true = sym c.is_ready.ensures ∙ c.if-not-is_ready.false in
    let q = c.receive-heard in
    let p = ready-parts a.self m a.out.now e in
    c.put_reply-n.auto.out ∙ mid-long 2 a.out.now q.new.reply (omega (arith, p.0)) q.auto.reply

pub returns-then-not-runs_now : goal.returns-then-not-runs_now
unfolding ready
returns-then-not-runs_now c =
    let a = c.args in
    let m = memory a.store.now a.table.now in
    let o : a.self.over ≡ true = not-false _ c.if-not-self.false in
    let e : ready a.self m a.out.now ≡ true = sym c.is_ready.ensures ∙ c.if-not-is_ready.false in
    next-still a.byte a.self m a.out.now o e c.receive-heard.ensures (rw c.len.ensures at c.put_reply-n.ensures) (sym c.runs_now.ensures ∙ c.if-not-runs_now.true)

pub slice_bounds-run-count : goal.slice_bounds-run-count
unfolding ready
slice_bounds-run-count c =
    let a = c.args in
    let m = memory a.store.now a.table.now in
    let o : a.self.over ≡ true = not-false _ c.if-not-self.false in
    let e : ready a.self m a.out.now ≡ true = sym c.is_ready.ensures ∙ c.if-not-is_ready.false in
    let q = c.receive-heard in
    let p = ready-parts a.self m a.out.now e in
    let f = c.put_reply-n in
    let v = framed-here a.byte a.self m a.out.now o e q.ensures (rw c.len.ensures at f.ensures) in
    omega (arith, line-fits a.byte a.self m a.out.now o e q.ensures v, f.auto.out, mid-long 2 a.out.now q.new.reply (omega (arith, p.0)) q.auto.reply, p.0)

pub slice_bounds-run-start : goal.slice_bounds-run-start
unfolding ready
slice_bounds-run-start c =
    let a = c.args in
    let m = memory a.store.now a.table.now in
    let o : a.self.over ≡ true = not-false _ c.if-not-self.false in
    let e : ready a.self m a.out.now ≡ true = sym c.is_ready.ensures ∙ c.if-not-is_ready.false in
    let q = c.receive-heard in
    let p = ready-parts a.self m a.out.now e in
    let f = c.put_reply-n in
    let v = framed-here a.byte a.self m a.out.now o e q.ensures (rw c.len.ensures at f.ensures) in
    omega (arith, line-fits a.byte a.self m a.out.now o e q.ensures v, f.auto.out, mid-long 2 a.out.now q.new.reply (omega (arith, p.0)) q.auto.reply, p.0)

pub end_of-len-requires : goal.end_of-len-requires
unfolding ready
end_of-len-requires c =
    let a = c.args in
    let m = memory a.store.now a.table.now in
    let o : a.self.over ≡ true = not-false _ c.if-not-self.false in
    let e : ready a.self m a.out.now ≡ true = sym c.is_ready.ensures ∙ c.if-not-is_ready.false in
    let q = c.receive-heard in
    let p = ready-parts a.self m a.out.now e in
    let f = c.put_reply-n in
    let v = framed-here a.byte a.self m a.out.now o e q.ensures (rw c.len.ensures at f.ensures) in
    let x = c.run-ran in
    let l : length f.new.out ≡ length a.out.now = f.auto.out ∙ mid-long 2 a.out.now q.new.reply (omega (arith, p.0)) q.auto.reply in
    let n : f.result ≤ length f.new.out = omega (arith, line-fits a.byte a.self m a.out.now o e q.ensures v, l, p.0) in
    rw (c.len-2.ensures, mid-long f.result f.new.out x.new.out n x.auto.out) (omega (arith, run_fits a.byte a.self m a.out.now o e q.ensures v x.ensures x.auto.out, n))

pub shape_of-store : goal.shape_of-store
shape_of-store c = c.receive-heard.auto.store

pub shape_of-table : goal.shape_of-table
shape_of-table c = c.receive-heard.auto.table

pub shape_of-out : goal.shape_of-out
unfolding ready
shape_of-out c =
    let a = c.args in
    let m = memory a.store.now a.table.now in
    let o : a.self.over ≡ true = not-false _ c.if-not-self.false in
    let e : ready a.self m a.out.now ≡ true = sym c.is_ready.ensures ∙ c.if-not-is_ready.false in
    let q = c.receive-heard in
    let p = ready-parts a.self m a.out.now e in
    let f = c.put_reply-n in
    let v = framed-here a.byte a.self m a.out.now o e q.ensures (rw c.len.ensures at f.ensures) in
    let x = c.run-ran in
    let l : length f.new.out ≡ length a.out.now = f.auto.out ∙ mid-long 2 a.out.now q.new.reply (omega (arith, p.0)) q.auto.reply in
    mid-long f.result f.new.out x.new.out (omega (arith, line-fits a.byte a.self m a.out.now o e q.ensures v, l, p.0)) x.auto.out ∙ l

pub returns : goal.returns
unfolding ready
returns c =
    let a = c.args in
    let m = memory a.store.now a.table.now in
    let o : a.self.over ≡ true = not-false _ c.if-not-self.false in
    let e : ready a.self m a.out.now ≡ true = sym c.is_ready.ensures ∙ c.if-not-is_ready.false in
    let q = c.receive-heard in
    let p = ready-parts a.self m a.out.now e in
    let x = c.run-ran in
    let f = c.put_reply-n in
    ap (λ (n : ℕ). done_of (record { walk = walk x.result.board x.result.calls x.result.over; len = n }) (memory q.new.store q.new.table) (put_mid f.result (length f.new.out - f.result) f.new.out x.new.out)) (rw c.len-2.ensures at c.end_of-len.ensures)
    ∙ next-made a.byte a.self m a.out.now o e q.ensures (rw c.len.ensures at c.put_reply-n.ensures) x.ensures
