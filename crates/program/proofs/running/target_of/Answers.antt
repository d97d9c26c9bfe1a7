-- `program::target_of` meets its contract. Assumes nothing.
use Prim.Native.Nat.{◌+◌, ◌-◌}
use mathlib.Core.Path.{sym, ◌∙◌}
use native.Mathlib.Omega.{arith}
use borrow.Author.Tests.{le-leb, lt-leb}
use Rattle.program.proofs.laws.Target.{leads-up, leads-below, leads-down}
use Rattle.program.proofs.running.target_of.Goals as goal

pub returns-then-p-w : goal.returns-then-p-w
returns-then-p-w c = rw c.from-p.ensures (sym (leads-up _ _ _ c.if-w-lt2147483648.true ∙ rw (le-leb (c.args.place + c.args.w) c.args.end (omega arith))))

pub returns-then-w-lt2147483648 : goal.returns-then-w-lt2147483648
returns-then-w-lt2147483648 c = sym (leads-up _ _ _ c.if-w-lt2147483648.true ∙ rw (lt-leb (c.args.place + c.args.w) c.args.end (omega arith)))

pub returns-then-p-b : goal.returns-then-p-b
returns-then-p-b c = sym (leads-below _ _ _ c.if-w-lt2147483648.false (omega arith))

pub returns-then-p-b-2 : goal.returns-then-p-b-2
returns-then-p-b-2 c =
    rw c.from-p.ensures
    (sym (leads-down c.args.place _ _ c.if-w-lt2147483648.false (omega arith) ∙ rw (le-leb (c.args.place - (4294967295 - c.args.w) - 1) c.args.end (omega arith))))

pub returns : goal.returns
returns c = sym (leads-down c.args.place _ _ c.if-w-lt2147483648.false (omega arith) ∙ rw (lt-leb (c.args.place - (4294967295 - c.args.w) - 1) c.args.end (omega arith)))
