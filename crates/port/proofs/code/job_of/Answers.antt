-- `port::code::job_of` meets its contract. Assumes nothing.
use borrow.Author.Tests.{ne_eqb}
use Rattle.port.specs.Code.{job_of}
use Rattle.port.proofs.code.job_of.Goals as goal

pub returns-in-0 : goal.returns-in-0
unfolding job_of
returns-in-0 c = rw c.in-0.is

pub returns-in-1 : goal.returns-in-1
unfolding job_of
returns-in-1 c = rw c.in-1.is

pub returns-in-2 : goal.returns-in-2
unfolding job_of
returns-in-2 c = rw c.in-2.is

pub returns-in-3 : goal.returns-in-3
unfolding job_of
returns-in-3 c = rw c.in-3.is

pub returns-in-4 : goal.returns-in-4
unfolding job_of
returns-in-4 c = rw c.in-4.is

pub returns-in-5 : goal.returns-in-5
unfolding job_of
returns-in-5 c = rw c.in-5.is

pub returns-in_default : goal.returns-in_default
unfolding job_of
returns-in_default c = let k = c.in_default.in_default-own.rest in simp (ne_eqb _ _ k.1, ne_eqb _ _ k.0.1, ne_eqb _ _ k.0.0.1, ne_eqb _ _ k.0.0.0.1, ne_eqb _ _ k.0.0.0.0.1, ne_eqb _ _ k.0.0.0.0.0.1)
