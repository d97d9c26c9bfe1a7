-- What an answer of the code says is said by no other. Assumes nothing.
use Rattle.std.specs.Prelude.{ℕ, ◌≡◌, Option, Some, None, Result, Ok, Err}
use mathlib.Core.Path.{refl, sym, ap}
use native.Mathlib.Omega.{arith}
use lib.Dec.{eqb}
use Rattle.count.specs.Pick.{pick}
use Rattle.count.proofs.laws.Truth.{never}
use Rattle.program.specs.declared.Rule.{Rule}
use Rattle.program.specs.declared.Rule.TheVariants.{Outside, Early, Overlaps, Crowded, Strays}
use Rattle.program.specs.declared.Flaw.{Flaw}
use Rattle.program.specs.declared.Flaw.TheVariants as flaw
use Rattle.program.specs.declared.Edges.{Edges}
use Rattle.program.specs.declared.Going as code
use Rattle.program.specs.declared.Going.TheVariants as sent
use Rattle.program.specs.declared.Way as made
use Rattle.program.specs.declared.Lead as lead
use Rattle.program.specs.Going.{Way, kind_in, place_in, target_in, way_in}
use Rattle.program.specs.work.Leap.{Lead, lead_in}
use Rattle.program.specs.Verdict.{letter_of, verdict}
use Rattle.program.specs.Edges.{Acceptance, acceptance_in}

rule_of : ℕ → Rule
rule_of k = pick (eqb k 97) Outside (pick (eqb k 98) Early (pick (eqb k 99) Overlaps (pick (eqb k 100) Crowded Strays)))

rule-back : (r : Rule) → rule_of (letter_of r) ≡ r
unfolding rule_of
rule-back Outside = refl
rule-back Early = refl
rule-back Overlaps = refl
rule-back Crowded = refl
rule-back Strays = refl

-- a letter names one rule
pub letter-only : (r s : Rule) → letter_of r ≡ letter_of s → r ≡ s
letter-only r s e = rw (← rule-back r, e, rule-back s)

-- and is not 0
pub letter-some : (r : Rule) → letter_of r ≡ 0 → ⊥
letter-some Outside e = absurd (omega arith)
letter-some Early e = absurd (omega arith)
letter-some Overlaps e = absurd (omega arith)
letter-some Crowded e = absurd (omega arith)
letter-some Strays e = absurd (omega arith)

pub verdict-only : (r s : Result Unit Flaw) → verdict r ≡ verdict s → r ≡ s
verdict-only (Ok u) (Ok v) e = refl
verdict-only (Ok u) (Err flaw.Unreadable) e = cc
verdict-only (Ok u) (Err (flaw.Fault r p)) e = cc
verdict-only (Err flaw.Unreadable) (Ok u) e = cc
verdict-only (Err flaw.Unreadable) (Err flaw.Unreadable) e = refl
verdict-only (Err flaw.Unreadable) (Err (flaw.Fault r p)) e = cc
verdict-only (Err (flaw.Fault r p)) (Ok u) e = cc
verdict-only (Err (flaw.Fault r p)) (Err flaw.Unreadable) e = cc
verdict-only (Err (flaw.Fault r p)) (Err (flaw.Fault s q)) e =
    let l : letter_of r ≡ letter_of s = cc in
    let d : p ≡ q = cc in
    let k = letter-only r s l in
    cc

pub acceptance-only : (r s : Option Edges) → acceptance_in r ≡ acceptance_in s → r ≡ s
acceptance-only None None e = refl
acceptance-only None (Some f) e = never (ap (λ (a : Acceptance). a.accepted) e)
acceptance-only (Some d) None e = never (sym (ap (λ (a : Acceptance). a.accepted) e))
acceptance-only (Some d) (Some f) e =
    let o : d.out ≡ f.out = ap (λ (a : Acceptance). a.out) e in
    let q : d.first ≡ f.first = ap (λ (a : Acceptance). a.first) e in
    rw (o, q)

going-only : (g h : code.Going) → kind_in g ≡ kind_in h → place_in g ≡ place_in h → target_in g ≡ target_in h → g ≡ h
going-only (sent.To p) (sent.To q) e d t = cc
going-only (sent.To p) (sent.Waits q u) e d t = cc
going-only (sent.To p) sent.Wrong e d t = cc
going-only (sent.Waits p u) (sent.To q) e d t = cc
going-only (sent.Waits p u) (sent.Waits q v) e d t = cc
going-only (sent.Waits p u) sent.Wrong e d t = cc
going-only sent.Wrong (sent.To q) e d t = cc
going-only sent.Wrong (sent.Waits q v) e d t = cc
going-only sent.Wrong sent.Wrong e d t = refl

pub way-only : (r s : made.Way) → way_in r ≡ way_in s → r ≡ s
way-only r s e =
    let g = going-only r.going s.going (ap (λ (w : Way). w.going) e) (ap (λ (w : Way). w.place) e) (ap (λ (w : Way). w.target) e) in
    let o : r.loops ≡ s.loops = ap (λ (w : Way). w.loops) e in
    rw (g, o)

pub lead-only : (r s : lead.Lead) → lead_in r ≡ lead_in s → r ≡ s
lead-only r s e =
    let g = going-only r.going s.going (ap (λ (w : Lead). w.going) e) (ap (λ (w : Lead). w.place) e) (ap (λ (w : Lead). w.target) e) in
    let d : r.depth ≡ s.depth = ap (λ (w : Lead). w.depth) e in
    let t : r.top ≡ s.top = ap (λ (w : Lead). w.top) e in
    let l : r.last ≡ s.last = ap (λ (w : Lead). w.last) e in
    rw (g, d, t, l)
