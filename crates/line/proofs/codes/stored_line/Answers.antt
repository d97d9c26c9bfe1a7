-- `line::stored_line` meets its contract: the code, and what is behind it. Assumes nothing.
use Prim.Native.Nat.{◌<◌}
use mathlib.Core.Path.{◌≡◌, ap, sym, ◌∙◌}
use native.Mathlib.Omega.{arith}
use lib.ListN.{length, drop}
use Rattle.count.proofs.laws.Truth.{never}
use Rattle.line.specs.declared.Code.TheVariants.{End}
use Rattle.line.specs.Code.{Code}
use Rattle.line.specs.Said.{code_said, code_found}
use Rattle.line.specs.Lines.{by_code}
use Rattle.line.proofs.Shapes.{stored-none, stored-first, stored-coded, ends_more}
use Rattle.line.proofs.codes.stored_line.Goals as goal
use Rattle.line.proofs.codes.stored_line.Goals.{in-End, in_default, else-matches-via-then-matches+else-not-alone, else-matches-via-else-matches}

pub returns-then-line-eq0 : goal.returns-then-line-eq0
returns-then-line-eq0 c = sym (stored-none c.args.line.now c.if-line-eq0.true)

pub returns-in_err-code : goal.returns-in_err-code
returns-in_err-code c =
    let l = c.args.line.now in
    let e = sym c.code_of.ensures ∙ ap code_found c.in_err-code.was in
    rw c.from_residual.ensures (sym (stored-first l c.if-line-eq0.false ∙ ap (λ (k : Code). by_code k (drop 1 l)) e))

pub returns-then-not-alone : goal.returns-then-not-alone
returns-then-not-alone c =
    let l = c.args.line.now in
    let e = sym c.code_of.ensures ∙ ap code_found c.in_ok-code.was in
    let h : 1 < length l = omega (arith, c.if-line-eq0.false, c.if-not-alone.true) in
    elim c.match-matches.branch [
      | in-End w ↦ ends_more l h ∙ sym (stored-first l c.if-line-eq0.false ∙ ap (λ (k : Code). by_code k (drop 1 l)) (e ∙ ap code_said w.in-End.is))
      | in_default w ↦ never (sym w.matches-is ∙ c.if-matches.true)
    ]

pub returns-in_err-read : goal.returns-in_err-read
returns-in_err-read c =
    let l = c.args.line.now in
    let k = c.in_ok-code in
    let alone : k.code ≡ End → length l ≡ 1 = λ g. elim c.else-matches.branch [
      | else-matches-via-then-matches+else-not-alone w ↦ w.if-not-alone.false
      | else-matches-via-else-matches w ↦ elim c.match-matches.branch [
        | in-End v ↦ never (sym w.if-matches.false ∙ v.matches-is)
        | in_default v ↦ absurd (v.in_default.not-End g)
      ]
    ] in
    rw c.from_residual-in_err-read.ensures
    (sym (stored-coded l k.code c.if-line-eq0.false (sym c.code_of.ensures ∙ ap code_found k.was) alone ∙ rw (sym c.read_behind.ensures ∙ c.in_err-read.was)))

pub returns : goal.returns
returns c =
    let l = c.args.line.now in
    let k = c.in_ok-code in
    let alone : k.code ≡ End → length l ≡ 1 = λ g. elim c.else-matches.branch [
      | else-matches-via-then-matches+else-not-alone w ↦ w.if-not-alone.false
      | else-matches-via-else-matches w ↦ elim c.match-matches.branch [
        | in-End v ↦ never (sym w.if-matches.false ∙ v.matches-is)
        | in_default v ↦ absurd (v.in_default.not-End g)
      ]
    ] in
    sym (stored-coded l k.code c.if-line-eq0.false (sym c.code_of.ensures ∙ ap code_found k.was) alone ∙ rw (sym c.read_behind.ensures ∙ c.in_ok-read.was))
