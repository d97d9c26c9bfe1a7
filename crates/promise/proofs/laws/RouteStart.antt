-- S on an idle board, in a call that is not refused and without a reply, has started the program. Assumes nothing.
use Prim.Native.Nat.{ℕ}
use mathlib.Core.Bool.{true, false}
use mathlib.Core.List.{List}
use mathlib.Core.Path.{◌≡◌, sym, ◌∙◌, ap, subst}
use lib.ListN.{get_or, take}
use Rattle.line.specs.Letter.{Letter}
use Rattle.line.specs.Letter as letter
use Rattle.line.specs.Lines.{letter_paper}
use Rattle.record.specs.Memory.{RightMemory}
use Rattle.engine.specs.State.{started}
use Rattle.board.specs.declared.Board.{Board}
use Rattle.board.specs.State.{board, no_line, sound, Said}
use Rattle.board.specs.Direct.{effect_of, accepted_said}
use Rattle.board.specs.Calls.{Lent, Outcome, receiving}
use Rattle.board.proofs.laws.Laws.{hearing-sound}
use Rattle.promise.specs.Machine.{ours, after_all}
use Rattle.promise.specs.Demands.{idles}
use Rattle.promise.specs.Circles.{line_of}
use Rattle.promise.specs.Route.{Started, StartRoutes}
use Rattle.promise.proofs.laws.KeepsCalls.{calm, calm-memory, calm-sound}
use Rattle.promise.proofs.laws.Letters.{is-letter}
use Rattle.promise.proofs.laws.Obeyed.{line-heard}

begins-from : (ports : List ℕ) (l : Lent) (b : Board) → idles b ≡ true → (letter_paper (line_of b).letter).number ≡ 83
    → (receiving 13 ports b l).result.refusal ≡ 0 → (receiving 13 ports b l).result.len ≡ 0
    → Started ours b.engine.held ((receiving 13 ports b l).result.board, (receiving 13 ports b l).after.memory)
begins-from ports l b i k f n =
    let c = calm 13 ports b l f in
    let g = (line-heard ports b l i f (ap (λ (z : ℕ). get_or (take z (receiving 13 ports b l).after.reply) 0 48) n)).1 in
    let w = g ∙ ap (λ (x : Letter). accepted_said (effect_of x (line_of b).words ports b.engine false) l.memory) (is-letter (line_of b).letter letter.Start k) in
    let a : (receiving 13 ports b l).result.board ≡ board (started b.engine) false no_line =
    ap (λ (o : Outcome). o.result.board) c ∙ ap (λ (x : Said). x.board) w in
    record {
      sound = ap (λ (o : Outcome). sound o.result.board) c ∙ hearing-sound 13 ports b l.memory (calm-sound 13 ports b l f);
      standing = ap (λ (x : Board). x.standing) a;
      held = ap (λ (x : Board). x.engine.held) a;
      run = ap (λ (x : Board). x.engine.run) a;
      memory = subst RightMemory (sym (ap (λ (o : Outcome). o.after.memory) c ∙ ap (λ (x : Said). x.memory) w)) (calm-memory 13 ports b l f);
    }

-- A START
pub ours-start-routes : StartRoutes ours
ours-start-routes es ports l i k f n = begins-from ports l (after_all ours es ours.first) i k f n
