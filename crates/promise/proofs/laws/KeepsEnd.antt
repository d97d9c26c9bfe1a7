-- Ours has `EndAccepts` and `EndToEnd`: the end line answered 0 has found the program sound, and what it leaves is listed and stored again.
-- Assumes nothing.
use Prim.Native.Nat.{ℕ}
use mathlib.Core.Path.{◌≡◌, refl, sym, ap, ◌∙◌}
use mathlib.Core.Bool.{Bool, true, false, not, ◌&&◌}
use mathlib.Core.List.{List, [], ◌∷◌}
use native.Mathlib.Omega.{arith}
use lib.ListN.{length, get_or}
use Rattle.count.specs.Pick.{pick}
use Rattle.count.proofs.laws.Truth.{never, and_parts, and-not}
use Rattle.record.specs.Memory.{Memory}
use Rattle.program.specs.Program.{verdict_of, is_sound, accepted}
use Rattle.program.proofs.laws.Accepting.{computed}
use Rattle.line.specs.Lines.{stored_of}
use Rattle.line.specs.Code.{Code}
use Rattle.engine.specs.declared.Job.{Job}
use Rattle.engine.specs.declared.Job.TheVariants as job
use Rattle.engine.specs.State.{ceased, emptied}
use Rattle.engine.proofs.laws.Facts.{facts}
use Rattle.board.specs.declared.Board.{Board}
use Rattle.board.specs.State.{board, no_line, text_of, Said, said, sound}
use Rattle.board.specs.Storing.{named_fault, end_said, stored_by, stored_said}
use Rattle.engine.specs.Kinds.Ear.{gathers}
use Rattle.engine.specs.Kinds.{Ear}
use Rattle.board.specs.Receive.{ear_by, ear_of, is_storing, returned, gathering, ordinary, hearing}
use Rattle.board.specs.Calls.{Lent, receiving, fresh}
use Rattle.board.proofs.laws.Hears.{sound-engine}
use Rattle.board.proofs.laws.Laws.{hearing-sound}
use Rattle.promise.specs.Machine.{ours, Event, after_all}
use Rattle.promise.specs.Demands.{stores, is_nine, end_line, EndAccepts, EndToEnd}
use Rattle.promise.proofs.laws.KeepsCalls.{calm-memory}
use Rattle.promise.proofs.laws.KeepsReturn.{out-reply, out-board, out-all}
use Rattle.promise.proofs.laws.KeepsLines.{nine-end}
use Rattle.promise.proofs.laws.KeepsTrip.{listed-again}
use Rattle.promise.proofs.laws.KeepsAxes.{always-written}

-- ---- the end line is answered by the check of the program

storing-gathers : (j : Job) → is_storing j ≡ true → ear_by j ≡ gathers
storing-gathers job.Storing h = refl
storing-gathers job.Idle h = never h
storing-gathers (job.Direct m) h = never h
storing-gathers job.Ready h = never h
storing-gathers (job.Moving m) h = never h
storing-gathers (job.Delay q) h = never h
storing-gathers (job.Wait c t) h = never h

not-true : (x : Bool) → not x ≡ true → x ≡ false
not-true true h = never h
not-true false h = refl

second : (o t : Bool) (x y z : Said) → o ≡ false → t ≡ true → pick o x (pick t y z) ≡ y
second o t x y z p q = rw (p, q)

-- what makes a line the end line
end-parts : (b : Board) → end_line b ≡ true
    → (b.line.over ≡ false) × (is_storing b.engine.run.job ≡ true) × (b.standing ≡ false) × (is_nine (text_of b.line) ≡ true)
unfolding end_line
end-parts b e =
    let f = and_parts (not b.line.over && stores b) (is_nine (text_of b.line)) e in
    let g = and_parts (not b.line.over) (stores b) f.0 in
    let s = and_parts (is_storing b.engine.run.job) (not b.standing) g.1 in
    (not-true b.line.over g.0, s.0, not-true b.standing s.1, f.1)

module _ (b : Board) (ports : List ℕ) (mem : Memory) (e : end_line b ≡ true) where
  pub end-heard : hearing 13 ports b mem ≡ end_said b mem
  unfolding hearing ear_of gathering returned stored_said
  end-heard =
      let j = b.engine.run.job in
      let p = end-parts b e in
      let ear : pick b.standing gathers (ear_by j) ≡ gathers = rw p.2 (storing-gathers j p.1) in
      ap (λ (x : Ear). ordinary x 13 ports b mem) ear
      ∙ second b.line.over (stores b) _ _ _ p.0 (and-not (is_storing j) b.standing p.1 p.2)
      ∙ ap (λ (k : Code). stored_by k (stored_of (text_of b.line)) b mem) (nine-end (text_of b.line) p.3)

  -- answered 0, the program was found sound
  end-sound : get_or (end_said b mem).reply 0 0 ≡ 48 → is_sound (verdict_of b.engine.held mem.store) ≡ true
  end-sound = by (is_sound (verdict_of b.engine.held mem.store))
    where
      by : (x : Bool)
          → get_or (pick x (said (board (ceased b.engine) b.standing no_line) (48 ∷ []) mem)
          (said (board (ceased (emptied b.engine)) b.standing no_line) (71 ∷ named_fault (verdict_of b.engine.held mem.store)) mem)).reply 0 0 ≡ 48
          → x ≡ true
      by true h = refl
      by false h = absurd (omega arith)

  pub end-said : get_or (hearing 13 ports b mem).reply 0 0 ≡ 48
      → (is_sound (verdict_of b.engine.held mem.store) ≡ true)
      × (hearing 13 ports b mem ≡ said (board (ceased b.engine) b.standing no_line) (48 ∷ []) mem)
  end-said h =
      let s = end-sound (ap (λ (x : Said). get_or x.reply 0 0) (sym end-heard) ∙ h) in
      (s, end-heard ∙ rw s)

-- ---- EndAccepts

module _ (es : List Event) (ports : List ℕ) (l : Lent) (e : end_line (after_all ours es fresh) ≡ true)
    (h : (receiving 13 ports (after_all ours es fresh) l).result.refusal ≡ 0)
    (z : get_or (hearing 13 ports (after_all ours es fresh) l.memory).reply 0 0 ≡ 48) where
  abbrev here : Board
  here = after_all ours es fresh

  -- the board and the memory afterwards, and that its program is accepted
  ended : ((receiving 13 ports here l).result.board ≡ board (ceased here.engine) here.standing no_line)
      × ((receiving 13 ports here l).after.memory ≡ l.memory)
      × (accepted here.engine.held l.memory.store ≡ true)
  ended =
      let s = end-said here ports l.memory e z in
      let o = out-all 13 ports l here h (board (ceased here.engine) here.standing no_line) (48 ∷ []) l.memory s.1 in
      let f = facts here.engine (sound-engine here (always-written es).0) in
      (o.0, o.2, computed here.engine.held l.memory.store ((always-written es).1.axes (end-parts here e).1) f.used f.records ∙ s.0)

pub keeps-end-accepts : EndAccepts ours
keeps-end-accepts es ports l e h z =
    let b = after_all ours es fresh in
    let x = ended es ports l e h (ap (λ (r : List ℕ). get_or r 0 0) (sym (out-reply 13 ports l b h)) ∙ z) in
    rw (x.0, x.1) x.2

-- ---- EndToEnd: stored to its end, a program is listed and stored again

pub stored-then-listed : EndToEnd ours
stored-then-listed es ports l text other host e h z b w n' b' =
    let here = after_all ours es fresh in
    let x = ended es ports l e h (ap (λ (r : List ℕ). get_or r 0 0) (sym (out-reply 13 ports l here h)) ∙ z) in
    let s : sound (receiving 13 ports here l).result.board ≡ true =
    rw (out-board 13 ports l here h) (hearing-sound 13 ports here l.memory (always-written es).0) in
    listed-again (receiving 13 ports here l).result.board (receiving 13 ports here l).after.memory.store text other host s
    (ap (λ (m : Memory). length m.store) x.1 ∙ (calm-memory 13 ports here l h).0) (rw x.1 b) (keeps-end-accepts es ports l e h z) w n' b'
