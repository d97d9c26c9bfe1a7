-- The board before 02 §8 fails it: `@01, 3` is answered 5, and `@01,3` is answered 7. Assumes nothing.
use Prim.Native.Nat.{ℕ}
use mathlib.Core.List.{List, []}
use mathlib.Core.Path.{refl, sym, ap, ◌∙◌}
use native.Mathlib.Omega.{arith}
use borrow.Author.Tests.{eqb-false}
use lib.ListN.{get_or}
use Rattle.count.specs.Chars.{codes}
use Rattle.count.specs.Numbers.{word}
use Rattle.motion.specs.Sound.{counted}
use Rattle.line.specs.Numbers.{digits_behind, digits_of, number_of, parted, items_of, numbers_of}
use Rattle.line.specs.Lines.{direct_of, after_address, letter_of, behind}
use Rattle.line.specs.Spaces.{unspaced}
use Rattle.engine.specs.Sound.{sound_of}
use Rattle.board.specs.State.{gathered, sound}
use Rattle.board.specs.Direct.{first, reply_of, direct_said}
use Rattle.board.specs.Receive.{ear_of, hearing, gathering, returned}
use Rattle.board.specs.Calls.{receiving}
use Rattle.course.specs.Walk.{no_memory}
use Rattle.promise.specs.Demands.{ticks, Host, sent}
use Rattle.promise.specs.Demanded.{Requested}
use Rattle.promise.specs.Spaces.{no-calls}
use Rattle.promise.specs.Fakes.{strict}
use Rattle.promise.proofs.laws.FakesTyped.{reply0}

abbrev host0 : Host
host0 = record { ports = λ i. []; reply = λ i. reply0; calls = λ i. 0; room = λ i. omega arith }

-- the first byte of the reply to the i-th byte
abbrev byte_at : ℕ → List (List ℕ) → ℕ
byte_at i l = get_or (get_or l i []) 0 0

pub strict-fails : Requested strict → ⊥
unfolding ticks sent receiving sound sound_of counted hearing ear_of gathering gathered returned direct_said reply_of first direct_of after_address letter_of behind digits_behind digits_of number_of parted items_of numbers_of word unspaced
strict-fails d =
    let x = d.spaces host0 host0 (codes "@01, 3") (codes "@01,3") strict.first no_memory
    (record { short = omega arith; bytes = ((omega arith, λ z. omega arith), ((omega arith, λ z. omega arith), ((omega arith, λ z. omega arith), ((omega arith, λ z. omega arith), ((omega arith, λ z. omega arith), ((omega arith, λ z. omega arith), tt)))))) })
    (record { short = omega arith; bytes = ((omega arith, λ z. omega arith), ((omega arith, λ z. omega arith), ((omega arith, λ z. omega arith), ((omega arith, λ z. omega arith), ((omega arith, λ z. omega arith), tt))))) })
    refl
    (record { room = refl; none = refl; fits = refl }) (no-calls (λ i. refl)) (no-calls (λ i. refl)) refl in
    eqb-false 53 55 refl (ap (byte_at 6) x.one ∙ sym (ap (byte_at 5) x.other))
