-- What a direct movement's line is told to come to says which result it was: no two results of the code read alike. Assumes nothing.
use Rattle.std.specs.Prelude.{ℕ, ◌≡◌, Option, Some, None, Result, Ok, Err, refl}
use Rattle.std.proofs.Common.{sym, ap, arith}
use Rattle.count.specs.declared.Fault.{Fault}
use Rattle.count.specs.declared.Fault.TheVariants as fault
use Rattle.count.specs.Refusals.{letter_of}
use Rattle.record.proofs.laws.Replies.{letter-one, letter-some}
use Rattle.engine.specs.declared.Engine.{Engine}
use Rattle.engine.specs.State.{Begun, begun_in}

-- no fault's character is the number 0
pub letter-none : (f : Fault) → letter_of f ≡ 0 → ⊥
letter-none fault.Shape e = omega arith
letter-none fault.Stands e = omega arith
letter-none fault.NoAxes e = omega arith
letter-none fault.Count e = omega arith
letter-none fault.Axes e = omega arith
letter-none fault.Range e = omega arith
letter-none fault.Speed e = omega arith
letter-none fault.Outside e = omega arith
letter-none fault.Full e = omega arith
letter-none fault.Empty e = omega arith
letter-none fault.Refused e = omega arith

reply-of : {g h : Begun} → g ≡ h → g.reply ≡ h.reply
reply-of e = ap (λ (b : Begun). b.reply) e

pub begun-only : (e : Engine) (r s : Result (Option Engine) Fault) → begun_in e r ≡ begun_in e s → r ≡ s
begun-only e (Ok (Some d)) (Ok (Some c)) p = ap (λ (x : Engine). Ok (Some x)) (ap (λ (b : Begun). b.engine) p)
begun-only e (Ok (Some d)) (Ok None) p = let q : ◌≡◌ {A = ℕ} 0 48 = reply-of p in absurd (omega arith)
begun-only e (Ok (Some d)) (Err g) p = absurd (letter-none g (sym (reply-of p)))
begun-only e (Ok None) (Ok (Some c)) p = let q : ◌≡◌ {A = ℕ} 48 0 = reply-of p in absurd (omega arith)
begun-only e (Ok None) (Ok None) p = refl
begun-only e (Ok None) (Err g) p = absurd (letter-some g (sym (reply-of p)))
begun-only e (Err f) (Ok (Some c)) p = absurd (letter-none f (reply-of p))
begun-only e (Err f) (Ok None) p = absurd (letter-some f (reply-of p))
begun-only e (Err f) (Err g) p = ap (λ (h : Fault). Err h) (letter-one f g (reply-of p))
