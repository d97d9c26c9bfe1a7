-- Any machine that makes steps and says a text at each: a way of at most so many steps, and what a call leaves that goes it. Stands in
-- contracts of functions that are not exported: nothing of it need be believed. Its laws: proofs/laws/Machine.antt.
use Rattle.std.specs.Prelude.{ℕ, zero, suc, ◌+◌, Bool, true, false, List, [], ◌++◌, length, drop}

pub record Way (S : Type 0) : Type 0 where
  pub state : S
  pub calls : ℕ
  pub text : List ℕ

abbrev pub stays : {S : Type 0} → S → Way S
stays s = record { state = s; calls = 0; text = [] }

abbrev pub then : {S : Type 0} → ℕ → List ℕ → Way S → Way S
then n l c = record { state = c.state; calls = n + c.calls; text = l ++ c.text }

module _ {S : Type 0} (on : S → Bool) (next : S → S) (said : S → List ℕ) where
  unfoldable pub way : ℕ → S → Way S
  way zero s = stays s
  way (suc k) s = (elim (on s) [ true ↦ then 1 (said s) (way k (next s)) | false ↦ stays s ])

-- what a call leaves that goes a way: the state, its calls, the length of its text, and the buffer, of which only the text is written
pub record Left (S : Type 0) : Type 0 where
  pub state : S
  pub calls : ℕ
  pub len : ℕ
  pub out : List ℕ

abbrev pub left_by : {S : Type 0} → Way S → List ℕ → Left S
left_by w out = record { state = w.state; calls = w.calls; len = length w.text; out = w.text ++ drop (length w.text) out }
