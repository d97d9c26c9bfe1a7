-- What refuses a line or a record, by its reply's character (01, "Lines", the table of replies), and what refuses a call, by its number (01,
-- "Calls", the table) or by the character of what is wrong with a program.
use Rattle.std.specs.Prelude.{ℕ, []}
use Rattle.count.specs.Chars.{ch}
use Rattle.count.specs.Paper.{Paper, says}
use Rattle.count.specs.declared.Fault.{Fault}
use Rattle.count.specs.declared.Fault.TheVariants as fault
use Rattle.count.specs.declared.Refusal.{Refusal}
use Rattle.count.specs.declared.Refusal.TheVariants as refusal

abbrev pub letter_of : Fault → ℕ
letter_of fault.Shape = ch "5"
letter_of fault.Stands = ch "W"
letter_of fault.NoAxes = ch "4"
letter_of fault.Count = ch "7"
letter_of fault.Axes = ch "3"
letter_of fault.Range = ch "1"
letter_of fault.Speed = ch "D"
letter_of fault.Outside = ch "9"
letter_of fault.Full = ch "6"
letter_of fault.Empty = ch "8"
letter_of fault.Refused = ch "G"

abbrev pub number_of : Refusal → ℕ
number_of refusal.Reply = 101
number_of refusal.Store = 102
number_of refusal.State = 103
number_of refusal.Table = 104
number_of refusal.Text = 106
number_of (refusal.Program f) = letter_of f

-- on paper each is its character or number
abbrev pub fault_paper : Fault → Paper
fault_paper f = says (letter_of f) []

abbrev pub refusal_paper : Refusal → Paper
refusal_paper r = says (number_of r) []
