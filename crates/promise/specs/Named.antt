-- 02 §1, of any machine: the end line says which record is at fault, and why.
use Rattle.std.specs.Prelude.{ℕ, ◌≤◌, ◌<◌, ◌≡◌, Bool, true, false, ◌&&◌, ◌||◌, List, [], ◌∷◌, ltb, eqb, length}
use Rattle.count.specs.Sizes.{store_bytes, most_records}
use Rattle.count.specs.Chars.{ch}
use Rattle.count.specs.Text.{four_digits}
use Rattle.record.specs.declared.Held.{Held}
use Rattle.record.specs.declared.Record.{Record}
use Rattle.record.specs.Places.{records_of}
use Rattle.record.specs.Places.Records.{are, none-are}
use Rattle.program.specs.Check.{outside, early, overlaps, holders, strays}
use Rattle.count.specs.Axes.{axes_set}
use Rattle.program.specs.Program.{loop_at, turn_at, target_at, accepted}
use Rattle.board.specs.Calls.{Lent}
use Rattle.promise.specs.Machine.{Machine}
use Rattle.promise.specs.Demands.{replied, end_line, hears}

-- place p of a program has the fault that a letter stands for
unfoldable pub faulty : List Record → ℕ → ℕ → Bool
faulty l letter p =
    (eqb letter (ch "a") && outside (turn_at l) (target_at l) (length l) p)
    || (eqb letter (ch "b") && early (loop_at l) (target_at l) p)
    || (eqb letter (ch "c") && overlaps (loop_at l) (target_at l) p)
    || (eqb letter (ch "d") && ltb 7 (holders (loop_at l) (target_at l) (length l) p))
    || (eqb letter (ch "e") && strays (loop_at l) (turn_at l) (target_at l) (length l) p)

-- the letter and the place that are named: this record has this fault, it has none of an earlier letter, and no smaller place has any
pub record Named (l : List Record) (letter p : ℕ) : Type 0 where
  pub place : p < length l
  pub fault : faulty l letter p ≡ true
  pub earliest : (k : ℕ) → k < letter → faulty l k p ≡ false
  pub smallest : (q k : ℕ) → q < p → faulty l k q ≡ false

-- no place has a fault
abbrev pub Faultless : List Record → Type 0
Faultless l = (p k : ℕ) → p < length l → faulty l k p ≡ false

-- what the end line replies on a store, and what that says
pub data EndReply (h : Held) (store reply : List ℕ) : Type 0 where
  -- 0: it is readable, and no place has a fault
  passed : (l : List Record) → records_of h store ≡ are l → Faultless l → reply ≡ ch "0" ∷ [] → EndReply h store reply
  -- six characters: the fault that is named
  failed : (l : List Record) (letter p : ℕ) → records_of h store ≡ are l → Named l letter p → reply ≡ ch "G" ∷ letter ∷ four_digits p → EndReply h store reply
  -- a single G: it is not readable
  unreadable : records_of h store ≡ none-are → reply ≡ ch "G" ∷ [] → EndReply h store reply

-- any state, ports and buffers
abbrev pub EndNames : Machine → Type 0
EndNames m =
    (ports : List ℕ) (l : Lent) (s : m.State) → end_line (m.board s) ≡ true → (hears m (ch "\r") ports l s).refusal ≡ 0
    → EndReply (m.board s).engine.held l.memory.store (replied (hears m (ch "\r") ports l s))

-- a program is accepted exactly if at most 16,384 bytes and 1,000 records are in use, it was written under axes 1, 3 or 7, is readable, and
-- no place has a fault
pub record Right (h : Held) (store : List ℕ) : Type 0 where
  pub bytes : h.used ≤ store_bytes
  pub records : h.records ≤ most_records
  pub axes : axes_set h.axes ≡ true
  pub items : List Record
  pub reads : records_of h store ≡ are items
  pub faultless : Faultless items

pub record AcceptedExactly (h : Held) (store : List ℕ) : Type 0 where
  pub only : accepted h store ≡ true → Right h store
  pub all : Right h store → accepted h store ≡ true
