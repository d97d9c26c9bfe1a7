-- Where a started program goes, in clock calls (00, the loop that went back one record short; 01, "Running a program", paragraphs 1 and
-- 2): an accepted program in the store with a true table, that nobody alters, stopped or not.
use Rattle.std.specs.Prelude.{ℕ, suc, ◌-◌, ◌<◌, ◌≤◌, Bool, true, false, not, ◌&&◌, List, [], ◌∷◌, ◌++◌, ◌≡◌, eqb, ℤ, pos, negsuc, length, get_or}
use Rattle.count.specs.Chars.{ch}
use Rattle.count.specs.Pick.{pick}
use Rattle.count.specs.Ranges.{nth}
use Rattle.record.specs.declared.Held.{Held}
use Rattle.record.specs.declared.Record.{Record}
use Rattle.record.specs.Memory.{RightMemory}
use Rattle.record.specs.Places.{records_of}
use Rattle.record.specs.Places.Records.{are}
use Rattle.record.specs.Table.{TableTrue}
use Rattle.program.specs.Onward.{no_loops}
use Rattle.program.specs.Program.{record_in, target_at, accepted}
use Rattle.program.specs.Rounds.{Rounds}
use Rattle.line.specs.Lines.{letter_paper, direct_of}
use Rattle.engine.specs.declared.Job.{Job}
use Rattle.engine.specs.declared.Job.TheVariants as job
use Rattle.engine.specs.State.{running, no_pulse}
use Rattle.board.specs.declared.Board.{Board}
use Rattle.board.specs.State.{text_of, sound}
use Rattle.board.specs.Calls.{Lent}
use Rattle.promise.specs.Machine.{Machine, Event, after_all}
use Rattle.promise.specs.Demands.{idles}
use Rattle.promise.specs.Steps.{Each}
use Rattle.promise.specs.Stop.{Step, receive, call, Elsewhere, is_own, rests, Place, board_at, ahead}

-- the one memory is altered by nobody else
abbrev pub Alone : Step → Type 0
Alone (receive v ports reply d) = Elsewhere d
Alone (call d) = Elsewhere d

-- ---- the records that a run comes to

-- the next clock call takes the record at the place: between two records, or after a movement's last pulse
abbrev pub comes_by : Job → Bool
comes_by job.Ready = true
comes_by (job.Moving m) = no_pulse m
comes_by job.Idle = false
comes_by job.Storing = false
comes_by (job.Direct m) = false
comes_by (job.Delay q) = false
comes_by (job.Wait c t) = false

abbrev pub comes : Board → Bool
comes b = not b.standing && comes_by b.engine.run.job

module _ (m : Machine) where
  abbrev pub visit_of : Place m → Step → List ℕ
  visit_of p (receive v ports reply d) = []
  visit_of p (call d) = pick (is_own d && comes (board_at m p)) ((board_at m p).engine.run.place ∷ []) []

  -- the places that a run comes to, one after the other, until nothing runs or waits any more
  unfoldable pub visits : Place m → List Step → List ℕ
  visits p [] = []
  visits p (e ∷ es) = pick (rests (board_at m p)) [] (visit_of p e ++ visits (ahead m p e) es)

-- ---- a route: what follows each visit

-- the places visited right after those visits of place i that another follows
unfoldable pub after : ℕ → List ℕ → List ℕ
after i [] = []
after i (p ∷ []) = []
after i (p ∷ q ∷ v) = pick (eqb p i) (q ∷ []) [] ++ after i (q ∷ v)

-- one of two places
pub data Either (a b : ℤ) (q : ℕ) : Type 0 where
  this : pos q ≡ a → Either a b q
  that : pos q ≡ b → Either a b q

abbrev pub code_at : List Record → ℕ → ℕ
code_at l i = (record_in l i).code

abbrev pub number_at : List Record → ℕ → ℕ
number_at l i = get_or (record_in l i).words 0 0

abbrev pub offset_at : List Record → ℕ → ℤ
offset_at l i = nth (record_in l i).words 1

abbrev pub BeginsAt0 : List ℕ → Type 0
BeginsAt0 [] = Unit
BeginsAt0 (p ∷ v) = p ≡ 0

pub record Route (l : List Record) (v : List ℕ) : Type 0 where
  -- it begins at place 0 and comes to no place above the end place, behind which it comes to none
  pub begins : BeginsAt0 v
  pub within : Each (λ p. p ≤ length l) v
  pub ends : after (length l) v ≡ []
  -- a loop at place i with number c and offset -(k + 1): back to i - (k + 1) exactly c times, then on, each time that it is entered
  pub loops : (i c k : ℕ) → i < length l → code_at l i ≡ ch "3" → number_at l i ≡ c → 0 < c → offset_at l i ≡ negsuc k →
      Rounds (i - suc k) (suc i) c c (after i v)
  -- a jump, number 0: own place plus offset
  pub jumps : (i : ℕ) → i < length l → code_at l i ≡ ch "3" → number_at l i ≡ 0 → Each (λ q. pos q ≡ target_at l i) (after i v)
  -- a wait: own place plus offset, or the next record
  pub waits : (i : ℕ) → i < length l → code_at l i ≡ ch "2" → Each (Either (target_at l i) (pos (suc i))) (after i v)
  -- every other record: the next one, so that none is passed over
  pub others : (i : ℕ) → i < length l → (code_at l i ≡ ch "3" → ⊥) → (code_at l i ≡ ch "2" → ⊥) → Each (λ q. q ≡ suc i) (after i v)

module _ (m : Machine) where
  -- a program has just been started: a sound board with this part in use, at place 0, with no loop open, that does not stand
  pub record Started (h : Held) (p : Place m) : Type 0 where
    pub sound : sound (board_at m p) ≡ true
    pub standing : (board_at m p).standing ≡ false
    pub held : (board_at m p).engine.held ≡ h
    pub run : (board_at m p).engine.run ≡ running job.Ready 0 no_loops
    pub memory : RightMemory p.1

  -- whatever bytes and clock calls come then, and however they are lent: its visits are a route through the program
  abbrev pub Routes : Type 0
  Routes =
      (h : Held) (l : List Record) (p : Place m) (es : List Step) → Started h p → accepted h p.1.store ≡ true → records_of h p.1.store ≡ are l →
      TableTrue h p.1 → Each Alone es → Route l (visits m p es)

  -- from the first state on, after any events, whatever was lent: S on an idle board, in a call that is not refused and without a reply,
  -- has started the program
  abbrev pub StartRoutes : Type 0
  StartRoutes =
      (es : List Event) (ports : List ℕ) (l : Lent) → idles (m.board (after_all m es m.first)) ≡ true →
      (letter_paper (direct_of (text_of (m.board (after_all m es m.first)).line)).letter).number ≡ ch "S" →
      (m.hear (ch "\r") ports l (after_all m es m.first)).1.refusal ≡ 0 → (m.hear (ch "\r") ports l (after_all m es m.first)).1.len ≡ 0 →
      Started (m.board (after_all m es m.first)).engine.held
      ((m.hear (ch "\r") ports l (after_all m es m.first)).0, (m.hear (ch "\r") ports l (after_all m es m.first)).1.after.memory)
