-- The portions of a walk end to end are its whole output: what is still to be printed is what a portion prints and then what is still to
-- be printed after it, whatever the buffer's length from 64 up. Assumes nothing.
use Prim.Native.Nat.{ℕ, ◌+◌, ◌-◌, ◌≤◌}
use mathlib.Core.Path.{◌≡◌, refl, sym, ap, ◌∙◌}
use mathlib.Core.Bool.{Bool, true, false, not, ◌&&◌}
use mathlib.Core.List.{List, [], ◌∷◌, ◌++◌, append_assoc, append-nil}
use native.Mathlib.Omega.{arith}
use native.Mathlib.Nat.{min-le_left}
use lib.ListN.{length, take, drop}
use lib.Seq.{take-append_seam}
use borrow.Author.Tests.{le-leb, eq-eqb}
use Rattle.count.specs.Pick.{pick}
use Rattle.count.specs.Text.{Written}
use Rattle.count.proofs.laws.Digits.{wrote-long}
use Rattle.record.specs.Memory.{Memory, RightMemory}
use Rattle.board.specs.declared.Board.{Board}
use Rattle.board.specs.State.{Said, sound}
use Rattle.board.specs.Receive.{hearing}
use Rattle.course.specs.declared.Walk.{Walk}
use Rattle.course.specs.Text.{head_text, reply_text, limit_text, end_text}
use Rattle.course.specs.Run.{runs_now, Course, no_calls, course, allowed}
use Rattle.course.specs.Walk.{no_ports, no_memory, most, walked_from, Done, done, walk, first, further, ready, next_done, on_done, head_done, tail_done, remaining}
use Rattle.course.proofs.laws.Portions.{joins, course-off, course-none, course-plus, course-full}

-- what follows a run of a byte: `L` and `E`, or the rest of the input
abbrev pub ending : Bool → Board → List ℕ → Memory → List ℕ
ending true b input m = limit_text ++ end_text b
ending false b input m = walked_from input b m

-- the text of a run and what follows it
abbrev pub after : List ℕ → Course → List ℕ → Memory → List ℕ
after t c input m = (t ++ c.text) ++ ending (runs_now c.board) c.board input m

ended : (t : List ℕ) (b : Board) (input : List ℕ) (m : Memory)
    → t ++ (elim (runs_now b) [ true ↦ limit_text ++ end_text b | false ↦ walked_from input b m ]) ≡ t ++ ending (runs_now b) b input m
ended t b input m = by (runs_now b)
  where
    by : (x : Bool) → t ++ (elim x [ true ↦ limit_text ++ end_text b | false ↦ walked_from input b m ]) ≡ t ++ ending x b input m
    by true = refl
    by false = refl

pub walked-cons : (byte : ℕ) (input : List ℕ) (b : Board) (m : Memory)
    → walked_from (byte ∷ input) b m
    ≡ after (reply_text (hearing byte no_ports b m).reply) (course most (hearing byte no_ports b m).memory (hearing byte no_ports b m).board) input (hearing byte no_ports b m).memory
unfolding walked_from
walked-cons byte input b m =
    let s : Said = hearing byte no_ports b m in
    let c : Course = course most s.memory s.board in
    ended (reply_text s.reply ++ c.text) c.board input s.memory

-- ---- what remains of a walk

pub remaining-over : (b : Board) (calls : ℕ) (input : List ℕ) (m : Memory) → remaining (walk b calls true) input m ≡ walked_from input b m
unfolding remaining
remaining-over b calls input m = refl

pub remaining-on : (b : Board) (calls : ℕ) (input : List ℕ) (m : Memory)
    → remaining (walk b calls false) input m
    ≡ (course (most - calls) m b).text ++ ending (runs_now (course (most - calls) m b).board) (course (most - calls) m b).board input m
unfolding remaining
remaining-on b calls input m = ended (course (most - calls) m b).text (course (most - calls) m b).board input m

-- after a portion of k calls, what follows its text is what remains of the walk
module _ (m : Memory) (b : Board) (t input : List ℕ) where
  rest-by : (calls k r : ℕ) (x : Bool) → runs_now (course k m b).board ≡ x → r ≡ most - (calls + k)
      → after t (joins (course k m b) (course r m (course k m b).board)) input m
      ≡ (t ++ (course k m b).text) ++ remaining (further (course k m b) calls) input m
  rest-by calls k r true e q =
      let c : Course = course k m b in
      let d : Course = course r m c.board in
      let n : c.calls ≡ k = course-full m k b e in
      let f : further c calls ≡ walk c.board (calls + k) false = (λ i. walk c.board (calls + n i) (not (e i))) in
      ap (λ (l : List ℕ). l ++ ending (runs_now d.board) d.board input m) (sym (append_assoc t c.text d.text))
      ∙ append_assoc (t ++ c.text) d.text (ending (runs_now d.board) d.board input m)
      ∙ ap (λ (j : ℕ). (t ++ c.text) ++ ((course j m c.board).text ++ ending (runs_now (course j m c.board).board) (course j m c.board).board input m)) q
      ∙ ap (λ (l : List ℕ). (t ++ c.text) ++ l) (sym (remaining-on c.board (calls + k) input m))
      ∙ sym (ap (λ (w : Walk). (t ++ c.text) ++ remaining w input m) f)
  rest-by calls k r false e q =
      let c : Course = course k m b in
      let d : course r m c.board ≡ no_calls c.board = course-off m r c.board e in
      let f : further c calls ≡ walk c.board (calls + c.calls) true = (λ i. walk c.board (calls + c.calls) (not (e i))) in
      ap (λ (x : Course). after t (joins c x) input m) d
      ∙ ap (λ (l : List ℕ). (t ++ l) ++ ending (runs_now c.board) c.board input m) (append-nil c.text)
      ∙ ap (λ (x : Bool). (t ++ c.text) ++ ending x c.board input m) e
      ∙ ap (λ (l : List ℕ). (t ++ c.text) ++ l) (sym (remaining-over c.board (calls + c.calls) input m))
      ∙ sym (ap (λ (w : Walk). (t ++ c.text) ++ remaining w input m) f)

  -- a run of n calls, of which a portion makes k
  pub rest : (calls k n : ℕ) → k ≤ n → n ≡ most - calls
      → after t (course n m b) input m ≡ (t ++ (course k m b).text) ++ remaining (further (course k m b) calls) input m
  rest calls k n h q =
      let p : n ≡ k + (n - k) = omega arith in
      let r : n - k ≡ most - (calls + k) = omega arith in
      ap (λ (c : Course). after t c input m) (ap (λ (j : ℕ). course j m b) p ∙ course-plus m k (n - k) b)
      ∙ rest-by calls k (n - k) (runs_now (course k m b).board) refl r

-- ---- the portions

pub allowed-few : (limit : ℕ) (out : List ℕ) → allowed limit out ≤ limit
unfolding allowed
allowed-few limit out = min-le_left _ _

-- the first walk has the whole output before it
pub first-remains : (input : List ℕ) → remaining first input no_memory ≡ walked_from input first.board no_memory
first-remains input = remaining-over first.board 0 input no_memory

-- what a portion prints: the front of its buffer
abbrev pub printed : Done → List ℕ
printed d = take d.portion.len d.out

-- and what remains after it
abbrev pub onward : Done → List ℕ → List ℕ
onward d input = printed d ++ remaining d.portion.walk input d.memory

done-prints : (w : Walk) (text input : List ℕ) (m : Memory) (out : List ℕ) → onward (done w text m out) input ≡ text ++ remaining w input m
done-prints w text input m out = ap (λ (l : List ℕ). l ++ remaining w input m) (take-append_seam text (drop (length text) out))

-- a walk on a sound board, with a memory and a buffer of the right lengths, is ready
pub is-ready : (w : Walk) (m : Memory) (out : List ℕ) → 64 ≤ length out → RightMemory m → sound w.board ≡ true → ready w m out ≡ true
unfolding ready
is-ready w m out h l s = rw (le-leb 64 (length out) h, eq-eqb (length m.store) 16384 l.0, s, eq-eqb (length m.table) 1000 l.1)

module _ (w : Walk) (m : Memory) (out : List ℕ) (h : ready w m out ≡ true) where
  yes : (b : Bool) → b ≡ true → b && ready w m out ≡ true
  yes b e = rw (e, h)

  -- A BYTE, taken where the run before it is over: its portion, then what remains
  pub next-ends : (byte : ℕ) (input : List ℕ) → w.over ≡ true → remaining w (byte ∷ input) m ≡ onward (next_done byte w m out) input
  unfolding next_done
  next-ends byte input o =
      let s : Said = hearing byte no_ports w.board m in
      let t : List ℕ = reply_text s.reply in
      let k : ℕ = allowed most (drop (length t) out) in
      let c : Course = course k s.memory s.board in
      let f : w ≡ walk w.board w.calls true = (λ i. walk w.board w.calls (o i)) in
      ap (λ (x : Walk). remaining x (byte ∷ input) m) f
      ∙ remaining-over w.board w.calls (byte ∷ input) m
      ∙ walked-cons byte input w.board m
      ∙ rest s.memory s.board t input 0 k most (allowed-few most (drop (length t) out)) refl
      ∙ sym (done-prints (further c 0) (t ++ c.text) input s.memory out)
      ∙ sym (ap (λ (x : Bool). onward (pick x (done (further c 0) (t ++ c.text) s.memory out) (done w [] m out)) input) (yes w.over o))

  -- A RUN THAT GOES ON: its portion, then what remains
  pub on-ends : (input : List ℕ) → w.over ≡ false → remaining w input m ≡ onward (on_done w m out) input
  unfolding on_done
  on-ends input o =
      let k : ℕ = allowed (most - w.calls) out in
      let c : Course = course k m w.board in
      let f : w ≡ walk w.board w.calls false = (λ i. walk w.board w.calls (o i)) in
      ap (λ (x : Walk). remaining x input m) f
      ∙ remaining-on w.board w.calls input m
      ∙ rest m w.board [] input w.calls k (most - w.calls) (allowed-few (most - w.calls) out) refl
      ∙ sym (done-prints (further c w.calls) c.text input m out)
      ∙ sym (ap (λ (x : Bool). onward (pick x (done (further c w.calls) c.text m out) (done w [] m out)) input) (yes (not w.over) (ap not o)))

-- what the tail prints
abbrev pub said : Written → List ℕ
said d = take d.len d.text

module _ (w : Walk) (m : Memory) (out : List ℕ) (h : 64 ≤ length out) where
  -- THE END OF THE INPUT: what remains is the tail
  pub tail-ends : w.over ≡ true → remaining w [] m ≡ said (tail_done w out)
  unfolding tail_done walked_from
  tail-ends o =
      let f : w ≡ walk w.board w.calls true = (λ i. walk w.board w.calls (o i)) in
      ap (λ (x : Walk). remaining x [] m) f
      ∙ remaining-over w.board w.calls [] m
      ∙ sym (take-append_seam (end_text w.board) (drop (length (end_text w.board)) out))
      ∙ sym (ap said (wrote-long 64 (end_text w.board) out h))
      ∙ rw o

  -- A RUN THAT IS NOT OVER after its 100,000 calls: what remains is the tail, whatever input is left
  pub limit-ends : (input : List ℕ) → w.over ≡ false → w.calls ≡ most → runs_now w.board ≡ true → remaining w input m ≡ said (tail_done w out)
  unfolding tail_done
  limit-ends input o n r =
      let f : w ≡ walk w.board most false = (λ i. walk w.board (n i) (o i)) in
      let z : course (most - most) m w.board ≡ no_calls w.board = course-none m w.board in
      ap (λ (x : Walk). remaining x input m) f
      ∙ remaining-on w.board most input m
      ∙ ap (λ (c : Course). c.text ++ ending (runs_now c.board) c.board input m) z
      ∙ ap (λ (x : Bool). ending x w.board input m) r
      ∙ sym (take-append_seam (limit_text ++ end_text w.board) (drop (length (limit_text ++ end_text w.board)) out))
      ∙ sym (ap said (wrote-long 64 (limit_text ++ end_text w.board) out h))
      ∙ rw o

  -- THE FIRST LINE
  pub head-ends : said (head_done out) ≡ head_text
  unfolding head_done
  head-ends = ap said (wrote-long 64 head_text out h) ∙ take-append_seam head_text (drop (length head_text) out)
