-- `reader::next_numbers` meets its contract: the words read so far, and the numbers still to read, are all of them.
use Rattle.std.proofs.Common.{ℕ, suc, ◌+◌, ◌-◌, ◌≤◌, ◌<◌, ◌≡◌, sym, ◌∙◌, List, ◌++◌, append_assoc, append-nil, add-one, arith, length, take, set}
use lib.Seq.{take_all, take-suc-set}
use Rattle.reader.specs.Reader.{number_at, words_at, behind_words}
use Rattle.reader.proofs.next_numbers.Goals as goal

-- ---- one number more, and none left

one_less : (n k : ℕ) → k < n → n - k ≡ suc (n - suc k)
one_less n k h = omega arith

no_more : (n k : ℕ) → n ≤ k → n - k ≡ 0
no_more n k h = omega arith

all : (n : ℕ) → n - 0 ≡ n
all n = omega arith

module _ (text words : List ℕ) (n k at : ℕ) where
  words-on : k < n → k < length words
      → take k words ++ words_at (n - k) text at ≡ take (k + 1) (set words k (number_at text at).word) ++ words_at (n - (k + 1)) text (number_at text at).at
  unfolding words_at
  words-on h l = rw (add-one, take-suc-set words k (number_at text at).word l, append_assoc, one_less n k h)

  behind-on : k < n → behind_words (n - k) text at ≡ behind_words (n - (k + 1)) text (number_at text at).at
  unfolding behind_words
  behind-on h = rw (add-one, one_less n k h)

  words-end : n ≤ k → length words ≤ k → take k words ++ words_at (n - k) text at ≡ words
  unfolding words_at
  words-end h l = rw (no_more n k h, append-nil, take_all k words l)

  behind-end : n ≤ k → behind_words (n - k) text at ≡ at
  unfolding behind_words
  behind-end h = rw (no_more n k h)

pub loop-word-init : goal.loop-word-init
loop-word-init c = record { behind = rw (all (length c.args.words.now)); read = rw (all (length c.args.words.now)) }

pub loop-word-preserved : goal.loop-word-preserved
loop-word-preserved c =
    let t = c.args.text.now in
    let n = length c.args.words.now in
    let words = c.loop-word.words in
    let k = c.loop-word.word-index in
    let h : c.loop-word.word-index < length c.loop-word.words = omega arith in
    record {
      behind = rw c.next_number-t.ensures (c.loop-word.invariant.behind ∙ behind-on t words n k c.loop-word.at c.loop-word-test.true);
      read = rw c.next_number-t.ensures (c.loop-word.invariant.read ∙ words-on t words n k c.loop-word.at c.loop-word-test.true h);
    }

pub returns : goal.returns
returns c =
    let t = c.args.text.now in
    let n = length c.args.words.now in
    let words = c.loop-word.words in
    let k = c.loop-word.word-index in
    let h : length c.loop-word.words ≤ c.loop-word.word-index = omega arith in (
      sym (c.loop-word.invariant.behind ∙ behind-end t words n k c.loop-word.at c.loop-word-test.false),
      sym (c.loop-word.invariant.read ∙ words-end t words n k c.loop-word.at c.loop-word-test.false h),
    )
