-- The words read so far, and the numbers still to read, are all of them.
use Rattle.std.proofs.Common.{◌≡◌, ◌-◌, ◌++◌, length, take}
use Rattle.reader.specs.Reader.{words_at, behind_words}
use Rattle.reader.proofs.next_numbers.Given as goal

abbrev pub invariant-loop-word : goal.invariant-loop-word
invariant-loop-word l =
    let n = length l.initial.words in
    record {
      behind : behind_words n l.text l.from ≡ behind_words (n - l.word-index) l.text l.at;
      read : words_at n l.text l.from ≡ take l.word-index l.words ++ words_at (n - l.word-index) l.text l.at;
    }
