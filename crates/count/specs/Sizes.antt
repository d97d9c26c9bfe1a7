-- The sizes that the paper names ("Calls", "Lines", "Store", "walk"), once.
use Rattle.std.specs.Prelude.{ℕ}

-- the store is lent with just so many bytes (102)
abbrev pub store_bytes : ℕ
store_bytes = 16384

-- a program has at most so many records (6, 103)
abbrev pub most_records : ℕ
most_records = 1000

-- a reply buffer has at least so many bytes (101); the longest reply, P's with four axes, has 25
abbrev pub reply_bytes : ℕ
reply_bytes = 32

-- a line has at most so many bytes before its return (5, 103)
abbrev pub line_bytes : ℕ
line_bytes = 80

-- a text buffer for the lister has at least so many bytes (106); the longest listing has 27,757
abbrev pub text_bytes : ℕ
text_bytes = 32768

-- speeds are from the slowest to the fastest (D, 103, 203)
abbrev pub slowest : ℕ
slowest = 30

abbrev pub fastest : ℕ
fastest = 10000
