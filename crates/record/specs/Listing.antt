-- The listing (01, "Store", sentences 3 to 5): code and numbers with commas, no space, no needless zeros, then `9`, each with carriage
-- return; refused 103 for more than 16,384 bytes in use ("Calls", row 103), 106 for a text buffer under 32,768 bytes, then G if the
-- store is not readable.
use Rattle.std.specs.Prelude.{ℕ, List, [], ◌∷◌, ◌++◌, Result, Ok, Err, length, drop, ltb}
use Rattle.count.specs.Sizes.{store_bytes, text_bytes}
use Rattle.count.specs.Chars.{ch}
use Rattle.count.specs.Pick.{pick}
use Rattle.count.specs.Numbers.{signed}
use Rattle.count.specs.Text.{shown}
use Rattle.count.specs.declared.Refusal.{Refusal}
use Rattle.count.specs.Refusals.{number_of}
use Rattle.record.specs.declared.Held.{Held}
use Rattle.record.specs.declared.Record.{Record}
use Rattle.record.specs.Bytes.{numbers_of}
use Rattle.record.specs.Places.{Records, are, none-are, records_of}

-- a comma and a number, for each of the numbers behind the first
unfoldable pub more : List ℕ → List ℕ
more [] = []
more (w ∷ l) = ch "," ∷ shown (signed w) ++ more l

-- the numbers with commas
unfoldable pub numbers_text : List ℕ → List ℕ
numbers_text [] = []
numbers_text (w ∷ l) = shown (signed w) ++ more l

-- a record's line
unfoldable pub line_text : Record → List ℕ
line_text r = r.code ∷ numbers_text (numbers_of r) ++ ch "\r" ∷ []

-- all lines, and the end line
unfoldable pub list_text : List Record → List ℕ
list_text [] = ch "9" ∷ ch "\r" ∷ []
list_text (r ∷ l) = line_text r ++ list_text l

-- the refusal, or 0 and the length of the text
pub record Listed : Type 0 where
  pub refusal : ℕ
  pub len : ℕ

-- what listing comes to, and the text buffer afterwards
pub record Telling : Type 0 where
  pub listed : Listed
  pub text : List ℕ

abbrev pub telling : ℕ → ℕ → List ℕ → Telling
telling refusal len t = record { listed = record { refusal = refusal; len = len }; text = t }

-- as it is answered
abbrev pub told : Result ℕ Refusal → List ℕ → Telling
told (Ok len) t = telling 0 len t
told (Err r) t = telling (number_of r) 0 t

abbrev pub tell : Records → List ℕ → Telling
tell (are l) t = telling 0 (length (list_text l)) (list_text l ++ drop (length (list_text l)) t)
tell none-are t = telling (ch "G") 0 t

unfoldable pub list_of : Held → List ℕ → List ℕ → Telling
list_of h s t =
    pick (ltb store_bytes h.used) (telling 103 0 t)
    (pick (ltb (length t) text_bytes) (telling 106 0 t) (tell (records_of h s) t))
