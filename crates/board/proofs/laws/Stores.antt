-- The code's way through a line while storing is the definition's. Assumes nothing.
use Prim.Native.Nat.{ℕ, ◌≤◌}
use mathlib.Core.Path.{◌≡◌, refl, sym, ap, ◌∙◌}
use mathlib.Core.Bool.{Bool, true, false, not}
use mathlib.Core.List.{List, [], ◌∷◌}
use native.Mathlib.Omega.{arith}
use borrow.Author.Tests.{eqb-true, eq-eqb, ne_eqb}
use lib.Dec.{eqb}
use lib.ListN.{length}
use Rattle.count.specs.Pick.{pick}
use Rattle.record.specs.declared.Held.{Held}
use Rattle.record.specs.declared.Record.{Record}
use Rattle.record.specs.Memory.{Memory}
use Rattle.record.specs.Bytes.{encode}
use Rattle.record.specs.Fault.{is_code, count_right, axes_right, ranges_right, speeds_right, numbers_reply, fault_of}
use Rattle.record.proofs.laws.Faultless.{fault-none}
use Rattle.record.proofs.laws.Shapes.{Shape, one, two, seven, eight, shape, four as four-numbers}
use Rattle.record.specs.Keep.{Kept, Storing, storing, longer, has_room, store_of}
use Rattle.line.specs.Code.{Code}
use Rattle.line.specs.Code as code
use Rattle.line.specs.Said.{Stored}
use Rattle.line.specs.Numbers.{Numbers, are, wrong}
use Rattle.line.specs.Lines.{behind, code_of, stored, by_code, stored_of}
use Rattle.board.specs.declared.Board.{Board}
use Rattle.board.specs.declared.Spoke.{Spoke}
use Rattle.board.specs.State.{line_done, Said, said}
use Rattle.board.specs.Storing.{record_of, record_reply, record_said, end_said, stored_said}
use Rattle.board.specs.work.Work.{spoke, replied_with, kept_said}

-- ---- 7, 3, 1 and D as rows, and what comes behind them

pub four : (a b c d : Bool) (o : ℕ) → numbers_reply a b c d o ≡ pick (eqb (numbers_reply a b c d 48) 48) o (numbers_reply a b c d 48)
four true true true true o = refl
four true true true false o = refl
four true true false d o = refl
four true false c d o = refl
four false b c d o = refl

-- ---- a record's reply

module _ (r : Record) (b : Board) (m : Memory) (k : is_code r.code ≡ true) where
  abbrev fault : ℕ
  fault = fault_of b.engine.held.axes r.code r.count r.words

  abbrev fits : Bool
  fits = (store_of b.engine.held r m).kept.stored

  reply-so : record_reply b.engine.held r m ≡ pick (eqb fault 48) (pick (not fits) 54 48) fault
  unfolding record_reply fault_of
  reply-so =
      let axes = b.engine.held.axes in
      rw k (four (count_right axes r.code r.count) (axes_right axes r.code r.words) (ranges_right axes r.code r.words)
      (speeds_right axes r.code r.words) (pick (not fits) 54 48))

  said-by : (t s : Bool) (f : ℕ) (x : Said) → eqb f 48 ≡ t
      → pick (eqb (pick t (pick (not s) 54 48) f) 48) x (said (line_done b) (pick t (pick (not s) 54 48) f ∷ []) m)
      ≡ pick t (pick s x (said (line_done b) (54 ∷ []) m)) (said (line_done b) (f ∷ []) m)
  said-by true true f x e = refl
  said-by true false f x e = refl
  said-by false s f x e = rw e

  record-so : record_said r b m ≡ pick (eqb fault 48) (kept_said r b m) (said (line_done b) (fault ∷ []) m)
  record-so = rw reply-so (said-by (eqb fault 48) fits fault _ refl)

  module _ {f : ℕ} (e : f ≡ fault) where
    pub record-refused : (f ≡ 48 → ⊥) → {s : Spoke} → s ≡ replied_with b b.engine f → spoke s m ≡ record_said r b m
    record-refused h p = ap (λ (x : Spoke). spoke x m) p ∙ sym (record-so ∙ rw (← e, ne_eqb f 48 h))

    pub record-kept : f ≡ 48 → {x : Said} → x ≡ kept_said r b m → x ≡ record_said r b m
    record-kept h p = p ∙ sym (record-so ∙ rw (← e, eq-eqb f 48 h))

-- a record that isn't stored leaves the memory as it was
kept_by : (t : Bool) (h : Held) (r : Record) (m l : Memory) {k : Kept} {x : Memory}
    → storing k x ≡ pick t (storing (record { stored = true; held = longer h (length (encode r)) }) l) (storing (record { stored = false; held = h }) m)
    → k.stored ≡ false → x ≡ m
kept_by true h r m l e p = let q = ap (λ (y : Storing). y.kept.stored) e in let z : ◌≡◌ {A = ℕ} 0 1 = cc in absurd (omega arith)
kept_by false h r m l e p = ap (λ (y : Storing). y.memory) e

pub not-kept : (h : Held) (r : Record) (m : Memory) {k : Kept} {x : Memory} → storing k x ≡ store_of h r m → k.stored ≡ false → x ≡ m
unfolding store_of
not-kept h r m e p = kept_by (has_room h (length (encode r)) (length m.store) (length m.table)) h r m _ e p

-- ---- a right record has at most eight numbers

eight-most : {n : ℕ} {l : List ℕ} → Shape n l → n ≤ 8
eight-most (one e p) = omega arith
eight-most (two e p q) = omega arith
eight-most (four-numbers e p q r s) = omega arith
eight-most (seven e p q r s t u v) = omega arith
eight-most (eight e p q r s t u v w) = omega arith

pub count_small : (axes c n : ℕ) (l : List ℕ) → fault_of axes c n l ≡ 48 → n ≤ 8
count_small axes c n l p = eight-most (shape l axes c n (fault-none axes c n l p))

-- ---- the code of a line's record is one

abbrev okay : Code → Bool
okay code.Wrong = true
okay (code.Record c) = is_code c
okay code.End = true

one-okay : (b k : ℕ) (t : Bool) (x : Code) → eqb b k ≡ t → is_code k ≡ true → okay x ≡ true → okay (pick t (code.Record b) x) ≡ true
one-okay b k true x e p q = rw (eqb-true b k e) p
one-okay b k false x e p q = q

end-okay : (t : Bool) → okay (pick t code.End code.Wrong) ≡ true
end-okay true = refl
end-okay false = refl

code-okay : (b : ℕ) → okay (code_of b) ≡ true
unfolding code_of is_code
code-okay b =
    one-okay b 48 _ _ refl refl (one-okay b 109 _ _ refl refl (one-okay b 110 _ _ refl refl (one-okay b 122 _ _ refl refl
    (one-okay b 51 _ _ refl refl (one-okay b 53 _ _ refl refl (one-okay b 49 _ _ refl refl (one-okay b 50 _ _ refl refl
    (one-okay b 101 _ _ refl refl (one-okay b 102 _ _ refl refl (one-okay b 121 _ _ refl refl (end-okay (eqb b 57))))))))))))

stored-okay : (k : Code) (n : Numbers) → okay k ≡ true → okay (stored k n).code ≡ true
stored-okay k (are l) p = p
stored-okay k wrong p = refl

by-okay : (k : Code) (s : List ℕ) → okay k ≡ true → okay (by_code k s).code ≡ true
by-okay code.Wrong s p = refl
by-okay (code.Record c) s p = stored-okay (code.Record c) (behind s) p
by-okay code.End [] p = refl
by-okay code.End (x ∷ s) p = refl

line-okay : (s : List ℕ) → okay (stored_of s).code ≡ true
unfolding stored_of
line-okay [] = refl
line-okay (b ∷ s) = by-okay (code_of b) s (code-okay b)

pub code-right : (s : List ℕ) {d : Stored} {c : ℕ} → d ≡ stored_of s → d.code ≡ code.Record c → is_code c ≡ true
code-right s {d} {c} e p = ap okay (sym (sym (ap (λ (x : Stored). x.code) e) ∙ p)) ∙ line-okay s

-- ---- a line, by its code

module _ (s : List ℕ) (b : Board) (m : Memory) {d : Stored} (e : d ≡ stored_of s) where
  pub stored_wrong : d.code ≡ code.Wrong → {r : Spoke} → r ≡ replied_with b b.engine 53 → spoke r m ≡ stored_said (stored_of s) b m
  unfolding stored_said
  stored_wrong p q = ap (λ (x : Spoke). spoke x m) q ∙ rw (← e, p)

  pub stored-record : {c : ℕ} → d.code ≡ code.Record c → {x : Said} → x ≡ record_said (record_of c d) b m → x ≡ stored_said (stored_of s) b m
  unfolding stored_said
  stored-record p q = q ∙ rw (← e, p)

  pub stored-end : d.code ≡ code.End → {x : Said} → x ≡ end_said b m → x ≡ stored_said (stored_of s) b m
  unfolding stored_said
  stored-end p q = q ∙ rw (← e, p)
