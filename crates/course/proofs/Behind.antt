-- One text behind another in a part, and a byte before a text. Assumes nothing.
use Prim.Native.Nat.{ℕ, suc, ◌+◌, ◌-◌, ◌≤◌}
use mathlib.Core.Path.{◌≡◌, refl, ap, sym, subst, ◌∙◌}
use mathlib.Core.Bool.{Bool, true, false}
use mathlib.Core.List.{List, [], ◌∷◌, ◌++◌, append_assoc, append-nil}
use native.Mathlib.Numerals.{add-one}
use native.Mathlib.Omega.{arith}
use borrow.Rule.Slice.PartMut.{put_mid}
use lib.ListN.{length, take, drop, set, length-append}
use lib.Seq.{take_at, drop_at, drop-drop}
use Rattle.count.specs.Pick.{pick}
use Rattle.count.specs.declared.Axis.{Axis}
use Rattle.count.specs.declared.Axis.TheVariants.{X, Y, Z, A}
use Rattle.count.specs.Axes.{shown_axes, end_to_end}
use Rattle.count.specs.Text.{Written, written, wrote}
use Rattle.count.proofs.laws.Digits.{wrote-long}
use Rattle.count.proofs.laws.Lists.{rest, to_end, set_front, drop-one}
use Rattle.course.specs.work.Work.{Wrote}

-- a text, and another where it ends
pub wrote_then : {s t u o l : List ℕ} {k j : ℕ} → Wrote t s k o → Wrote u (take (length o - k) (drop k o)) j l
    → Wrote (t ++ u) s (k + j) (put_mid k (length o - k) o l)
wrote_then {s} {t} {u} {o} {l} {k} {j} w v =
    let n : length t ≡ k = sym w.long in
    let tk : take k o ≡ t = rw w.text (take_at t (drop (length t) s) k n) in
    let dr : drop k o ≡ drop (length t) s = rw w.text (drop_at t (drop (length t) s) k n) in
    let e : l ≡ u ++ drop (length t + length u) s = v.text ∙ rw (rest, dr, drop-drop) in
    let m : length (t ++ u) ≡ length t + length u = length-append t u in
    record {
      long = omega (arith, w.long, v.long, m);
      text = to_end k o l ∙ rw (tk, e, m) (sym (append_assoc t u (drop (length t + length u) s)));
    }

-- a byte, and a text behind it that was written first
pub byte-before : (s : List ℕ) (b : ℕ) {t l : List ℕ} {k : ℕ} → 12 ≤ length s → written k l ≡ wrote 11 t (take (length s - 1) (drop 1 s))
    → Wrote (b ∷ t) s (k + 1) (set (put_mid 1 (length s - 1) s l) 0 b)
byte-before s b {t} {l} {k} h q =
    let r : length (take (length s - 1) (drop 1 s)) ≡ length s - 1 = rw (rest) (dropped s) in
    let p : written k l ≡ written (length t) (t ++ drop (length t) (take (length s - 1) (drop 1 s))) = q ∙ wrote-long 11 t _ (omega arith) in
    let n : k ≡ length t = ap (λ (x : Written). x.len) p in
    let e : l ≡ t ++ drop (suc (length t)) s = ap (λ (x : Written). x.text) p ∙ rw (rest, drop-one) in
    record { long = add-one k ∙ ap suc n; text = set_front s l b (omega arith) ∙ ap (λ (x : List ℕ). b ∷ x) e }
  where
    dropped : (s : List ℕ) → length (drop 1 s) ≡ length s - 1
    dropped [] = refl
    dropped (x ∷ s) = omega arith

-- ---- the end line: a byte, a field for each axis, and the last where A is set

fields : (f : Axis → List ℕ) (turns : Bool) → (69 ∷ []) ++ f X ++ f Y ++ f Z ++ pick turns (f A) [] ≡ 69 ∷ end_to_end f (shown_axes turns)
fields f true =
    ap (λ (l : List ℕ). 69 ∷ l)
    (append_assoc (f X ++ f Y) (f Z) (f A) ∙ append_assoc (f X) (f Y) (f Z ++ f A) ∙ ap (λ (l : List ℕ). f X ++ (f Y ++ (f Z ++ l))) (sym (append-nil (f A))))
fields f false = ap (λ (l : List ℕ). 69 ∷ l) (append_assoc (f X ++ f Y) (f Z) [] ∙ append_assoc (f X) (f Y) (f Z ++ []))

pub end-wrote : (f : Axis → List ℕ) (turns : Bool) {s o : List ℕ} {k : ℕ} → Wrote ((69 ∷ []) ++ f X ++ f Y ++ f Z ++ pick turns (f A) [] ++ (10 ∷ [])) s k o
    → Wrote ((69 ∷ end_to_end f (shown_axes turns)) ++ (10 ∷ [])) s k o
end-wrote f turns {s} {o} {k} w = subst (λ (t : List ℕ). Wrote (t ++ (10 ∷ [])) s k o) (fields f turns) w
