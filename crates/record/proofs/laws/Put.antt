-- How the code writes a record, and the laws that join it to the definitions. Assumes nothing.
use Prim.Native.Nat.{ℕ, ◌+◌, ◌-◌, ◌*◌, ◌<◌, ◌≤◌}
use mathlib.Core.Path.{◌≡◌, refl, ap, ◌∙◌}
use mathlib.Core.List.{List, [], ◌∷◌, ◌++◌, append_assoc}
use mathlib.Core.Bool.{true, false, ◌&&◌}
use borrow.Author.Tests.{leb-true}
use lib.Dec.{leb}
use native.Mathlib.Numerals.{add-one}
use native.Mathlib.Omega.{arith}
use lib.ListN.{length, get_or, take, drop, set}
use borrow.Rule.Slice.PartMut.{put_mid}
use lib.Seq.{length-take-le, take-suc, take_at, drop_at, drop-drop}
use Rattle.count.proofs.laws.Lists.{rest, to_end}
use Rattle.count.proofs.laws.Truth.{and_parts}
use Rattle.record.specs.declared.Held.{Held}
use Rattle.record.specs.declared.Record.{Record}
use Rattle.record.specs.Memory.{Memory, memory}
use Rattle.record.specs.Bytes.{bytes4, num_bytes, numbers_of, encode}
use Rattle.record.specs.Keep.{storing, longer, has_room, store_of}

pub length-num_bytes : (l : List ℕ) → length (num_bytes l) ≡ 4 * length l
unfolding num_bytes bytes4
length-num_bytes [] = refl
length-num_bytes (w ∷ l) = omega (arith, length-num_bytes l)

num_bytes-behind : (l : List ℕ) (w : ℕ) → num_bytes (l ++ w ∷ []) ≡ num_bytes l ++ bytes4 w
unfolding num_bytes bytes4
num_bytes-behind [] w = refl
num_bytes-behind (x ∷ l) w = rw (num_bytes-behind l w)

-- one turn of `put_numbers`
pub put-more : (s₀ s ys v : List ℕ) (i : ℕ) {w : ℕ} → i < length v
    → s ≡ num_bytes (take i v) ++ drop (4 * i) s₀ → w ≡ get_or v i 0
    → ys ≡ bytes4 w ++ drop 4 (take (length s - 4 * i) (drop (4 * i) s))
    → put_mid (4 * i) (length s - 4 * i) s ys ≡ num_bytes (take (i + 1) v) ++ drop (4 * (i + 1)) s₀
put-more s₀ s ys v i h es ew ey =
    let l : length (num_bytes (take i v)) ≡ 4 * i = length-num_bytes (take i v) ∙ ap (λ (k : ℕ). 4 * k) (length-take-le i v (omega arith)) in
    let t : take (4 * i) s ≡ num_bytes (take i v) = rw es (take_at (num_bytes (take i v)) (drop (4 * i) s₀) (4 * i) l) in
    let d : drop (4 * i) s ≡ drop (4 * i) s₀ = rw es (drop_at (num_bytes (take i v)) (drop (4 * i) s₀) (4 * i) l) in
    let n : 4 * i + 4 ≡ 4 * (i + 1) = omega arith in
    to_end (4 * i) s ys ∙ rw (ey, t, rest, d, drop-drop, n, add-one, take-suc v i 0, num_bytes-behind, append_assoc, ew)

-- a head, and the numbers behind it
pub record-put : (s h n : List ℕ) (r : Record) → h ≡ 0xD7 ∷ 0x2B ∷ r.code ∷ length (numbers_of r) ∷ []
    → n ≡ num_bytes (numbers_of r) ++ drop (4 * length (numbers_of r)) (take (length (h ++ drop 4 s) - 4) (drop 4 (h ++ drop 4 s)))
    → put_mid 4 (length (h ++ drop 4 s) - 4) (h ++ drop 4 s) n ≡ encode r ++ drop (length (encode r)) s
unfolding encode
record-put s h n r eh en =
    let k : length (num_bytes (numbers_of r)) ≡ 4 * length (numbers_of r) = length-num_bytes (numbers_of r) in
    let j : 4 + 4 * length (numbers_of r) ≡ length (encode r) = omega arith in
    let d : drop (4 * length (numbers_of r)) (drop 4 s) ≡ drop (length (encode r)) s = drop-drop (4 * length (numbers_of r)) 4 s ∙ ap (λ (m : ℕ). drop m s) j in
    to_end 4 (h ++ drop 4 s) n
    ∙ rw (en, rest, eh) (ap (λ (x : List ℕ). 0xD7 ∷ 0x2B ∷ r.code ∷ length (numbers_of r) ∷ num_bytes (numbers_of r) ++ x) d)

-- ---- storing, as the code goes

pub room-so : (h : Held) (n size entries : ℕ) → has_room h n size entries ≡ true
    → (h.records + 1 ≤ 1000) × (h.used + n ≤ 16384) × (h.used + n ≤ size) × (h.records + 1 ≤ entries)
unfolding has_room
room-so h n size entries e =
    let o = and_parts (leb (h.records + 1) 1000 && leb (h.used + n) 16384 && leb (h.used + n) size) (leb (h.records + 1) entries) e in
    let p = and_parts (leb (h.records + 1) 1000 && leb (h.used + n) 16384) (leb (h.used + n) size) o.0 in
    let q = and_parts (leb (h.records + 1) 1000) (leb (h.used + n) 16384) p.0 in
    (leb-true (h.records + 1) 1000 q.0, leb-true (h.used + n) 16384 q.1, leb-true (h.used + n) size p.1, leb-true (h.records + 1) entries o.1)

pub encode-long : (r : Record) → length (encode r) ≡ 4 + 4 * length (numbers_of r)
unfolding encode
encode-long r = omega (arith, length-num_bytes (numbers_of r))

module _ (r : Record) (h : Held) (m : Memory) where
  pub kept-not : has_room h (4 + 4 * length (numbers_of r)) (length m.store) (length m.table) ≡ false → storing (record { stored = false; held = h }) m ≡ store_of h r m
  unfolding store_of
  kept-not p = rw (encode-long r, p)

  pub kept-so : has_room h (4 + 4 * length (numbers_of r)) (length m.store) (length m.table) ≡ true
      → {t : List ℕ} → t ≡ encode r ++ drop (length (encode r)) (take (length m.store - h.used) (drop h.used m.store))
      → storing (record { stored = true; held = longer h (4 + 4 * length (numbers_of r)) }) (memory (put_mid h.used (length m.store - h.used) m.store t) (set m.table h.records h.used)) ≡ store_of h r m
  unfolding store_of
  kept-so p {t} q = rw (encode-long r, p, to_end h.used m.store t, q, rest, encode-long r, drop-drop, append_assoc)
