-- A readable store is the encoding of exactly one list of records: what is read is that list, and storing a record puts it behind the list. Later crates reason about lists through these laws. Assumes nothing.
use Prim.Native.Nat.{ℕ, zero, suc, ◌+◌, ◌-◌, ◌<◌, ◌≤◌}
use mathlib.Core.Path.{◌≡◌, refl, ap, sym, ◌∙◌}
use mathlib.Core.List.{List, [], ◌∷◌, ◌++◌, append_assoc, append-nil}
use mathlib.Core.Bool.{Bool, true, false}
use native.Mathlib.Omega.{arith}
use lib.ListN.{length, take, drop, set, length-append, length-drop}
use lib.Seq.{length-take-le, take_at, drop_at}
use Rattle.count.specs.Pick.{pick}
use Rattle.record.specs.declared.Held.{Held}
use Rattle.record.specs.declared.Record.{Record}
use Rattle.record.specs.Bytes.{encode, length_of, front}
use Rattle.record.specs.declared.Found.{Found}
use Rattle.record.specs.declared.Found.TheVariants.{Got, End, Wrong}
use Rattle.record.specs.Memory.{Memory}
use Rattle.record.specs.Places.{in_use, Records, are, none-are, onto, then, records_from, records_of, is_list, readable_of, encode_all}
use Rattle.record.specs.Keep.{Storing, storing, longer, has_room, with_record, store_of}
use Rattle.record.specs.Bytes.{Below}
use Rattle.record.proofs.laws.Below.{below-append, below-take, below-drop}
use Rattle.record.proofs.laws.Right.{RightOne, below-encode, right-long, front-encode, front-right-one, front-decode}
use Rattle.record.proofs.laws.Put.{room-so}

-- every record of a list is right
abbrev pub AllRight : ℕ → List Record → Type 0
AllRight axes [] = Unit
AllRight axes (r ∷ l) = RightOne axes r × AllRight axes l

-- what a readable part says of its list
pub record Reading (axes k : ℕ) (s : List ℕ) (l : List Record) : Type 0 where
  pub bytes : s ≡ encode_all l
  pub count : length l ≡ k
  pub right : AllRight axes l

-- ---- from bytes to the list

module _ (axes k : ℕ) (s : List ℕ) (b : Below 256 s) where
  onto-reading : (r : Record) (x : Records) (l : List Record) → front axes s ≡ Got r
      → ((m : List Record) → x ≡ are m → Reading axes k (drop (length_of r) s) m)
      → onto r x ≡ are l → Reading axes (suc k) s l
  unfolding encode_all
  onto-reading r (are m) l e ih p =
      let g = ih m refl in
      let q : l ≡ r ∷ m = cc in
      rw q
      record {
        bytes = front-decode axes s b e ∙ ap (λ (t : List ℕ). encode r ++ t) g.bytes;
        count = ap suc g.count;
        right = (front-right-one axes s b e, g.right);
      }
  onto-reading r none-are l e ih p = absurd (let z : ◌≡◌ {A = ℕ} 0 1 = cc in omega arith)

  then-reading : (x : Found) (l : List Record) → front axes s ≡ x
      → ((r : Record) (m : List Record) → records_from axes k (drop (length_of r) s) ≡ are m → Reading axes k (drop (length_of r) s) m)
      → then x (λ r. records_from axes k (drop (length_of r) s)) ≡ are l → Reading axes (suc k) s l
  then-reading (Got r) l e ih p = onto-reading r (records_from axes k (drop (length_of r) s)) l e (ih r) p
  then-reading End l e ih p = absurd (let z : ◌≡◌ {A = ℕ} 0 1 = cc in omega arith)
  then-reading Wrong l e ih p = absurd (let z : ◌≡◌ {A = ℕ} 0 1 = cc in omega arith)

pub records-reading : (axes k : ℕ) (s : List ℕ) (l : List Record) → Below 256 s → records_from axes k s ≡ are l → Reading axes k s l
unfolding records_from encode_all
records-reading axes zero [] l b p =
    let q : l ≡ [] = cc in
    rw q record { bytes = refl; count = refl; right = tt }
records-reading axes zero (x ∷ s) l b p = absurd (let z : ◌≡◌ {A = ℕ} 0 1 = cc in omega arith)
records-reading axes (suc k) s l b p =
    then-reading axes k s b (front axes s) l refl (λ r m. records-reading axes k (drop (length_of r) s) m (below-drop 256 (length_of r) s b)) p

-- ---- from the list to bytes and back

pub records-encoded : (axes : ℕ) (l : List Record) → AllRight axes l → records_from axes (length l) (encode_all l) ≡ are l
unfolding records_from encode_all
records-encoded axes [] g = refl
records-encoded axes (r ∷ l) g =
    let d : drop (length_of r) (encode r ++ encode_all l) ≡ encode_all l = drop_at (encode r) (encode_all l) (length_of r) (right-long axes r g.0) in
    rw (front-encode axes r g.0 (encode_all l), d, records-encoded axes l g.1)

-- no two lists of as many right records have the same bytes
pub one_list : (axes : ℕ) (l m : List Record) → AllRight axes l → AllRight axes m → length l ≡ length m → encode_all l ≡ encode_all m → l ≡ m
one_list axes l m f g n e =
    let p : are l ≡ are m = sym (records-encoded axes l f) ∙ rw (n, e) (records-encoded axes m g) in
    cc

-- ---- of the store

-- A READABLE STORE IS THE ENCODING OF ITS LIST
pub readable-list : (h : Held) (s : List ℕ) (l : List Record) → Below 256 s → records_of h s ≡ are l → Reading h.axes h.records (in_use h s) l
unfolding records_of
readable-list h s l b p = records-reading h.axes h.records (in_use h s) l (below-take 256 (omega arith) h.used s b) p

pub list-readable : (h : Held) (s : List ℕ) (l : List Record) → Reading h.axes h.records (in_use h s) l → records_of h s ≡ are l
unfolding records_of
list-readable h s l g = rw (g.bytes, ← g.count) (records-encoded h.axes l g.right)

list-by : (x : Records) → is_list x ≡ true → (l : List Record) × (x ≡ are l)
list-by (are l) e = (l, refl)
list-by none-are e = absurd (let z : ◌≡◌ {A = ℕ} 0 1 = cc in omega arith)

pub readable-so : (h : Held) (s : List ℕ) → readable_of h s ≡ true → (l : List Record) × (records_of h s ≡ are l)
unfolding readable_of
readable-so h s e = list-by (records_of h s) e

-- an empty store has the empty list
pub empty-list : (h : Held) (s : List ℕ) → h.used ≡ 0 → h.records ≡ 0 → records_of h s ≡ are []
unfolding records_of records_from
empty-list h s u n = rw (u, n)

-- ---- a list behind another; storing a record puts it behind the list

pub encode-append : (l m : List Record) → encode_all (l ++ m) ≡ encode_all l ++ encode_all m
unfolding encode_all
encode-append [] m = refl
encode-append (x ∷ l) m = rw (encode-append l m) (sym (append_assoc (encode x) (encode_all l) (encode_all m)))

pub encode-behind : (l : List Record) (r : Record) → encode_all (l ++ r ∷ []) ≡ encode_all l ++ encode r
unfolding encode_all
encode-behind l r = encode-append l (r ∷ []) ∙ ap (λ (t : List ℕ). encode_all l ++ t) (append-nil (encode r))

pub right-append : (axes : ℕ) (l m : List Record) → AllRight axes l → AllRight axes m → AllRight axes (l ++ m)
right-append axes [] m f g = g
right-append axes (x ∷ l) m f g = (f.0, right-append axes l m f.1 g)

-- what an accepted record leaves: its list, and the bytes before and beyond it as they were
pub record Appended (h : Held) (r : Record) (m : Memory) (l : List Record) (k : Storing) : Type 0 where
  pub list : records_of k.kept.held k.memory.store ≡ are (l ++ r ∷ [])
  pub before : take h.used k.memory.store ≡ take h.used m.store
  pub beyond : drop k.kept.held.used k.memory.store ≡ drop k.kept.held.used m.store
  pub long : length k.memory.store ≡ length m.store
  pub below : Below 256 k.memory.store
  -- its entry of the table, which is there, and where it starts
  pub entry : k.memory.table ≡ set m.table h.records h.used
  pub entries : h.records < length m.table
  pub within : h.used ≤ length m.store

module _ (h : Held) (r : Record) (m : Memory) where
  abbrev then-kept : Storing
  then-kept = storing (record { stored = true; held = longer h (length (encode r)) }) (with_record h r m)

  abbrev not-kept : Storing
  not-kept = storing (record { stored = false; held = h }) m

  appended : (l : List Record) → Below 256 m.store → records_of h m.store ≡ are l → RightOne h.axes r
      → h.used + length (encode r) ≤ length m.store → h.records + 1 ≤ length m.table → Appended h r m l then-kept
  appended l b e g room rows =
      let s = m.store in
      let n = length (encode r) in
      let t = take h.used s in
      let f = readable-list h s l b e in
      let a : length t ≡ h.used = length-take-le h.used s (omega arith) in
      let c : length (t ++ encode r) ≡ h.used + n = length-append t (encode r) ∙ rw a in
      let d : length (drop (h.used + n) s) ≡ length s - (h.used + n) = length-drop (h.used + n) s in
      let u : take (h.used + n) (with_record h r m).store ≡ encode_all (l ++ r ∷ []) =
      take_at (t ++ encode r) (drop (h.used + n) s) (h.used + n) c ∙ rw (encode-behind, ← f.bytes) in
      record {
        list = list-readable (longer h n) (with_record h r m).store (l ++ r ∷ [])
            record { bytes = u; count = length-append l (r ∷ []) ∙ rw f.count; right = right-append h.axes l (r ∷ []) f.right (g, tt) };
        before = rw append_assoc (take_at t (encode r ++ drop (h.used + n) s) h.used a);
        beyond = drop_at (t ++ encode r) (drop (h.used + n) s) (h.used + n) c;
        long = length-append (t ++ encode r) (drop (h.used + n) s) ∙ omega arith;
        below = below-append 256 (omega arith) (t ++ encode r) (drop (h.used + n) s)
            (below-append 256 (omega arith) t (encode r) (below-take 256 (omega arith) h.used s b) (below-encode h.axes r g))
            (below-drop 256 (h.used + n) s b);
        entry = refl;
        entries = omega arith;
        within = omega arith;
      }

  stored-by : (x : Bool) (l : List Record) → has_room h (length (encode r)) (length m.store) (length m.table) ≡ x → Below 256 m.store
      → records_of h m.store ≡ are l → RightOne h.axes r → (pick x then-kept not-kept).kept.stored ≡ true → Appended h r m l (pick x then-kept not-kept)
  stored-by true l q b e g p =
      let w = room-so h (length (encode r)) (length m.store) (length m.table) q in
      appended l b e g w.2 w.3
  stored-by false l q b e g p = absurd (let z : ◌≡◌ {A = ℕ} 0 1 = cc in omega arith)

  -- AN ACCEPTED RECORD IS BEHIND THE LIST
  pub stored-list : (l : List Record) → Below 256 m.store → records_of h m.store ≡ are l → RightOne h.axes r
      → (store_of h r m).kept.stored ≡ true → Appended h r m l (store_of h r m)
  unfolding store_of
  stored-list l b e g p = stored-by (has_room h (length (encode r)) (length m.store) (length m.table)) l refl b e g p

  refused-by : (x : Bool) (k : Storing) → k.kept.stored ≡ true → (pick x k not-kept).kept.stored ≡ false → pick x k not-kept ≡ not-kept
  refused-by true k q p = absurd (let z : ◌≡◌ {A = ℕ} 0 1 = cc in omega arith)
  refused-by false k q p = refl

  -- a refused record changes nothing
  pub stored-not : (store_of h r m).kept.stored ≡ false → store_of h r m ≡ not-kept
  unfolding store_of
  stored-not p = refused-by (has_room h (length (encode r)) (length m.store) (length m.table)) then-kept refl p
