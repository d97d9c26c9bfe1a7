-- From what two arrays say of a store: the verdict of its check, and its acceptance with the edges. Assumes nothing.
use Prim.Native.Nat.{ℕ, zero, suc, ◌+◌, ◌≤◌, ◌<◌}
use mathlib.Core.Bool.{Bool, true, false, not, ◌&&◌, ◌||◌}
use mathlib.Core.List.{List}
use mathlib.Core.Path.{◌≡◌, refl, sym, ◌∙◌, ap}
use native.Mathlib.Omega.{arith}
use borrow.Author.Tests.{lt-ltb, le-ltb}
use Rattle.std.specs.List.{range_with_len, list_any}
use Rattle.std.proofs.Common.{◌==◌}
use Rattle.std.proofs.Math.Bool.{or_assoc, or_comm}
use Rattle.program.specs.Check.{some}
use native.Mathlib.Nat.{add-zero, zero-add}
use Rattle.count.proofs.laws.Truth.{never, and-false}
use Rattle.record.specs.declared.Held.{Held}
use Rattle.record.specs.Places.{none-are, records_of}
use Rattle.program.specs.Verdict.{Verdict, Sound, Fault, Unreadable}
use Rattle.count.specs.Axes.{axes_set}
use Rattle.program.specs.Program.{check_of, verdict_on, verdict_of, is_sound, sized, passing, accepted}
use Rattle.program.specs.Edges.{leads_out, starts_first, of_these, acceptance, acceptance_of}
use Rattle.program.specs.work.Aims.{loop_at, turn_at, far_at, marked_of}
use Rattle.program.specs.work.Edges.{leads, told_of}
use Rattle.program.specs.work.Marks.{mark, checked}
use Rattle.program.specs.work.Work.{loop_in, turn_in, far_in}
use Rattle.program.proofs.Gather.{Read}
use Rattle.program.proofs.laws.Accepting.{sized-parts, computed}
use Rattle.program.proofs.laws.Edges.{out-same, first-same}
use Rattle.program.proofs.laws.Marks.{marked-same}

-- ---- the verdict

pub too_many : (h : Held) (s : List ℕ) → 1000 < h.records → Unreadable ≡ verdict_of h s
unfolding verdict_of
too_many h s l = rw (lt-ltb 1000 h.records l)

pub unreadable : (h : Held) (s : List ℕ) → h.records ≤ 1000 → records_of h s ≡ none-are → Unreadable ≡ verdict_of h s
unfolding verdict_of
unreadable h s l e = rw (le-ltb 1000 h.records l) (ap verdict_on (sym e))

module _ (h : Held) (s ks os : List ℕ) (few : h.records ≤ 1000) (x : Read h s ks os) where
  verdict-list : verdict_of h s ≡ check_of x.items
  unfolding verdict_of
  verdict-list = rw (le-ltb 1000 h.records few) (ap verdict_on x.reads)

  arrays-list : checked (loop_in ks) (turn_in ks) (far_in os) h.records ≡ marked_of x.items
  unfolding marked_of
  arrays-list = rw (x.loops, x.turns, x.fars) (ap (checked (loop_at x.items) (turn_at x.items) (far_at x.items)) (sym x.count))

  pub verdict-read : checked (loop_in ks) (turn_in ks) (far_in os) h.records ≡ verdict_of h s
  verdict-read = arrays-list ∙ sym (marked-same x.items h.axes x.right) ∙ sym verdict-list

  -- ---- the edges

  pub out-read : leads (turn_in ks) (far_in os) (mark h.records) h.records ≡ of_these leads_out (records_of h s)
  out-read =
      rw (x.turns, x.fars)
      (ap (λ (n : ℕ). leads (turn_at x.items) (far_at x.items) (mark n) n) (sym x.count)
      ∙ sym (ap (of_these leads_out) x.reads ∙ out-same h.axes x.items x.right))

  pub first_read : leads (loop_in ks) (far_in os) (mark 0) h.records ≡ of_these starts_first (records_of h s)
  first_read =
      rw (x.loops, x.fars)
      (ap (leads (loop_at x.items) (far_at x.items) (mark 0)) (sym x.count)
      ∙ sym (ap (of_these starts_first) x.reads ∙ first-same h.axes x.items x.right))

-- ---- a place that leads to a mark, sought among n places

any-next : (f : ℕ → Bool) (a n : ℕ) → list_any f (range_with_len a (suc n)) ≡ list_any f (range_with_len a n) || f (a + n)
any-next f a zero = rw add-zero (or_comm (f a) false)
any-next f a (suc n) =
    let e : a + 1 + n ≡ a + suc n = omega arith in
    rw (any-next f (a + 1) n, e) (sym (or_assoc (f a) (list_any f (range_with_len (a + 1) n)) (f (a + suc n))))

any-some : (f : ℕ → Bool) (n : ℕ) → list_any f (range_with_len 0 n) ≡ some n f
any-some f zero = refl
any-some f (suc n) = any-next f 0 n ∙ rw (zero-add, any-some f n) (or_comm (some n f) (f n))

pub leads-any : (test : ℕ → Bool) (far : ℕ → ℕ) (m n : ℕ) → list_any (λ i. test i && (far i == m)) (range_with_len 0 n) ≡ leads test far m n
unfolding leads
leads-any test far m n = any-some (λ i. test i && (far i == m)) n

-- ---- the acceptance

told-so : (v : Verdict) (out first : Bool) → told_of v out first ≡ acceptance (is_sound v) (is_sound v && out) (is_sound v && first)
told-so Sound out first = refl
told-so (Fault a p) out first = refl
told-so Unreadable out first = refl

acceptance-by : (h : Held) (s : List ℕ) (b : Bool) → accepted h s ≡ b → acceptance b (b && of_these leads_out (records_of h s)) (b && of_these starts_first (records_of h s)) ≡ acceptance_of h s
unfolding acceptance_of
acceptance-by h s b e = rw e

-- not of these sizes and axes
pub not-asked : (h : Held) (s : List ℕ) {a b : Bool} → a ≡ sized h → b ≡ axes_set h.axes → not (a && b) ≡ true → acceptance false false false ≡ acceptance_of h s
unfolding accepted
not-asked h s p q e = acceptance-by h s false (by (sized h) (axes_set h.axes) (rw (p, q) at e))
  where
    by : (a b : Bool) → not (a && b) ≡ true → a && (b && passing (records_of h s)) ≡ false
    by true true e = never e
    by true false e = refl
    by false b e = refl

pub asked : (h : Held) {a b : Bool} → a ≡ sized h → b ≡ axes_set h.axes → not (a && b) ≡ false → (sized h ≡ true) × (axes_set h.axes ≡ true)
asked h p q e = by (sized h) (axes_set h.axes) (rw (p, q) at e)
  where
    by : (a b : Bool) → not (a && b) ≡ false → (a ≡ true) × (b ≡ true)
    by true true e = (refl, refl)
    by true false e = never (sym e)
    by false b e = never (sym e)

-- of these, and read
pub told-read : (h : Held) (s ks os : List ℕ) → sized h ≡ true → axes_set h.axes ≡ true → Read h s ks os
    → told_of (checked (loop_in ks) (turn_in ks) (far_in os) h.records) (leads (turn_in ks) (far_in os) (mark h.records) h.records) (leads (loop_in ks) (far_in os) (mark 0) h.records) ≡ acceptance_of h s
told-read h s ks os z a x =
    let d = sized-parts h z in
    rw (verdict-read h s ks os d.1 x, out-read h s ks os d.1 x, first_read h s ks os d.1 x)
    (told-so (verdict_of h s) (of_these leads_out (records_of h s)) (of_these starts_first (records_of h s))
    ∙ acceptance-by h s (is_sound (verdict_of h s)) (computed h s a d.0 d.1))

-- and not readable
pub told-unread : (h : Held) (s : List ℕ) → records_of h s ≡ none-are → acceptance false false false ≡ acceptance_of h s
unfolding accepted
told-unread h s e =
    acceptance-by h s false (ap (λ (b : Bool). sized h && (axes_set h.axes && b)) (ap passing e) ∙ ap (λ (b : Bool). sized h && b) (and-false (axes_set h.axes)) ∙ and-false (sized h))
