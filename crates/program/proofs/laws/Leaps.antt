-- A leap tells the whole of a way: the open loops before with its one entry are those that the record leads to. Assumes nothing.
use Prim.Native.Nat.{ℕ, ◌+◌, ◌-◌, ◌<◌, max}
use mathlib.Core.Path.{◌≡◌, refl, sym, ◌∙◌, ap}
use mathlib.Core.Bool.{Bool, true, false, ◌&&◌, ◌||◌}
use mathlib.Core.List.{List}
use native.Mathlib.Omega.{arith}
use borrow.Author.Tests.{lt-leb}
use lib.Dec.{ltb, leb, eqb}
use lib.IntN.{ℤ}
use lib.ListN.{length, get_or, set}
use lib.Seq.{get_or-set_same, set-get_or, set-set}
use Rattle.count.specs.Chars.{ch}
use Rattle.count.specs.Pick.{pick}
use Rattle.count.specs.Ranges.{nth}
use Rattle.record.specs.declared.Record.{Record}
use Rattle.program.specs.declared.Going as code
use Rattle.program.specs.declared.Lead as made
use Rattle.program.specs.declared.Loop.{Loop}
use Rattle.program.specs.declared.Loops.{Loops}
use Rattle.program.specs.Going.{To, Way, way_by}
use Rattle.program.specs.Onward.{counter, opened, last_of, to, wrong, inside, target_of, again, opens, looped, aimed, onward_of}
use Rattle.program.specs.work.Leap.{Lead, lead_in, leap_by, leap_of, loops_by}

-- ---- the entry that can have changed, while as many are open, one less, one more

pub top-same : (d : ℕ) → max d d - 1 ≡ d - 1
top-same d = omega arith

pub top-less : (d : ℕ) → max d (d - 1) - 1 ≡ d - 1
top-less d = omega arith

pub top-more : (d : ℕ) → max d (d + 1) - 1 ≡ d
top-more d = omega arith

module _ (o : Loops) where
  -- ---- a way without the loops: they stay, or one entry is set

  pub leap-stays : (g : code.Going) → leap_by o (way_by g o) ≡ lead_in (record { going = g; depth = o.depth; top = o.depth - 1; last = last_of o })
  leap-stays g = rw (top-same o.depth)

  pub leap-sets : (place n i : ℕ) (v : Loop) → max o.depth n - 1 ≡ i → i < length o.at
      → leap_by o (to place (opened (set o.at i v) n)) ≡ record { going = To; place = place; target = 0; depth = n; top = i; last = v }
  leap-sets place n i v e h = rw (e, get_or-set_same o.at i v (counter 0 0) h)

  -- ---- and the loops of the way again, wherever it goes

  abbrev Kept : Way → Type 0
  Kept w = loops_by (leap_by o w) o ≡ w.loops

  kept-stays : Kept (wrong o)
  kept-stays = rw set-get_or

  -- what an entry holds after it was set, set there: past the last entry both do nothing
  set-again : (l : List Loop) (i : ℕ) (v d : Loop) → set l i (get_or (set l i v) i d) ≡ set l i v
  set-again l i v d = sym (set-set l i v (get_or (set l i v) i d)) ∙ set-get_or (set l i v) i d

  kept_sets : (n i : ℕ) (v : Loop) → max o.depth n - 1 ≡ i → Kept (to 0 (opened (set o.at i v) n))
  kept_sets n i v e = rw (e, set-again o.at i v (counter 0 0))

  kept-pick : (b : Bool) (x y : Way) → Kept x → Kept y → Kept (pick b x y)
  kept-pick true x y p q = p
  kept-pick false x y p q = q

  kept_again : (place target : ℕ) → Kept (again place target o)
  unfolding again
  kept_again place target = kept-pick (eqb (last_of o).left 0) _ _ (kept_sets _ _ _ (top-less o.depth)) (kept_sets _ _ _ (top-same o.depth))

  kept-opens : (place target number : ℕ) → Kept (opens place target number o)
  unfolding opens
  kept-opens place target number = kept-pick (leb 7 o.depth) _ _ kept-stays (kept_sets _ _ _ (top-more o.depth))

  kept-looped : (place target number : ℕ) → Kept (looped place target number o)
  unfolding looped
  kept-looped place target number =
      kept-pick (ltb 7 o.depth) _ _ kept-stays
      (kept-pick (ltb 0 o.depth && eqb (last_of o).place place) _ _ (kept_again place target) (kept-opens place target number))

  kept-aimed : (place end : ℕ) (offset : ℤ) (r : Record) → Kept (aimed place end offset r o)
  unfolding aimed
  kept-aimed place end offset r =
      kept-pick (inside place offset end) _ _
      (kept-pick (eqb r.code (ch "2")) _ _ kept-stays
      (kept-pick (eqb (get_or r.words 0 0) 0) _ _ kept-stays
      (kept-pick (ltb 32767 (get_or r.words 0 0)) _ _ kept-stays
      (kept-looped place (target_of place offset) (get_or r.words 0 0)))))
      kept-stays

either : (a b : Bool) (x y : Way) → pick a x (pick b x y) ≡ pick (a || b) x y
either true b x y = refl
either false b x y = refl

module _ (r : Record) (place end : ℕ) (o : Loops) where
  -- below the end place: a jump, a loop or a wait, or the next place
  pub onward-by : place < end
      → onward_of r place end o ≡ pick (eqb r.code (ch "3") || eqb r.code (ch "2")) (aimed place end (nth r.words 1) r o) (to (place + 1) o)
  unfolding onward_of
  onward-by h = rw (lt-leb end place h) (either (eqb r.code (ch "3")) (eqb r.code (ch "2")) _ _)

  pub leap-loops : loops_by (leap_of r place end o) o ≡ (onward_of r place end o).loops
  unfolding leap_of onward_of
  leap-loops =
      kept-pick o (leb end place) _ _ (kept-stays o)
      (kept-pick o (eqb r.code (ch "3")) _ _ (kept-aimed o place end (nth r.words 1) r)
      (kept-pick o (eqb r.code (ch "2")) _ _ (kept-aimed o place end (nth r.words 1) r) (kept-stays o)))

  -- a leap with the loops made of it is the way
  pub leap-way : {l : Lead} {p : Loops} → l ≡ leap_of r place end o → p ≡ loops_by l o
      → record { going = l.going; place = l.place; target = l.target; loops = p } ≡ onward_of r place end o
  unfolding leap_of
  leap-way e d = rw (d, e, leap-loops)

  -- the same of a leap as it is answered
  pub leap-made : (l : made.Lead) {p : Loops} → lead_in l ≡ leap_of r place end o → p ≡ loops_by (lead_in l) o → way_by l.going p ≡ onward_of r place end o
  leap-made l e d = leap-way {l = lead_in l} e d
