-- What the code's own tests and sums rest on, over plain variables. Assumes nothing.
use Rattle.std.specs.Prelude.{Option, Result, Some, None, Ok, Err}
use Rattle.count.specs.declared.Fault.TheVariants as fault
use Rattle.count.specs.declared.Fault.{Fault}
use Prim.Native.Nat.{ℕ, ◌+◌, ◌-◌, ◌≤◌, ◌<◌}
use mathlib.Core.Path.{◌≡◌, refl, sym, ◌∙◌}
use mathlib.Core.Bool.{Bool, true, false, not, ◌&&◌}
use mathlib.Core.List.{List}
use native.Mathlib.Omega.{arith}
use lib.Dec.{ltb, leb, eqb}
use lib.ListN.{get_or}
use borrow.Author.Tests.{lt-ltb, le-ltb, le-leb, lt-leb, ltb-true, leb-true}
use Rattle.count.specs.Pick.{pick}
use Rattle.count.specs.Numbers.{full, in24, signed, word, within}
use Rattle.count.specs.declared.Axis.{Axis}
use Rattle.count.specs.Axes.{Each}
use Rattle.count.proofs.laws.Axes.{each_of}
use Rattle.count.specs.Ranges.{nth, in_arc, in_zero, in_way, in_start, in_speed, right_arc}
use Rattle.count.proofs.laws.Laws.{signed_low, signed_high, within-up}
use Rattle.count.proofs.laws.Truth.{and_left, and_right}
use Rattle.motion.specs.declared.Counters.{Counters}
use Rattle.motion.specs.declared.Signs.{Signs}
use Rattle.motion.specs.declared.Beat.{Beat}
use Rattle.motion.specs.declared.Look.TheVariants as look
use Rattle.motion.specs.Axes.{on}
use Rattle.motion.specs.Phase.{sign_value}
use Rattle.motion.proofs.laws.Passed.{in24-of}
use Rattle.motion.specs.Pulse.{step_to}
use Rattle.motion.specs.Sound.{counted, speed_right}
use Rattle.circle.specs.declared.Circling.{Circling}
use Rattle.circle.specs.declared.Pair.{Pair}
use Rattle.circle.specs.declared.Ways.{Ways}
use Rattle.circle.specs.declared.Arc.{Arc}
use Rattle.circle.specs.Rule.{on_plane, on_axes, measure, ways_at, rests, first_only, second_only, shifted, off, move_of}
use Rattle.circle.specs.Arc.{zero, arc_signs, counted_pair, beat_to, arc_beat, with_made}
use Rattle.circle.specs.Plan.{plane_set, start_of, first_ways, ways_fit, centre_of, has_room, arc_from, going_by, bend_of}
use Rattle.circle.specs.Sound.{start_sound, point_sound, arc_under_way, arc_look}

-- ---- which axis moves

module _ (value : ℕ) (centre at : Pair) (w : Ways) where
  pub move-second : rests w.first ≡ true → second_only w ≡ move_of value centre at w
  unfolding move_of
  move-second h = rw h

  pub move-first : rests w.first ≡ false → rests w.second ≡ true → first_only w ≡ move_of value centre at w
  unfolding move_of
  move-first h l = rw (h, l)

  module _ (h : rests w.first ≡ false) (l : rests w.second ≡ false) {p q : Pair} {m n : ℕ} (a : p ≡ shifted at (first_only w)) (b : m ≡ off value centre p) (d : q ≡ shifted at (second_only w)) (e : n ≡ off value centre q) where
    test : leb (off value centre (shifted at (first_only w))) (off value centre (shifted at (second_only w))) ≡ leb m n
    test = rw (b, a, e, d)

    pub move-one : m ≤ n → first_only w ≡ move_of value centre at w
    unfolding move_of
    move-one k = rw (h, l, test, le-leb m n k)

    pub move-two : n < m → second_only w ≡ move_of value centre at w
    unfolding move_of
    move-two k = rw (h, l, test, lt-leb m n k)

-- ---- counts of 24 bits

pub counted-parts : (c : Counters) → counted c ≡ true → Each (λ i. on i c < full)
counted-parts c h = each_of (λ (i : Axis). on i c < full) (in24-of c h).each

pub pair_parts : (p : Pair) → counted_pair p ≡ true → (p.first < full) × (p.second < full)
pair_parts p h =
    let a = ltb p.first full in
    let b = ltb p.second full in
    (ltb-true p.first full (and_left a b h), ltb-true p.second full (and_right a b h))

-- ---- the next pulse

none : {A : Type 0} (b : Bool) {c : Bool} (x y : A) → c ≡ false → y ≡ pick (b && c) x y
none true x y h = rw h
none false x y h = refl

-- what the code shows, of the arc's own centre and start and of where the axes of its plane stand
pub signs-are : (a : Arc) (at : Counters) {c s p : Pair} {w : Signs} → c ≡ a.centre → s ≡ a.start → p ≡ on_plane a.circling.plane at
    → w ≡ on_axes a.circling.plane (move_of (measure zero s) c p (ways_at a.circling.direction c p)) → w ≡ arc_signs a at
unfolding arc_signs
signs-are a at e f g u = rw (u, e, f, g)

-- the three tests of the code as one
pub all-counted : (a : Arc) (at : Counters) {x y z b : Bool} → x ≡ counted at → y ≡ counted_pair a.centre → z ≡ counted_pair a.start
    → x && y && z ≡ b → counted at && counted_pair a.centre && counted_pair a.start ≡ b
all-counted a at p q r h = rw (← p, ← q, ← r) h

module _ (a : Arc) (k : ℕ) (at : Counters) where
  same-signs : arc_signs (with_made a k) at ≡ arc_signs a at
  unfolding arc_signs
  same-signs = refl

  pub beat-past : a.length ≤ k → None ≡ arc_beat (with_made a k) at
  unfolding arc_beat
  beat-past h = rw (le-ltb k a.length h)

  pub beat-out : counted at && counted_pair a.centre && counted_pair a.start ≡ false → None ≡ arc_beat (with_made a k) at
  unfolding arc_beat
  beat-out h =
      none (ltb k a.length) (beat_to (with_made a k) (arc_signs (with_made a k) at) (step_to at (arc_signs (with_made a k) at))) None h

  module _ (t : counted at && counted_pair a.centre && counted_pair a.start ≡ true) {s : Signs} {m : Option Counters} (l : k < a.length)
      (u : s ≡ arc_signs a at) (v : m ≡ step_to at s) where
    pub beat-none : m ≡ None → None ≡ arc_beat (with_made a k) at
    unfolding arc_beat
    beat-none w = rw (lt-ltb k a.length l, t, same-signs, ← u, ← v, w)

    pub beat-to : {d : Counters} → m ≡ Some d
        → Some (record { signs = s; speed = a.speed; at = d; mark = record { phase = 0; made = k + 1 } }) ≡ arc_beat (with_made a k) at
    unfolding arc_beat
    beat-to w = rw (lt-ltb k a.length l, t, same-signs, ← u, ← v, w)

-- ---- the start

pub start-low : (w : ℕ) → w < 2147483648 → in_start (signed w) ≡ true → w ≤ 4000000
unfolding in_start within
start-low w h t = leb-true w 4000000 (rw (signed_low w h) at t)

pub start-high : (w : ℕ) → 2147483648 ≤ w → in_start (signed w) ≡ true → 4294967295 - w ≤ 3999999
unfolding in_start within
start-high w h t = leb-true (4294967295 - w) 3999999 (and_left _ true (rw (signed_high w h) at t))

pub arc-starts : (l : List ℕ) → right_arc l ≡ true → (in_start (nth l 3) ≡ true) × (in_start (nth l 4) ≡ true)
unfolding right_arc
arc-starts l t =
    let a = in_start (nth l 3) in
    let b = in_start (nth l 4) in
    let n = not (in_zero (nth l 3) && in_zero (nth l 4)) in
    let m = in_arc (nth l 0) && in24 (nth l 2) in
    let s : a && b && n ≡ true = and_right m (a && b && n) (and_left (m && (a && b && n)) (in_way (nth l 5) && in_way (nth l 6)) t) in
    let d = and_left (a && b) n s in
    (and_left a b d, and_right a b d)

-- ---- the plan

module _ (c : Circling) (at : Counters) (start : Pair) (l : List ℕ) where
  pub going-out : counted at ≡ false → Err fault.Outside ≡ going_by c at start l
  unfolding going_by
  going-out h = rw h

  module _ (h : counted at ≡ true) {p q : Pair} (e : p ≡ on_plane c.plane at) (f : q ≡ centre_of p start) where
    room : {b : Bool} → has_room q start ≡ b → has_room (centre_of (on_plane c.plane at) start) start ≡ b
    room t = rw (← e, ← f) t

    pub going_on : {a : Arc} → has_room q start ≡ true → a ≡ arc_from c q start l → Ok a ≡ going_by c at start l
    unfolding going_by
    going_on t u = rw (h, room t, u, f, e)

    pub going-none : has_room q start ≡ false → Err fault.Outside ≡ going_by c at start l
    unfolding going_by
    going-none t = rw (h, room t)

pub speed-small : (l : List ℕ) → in_speed (nth l 1) ≡ true → get_or l 1 0 ≤ 10000
unfolding in_speed
speed-small l t =
    let w = get_or l 1 0 in
    leb-true w 10000 (and_right (leb 30 w) (leb w 10000) (sym (within-up 30 10000 w (omega arith)) ∙ t))

module _ (axes : ℕ) (c : Circling) (at : Counters) (l : List ℕ) where
  pub bend-plane : plane_set axes c.plane ≡ false → Err fault.Axes ≡ bend_of axes c at l
  unfolding bend_of
  bend-plane h = rw h

  module _ (h : plane_set axes c.plane ≡ true) where
    pub bend-wrong : right_arc l ≡ false → Err fault.Range ≡ bend_of axes c at l
    unfolding bend_of
    bend-wrong g = rw (h, g)

    module _ (g : right_arc l ≡ true) {s : Pair} {w : Ways} {f : Bool} (a : s ≡ start_of l) (b : w ≡ first_ways c.direction s)
        (d : f ≡ eqb (get_or l 5 0) (word (sign_value w.first)) && eqb (get_or l 6 0) (word (sign_value w.second))) where
      fit : ways_fit c.direction l ≡ f
      unfolding ways_fit
      fit = rw (d, b, a)

      pub bend-unfit : f ≡ false → Err fault.Range ≡ bend_of axes c at l
      unfolding bend_of
      bend-unfit t = rw (h, g, fit, t)

      module _ (t : f ≡ true) where
        pub bend-slow : in_speed (nth l 1) ≡ false → Err fault.Speed ≡ bend_of axes c at l
        unfolding bend_of
        bend-slow v = rw (h, g, fit, t, v)

        pub bend-on : {r : Result Arc Fault} → in_speed (nth l 1) ≡ true → r ≡ going_by c at s l → r ≡ bend_of axes c at l
        unfolding bend_of
        bend-on v e = rw (h, g, fit, t, v, ← a) e

-- ---- 103

module _ (a : Arc) (at : Counters) where
  module _ {x y z : Bool} (p : x ≡ counted at) (q : y ≡ speed_right a.speed) (r : z ≡ start_sound a.start) where
    three : counted at && speed_right a.speed && start_sound a.start ≡ x && y && z
    three = rw (p, q, r)

    pub under-not : x && y && z ≡ false → false ≡ arc_under_way a at
    unfolding arc_under_way
    under-not h = rw (three, h)

    pub under-start : x && y && z ≡ true → start_sound a.start ≡ true
    under-start h = sym r ∙ and_right (x && y) z h

    pub under-by : {b : Bool} → x && y && z ≡ true
        → b ≡ has_room a.centre a.start && point_sound a.start a.centre (on_plane a.circling.plane at)
        → b && leb a.made a.length ≡ arc_under_way a at
    unfolding arc_under_way
    under-by h e = rw (three, h, e)

  pub look-wrong : arc_under_way a at ≡ false → look.Wrong ≡ arc_look a at
  unfolding arc_look
  look-wrong h = rw h

  pub look-made : {n : Option Beat} {b : Beat} → arc_under_way a at ≡ true → n ≡ arc_beat a at → n ≡ Some b → look.Made b ≡ arc_look a at
  unfolding arc_look
  look-made h e f = rw (h, ← e, f)

  pub look-over : {n : Option Beat} → arc_under_way a at ≡ true → n ≡ arc_beat a at → n ≡ None → look.Over ≡ arc_look a at
  unfolding arc_look
  look-over h e f = rw (h, ← e, f)
