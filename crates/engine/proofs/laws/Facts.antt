-- The test of 103 as facts: what an engine that passes it has, and that one that has it passes. Assumes nothing.
use Prim.Native.Nat.{◌≤◌}
use mathlib.Core.Path.{◌≡◌}
use mathlib.Core.Bool.{true, ◌&&◌}
use lib.Dec.{leb}
use borrow.Author.Tests.{le-leb, leb-true}
use Rattle.count.proofs.laws.Truth.{and_left, and_right, both}
use Rattle.motion.specs.Sound.{counted}
use Rattle.engine.specs.declared.Engine.{Engine}
use Rattle.engine.specs.Sound.{axes_known, job_sound, sound_of}

pub record Sane (e : Engine) : Type 0 where
  pub at : counted e.at ≡ true
  pub origin : counted e.origin ≡ true
  pub axes : axes_known e.axes ≡ true
  pub stored : axes_known e.held.axes ≡ true
  pub used : e.held.used ≤ 16384
  pub records : e.held.records ≤ 1000
  pub loops : e.run.loops.depth ≤ 7
  pub job : job_sound e.run.job e.at ≡ true

pub facts : (e : Engine) → sound_of e ≡ true → Sane e
unfolding sound_of
facts e h =
    let p = counted e.at in
    let o = counted e.origin in
    let a = axes_known e.axes in
    let b = axes_known e.held.axes in
    let u = leb e.held.used 16384 in
    let r = leb e.held.records 1000 in
    let d = leb e.run.loops.depth 7 in
    let j = job_sound e.run.job e.at in
    let h1 = and_left ((p && o) && (a && b) && (u && r) && d) j h in
    let h2 = and_left ((p && o) && (a && b) && (u && r)) d h1 in
    let h3 = and_left ((p && o) && (a && b)) (u && r) h2 in
    let po = and_left (p && o) (a && b) h3 in
    let ab = and_right (p && o) (a && b) h3 in
    let ur = and_right ((p && o) && (a && b)) (u && r) h2 in
    record {
      at = and_left p o po;
      origin = and_right p o po;
      axes = and_left a b ab;
      stored = and_right a b ab;
      used = leb-true e.held.used 16384 (and_left u r ur);
      records = leb-true e.held.records 1000 (and_right u r ur);
      loops = leb-true e.run.loops.depth 7 (and_right ((p && o) && (a && b) && (u && r)) d h1);
      job = and_right ((p && o) && (a && b) && (u && r) && d) j h;
    }

pub sane : (e : Engine) → Sane e → sound_of e ≡ true
unfolding sound_of
sane e s =
    both (both (both (both (both s.at s.origin) (both s.axes s.stored))
    (both (le-leb e.held.used 16384 s.used) (le-leb e.held.records 1000 s.records))) (le-leb e.run.loops.depth 7 s.loops)) s.job
