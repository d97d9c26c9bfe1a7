-- What every byte leaves, whatever it is and whatever the memory holds: a state that passes 103 again, at most 25 bytes of reply, and
-- a memory that changed, if at all, by an accepted record line alone. Assumes nothing.
use Prim.Native.Nat.{ℕ, ◌+◌, ◌%◌, ◌≤◌}
use mathlib.Core.Path.{◌≡◌, refl}
use mathlib.Core.Bool.{Bool, true, false, not, ◌&&◌, ◌||◌}
use mathlib.Core.List.{List, [], ◌∷◌}
use native.Mathlib.Omega.{arith}
use borrow.Author.Tests.{ltb-true, eqb-true, le-leb}
use lib.Dec.{ltb, eqb}
use lib.ListN.{length, get_or, length-append}
use Rattle.count.specs.Pick.{pick}
use Rattle.count.proofs.laws.Truth.{never}
use Rattle.count.specs.Text.{report}
use Rattle.count.specs.Axes.{shown_axes, end_to_end}
use Rattle.motion.specs.Axes.{on}
use Rattle.motion.specs.declared.Counters.{Counters}
use Rattle.record.specs.declared.Held.{Held}
use Rattle.record.specs.declared.Record.{Record}
use Rattle.record.specs.Memory.{Memory}
use Rattle.record.specs.Bytes.{encode}
use Rattle.record.specs.Keep.{storing, longer, has_room, store_of}
use Rattle.record.proofs.laws.Put.{room-so}
use Rattle.program.specs.Verdict.{Verdict}
use Rattle.program.specs.Verdict as verdict
use Rattle.program.specs.Program.{verdict_of, is_sound}
use Rattle.line.specs.Letter.{Letter}
use Rattle.line.specs.Letter as letter
use Rattle.line.specs.Code.{Code}
use Rattle.line.specs.Code as code
use Rattle.line.specs.Said.{Direct}
use Rattle.line.specs.Said.{Stored}
use Rattle.line.specs.Lines.{direct_of, stored_of}
use Rattle.engine.specs.declared.Engine.{Engine}
use Rattle.engine.specs.State.{Begun}
use Rattle.engine.specs.declared.Job.{Job}
use Rattle.engine.specs.declared.Job.TheVariants as job
use Rattle.circle.specs.Plan.{plane_of, direction_of}
use Rattle.engine.specs.State.{with_held, with_three, with_plane, with_direction, with_output, axes_of, origin_of, zero_of, started, ceased, emptied, storing_of, begin_of, circle_begun, reset_of, heard}
use Rattle.engine.specs.Sound.{axes_known, sound_of}
use Rattle.engine.proofs.laws.Facts.{facts}
use Rattle.engine.proofs.laws.Lines.{Still, start-keeps, cease-keeps, empty-keeps, three-keeps, plane-keeps, direction-keeps, origin-keeps, output-keeps, held_keeps, store_keeps, axes-keeps, zero-keeps, reset-keeps, hear-keeps, begin-keeps, circle-keeps}
use Rattle.board.specs.declared.Board.{Board}
use Rattle.board.specs.declared.Line.{Line}
use Rattle.board.specs.declared.Saying.{Saying}
use Rattle.board.specs.declared.Saying.TheVariants as saying
use Rattle.board.specs.declared.Spoke.{Spoke}
use Rattle.board.specs.State.{board, no_line, text_of, gathered, with_line, line_done, Said, said, sound}
use Rattle.board.specs.Direct.{heard_standing, direct_said}
use Rattle.board.specs.Storing.{record_of, record_reply, named_fault, stored_by, stored_said}
use Rattle.board.specs.Receive.{is_storing, holds_by, ends_by, ear_of, returned, gathering, ordinary, stopped, broken, reset_said, hearing}
use Rattle.board.specs.work.Work.{bytes_of, spoke_of, spoke, silent_with, replied_with, begun_with, started_by, affected, obeyed, numbers_fault, line_fault, gathers_by, waits_by}
use Rattle.board.proofs.laws.Puts.{length-report, length_two, length-four}
use Rattle.board.proofs.laws.Obeys.{no-fault, no-standing, axes-fit, obey-so}
use Rattle.board.proofs.laws.Hears.{ear-so, sound-engine, sound-line}

-- ---- how the memory may change

pub data Change (byte : ℕ) (b : Board) (m : Memory) (s : Said) : Type 0 where
  same : s.memory ≡ m → Change byte b m s
  stored : (r : Record) → byte ≡ 13 → is_storing b.engine.run.job && not b.standing ≡ true → s.reply ≡ 48 ∷ []
      → s.memory ≡ (store_of b.engine.held r m).memory → Change byte b m s

pub record Fair (byte : ℕ) (b : Board) (m : Memory) (s : Said) : Type 0 where
  pub kept : sound s.board ≡ true
  pub short : length s.reply ≤ 25
  pub change : Change byte b m s

-- ---- soundness of a board from its engine's

pub line-sound : (e : Engine) (s : Bool) (l : Line) → sound_of e ≡ true → l.len ≤ 80 → sound (board e s l) ≡ true
unfolding sound
line-sound e s l p q = rw (p, le-leb l.len 80 q)

done-sound : (e : Engine) (s : Bool) → sound_of e ≡ true → sound (board e s no_line) ≡ true
done-sound e s p = line-sound e s no_line p (omega arith)

gathered-by : (byte : ℕ) (l : Line) (t : Bool) → ltb l.len 80 ≡ t → l.len ≤ 80 → (gathered byte l).len ≤ 80
unfolding gathered
gathered-by byte l true e h = rw e (omega (arith, ltb-true l.len 80 e))
gathered-by byte l false e h = rw e h

pub gathered-sound : (byte : ℕ) (b : Board) → sound b ≡ true → sound (with_line b (gathered byte b.line)) ≡ true
gathered-sound byte b h =
    line-sound b.engine b.standing (gathered byte b.line) (sound-engine b h) (gathered-by byte b.line _ refl (sound-line b h))

positions-short : (at : Counters) (b : Bool) → length (48 ∷ end_to_end (λ i. report (on i at)) (shown_axes b)) ≤ 25
positions-short at true = simp (length-append, length-report) (omega arith)
positions-short at false = simp (length-append, length-report) (omega arith)

say-short : (s : Saying) (axes : ℕ) (at : Counters) → length (bytes_of s axes at) ≤ 25
say-short saying.Silent axes at = omega arith
say-short (saying.One b) axes at = omega arith
say-short saying.Positions axes at = positions-short at (eqb axes 15)
say-short (saying.Port v) axes at = simp length_two (omega arith)
say-short (saying.Fault l p) axes at = simp length-four (omega arith)

-- ---- an accepted line outside storing

module _ (b : Board) (h : sound b ≡ true) (still : b.standing ≡ false → Still b.engine.run.job) where
  abbrev IsOkay : Spoke → Type 0
  IsOkay s = sound s.board ≡ true

  begun-okay : (t : Bool) (g : Begun) → sound_of g.engine ≡ true → IsOkay (pick t (silent_with b g.engine) (replied_with b g.engine g.reply))
  begun-okay true g p = done-sound g.engine b.standing p
  begun-okay false g p = done-sound g.engine b.standing p

  start-okay : (s r a : Bool)
      → IsOkay (pick s (spoke_of (board b.engine false no_line) saying.Silent)
      (pick r (replied_with b b.engine 56) (pick a (silent_with b (started b.engine)) (replied_with b b.engine 71))))
  start-okay true r a = done-sound b.engine false (sound-engine b h)
  start-okay false true a = done-sound b.engine b.standing (sound-engine b h)
  start-okay false false true = done-sound (started b.engine) b.standing (start-keeps b.engine (sound-engine b h))
  start-okay false false false = done-sound b.engine b.standing (sound-engine b h)

  moves : b.standing && true ≡ false → Still b.engine.run.job
  moves p = still (by b.standing p)
    where
      by : (s : Bool) → s && true ≡ false → s ≡ false
      by true p = p
      by false p = refl

  affected-okay : (k : Letter) (n : ℕ) (l ports : List ℕ) → b.standing && not (heard_standing k) ≡ false
      → numbers_fault k b.engine.axes n l ≡ 48 → IsOkay (affected k l ports b)
  unfolding begun_with started_by
  affected-okay letter.Wrong n l ports w p = done-sound b.engine b.standing (sound-engine b h)
  affected-okay letter.Axes n l ports w p =
      done-sound (axes_of (get_or l 0 0 % 256) b.engine) b.standing
      (axes-keeps b.engine (sound-engine b h) (get_or l 0 0 % 256) (axes-fit b.engine n (get_or l 0 0) (facts b.engine (sound-engine b h)).axes p) (moves w))
  affected-okay letter.Relative n l ports w p =
      let g = begin_of false l b.engine in begun-okay (eqb g.reply 0) g (begin-keeps b.engine (sound-engine b h) false l)
  affected-okay letter.Absolute n l ports w p =
      let g = begin_of true l b.engine in begun-okay (eqb g.reply 0) g (begin-keeps b.engine (sound-engine b h) true l)
  affected-okay letter.Origin n l ports w p =
      done-sound (origin_of (get_or l 0 0 % 256) b.engine) b.standing (origin-keeps b.engine (sound-engine b h) (get_or l 0 0 % 256))
  affected-okay letter.Zero n l ports w p =
      done-sound (zero_of (get_or l 0 0 % 256) b.engine) b.standing (zero-keeps b.engine (sound-engine b h) (get_or l 0 0 % 256) (moves w))
  affected-okay letter.Three n l ports w p =
      done-sound (with_three b.engine (eqb (get_or l 0 0) 1)) b.standing (three-keeps b.engine (sound-engine b h) (eqb (get_or l 0 0) 1))
  affected-okay letter.Position n l ports w p = done-sound b.engine b.standing (sound-engine b h)
  affected-okay letter.Input n l ports w p = done-sound b.engine b.standing (sound-engine b h)
  affected-okay letter.Output n l ports w p =
      done-sound (with_output b.engine (get_or l 1 0 % 256)) b.standing (output-keeps b.engine (sound-engine b h) (get_or l 1 0 % 256))
  affected-okay letter.Store n l ports w p = done-sound (storing_of b.engine) b.standing (store_keeps b.engine (sound-engine b h))
  affected-okay letter.Empty n l ports w p = done-sound (emptied b.engine) b.standing (empty-keeps b.engine (sound-engine b h))
  affected-okay letter.Start n l ports w p = start-okay b.standing (eqb b.engine.held.records 0) (eqb b.engine.axes b.engine.held.axes)
  affected-okay letter.Plane n l ports w p =
      done-sound (with_plane (plane_of (get_or l 0 0)) b.engine) b.standing (plane-keeps b.engine (sound-engine b h) (plane_of (get_or l 0 0)))
  affected-okay letter.Direction n l ports w p =
      done-sound (with_direction (direction_of (get_or l 0 0)) b.engine) b.standing (direction-keeps b.engine (sound-engine b h) (direction_of (get_or l 0 0)))
  affected-okay letter.Circle n l ports w p =
      let g = circle_begun l b.engine in begun-okay (eqb g.reply 0) g (circle-keeps b.engine (sound-engine b h) l)

  obeyed-by : (d : Direct) (ports : List ℕ) (t : Bool) → eqb (line_fault b.engine.axes b.standing d) 48 ≡ t
      → IsOkay (pick t (affected d.letter d.words ports b) (replied_with b b.engine (line_fault b.engine.axes b.standing d)))
  obeyed-by d ports true e =
      let z = eqb-true (line_fault b.engine.axes b.standing d) 48 e in
      affected-okay d.letter d.count d.words ports (no-standing b.engine.axes b.standing d z) (no-fault b.engine.axes b.standing d z)
  obeyed-by d ports false e = done-sound b.engine b.standing (sound-engine b h)

  obeyed-okay : (d : Direct) (ports : List ℕ) → IsOkay (obeyed d ports b)
  unfolding obeyed
  obeyed-okay d ports = obeyed-by d ports (eqb (line_fault b.engine.axes b.standing d) 48) refl

-- ---- the part in use after a record

held_by : (t : Bool) (d : Held) (n : ℕ) (x y : Memory) (e : Engine) → sound_of e ≡ true → d ≡ e.held
    → (t ≡ true → (d.records + 1 ≤ 1000) × (d.used + n ≤ 16384))
    → sound_of (with_held e (pick t (storing (record { stored = true; held = longer d n }) x) (storing (record { stored = false; held = d }) y)).kept.held) ≡ true
held_by true d n x y e h q f =
    let s = facts e h in
    let r = f refl in
    let a : axes_known d.axes ≡ true = rw q s.stored in
    held_keeps e h (longer d n) a r.1 r.0
held_by false d n x y e h q f = rw q h

pub stored-sound : (r : Record) (m : Memory) (e : Engine) → sound_of e ≡ true → sound_of (with_held e (store_of e.held r m).kept.held) ≡ true
unfolding store_of
stored-sound r m e h =
    held_by (has_room e.held (length (encode r)) (length m.store) (length m.table)) e.held (length (encode r)) _ _ e h refl
    (λ p. let z = room-so e.held (length (encode r)) (length m.store) (length m.table) p in (z.0, z.1))

-- ---- every byte

module _ (byte : ℕ) (b : Board) (m : Memory) (h : sound b ≡ true) where
  abbrev IsFair : Said → Type 0
  IsFair s = Fair byte b m s

  fair-pick : (t : Bool) (x y : Said) → (t ≡ true → IsFair x) → (t ≡ false → IsFair y) → IsFair (pick t x y)
  fair-pick true x y p q = p refl
  fair-pick false x y p q = q refl

  quiet : (s : Spoke) → sound s.board ≡ true → IsFair (spoke s m)
  quiet s p = record { kept = p; short = say-short s.say s.board.engine.axes s.board.engine.at; change = same refl }

  as-was : IsFair (said b [] m)
  as-was = quiet (spoke_of b saying.Silent) h

  replied : (n : ℕ) → IsFair (said (line_done b) (n ∷ []) m)
  replied n = quiet (replied_with b b.engine n) (done-sound b.engine b.standing (sound-engine b h))

  -- a failed check, with what it names
  failed : (v : Verdict) → IsFair (said (board (ceased (emptied b.engine)) b.standing no_line) (71 ∷ named_fault v) m)
  failed v = by v (done-sound _ b.standing (cease-keeps (emptied b.engine) (empty-keeps b.engine (sound-engine b h))))
    where
      empty : Board
      empty = board (ceased (emptied b.engine)) b.standing no_line

      by : (v : Verdict) → sound empty ≡ true → IsFair (said empty (71 ∷ named_fault v) m)
      by verdict.Sound p = quiet (spoke_of empty (saying.One 71)) p
      by (verdict.Fault l q) p = quiet (spoke_of empty (saying.Fault l q)) p
      by verdict.Unreadable p = quiet (spoke_of empty (saying.One 71)) p

  module _ (r : byte ≡ 13) (k : is_storing b.engine.run.job && not b.standing ≡ true) where
    stored-fair : (c : Code) (d : Stored) → IsFair (stored_by c d b m)
    stored-fair code.Wrong d = replied 53
    stored-fair (code.Record c) d =
        fair-pick (eqb (record_reply b.engine.held (record_of c d) m) 48) _ _
        (λ p. record {
          kept = done-sound _ b.standing (stored-sound (record_of c d) m b.engine (sound-engine b h));
          short = omega arith;
          change = stored (record_of c d) r k refl refl;
        })
        (λ p. replied _)
    stored-fair code.End d =
        fair-pick (is_sound (verdict_of b.engine.held m.store)) _ _
        (λ p. quiet (replied_with b (ceased b.engine) 48) (done-sound _ b.standing (cease-keeps b.engine (sound-engine b h))))
        (λ p. failed (verdict_of b.engine.held m.store))

  module _ (ports : List ℕ) where
    direct-fair : (d : Direct) → (b.standing ≡ false → Still b.engine.run.job) → IsFair (direct_said d ports b m)
    direct-fair d still = rw (obey-so d ports b m) (quiet (obeyed d ports b) (obeyed-okay b h still d ports))

    return-fair : byte ≡ 13 → (b.standing ≡ false → Still b.engine.run.job) → IsFair (returned ports b m)
    unfolding returned stored_said
    return-fair r still =
        fair-pick b.line.over _ _ (λ p. replied 53)
        (λ p. fair-pick (is_storing b.engine.run.job && not b.standing) _ _
        (λ k. stored-fair r k (stored_of (text_of b.line)).code (stored_of (text_of b.line)))
        (λ k. direct-fair (direct_of (text_of b.line)) still))

    gather-fair : (b.standing ≡ false → Still b.engine.run.job) → IsFair (gathering byte ports b m)
    unfolding gathering
    gather-fair still =
        fair-pick (eqb byte 13) _ _ (λ p. return-fair (eqb-true byte 13 p) still)
        (λ p. quiet (spoke_of (with_line b (gathered byte b.line)) saying.Silent) (gathered-sound byte b h))

    still-by : (j : Job) → gathers_by j ≡ true → Still j
    still-by job.Idle p = λ c. refl
    still-by job.Storing p = λ c. refl
    still-by (job.Direct v) p = never p
    still-by job.Ready p = never p
    still-by (job.Moving v) p = never p
    still-by (job.Delay q) p = never p
    still-by (job.Wait k t) p = never p

    rests : (s : Bool) (j : Job) → s || gathers_by j ≡ true → s ≡ false → Still j
    rests true j p q = let z : ◌≡◌ {A = ℕ} 0 1 = cc in absurd (omega arith)
    rests false j p q = still-by j p

    ordinary-fair : IsFair (ordinary (ear_of b) byte ports b m)
    ordinary-fair =
        rw (ear-so byte ports b m)
        (fair-pick (b.standing || gathers_by b.engine.run.job) _ _
        (λ p. gather-fair (rests b.standing b.engine.run.job p))
        (λ p. fair-pick (waits_by b.engine.run.job) _ _
        (λ q. quiet (spoke_of (board (heard byte b.engine) b.standing b.line) saying.Silent)
        (line-sound _ b.standing b.line (hear-keeps b.engine (sound-engine b h) byte) (sound-line b h)))
        (λ q. as-was)))

    -- WHATEVER BYTE, PORTS AND MEMORY
    pub hearing-fair : Fair byte b m (hearing byte ports b m)
    unfolding hearing stopped broken reset_said
    hearing-fair =
        fair-pick (eqb byte 253) _ _
        (λ p. fair-pick (holds_by b.engine.run.job && not b.standing) _ _
        (λ q. quiet (spoke_of (board b.engine true b.line) (saying.One 70)) (line-sound b.engine true b.line (sound-engine b h) (sound-line b h)))
        (λ q. as-was))
        (λ p. fair-pick (eqb byte 254) _ _
        (λ q. quiet (spoke_of (board (reset_of b.engine) false no_line) saying.Silent) (done-sound _ false (reset-keeps b.engine (sound-engine b h))))
        (λ q. fair-pick (eqb byte 255) _ _
        (λ r. fair-pick (ends_by b.engine.run.job || b.standing) _ _
        (λ o. quiet (spoke_of (board (ceased b.engine) false b.line) (saying.One 70))
        (line-sound _ false b.line (cease-keeps b.engine (sound-engine b h)) (sound-line b h)))
        (λ o. as-was))
        (λ r. ordinary-fair)))
