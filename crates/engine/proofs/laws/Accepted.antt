-- An accepted program that nobody alters never ends with G: whatever its waits hear, every call keeps the store's part in use, and one
-- after which nothing runs has sent 0, or 9, 3 or 1 of a movement or circle. Where it reaches the end place it sends 0 and is idle. (A
-- record `1` may send the character G itself; the run then goes on.) Assumes nothing.
use Prim.Native.Nat.{ℕ, zero, suc, ◌+◌, ◌<◌}
use Rattle.count.specs.Refusals.{letter_of}
use mathlib.Core.Path.{◌≡◌, refl, sym, ap, ◌∙◌, subst}
use mathlib.Core.Bool.{Bool, true, false}
use mathlib.Core.List.{List}
use native.Mathlib.Numerals.{add-one}
use native.Mathlib.Omega.{arith}
use lib.Dec.{ltb, eqb}
use lib.ListN.{length, get_or}
use borrow.Author.Tests.{le-ltb, eq-eqb, ne_eqb, ltb-true, ltb-false, eqb-false}
use Rattle.count.specs.Pick.{pick}
use Rattle.travel.specs.declared.Travel.{Travel}
use Rattle.record.specs.declared.Record.{Record}
use Rattle.record.specs.Bytes.{is_right}
use Rattle.record.specs.declared.Found.TheVariants.{Got, End, Wrong}
use Rattle.program.specs.declared.Loops.{Loops}
use Rattle.program.specs.Going.{Way, Going}
use Rattle.program.specs.Onward.{onward_of}
use Rattle.program.specs.Program.{record_in}
use Rattle.program.proofs.laws.Run.{Accepted}
use Rattle.program.proofs.laws.Sends.{on-other}
use Rattle.program.proofs.laws.Discipline.{Disciplined, FaresBy, Fares, fares}
use Rattle.engine.specs.declared.Answer.{Answer}
use Rattle.engine.specs.declared.Answer.TheVariants as answer
use Rattle.engine.specs.declared.Job.{Job}
use Rattle.engine.specs.declared.Job.TheVariants as job
use Rattle.engine.specs.declared.Engine.{Engine}
use Rattle.engine.specs.declared.Told.{Told}
use Rattle.engine.specs.Tick.{Rule, after_pause, ticked, runs_of, list_fetch}
use Rattle.engine.proofs.laws.Cases.{Plain, way_of, RecordCases, record-cases, reads_by, Cases, cases}
use Rattle.engine.proofs.laws.Endings.{is_ending, refused-ends}

-- ---- the list machine's fetch

module _ (l : List Record) (p : ℕ) where
  got-by : (t u : Bool) {r : Record} → ltb p (length l) ≡ t → pick t (Got (record_in l p)) (pick u End Wrong) ≡ Got r → (p < length l) × (r ≡ record_in l p)
  got-by true u q e = (ltb-true p (length l) q, cc)
  got-by false true q e = let z : ◌≡◌ {A = ℕ} 0 1 = cc in absurd (omega arith)
  got-by false false q e = let z : ◌≡◌ {A = ℕ} 0 1 = cc in absurd (omega arith)

  list-got : {r : Record} → list_fetch l p ≡ Got r → (p < length l) × (r ≡ record_in l p)
  unfolding list_fetch
  list-got e = got-by (ltb p (length l)) (eqb p (length l)) refl e

  wrong-by : (t u : Bool) → ltb p (length l) ≡ t → eqb p (length l) ≡ u → pick t (Got (record_in l p)) (pick u End Wrong) ≡ Wrong → length l < p
  wrong-by true u q v e = let z : ◌≡◌ {A = ℕ} 0 1 = cc in absurd (omega arith)
  wrong-by false true q v e = let z : ◌≡◌ {A = ℕ} 0 1 = cc in absurd (omega arith)
  wrong-by false false q v e = let n = eqb-false p (length l) v in omega (arith, ltb-false p (length l) q)

  list-wrong : list_fetch l p ≡ Wrong → length l < p
  unfolding list_fetch
  list-wrong e = wrong-by (ltb p (length l)) (eqb p (length l)) refl refl e

  pub list-end : p ≡ length l → list_fetch l p ≡ End
  unfolding list_fetch
  list-end e = rw (le-ltb p (length l) (omega arith), eq-eqb p (length l) e)

-- ---- the invariant: the discipline of loops at the next place, and on either side of a wait

abbrev pub JobFair : List Record → Job → ℕ → Loops → Type 0
JobFair l job.Idle p o = Unit
JobFair l job.Storing p o = Unit
JobFair l (job.Direct m) p o = Unit
JobFair l job.Ready p o = Disciplined l p o
JobFair l (job.Moving m) p o = Disciplined l p o
JobFair l (job.Delay q) p o = Disciplined l p o
JobFair l (job.Wait c t) p o = Disciplined l p o × Disciplined l t o

pub record OnList (l : List Record) (e : Engine) : Type 0 where
  pub count : e.held.records ≡ length l
  pub fair : JobFair l e.run.job e.run.place e.run.loops

-- its last call
pub record Ended (a : Answer) : Type 0 where
  pub byte : ℕ
  pub sent : a ≡ answer.Send byte
  pub one : is_ending byte ≡ true

-- what a call or a byte comes to: the store's part in use stays, and where nothing runs any more one of these was sent
pub record NoG (e : Engine) (t : Told) : Type 0 where
  pub held : t.engine.held ≡ e.held
  pub ends : runs_of e ≡ true → t.engine.run.job ≡ job.Idle → Ended t.answer

pub record Fair (l : List Record) (e : Engine) (t : Told) : Type 0 where
  pub none : NoG e t
  pub on : JobFair l t.engine.run.job t.engine.run.place t.engine.run.loops

reads-fair : (l : List Record) (j : Job) (p : ℕ) (o : Loops) → reads_by j ≡ true → JobFair l j p o → Disciplined l p o
reads-fair l job.Idle p o b f = let z : ◌≡◌ {A = ℕ} 0 1 = cc in absurd (omega arith)
reads-fair l job.Storing p o b f = let z : ◌≡◌ {A = ℕ} 0 1 = cc in absurd (omega arith)
reads-fair l (job.Direct m) p o b f = let z : ◌≡◌ {A = ℕ} 0 1 = cc in absurd (omega arith)
reads-fair l job.Ready p o b f = f
reads-fair l (job.Moving m) p o b f = f
reads-fair l (job.Delay q) p o b f = let z : ◌≡◌ {A = ℕ} 0 1 = cc in absurd (omega arith)
reads-fair l (job.Wait c t) p o b f = let z : ◌≡◌ {A = ℕ} 0 1 = cc in absurd (omega arith)

pause-fair : (l : List Record) (q p : ℕ) (o : Loops) → Disciplined l p o → JobFair l (after_pause q) p o
pause-fair l zero p o d = d
pause-fair l (suc q) p o d = d

-- jobs that go on
abbrev Goes : Job → Type 0
Goes j = j ≡ job.Idle → ⊥

pause-goes : (q : ℕ) → Goes (after_pause q)
pause-goes zero e = let z : ◌≡◌ {A = ℕ} 0 1 = cc in omega arith
pause-goes (suc q) e = let z : ◌≡◌ {A = ℕ} 0 1 = cc in omega arith

ready-goes : Goes job.Ready
ready-goes e = let z : ◌≡◌ {A = ℕ} 0 1 = cc in omega arith

direct-goes : (m : Travel) → Goes (job.Direct m)
direct-goes m e = let z : ◌≡◌ {A = ℕ} 0 1 = cc in omega arith

moving-goes : (m : Travel) → Goes (job.Moving m)
moving-goes m e = let z : ◌≡◌ {A = ℕ} 0 1 = cc in omega arith

wait-goes : (c t : ℕ) → Goes (job.Wait c t)
wait-goes c t e = let z : ◌≡◌ {A = ℕ} 0 1 = cc in omega arith

module _ (axes : ℕ) (l : List Record) (a : Accepted axes l) (rule : Rule) (e : Engine) (w : OnList l e) where
  abbrev place : ℕ
  place = e.run.place

  abbrev open-loops : Loops
  open-loops = e.run.loops

  going_on : (t : Told) → t.engine.held ≡ e.held → Goes t.engine.run.job
      → JobFair l t.engine.run.job t.engine.run.place t.engine.run.loops → Fair l e t
  going_on t h g f = record { none = record { held = h; ends = λ p q. absurd (g q) }; on = f }

  ended : (t : Told) (b : ℕ) → t.engine.held ≡ e.held → t.answer ≡ answer.Send b → is_ending b ≡ true
      → JobFair l t.engine.run.job t.engine.run.place t.engine.run.loops → Fair l e t
  ended t b h s o f = record { none = record { held = h; ends = λ p q. record { byte = b; sent = s; one = o } }; on = f }

  right-here : (r : Record) → list_fetch l place ≡ Got r → is_right axes r ≡ true
  right-here r q = let g = list-got l place q in ap (is_right axes) g.1 ∙ a.right place g.0

  here : reads_by e.run.job ≡ true → Disciplined l place open-loops
  here b = reads-fair l e.run.job place open-loops b w.fair

  -- where the record at the place leads
  way-fares : (r : Record) → reads_by e.run.job ≡ true → list_fetch l place ≡ Got r → Fares l (way_of r e)
  way-fares r b q =
      let g = list-got l place q in
      subst (λ (n : ℕ). Fares l (onward_of r place n open-loops)) (sym w.count)
      (subst (λ (x : Record). Fares l (onward_of x place (length l) open-loops)) (sym g.1) (fares axes l a place open-loops g.0 (here b)))

  next_place : (r : Record) → reads_by e.run.job ≡ true → list_fetch l place ≡ Got r → Plain r → Disciplined l (place + 1) open-loops
  next_place r b q p =
      let g = list-got l place q in
      let h : place < e.held.records = omega (arith, g.0, w.count) in
      subst (λ (n : ℕ). Disciplined l n open-loops) (sym (add-one place))
      (subst (λ (x : Way). Fares l x)
      (on-other r place e.held.records open-loops h (ne_eqb r.code 51 p.no_loop) (ne_eqb r.code 50 p.no-wait)) (way-fares r b q))

  record-fair : (r : Record) → reads_by e.run.job ≡ true → list_fetch l place ≡ Got r → RecordCases rule r e (Fair l e)
  record-fair r b q =
      let on = next_place r b q in
      let f = way-fares r b q in
      record {
        pulse = λ p m s u v. going_on _ refl (moving-goes s.rest) (on p);
        still = λ p. going_on _ refl ready-goes (on p);
        refused = λ b k p. ended _ (letter_of b) refl refl (refused-ends axes r (right-here r q) e b p k) tt;
        origin = λ p u. going_on _ refl ready-goes (on p);
        three = λ p u. going_on _ refl ready-goes (on p);
        turned = λ p u c. going_on _ refl ready-goes (on p);
        pause = λ p t. going_on _ refl (pause-goes t) (pause-fair l t (place + 1) open-loops (on p));
        send = λ p u. going_on _ refl ready-goes (on p);
        to = λ p. going_on _ refl ready-goes (subst (λ (g : Going). FaresBy l g (way_of r e)) p f);
        waits = λ p. going_on _ refl (wait-goes (get_or r.words 0 0) (way_of r e).target) (subst (λ (g : Going). FaresBy l g (way_of r e)) p f);
        lost = λ p. absurd (subst (λ (g : Going). FaresBy l g (way_of r e)) p f);
      }

  call-cases : Cases rule (list_fetch l) e (Fair l e)
  call-cases = record {
    nothing = λ p. record {
      none = record { held = refl; ends = λ u v. let z : ◌≡◌ {A = ℕ} 0 1 = cc in absurd (omega arith) };
      on = w.fair;
    };
    direct = λ m s p q. going_on _ refl (direct-goes s.rest) tt;
    arrived = λ m p q. ended _ 48 refl refl refl tt;
    on = λ m s p q. going_on _ refl (moving-goes s.rest) (here (ap reads_by p));
    pause = λ q p. going_on _ refl (pause-goes q) (pause-fair l q place open-loops (subst (λ (j : Job). JobFair l j place open-loops) p w.fair));
    end = λ b p. ended _ 48 refl refl refl tt;
    wrong = λ b p. let d = (here b).place_in in absurd (omega (arith, list-wrong l place p));
    got = λ b r p. record-cases rule r e (Fair l e) (record-fair r b p);
  }

  pub call-fair : Fair l e (ticked rule (list_fetch l) e)
  call-fair = cases rule (list_fetch l) e (Fair l e) call-cases
