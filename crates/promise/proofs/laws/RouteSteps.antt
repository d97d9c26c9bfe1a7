-- One step of a schedule, whatever it is lent, while a program runs on its store: the run goes on along its path, or is over. So a
-- started program's visits are a route. Assumes nothing.
use Prim.Native.Nat.{ℕ}
use mathlib.Core.Bool.{Bool, true, false, not, ◌&&◌}
use mathlib.Core.List.{List, [], ◌∷◌, ◌++◌}
use mathlib.Core.Logic.{◌⊎◌, inl, inr}
use mathlib.Core.Path.{◌≡◌, refl, sym, ◌∙◌, ap, subst}
use borrow.Author.Tests.{eqb-true, eqb-false, le-leb}
use lib.Dec.{eqb}
use Rattle.count.specs.Pick.{pick}
use Rattle.count.proofs.laws.Truth.{never}
use Rattle.travel.specs.Next.{pulse_of}
use Rattle.record.specs.declared.Held.{Held}
use Rattle.record.specs.declared.Record.{Record}
use Rattle.record.specs.Memory.{Memory, RightMemory}
use Rattle.record.specs.Places.{records_of}
use Rattle.record.specs.Places.Records.{are}
use Rattle.record.specs.Table.{fetch_of, TableTrue}
use Rattle.program.proofs.laws.Accepting.{records-count, accepted-list}
use Rattle.engine.specs.declared.Answer.TheVariants as answer
use Rattle.engine.specs.declared.Run.{Run}
use Rattle.engine.specs.declared.Told.{Told}
use Rattle.engine.specs.Tick.{ticked, failed}
use Rattle.engine.proofs.laws.Facts.{facts}
use Rattle.engine.proofs.laws.Fetches.{same-tick}
use Rattle.engine.proofs.laws.Laws.{held_stays}
use Rattle.board.specs.declared.Board.{Board}
use Rattle.board.specs.Calls.{Ticked}
use Rattle.board.specs.State.{sound}
use Rattle.board.specs.Receive.{hearing}
use Rattle.board.specs.Calls.{lent, Outcome, receiving, clocked, went_on, clocking}
use Rattle.board.proofs.laws.Hears.{sound-engine, sound-line}
use Rattle.board.proofs.laws.Laws.{hearing-sound, clocking-sound}
use Rattle.promise.specs.Machine.{ours}
use Rattle.promise.specs.Steps.{Each}
use Rattle.promise.specs.Stop.{Step, Lending, own, other, receive, call, Elsewhere, rests_by, rests, ahead}
use Rattle.promise.specs.Route.{Alone, comes_by, visit_of, visits, Routes}
use Rattle.promise.proofs.laws.StopBoard.{left}
use Rattle.promise.proofs.laws.KeepsCalls.{right-store, right-table, calm, kept, elsewhere-byte, elsewhere-call}
use Rattle.promise.proofs.laws.RouteCall.{Goes, GoesBy, goes_none, call-goes}
use Rattle.promise.proofs.laws.RouteBytes.{At, Follows, same, hears}
use Rattle.promise.proofs.laws.RouteLed.{path-route}

module _ (l : List Record) (h : Held) (mem : Memory) (recs : records_of h mem.store ≡ are l) (starts : TableTrue h mem) (size : RightMemory mem) where
  -- the program runs on its store, or nothing runs
  record On (q : At) : Type 0 where
    sound : sound q.0 ≡ true
    held : q.0.engine.held ≡ h
    memory : q.1 ≡ mem

  abbrev Fine : At → Type 0
  Fine q = rests q.0 ≡ false → On q

  -- a step from there
  record Leads (q : At) (e : Step) : Type 0 where
    fine : Fine (ahead ours q e)
    goes : (v : List ℕ) → Goes l (ahead ours q e).0.engine v → Goes l q.0.engine (visit_of ours q e ++ v)

  module _ (b : Board) (n : sound b ≡ true) (d : b.engine.held ≡ h) (r : rests b ≡ false) where
    -- ---- bytes

    byte-by : (v : ℕ) (ports reply : List ℕ) (t : Lending) (q : At) → ahead ours (b, mem) (receive v ports reply t) ≡ q → sound q.0 ≡ true
        → Follows l h mem b.engine q → Leads (b, mem) (receive v ports reply t)
    byte-by v ports reply t q a m f = record {
      fine = λ z. subst On (sym a) (let k = f.keeps (subst (λ (x : At). rests x.0 ≡ false) a z) in record { sound = m; held = k.0; memory = k.1 });
      goes = λ w g. f.goes w (subst (λ (x : At). Goes l x.0.engine w) a g);
    }

    stays : Follows l h mem b.engine (b, mem)
    stays = same l h mem b.engine d (b, mem) refl refl

    byte-own : (v : ℕ) (ports reply : List ℕ) → Leads (b, mem) (receive v ports reply own)
    byte-own v ports reply = by (eqb (receiving v ports b (lent reply mem)).result.refusal 0) refl
      where
        by : (x : Bool) → eqb (receiving v ports b (lent reply mem)).result.refusal 0 ≡ x → Leads (b, mem) (receive v ports reply own)
        by true q =
            let c = calm v ports b (lent reply mem) (eqb-true _ _ q) in
            byte-by v ports reply own (left (hearing v ports b mem)) (ap (λ (o : Outcome). (o.result.board, o.after.memory)) c) (hearing-sound v ports b mem n)
            (hears l h mem b.engine d v ports b.line (le-leb b.line.len 80 (sound-line b n)) b.standing r)
        by false q =
            let k = kept v ports b (lent reply mem) (eqb-false _ _ q) in
            byte-by v ports reply own (b, mem) (λ i. (k.0 i, (k.1 i).memory)) n stays

    byte-other : (v : ℕ) (ports reply : List ℕ) (t : Memory) → Elsewhere (other t) → Leads (b, mem) (receive v ports reply (other t))
    byte-other v ports reply t a = byte-by v ports reply (other t) (b, mem) (λ i. (elsewhere-byte v ports b (lent reply t) a i, mem)) n stays

    -- ---- clock calls

    call-other : (t : Memory) → Elsewhere (other t) → Leads (b, mem) (call (other t))
    call-other t a =
        let k = ap (λ (x : Ticked). x.board) (elsewhere-call b t a).1 in
        record {
          fine = λ z. record { sound = subst (λ (x : Board). sound x ≡ true) (sym k) n; held = ap (λ (x : Board). x.engine.held) k ∙ d; memory = refl };
          goes = λ v g. subst (λ (x : Board). Goes l x.engine v) k g;
        }

    abbrev tells : Told
    tells = ticked pulse_of (fetch_of b.engine.held mem) b.engine

    called : clocking b mem ≡ pick b.standing (clocked 0 b answer.Nothing) (went_on b tells)
    unfolding clocking
    called = rw (right-store mem size, n, right-table mem size)

    -- the store's part in use stays, or nothing runs any more
    told-held : rests_by tells.engine.run.job ≡ false → tells.engine.held ≡ h
    told-held z = by (held_stays pulse_of (fetch_of b.engine.held mem) b.engine)
      where
        by : (tells.engine.held ≡ b.engine.held) ⊎ (tells ≡ failed b.engine) → tells.engine.held ≡ h
        by (inl k) = k ∙ d
        by (inr k) = never (sym z ∙ ap (λ (t : Told). rests_by t.engine.run.job) k)

    told-goes : (v : List ℕ) → Goes l tells.engine v → Goes l b.engine (pick (comes_by b.engine.run.job) (b.engine.run.place ∷ []) [] ++ v)
    told-goes v g =
        call-goes l b.engine (ap (λ (x : Held). x.records) d ∙ sym (records-count h mem.store l recs)) (facts b.engine (sound-engine b n)).job v
        (subst (λ (t : Told). Goes l t.engine v) (same-tick h mem l recs starts pulse_of b.engine d) g)

    abbrev To : Bool → Board → Type 0
    To t x = (rests x ≡ false → x.engine.held ≡ h)
        × ((v : List ℕ) → Goes l x.engine v → Goes l b.engine (pick (not t && comes_by b.engine.run.job) (b.engine.run.place ∷ []) [] ++ v))

    to-by : (t : Bool) → To t (pick t (clocked 0 b answer.Nothing) (went_on b tells)).board
    to-by true = (λ z. d, λ v g. g)
    to-by false = (told-held, told-goes)

    call-own : Leads (b, mem) (call own)
    call-own =
        let k = subst (λ (x : Ticked). To b.standing x.board) (sym called) (to-by b.standing) in
        record { fine = λ z. record { sound = clocking-sound b mem n; held = k.0 z; memory = refl }; goes = k.1 }

    step : (e : Step) → Alone e → Leads (b, mem) e
    step (receive v ports reply own) a = byte-own v ports reply
    step (receive v ports reply (other t)) a = byte-other v ports reply t a
    step (call own) a = call-own
    step (call (other t)) a = call-other t a

  -- ---- all steps

  step-at : (q : At) (e : Step) → rests q.0 ≡ false → On q → Alone e → Leads q e
  step-at (b, m) e r n a = subst (λ (x : Memory). Leads (b, x) e) (sym n.memory) (step b n.sound n.held r e a)

  follow-by : (q : At) (e : Step) (es : List Step) → Fine q → Alone e
      → (Fine (ahead ours q e) → Goes l (ahead ours q e).0.engine (visits ours (ahead ours q e) es)) → Goes l q.0.engine (visits ours q (e ∷ es))
  unfolding visits
  follow-by q e es f a rec = by (rests q.0) refl
    where
      by : (t : Bool) → rests q.0 ≡ t → Goes l q.0.engine (pick t [] (visit_of ours q e ++ visits ours (ahead ours q e) es))
      by true r = goes_none l q.0.engine.run.job q.0.engine.run.place q.0.engine.run.loops
      by false r = let k = step-at q e r (f r) a in k.goes (visits ours (ahead ours q e) es) (rec k.fine)

  follow : (es : List Step) (q : At) → Fine q → Each Alone es → Goes l q.0.engine (visits ours q es)
  unfolding visits
  follow [] q f a = goes_none l q.0.engine.run.job q.0.engine.run.place q.0.engine.run.loops
  follow (e ∷ es) q f (a, rest) = follow-by q e es f a (λ g. follow es (ahead ours q e) g rest)

-- THE VISITS OF A STARTED PROGRAM ARE A ROUTE
pub ours-routes : Routes ours
ours-routes h l p es start acc recs starts alone =
    path-route h.axes l (accepted-list h p.1.store l recs acc) (visits ours p es)
    (subst (λ (x : Run). GoesBy l x.job x.place x.loops (visits ours p es)) start.run
    (follow l h p.1 recs starts start.memory es p (λ z. record { sound = start.sound; held = start.held; memory = refl }) alone))
