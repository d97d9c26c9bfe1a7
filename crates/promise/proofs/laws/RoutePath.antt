-- A path: places that a run over a list of records goes through, each led to by the record before it. Where a loop's record has sent it
-- is what follows the loop's place. Assumes nothing.
use Prim.Native.Nat.{ℕ, ◌≤◌, ◌<◌}
use mathlib.Core.Bool.{Bool, true, false}
use mathlib.Core.List.{List, [], ◌∷◌, ◌++◌}
use mathlib.Core.Path.{◌≡◌, refl, sym, ◌∙◌, ap, subst}
use native.Mathlib.Omega.{arith}
use borrow.Author.Tests.{eqb-true, ne_eqb}
use lib.Dec.{eqb}
use lib.ListN.{length}
use Rattle.count.specs.Pick.{pick}
use Rattle.record.specs.declared.Record.{Record}
use Rattle.program.specs.declared.Loops.{Loops}
use Rattle.program.proofs.laws.Flow.{noted}
use Rattle.program.proofs.laws.Run.{Accepted, Standing, Stands, step_of, place_of, turns_of}
use Rattle.program.proofs.laws.Discipline.{Disciplined, Fine, steps}
use Rattle.promise.specs.Steps.{Each}
use Rattle.promise.specs.Route.{after}

-- the record at p is run, with o open: a wait there hears its character or another
pub record Link (l : List Record) (p : ℕ) (o : Loops) : Type 0 where
  pub hears : Bool
  pub place : ℕ
  pub loops : Loops
  pub inside : p < length l
  pub leads : step_of l hears p o ≡ Stands place loops

abbrev pub Path : List Record → ℕ → Loops → List ℕ → Type 0
Path l p o [] = Unit
Path l p o (r ∷ []) = r ≡ p
Path l p o (r ∷ q ∷ v) = (r ≡ p) × (k : Link l p o) × Path l k.place k.loops (q ∷ v)

module _ (l : List Record) where
  pub path-on : (p : ℕ) (o : Loops) (k : Link l p o) (v : List ℕ) → Path l k.place k.loops v → Path l p o (p ∷ v)
  path-on p o k [] h = refl
  path-on p o k (q ∷ v) h = (refl, k, h)

  pub path-head : (p : ℕ) (o : Loops) (q : ℕ) (v : List ℕ) → Path l p o (q ∷ v) → q ≡ p
  path-head p o q [] h = h
  path-head p o q (r ∷ v) h = h.0

  -- what its waits heard
  pub choices : (p : ℕ) (o : Loops) (v : List ℕ) → Path l p o v → List Bool
  choices p o [] h = []
  choices p o (r ∷ []) h = []
  choices p o (r ∷ q ∷ v) (e, k, h) = k.hears ∷ choices k.place k.loops (q ∷ v) h

  noted-so : (t : Bool) (q : ℕ) (ts : List ℕ) → pick t (q ∷ []) [] ++ ts ≡ noted t q ts
  noted-so true q ts = refl
  noted-so false q ts = refl

  -- where the record at i has sent it
  pub after-turns : (i p : ℕ) (o : Loops) (v : List ℕ) (h : Path l p o v) → after i v ≡ turns_of l i (choices p o v h) (Stands p o)
  unfolding after turns_of choices
  after-turns i p o [] h = refl
  after-turns i p o (r ∷ []) h = refl
  after-turns i p o (r ∷ q ∷ v) (e, k, h) =
      let bs : List Bool = choices k.place k.loops (q ∷ v) h in
      ap (λ (t : List ℕ). pick (eqb r i) (q ∷ []) [] ++ t) (after-turns i k.place k.loops (q ∷ v) h)
      ∙ noted-so (eqb r i) q (turns_of l i bs (Stands k.place k.loops))
      ∙ ap (λ (x : ℕ). noted (eqb x i) q (turns_of l i bs (Stands k.place k.loops))) e
      ∙ ap (λ (x : ℕ). noted (eqb p i) x (turns_of l i bs (Stands k.place k.loops))) (path-head k.place k.loops q v h)
      ∙ ap (λ (s : Standing). noted (eqb p i) (place_of s) (turns_of l i bs s)) (sym k.leads)

  -- what the record at i always leads to holds of all that follows it
  module _ (i : ℕ) (Q : ℕ → Type 0) (led : (b : Bool) (o : Loops) (q : ℕ) (n : Loops) → i < length l → step_of l b i o ≡ Stands q n → Q q) where
    each-by : (t : Bool) (p : ℕ) (o : Loops) (r q : ℕ) (v : List ℕ) → eqb r i ≡ t → r ≡ p → (k : Link l p o) → q ≡ k.place → Each Q (after i (q ∷ v))
        → Each Q (pick t (q ∷ []) [] ++ after i (q ∷ v))
    each-by true p o r q v t e k h f =
        let j : p ≡ i = sym e ∙ eqb-true r i t in
        (subst Q (sym h) (led k.hears o k.place k.loops (omega (arith, k.inside, j)) (ap (λ (x : ℕ). step_of l k.hears x o) (sym j) ∙ k.leads)), f)
    each-by false p o r q v t e k h f = f

    pub each_after : (p : ℕ) (o : Loops) (v : List ℕ) → Path l p o v → Each Q (after i v)
    unfolding after
    each_after p o [] h = tt
    each_after p o (r ∷ []) h = tt
    each_after p o (r ∷ q ∷ v) (e, k, h) =
        each-by (eqb r i) p o r q v refl e k (path-head k.place k.loops q v h) (each_after k.place k.loops (q ∷ v) h)

  -- behind the end place comes none
  pub none_after : (p : ℕ) (o : Loops) (v : List ℕ) → Path l p o v → after (length l) v ≡ []
  unfolding after
  none_after p o [] h = refl
  none_after p o (r ∷ []) h = refl
  none_after p o (r ∷ q ∷ v) (e, k, h) =
      let n : (r ≡ length l → ⊥) = λ z. omega (arith, k.inside) in
      rw (ne_eqb r (length l) n) (none_after k.place k.loops (q ∷ v) h)

  -- an accepted list of records: no place above the end place
  pub all-within : (axes : ℕ) → Accepted axes l → (p : ℕ) (o : Loops) → Disciplined l p o → (v : List ℕ) → Path l p o v → Each (λ r. r ≤ length l) v
  all-within axes a p o d [] h = tt
  all-within axes a p o d (r ∷ []) h = (omega (arith, d.place_in, h), tt)
  all-within axes a p o d (r ∷ q ∷ v) (e, k, h) =
      let f : Disciplined l k.place k.loops = subst (λ (s : Standing). Fine l s) k.leads (steps axes l a k.hears p o d) in
      (omega (arith, d.place_in, e), all-within axes a k.place k.loops f (q ∷ v) h)
