-- On a readable store with a true table the fetch is the list's: an accepted program's run on its store is the list machine's run. Assumes nothing.
use Prim.Native.Nat.{ℕ}
use mathlib.Core.Path.{◌≡◌, refl, ap, ◌∙◌, fun_ext}
use mathlib.Core.Bool.{Bool, true, false}
use mathlib.Core.List.{List}
use native.Mathlib.Omega.{arith}
use lib.Dec.{ltb, eqb}
use lib.ListN.{length}
use borrow.Author.Tests.{ltb-true, ltb-false, eqb-true, eqb-false}
use Rattle.count.specs.Pick.{pick}
use Rattle.record.specs.declared.Held.{Held}
use Rattle.record.specs.declared.Record.{Record}
use Rattle.record.specs.declared.Found.TheVariants.{Got, End, Wrong}
use Rattle.record.specs.Memory.{Memory}
use Rattle.record.specs.Places.{records_of}
use Rattle.record.specs.Places.Records.{are}
use Rattle.record.specs.Table.{fetch_of, TableTrue}
use Rattle.record.proofs.laws.Tables.{element, fetch-element, fetch-end, fetch-wrong}
use Rattle.program.proofs.laws.Accepting.{records-count}
use Rattle.engine.specs.declared.Engine.{Engine}
use Rattle.engine.specs.Tick.{Rule, Fetching, ticked, list_fetch}

-- ---- the fetches

module _ (h : Held) (m : Memory) (l : List Record) (e : records_of h m.store ≡ are l) (t : TableTrue h m) where
  fetch-by : (p : ℕ) (w u : Bool) → ltb p (length l) ≡ w → eqb p (length l) ≡ u → fetch_of h m p ≡ pick w (Got (element l p)) (pick u End Wrong)
  fetch-by p true u q v = fetch-element h m p l e t (omega (arith, ltb-true p (length l) q, records-count h m.store l e))
  fetch-by p false true q v = fetch-end h m p (omega (arith, eqb-true p (length l) v, records-count h m.store l e))
  fetch-by p false false q v =
      let n = eqb-false p (length l) v in
      fetch-wrong h m p (omega (arith, ltb-false p (length l) q, records-count h m.store l e))

  -- ON A READABLE STORE WITH A TRUE TABLE BOTH FETCHES AGREE
  pub fetches-agree : (p : ℕ) → fetch_of h m p ≡ list_fetch l p
  unfolding list_fetch
  fetches-agree p = fetch-by p (ltb p (length l)) (eqb p (length l)) refl refl

  pub same-fetch : fetch_of h m ≡ list_fetch l
  same-fetch = fun_ext fetches-agree

  -- SO A CALL ON THE STORE IS THE LIST MACHINE'S
  pub same-tick : (r : Rule) (x : Engine) → x.held ≡ h → ticked r (fetch_of x.held m) x ≡ ticked r (list_fetch l) x
  same-tick r x p = ap (λ (f : Fetching). ticked r f x) (ap (λ (d : Held). fetch_of d m) p ∙ same-fetch)
