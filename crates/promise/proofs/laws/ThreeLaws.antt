-- Our machine keeps demand 3 (see `Three.antt`).
use Prim.Native.Nat.{ℕ}
use mathlib.Core.List.{List, [], ◌∷◌, ◌++◌, map, append_assoc}
use mathlib.Core.Path.{◌≡◌, refl, sym, ◌∙◌, ap}
use lib.Dec.{eqb}
use Rattle.count.specs.Pick.{pick}
use Rattle.count.specs.Paper.{Paper}
use Rattle.engine.specs.declared.Engine.{Engine}
use Rattle.promise.specs.Machine.{Machine, ours}
use Rattle.promise.specs.Stop.{Step, unsped, Place, answers, Same, Begins}
use Rattle.promise.proofs.laws.StopLaws.{ours-stop, ours-over, ours-followed}
use Rattle.promise.proofs.laws.StopOut.{ours-unstopped}
use Rattle.promise.proofs.laws.StopHolds.{ours-holds, ours-else, ours-goes-on}
use Rattle.promise.proofs.laws.StopBegins.{ours-clear}
use Rattle.promise.proofs.laws.StopStarts.{ours-begins, ours-stop-and-start}
use Rattle.promise.specs.Three.{only, Equals, Agrees, DemandThree}

only-join : (n : ℕ) (l k : List Paper) → only n (l ++ k) ≡ only n l ++ only n k
only-join n [] k = refl
only-join n (a ∷ l) k =
    let v : List Paper = pick (eqb a.number n) (a ∷ []) [] in
    ap (λ (r : List Paper). v ++ r) (only-join n l k) ∙ sym (append_assoc v (only n l) (only n k))

-- of any machine: the same run is the same in demand 3's words
module _ (m : Machine) (p : Place m) (es fs : List Step) where
  pub equals : Same m p es fs → Equals m p es fs
  equals s = record {
    pulses = ap (λ (l : List Paper). only 1 l) s.axes;
    speeds = s.speeds;
    sent = ap (λ (l : List Paper). only 3 l) s.axes;
    positions = ap (λ (e : Engine). e.at) s.engine;
    origins = ap (λ (e : Engine). e.origin) s.engine;
    outputs = ap (λ (e : Engine). e.output) s.engine;
    held = ap (λ (e : Engine). e.held) s.engine;
    memory = s.memory;
  }

  pub agrees : Begins m p es fs → Agrees m p es fs
  agrees b = record {
    more_pulses = only 1 b.more_axes;
    more_speeds = b.more_speeds;
    more_sent = only 3 b.more_axes;
    pulses = ap (λ (l : List Paper). only 1 l) b.axes ∙ only-join 1 (map unsped (answers m p es)) b.more_axes;
    speeds = b.speeds;
    sent = ap (λ (l : List Paper). only 3 l) b.axes ∙ only-join 3 (map unsped (answers m p es)) b.more_axes;
  }

pub ours-demand-3 : DemandThree ours
ours-demand-3 = record {
  ends = λ p es fs b m n o q t. equals ours p es fs (ours-over p es fs b m n.mild o q t);
  goes_on = λ p es fs later b m n c t. agrees ours p es fs (ours-followed p es fs later b m n.mild c t);
  always = ours-stop;
  left_out = ours-unstopped;
  holds = ours-holds;
  elsewhere = ours-else;
  start_goes_on = ours-goes-on;
  both = ours-stop-and-start;
  clear = ours-clear;
  begins = ours-begins;
}
