-- What an adapter's source yields is what the iterator that it was made of yields.
use Rattle.std.proofs.Common.{◌≡◌, List, Option}
use Rattle.std.proofs.lemmas.Iterator.{YieldsList}

pub by_source : {S A B : Type 0} {steps : S → Option A → S → Type 0} {v : A → B} {all : List B} {s t : S} → s ≡ t → YieldsList steps v t all → YieldsList steps v s all
by_source e y = rw e y
