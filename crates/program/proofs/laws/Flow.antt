-- Where a program goes from a place, with the open loops as a list, the one opened last in front: what the laws of loops are proved on.
-- Discipline joins it to the definitions of Onward.
use Prim.Native.Nat.{ℕ, zero, suc, ◌+◌}
use mathlib.Core.Bool.{Bool, true, false, cond, ◌&&◌}
use mathlib.Core.List.{List, [], ◌∷◌}
use lib.Dec.{ltb, leb, eqb}
use Rattle.program.specs.declared.Loop.{Loop}
use Rattle.program.specs.Onward.{counter}

-- a record, as far as it says where to go: on; to a target; to a target or on; back to a place, a number of times
pub data Flow : Type 0 where
  Ahead : Flow
  Jump : ℕ → Flow
  Wait : ℕ → Flow
  Round : ℕ → ℕ → Flow
  Halt : Flow

-- where a run stands next; Fail is the eighth loop
pub data Next : Type 0 where
  Fail : Next
  Here : ℕ → List Loop → Next

abbrev pub depth : List Loop → ℕ
depth [] = 0
depth (o ∷ l) = suc (depth l)

-- the counter of place p has n left
abbrev pub again : ℕ → ℕ → ℕ → List Loop → Next
again p f zero l = Here (suc p) l
again p f (suc n) l = Here f (counter p n ∷ l)

abbrev pub opens : ℕ → ℕ → ℕ → List Loop → Next
opens p f c l = elim (ltb (depth l) 7) [ true ↦ again p f c l | false ↦ Fail ]

-- the counter opened last is used if it is this place's, else one opens
abbrev pub looped : ℕ → ℕ → ℕ → List Loop → Next
looped p f c [] = opens p f c []
looped p f c (o ∷ l) = elim (eqb o.place p) [ true ↦ again p f o.left l | false ↦ opens p f c (o ∷ l) ]

-- one record run; the Bool says whether a wait's character came
abbrev pub goes : Flow → Bool → ℕ → List Loop → Next
goes Ahead b p l = Here (suc p) l
goes (Jump q) b p l = Here q l
goes (Wait q) b p l = Here (cond b q (suc p)) l
goes (Round c f) b p l = looped p f c l
goes Halt b p l = Here p l

abbrev pub is_loop : Flow → Bool
is_loop Ahead = false
is_loop (Jump q) = false
is_loop (Wait q) = false
is_loop (Round c f) = true
is_loop Halt = false

abbrev pub start_of : Flow → ℕ
start_of Ahead = 0
start_of (Jump q) = 0
start_of (Wait q) = 0
start_of (Round c f) = f
start_of Halt = 0

module _ (flow : ℕ → Flow) where
  -- the range of the loop at i holds p
  abbrev pub holds : ℕ → ℕ → Bool
  holds i p = is_loop (flow i) && (leb (start_of (flow i)) p && leb p i)

  -- how many of the m ranges from place i on hold p
  abbrev pub holders : ℕ → ℕ → ℕ → ℕ
  holders zero i p = 0
  holders (suc m) i p = cond (holds i p) 1 0 + holders m (suc i) p

-- ---- the places that a loop sent a run to, each time that its record was run

abbrev pub next_of : Next → ℕ
next_of Fail = 0
next_of (Here p l) = p

abbrev pub noted : Bool → ℕ → List ℕ → List ℕ
noted true q ts = q ∷ ts
noted false q ts = ts
