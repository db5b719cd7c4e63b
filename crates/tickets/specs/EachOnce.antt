-- What the rule of a source means for the drawers: each number below the word was drawn once, and no other was.
use Rattle.std.specs.Prelude.{◌≡◌, ◌≢◌, ℕ, ◌+◌, ◌<◌, ◌≤◌, List, [], ◌∷◌, ◌++◌, slice_index}
use mathlib.Core.Option.{some}
use lib.ListN.{get_elem?}
use Rattle.atomic_table.specs.Table.{State}
use Rattle.units.specs.Ids.{Id}
use Rattle.tickets.specs.declared.rule.Hand.{Hand}
use Rattle.tickets.specs.Draws.{IsDrawn, times}

-- no number is in two lists, nor twice in one, and together the lists are the numbers below n
pub record EachOnce (n : ℕ) (hands : List Hand) : Type 0 where
  pub apart : (one two : ℕ) (v w : Hand) (x : ℕ) → one ≢ two → get_elem? hands one ≡ some v → get_elem? hands two ≡ some w → times x v + times x w ≤ 1
  pub once : (seat : ℕ) (v : Hand) (x : ℕ) → get_elem? hands seat ≡ some v → times x v ≤ 1
  pub below : (seat : ℕ) (v : Hand) (x : ℕ) → get_elem? hands seat ≡ some v → 0 < times x v → x < n
  pub together : (x : ℕ) → x < n → (seat : ℕ) × (v : Hand) × (get_elem? hands seat ≡ some v) × (0 < times x v)

-- at every step the word is such an n
abbrev pub WordCounts : Type 0
WordCounts = (s : State ℕ Hand) → IsDrawn s → EachOnce (slice_index s.words 0) s.views

-- the id of a run and a number
abbrev pub id_of : ℕ → ℕ → Id
id_of run number = record { run = run; number = number }

-- Ids of one run, by the numbers that one source gave: those of two drawers differ, and the last one of a drawer differs from each
-- that it drew before.
pub record IdsDiffer (hands : List Hand) : Type 0 where
  pub drawers : (one two : ℕ) (v w : Hand) (run x y : ℕ) → one ≢ two → get_elem? hands one ≡ some v → get_elem? hands two ≡ some w
      → 0 < times x v → 0 < times y w → id_of run x ≢ id_of run y
  pub draws : (seat : ℕ) (v earlier : Hand) (run x y : ℕ) → get_elem? hands seat ≡ some v → v.drawn ≡ earlier.drawn ++ y ∷ []
      → 0 < times x earlier → id_of run x ≢ id_of run y

-- so it is at every step
abbrev pub IdsStayApart : Type 0
IdsStayApart = (s : State ℕ Hand) → IsDrawn s → IdsDiffer s.views
