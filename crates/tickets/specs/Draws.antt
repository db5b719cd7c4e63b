-- The rule of a ticket source: the word is a number n, and what all have drawn are the numbers below n, each once.
use Rattle.std.specs.Prelude.{◌≡◌, ℕ, ◌*◌, ◌^◌, ◌≤◌, List, [], ◌∷◌, ◌++◌, length, sum_by, nat_eq, nat_lt, if◌then◌else◌}
use mathlib.Core.Option.{some}
use lib.ListN.{get_elem?}
use Rattle.atomic_table.specs.Table.{State, Me, Step}
use Rattle.atomic_table.specs.Seated.{TableId}
use Rattle.atomic_table.specs.declared.shared.Seat.{Seat}
use Rattle.tickets.specs.declared.rule.Hand.{Hand}

-- how often the number was drawn
abbrev pub times : ℕ → Hand → ℕ
times x hand = sum_by (λ y. if nat_eq x y then 1 else 0) hand.drawn

-- 1 for a number below n, and else 0
abbrev pub once_below : ℕ → ℕ → ℕ
once_below x n = if nat_lt x n then 1 else 0

-- the word counts the draws, a drawer has drawn no more than it may, and each number below the word was drawn once
pub record IsDrawn (s : State ℕ Hand) : Type 0 where
  pub word : ℕ
  pub words : s.words ≡ word ∷ []
  pub drawers : sum_by (λ (h : Hand). h.drawers) s.views ≡ 256
  pub limits : (seat : ℕ) (hand : Hand) → get_elem? s.views seat ≡ some hand → length hand.drawn ≤ 2 ^ 40 * hand.drawers
  pub counted : sum_by (λ (h : Hand). length h.drawn) s.views ≡ word
  pub once : (x : ℕ) → sum_by (times x) s.views ≡ once_below x word

-- the word just before the step is the number that was drawn, and all drawers together draw at most 2^48 times
abbrev pub Draws : Step ℕ → Me ℕ Hand → ℕ → Me ℕ Hand → Type 0
Draws step me found me' = (found ≤ 2 ^ 48) × (me' ≡ (record { drawers = me.0.drawers; drawn = me.0.drawn ++ found ∷ [] }, me.1))

-- what a contract sees of a drawer: the source that it draws from, and what it has drawn
pub record Drawing : Type 0 where
  pub source : TableId
  pub drawn : List ℕ

-- a drawer of the source that has drawn nothing
abbrev pub IsNew : TableId → Drawing → Type 0
IsNew source drawer = (drawer.source ≡ source) × (drawer.drawn ≡ [])

-- the seat stands for so many drawers
abbrev pub IsRest : Seat ℕ Hand → ℕ → Type 0
IsRest seat left = (seat.me.0.drawers ≡ left) × (seat.me.0.drawn ≡ [])
