-- The entries that boards of tests begin with.
use Rattle.std.proofs.Common.{◌≡◌, ◌∷◌, [], ℕ, ap₂}
use Rattle.board.specs.Board.{first_entries}
use Rattle.board.specs.declared.entry.BoardEntry.TheVariants.{Horizon, Safe}

pub from_none : (safe horizon : ℕ) → safe ≡ 5 → horizon ≡ 0 → first_entries [] safe horizon ≡ Safe 5 ∷ []
from_none safe horizon is none = ap₂ (λ s h. first_entries [] s h) is none

pub from_three : (safe horizon : ℕ) → safe ≡ 5 → horizon ≡ 3 → first_entries [] safe horizon ≡ Horizon 3 ∷ Safe 5 ∷ []
from_three safe horizon is three = ap₂ (λ s h. first_entries [] s h) is three
