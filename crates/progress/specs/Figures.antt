-- How fast a drive goes.
use Rattle.std.specs.Prelude.{ℕ, ◌*◌, ◌/◌, ◌<◌, ◌≤◌, List, length, nat_eq, nat_le, nat_lt, count_by, Contains, if◌then◌else◌}

-- how many a second, of so many in some microseconds
abbrev pub rate_of : ℕ → ℕ → ℕ
rate_of count micros = if nat_eq micros 0 then 0 else count * 1000000 / micros

-- one of the numbers, which so many of a hundred do not exceed, while fewer are below it
pub record IsPercentile (percent : ℕ) (xs : List ℕ) (value : ℕ) : Type 0 where
  pub among : Contains xs value
  pub enough : percent * length xs ≤ 100 * count_by (λ x. nat_le x value) xs
  pub least : 100 * count_by (λ x. nat_lt x value) xs < percent * length xs
