-- What a reading of the clock tells of a timestamp.
use Rattle.std.specs.Prelude.{ℕ, Bool, ◌&&◌, nat_lt, nat_le}
use Rattle.truetime.specs.Interval.{Interval}

-- the timestamp has surely passed
abbrev pub surely_after : Interval → ℕ → Bool
surely_after now at = nat_lt at now.earliest

-- the timestamp has surely not come
abbrev pub surely_before : Interval → ℕ → Bool
surely_before now at = nat_lt now.latest at

-- a reading is honest where it holds the true time
abbrev pub is_honest : ℕ → Interval → Bool
is_honest time now = nat_le now.earliest time && nat_le time now.latest
