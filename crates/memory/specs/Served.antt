-- The holds of the safe time beside the rows.
use Rattle.std.specs.Prelude.{ℕ, List, Option}
use Rattle.units.specs.Ids.{Id}
use Rattle.units.specs.Lists.{gather, follow}
use Rattle.safetime.specs.Laws.{SameHolds}
use Rattle.protocol.specs.Rows.{Row, find_row, held_stamp}

-- the timestamps that the rows hold the served time below, in the order of the rows
abbrev pub stamps_held : List Row → List ℕ
stamps_held rows = gather (λ r. held_stamp r.phase) rows

-- the timestamp that the row of an id holds the served time below
abbrev pub stamp_held : List Row → Id → Option ℕ
stamp_held rows t = follow (find_row rows t) (λ r. held_stamp r.phase)

-- each timestamp is held as often as rows hold it
abbrev pub IsHolding : List ℕ → List Row → Type 0
IsHolding holds rows = SameHolds holds (stamps_held rows)
