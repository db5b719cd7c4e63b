-- Ids among others.
use Rattle.std.specs.List.{list_any}
use Rattle.std.specs.Prelude.{Bool, List}
use Rattle.units.specs.Ids.{Id, same_id}

-- the id is among these
abbrev pub is_among : List Id → Id → Bool
is_among ids t = list_any (same_id t) ids
