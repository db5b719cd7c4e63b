-- An area of a log, in an image of a disk.
use Rattle.std.specs.Prelude.{◌≡◌, ℕ, List, Ok}
use Rattle.gatelog.specs.Slots.{Beginning, begins_in}
use Rattle.shard.specs.Logs.{records_in}
use Rattle.world.specs.World.{Area}

-- where the log of an area begins in its file, and how many slots are open
abbrev pub beginning_of : Area → Beginning
beginning_of area = record { at = area.begins; slots = area.slot }

-- an image of a disk has this area
abbrev pub HoldsArea : Area → List ℕ → Type 0
HoldsArea area image = (records_in image ≡ Ok area.records) × (begins_in image ≡ beginning_of area)
