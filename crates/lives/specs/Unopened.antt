-- A shard that was formatted and not yet opened.
use Rattle.std.specs.Prelude.{[]}
use Rattle.gatelog.specs.Gates.{first_gate}
use Rattle.world.specs.World.{Area, ShardNow, IsDown, Nothing}

-- the first area of its file, without a record
abbrev pub unopened_area : Area
unopened_area = record { begins = first_gate; slot = 0; records = [] }

-- its log is empty, and it has made no view
abbrev pub unopened_shard : ShardNow
unopened_shard = record { log = []; area = unopened_area; unsure = Nothing; state = IsDown; views = [] }
