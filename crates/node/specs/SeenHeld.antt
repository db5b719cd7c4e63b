-- What a contract sees of what a node's lock holds.
use Rattle.std.specs.Prelude.{option_map}
use Rattle.node.specs.declared.held.Held.{Held}
use Rattle.node.specs.Seen.{seen_place}
use Rattle.node.specs.Under.{Under}

-- what the shard is told, and the desk or the disk that is there
abbrev pub seen_held : {D R : Type 0} {g : _} → Held D R g → Under D
seen_held held = record { setup = held.setup; place = option_map seen_place held.place }
