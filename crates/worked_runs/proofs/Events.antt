-- What the examples of whole runs share: two shards split at `m`, and events.
use Rattle.std.specs.Prelude.{ℕ, [], ◌∷◌}
use Rattle.protocol.proofs.Samples.{m}
use Rattle.world.specs.declared.event.Act.{Act}
use Rattle.world.specs.declared.event.Config.{Config}
use Rattle.world.specs.declared.event.Event.{Event}

-- two shards
abbrev pub two_shards : Config
two_shards = record { splits = m ∷ []; stride = 0 }

-- an event at a time
abbrev pub on : ℕ → Act → Event
on t act = record { time = t; act = act }
