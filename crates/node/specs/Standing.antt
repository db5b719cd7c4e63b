-- How a shard stands, in numbers.
use Rattle.std.specs.Prelude.{length}
use Rattle.letters.specs.declared.gauges.Gauges.{Gauges}
use Rattle.letters.specs.Standing.{no_gauges}
use Rattle.node.specs.InStep.{DeskView}
use Rattle.node.specs.Restart.{PlaceView, Serving, Resting}

-- how the core of a desk stands
abbrev pub gauges_of : {D : Type 0} → DeskView D → Gauges
gauges_of desk = record {
  is_stopped = desk.core.stopped;
  rows = length desk.core.memory.rows;
  versions = length desk.core.facts.installs;
  last = desk.core.memory.last;
  horizon = desk.core.facts.horizon;
  log_ends = desk.core.gate;
  area_begins = desk.measure.begins;
  turnovers = desk.core.slot;
}

-- the core of a desk, or a disk alone
abbrev pub gauges_in : {D : Type 0} → PlaceView D → Gauges
gauges_in (Serving desk) = gauges_of desk
gauges_in (Resting rest) = no_gauges
