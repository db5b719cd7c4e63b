-- How a shard stands, in numbers.
use Rattle.std.specs.Prelude.{true}
use Rattle.letters.specs.declared.gauges.Gauges.{Gauges}

-- a shard that is not served
abbrev pub no_gauges : Gauges
no_gauges = record {
  is_stopped = true;
  rows = 0;
  versions = 0;
  last = 0;
  horizon = 0;
  log_ends = 0;
  area_begins = 0;
  turnovers = 0;
}
