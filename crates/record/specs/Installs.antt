-- What a log installs: each outcome at a timestamp makes versions of what was promised or decided.
use Rattle.std.specs.Prelude.{List, [], ◌++◌, Option, Some, None, flat_map}
use Rattle.units.specs.Lists.{gather}
use Rattle.units.specs.Versions.{versions}
use Rattle.units.specs.declared.writes.Install.{Install}
use Rattle.units.specs.declared.writes.Write.{Write}
use Rattle.record.specs.Records.{Ended, prepared_of, committed_of, as_ended, as_version}
use Rattle.record.specs.declared.record.Committed.{Committed}
use Rattle.record.specs.declared.record.Prepared.{Prepared}
use Rattle.record.specs.declared.record.Record.{Record}

-- the writes of an id that the log holds, by its commit decision or its promise
abbrev pub writes_by : Option Committed → Option Prepared → List Write
writes_by (Some c) p = c.writes
writes_by None (Some p) = p.writes
writes_by None None = []

-- what an outcome installs
abbrev pub installed_by : List Record → Ended → List Install
installed_by log e =
    elim e.outcome [ None ↦ [] | Some s ↦ versions (writes_by (committed_of log e.txn) (prepared_of log e.txn)) s ]

-- the versions of a log, in its order: those that its head lists, and then an outcome at a timestamp installs what was promised or decided
unfoldable pub installs_of : List Record → List Install
installs_of log = gather as_version log ++ flat_map (installed_by log) (gather as_ended log)
