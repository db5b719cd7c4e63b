-- The records of a renewed log, made of what the log says.
use Rattle.std.specs.Prelude.{List, [], ◌∷◌, ◌++◌, map, Option, Some, None}
use Rattle.units.specs.Ids.{Id}
use Rattle.units.specs.Lists.{gather}
use Rattle.units.specs.declared.writes.Install.{Install}
use Rattle.record.specs.Records.{Unrecorded, StandsPrepared, StandsDecided, HasAborted, HasSettled, HasClosed}
use Rattle.record.specs.Facts.{Facts, TxnStatus}
use Rattle.record.specs.declared.record.Record.{Record}
use Rattle.record.specs.declared.record.Record.TheVariants as records
use Rattle.versions.specs.Ordered.{all_installed}
use Rattle.versions.specs.Pruned.{pruned}

-- the versions that are held, by key and timestamp: of each key from the newest that is not above the horizon up
abbrev pub versions_held : Facts → List Install
versions_held facts = all_installed [] (pruned facts.horizon facts.installs)

-- the facts with these versions alone
abbrev pub held_facts : Facts → Facts
held_facts facts = record facts { installs = versions_held facts }

-- how an ended transaction is kept
abbrev pub ended_item : TxnStatus → Option Record
ended_item e =
    elim e.status [
      | Unrecorded ↦ None
      | StandsPrepared p ↦ None
      | StandsDecided c ↦ None
      | HasAborted ↦ Some (records.Abort e.txn)
      | HasSettled at parts ↦ Some (records.Settled e.txn at parts)
      | HasClosed coordinator outcome ↦ Some (records.Closed e.txn coordinator outcome)
    ]

-- how one that stands is kept: by its record
abbrev pub standing_item : TxnStatus → Option Record
standing_item e =
    elim e.status [
      | Unrecorded ↦ None
      | StandsPrepared p ↦ Some (records.Prepare p)
      | StandsDecided c ↦ Some (records.Commit c)
      | HasAborted ↦ None
      | HasSettled at parts ↦ None
      | HasClosed coordinator outcome ↦ None
    ]

-- the id below which all are retired, by its record
abbrev pub retired_item : Option Id → List Record
retired_item None = []
retired_item (Some below) = records.Retired below ∷ []

-- the records of the renewed log: the numbers, the versions, the id below which all are retired, who ended, who stands
unfoldable pub turned : Facts → List Record
turned facts =
    records.Base facts.epoch facts.floor facts.horizon
    ∷ (map records.Version (versions_held facts)
    ++ (retired_item facts.retired ++ (gather ended_item facts.entries ++ gather standing_item facts.entries)))
