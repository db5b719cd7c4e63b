-- What is handed on of an id.
use Rattle.std.specs.Prelude.{Option}
use Rattle.units.specs.Ids.{Id}
use Rattle.record.specs.Facts.{Facts, recorded}
use Rattle.record.specs.declared.record.Record.{Record}
use Rattle.ledger.specs.Turned.{standing_item}

-- the record of one that stands
abbrev pub standing_of : Facts → Id → Option Record
standing_of facts t = standing_item (record { txn = t; status = recorded facts t })
