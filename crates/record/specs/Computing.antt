-- The definitions of logs that are shut by default, named once: `unfolding computing` lets an example compute through all
-- of them.
use Rattle.units.specs.Keys.{shard_of}
use Rattle.units.specs.Versions.{latest, at_time}
use Rattle.units.specs.Locks.{wounded, is_free, asked, ready}
use Rattle.record.specs.Records.{status_of, status_written}
use Rattle.record.specs.Installs.{installs_of}
use Rattle.record.specs.Accepted.{follows, fits_beside, belongs, taken, followed}
use Rattle.record.specs.Facts.{facts_of, learn}
use Rattle.record.specs.History.{history, before, upto}
use Rattle.record.specs.Whole.{is_whole, stands_at}
use Rattle.record.specs.Verdict.{verdict}

-- the list of names
unfoldable pub computing : Unit {0}
unfolding shard_of latest at_time wounded is_free asked ready status_of status_written installs_of follows fits_beside belongs taken followed facts_of learn history
    before upto is_whole stands_at verdict
computing = tt
