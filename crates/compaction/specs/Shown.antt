-- What a contract sees of the records of a log.
use Rattle.compaction.specs.declared.gathered.Gathered.{Gathered}

-- the disk that holds the log
abbrev pub source_of : {D : Type 0} {g : _} → Gathered D g → D
source_of gathered = gathered.disk
