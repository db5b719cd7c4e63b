-- What a drive comes to.
use Rattle.std.specs.Prelude.{ℕ}
use Rattle.commands.specs.Drives.{Driving}
use Rattle.drive.specs.Told.{IsTold}

-- what is told of a drive: it is the summary of so many transactions and the verdict
abbrev pub IsDriven : Driving
IsDriven text verdict = (transactions : ℕ) × IsTold transactions text verdict
