-- Why commands over files are refused.
use Rattle.std.specs.Prelude.{◌≡◌, ◌⊎◌, IsTrue}
use Rattle.units.specs.declared.fault.Fault.{Fault}
use Rattle.units.specs.declared.fault.Fault.TheVariants.{Device, Memory, TimeSpent}
use Rattle.gatelog.specs.Log.{is_no_log}

-- why no file gets the records of another one: memory is wanting, the system refuses a file, the new one would grow beyond its limit, or the
-- old one holds no log of version 1
abbrev pub IsNotMigrated : Fault → Type 0
IsNotMigrated fault = (fault ≡ Memory) ⊎ ((fault ≡ Device) ⊎ ((fault ≡ TimeSpent) ⊎ IsTrue (is_no_log fault)))
