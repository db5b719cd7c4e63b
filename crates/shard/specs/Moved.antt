-- A renewed log in another file.
use Rattle.std.specs.Prelude.{◌≡◌, ◌⊎◌, ℕ, Bool, false, IsTrue, IsFalse, Ok}
use Rattle.units.specs.declared.fault.Fault.{Fault}
use Rattle.units.specs.declared.fault.Fault.TheVariants.{Memory as WantsMemory, Device, Stopped, TimeSpent}
use Rattle.disk.specs.Image.{Surface}
use Rattle.ledger.specs.Turned.{turned}
use Rattle.record.specs.Facts.{Facts}
use Rattle.shard.specs.Logs.{KeepsRecords}
use Rattle.shard.specs.On.{CoreView}

-- every image that a crash now may leave holds the records of a renewed log, made of these facts
abbrev pub HoldsRenewal : Surface → Facts → Type 0
HoldsRenewal disk facts = KeepsRecords disk (Ok (turned facts))

-- why there is no renewed log in the other file: the core is stopped; or it is not, and a growth was refused, the device failed, or there is no
-- place
abbrev pub IsUnmade : Bool → Fault → Type 0
IsUnmade stopped fault = ((fault ≡ Stopped) × IsTrue stopped)
    ⊎ (IsFalse stopped × ((fault ≡ WantsMemory) ⊎ ((fault ≡ Device) ⊎ (fault ≡ TimeSpent))))

-- a core that goes on in another log, on this disk, with this gate and so many slots taken: it runs, and knows what it knew
abbrev pub moved_to : {D : Type 0} → CoreView D → D → ℕ → ℕ → CoreView D
moved_to core disk gate slot = record core { disk = disk; gate = gate; slot = slot; stopped = false }
