-- Why what a node is asked may be refused, whatever it knows.
use Rattle.std.specs.Prelude.{◌≡◌, ◌⊎◌, ℕ, IsTrue}
use Rattle.units.specs.declared.fault.Fault.{Fault}
use Rattle.units.specs.declared.fault.Fault.TheVariants.{Memory as WantsMemory, Device, BadRequest}
use Rattle.units.specs.declared.fault.Reason.TheVariants.{Again, Many}
use Rattle.shard.specs.Opened.{is_reason}
use Rattle.node.specs.InStep.{IsCount, IsNoCount}

-- A restart with so many viewers: the node is not stopped, or no board has so many; else a growth was refused, the device failed, or its log is
-- not taken up.
abbrev pub RefusesRestart : ℕ → Fault → Type 0
RefusesRestart n fault =
    (fault ≡ BadRequest Again) ⊎ ((IsNoCount n × (fault ≡ BadRequest Many))
    ⊎ (IsCount n × ((fault ≡ WantsMemory) ⊎ ((fault ≡ Device) ⊎ IsTrue (is_reason fault)))))
