-- A look at some versions, a horizon and a served time.
use Rattle.std.specs.Prelude.{ℕ, Bool, cond, not, nat_le, nat_lt, List}
use Rattle.units.specs.Keys.{Bytes}
use Rattle.units.specs.Versions.{at_time}
use Rattle.units.specs.declared.fault.Fault.TheVariants.{NotYet, Stranger, TooOld}
use Rattle.units.specs.declared.writes.Install.{Install}
use Rattle.shard.specs.Look.{is_here, safe_at}
use Rattle.shard.specs.On.{CoreView}
use Rattle.simdisk.specs.declared.simdisk.SimDisk.{SimDisk}
use Rattle.world.specs.declared.event.Reply.{Reply}

-- the key belongs to the shard or not, and the time is forgotten or not, and served or not
abbrev pub look_at : Bool → List Install → ℕ → ℕ → Bytes → ℕ → Reply
look_at here installs horizon safe k at =
    cond (not here) (Reply.Refused Stranger)
    (cond (nat_lt at horizon) (Reply.Refused TooOld)
    (cond (nat_le at safe) (Reply.Shows (at_time installs k at)) (Reply.Refused NotYet)))

-- a look at what a core shows now
abbrev pub look_core : CoreView SimDisk → Bytes → ℕ → Reply
look_core core k at = look_at (is_here core k) core.facts.installs core.facts.horizon (safe_at core) k at
