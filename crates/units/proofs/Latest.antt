-- The value of a key at a time is that of its newest version up to then.
use Rattle.std.proofs.Common.{◌≡◌, ℕ, List, refl}
use Rattle.units.specs.Keys.{Bytes}
use Rattle.units.specs.Lists.{follow}
use Rattle.units.specs.Versions.{at_time, latest}
use Rattle.units.specs.declared.writes.Install.{Install}
use Rattle.units.specs.Newer.{newest_upto}

pub value_of : (installs : List Install) (k : Bytes) (at : ℕ) → at_time installs k at ≡ follow (newest_upto installs k at) (λ i. i.value)
unfolding at_time latest
value_of installs k at = refl
