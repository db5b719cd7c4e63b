-- The newest version of a key up to a time, one version after another.
use Rattle.std.specs.Prelude.{ℕ, cond, ◌&&◌, nat_le, nat_lt, List, Option, Some, None, filter}
use Rattle.units.specs.Keys.{Bytes, same_key}
use Rattle.units.specs.Versions.{newest, of_key}
use Rattle.units.specs.declared.writes.Install.{Install}

-- the newest of a key among those of times that have come
abbrev pub newest_upto : List Install → Bytes → ℕ → Option Install
newest_upto installs k at = newest (of_key (filter (λ i. nat_le i.at at) installs) k)

-- the one that is found where this version stands before the others
abbrev pub newer : Install → Bytes → ℕ → Option Install → Option Install
newer i k at best = cond (nat_le i.at at && same_key i.key k) (elim best [ None ↦ Some i | Some j ↦ cond (nat_lt i.at j.at) (Some j) (Some i) ]) best
