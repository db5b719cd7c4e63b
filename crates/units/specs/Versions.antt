-- Versions of keys: what was installed, and the value of a key at a time, as a filter of the list.
use Rattle.std.specs.List.{list_all}
use Rattle.std.specs.Prelude.{ℕ, Bool, ◌&&◌, ◌||◌, nat_le, nat_lt, cond, List, [], ◌∷◌, map, Option, Some, None, filter}
use Rattle.units.specs.Lists.{follow}
use Rattle.units.specs.Keys.{Bytes, same_key, key_before}
use Rattle.units.specs.declared.writes.Install.{Install}
use Rattle.units.specs.declared.writes.Write.{Write}

-- the version with the greatest timestamp
abbrev pub newest : List Install → Option Install
newest [] = None
newest (i ∷ is) = elim (newest is) [ None ↦ Some i | Some j ↦ cond (nat_lt i.at j.at) (Some j) (Some i) ]

-- the versions of a key
abbrev pub of_key : List Install → Bytes → List Install
of_key installs k = filter (λ i. same_key i.key k) installs

-- the value with the greatest timestamp; none where there is none or it is an erasure
unfoldable pub latest : List Install → Bytes → Option Bytes
latest installs k = follow (newest (of_key installs k)) (λ i. i.value)

-- the value with the greatest timestamp not above a time
unfoldable pub at_time : List Install → Bytes → ℕ → Option Bytes
at_time installs k t = latest (filter (λ i. nat_le i.at t) installs) k

-- some writes as versions
abbrev pub versions : List Write → ℕ → List Install
versions ws s = map (λ w. record { key = w.key; at = s; value = w.value }) ws

-- the first is before the second, by key and then by timestamp
abbrev pub version_before : Install → Install → Bool
version_before install next = key_before install.key next.key || (same_key install.key next.key && nat_lt install.at next.at)

-- a timestamp is above the versions of each key that is written
abbrev pub above_versions : List Install → ℕ → List Write → Bool
above_versions installs s ws = list_all (λ w. list_all (λ i. nat_lt i.at s) (of_key installs w.key)) ws
