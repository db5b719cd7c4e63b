-- Versions that are put in order, by key and then by timestamp.
use Rattle.std.specs.Prelude.{ℕ, Bool, ◌&&◌, ◌||◌, nat_le, cond, List, [], ◌∷◌}
use Rattle.units.specs.Keys.{Bytes, same_key, key_before}
use Rattle.units.specs.declared.writes.Install.{Install}

-- the version is of this key, and no later than the timestamp
abbrev pub is_by : Bytes → ℕ → Install → Bool
is_by key at install = same_key install.key key && nat_le install.at at

-- the version is of this key and timestamp, or it comes before them
abbrev pub is_not_after : Bytes → ℕ → Install → Bool
is_not_after key at install = key_before install.key key || (same_key install.key key && nat_le install.at at)

-- the versions with one more, at its place by key and timestamp
abbrev pub installed : List Install → Install → List Install
installed [] install = install ∷ []
installed (next ∷ rest) install =
    cond (is_not_after install.key install.at next) (next ∷ installed rest install) (install ∷ next ∷ rest)

-- the versions with several more, one after another
abbrev pub all_installed : List Install → List Install → List Install
all_installed ordered [] = ordered
all_installed ordered (install ∷ more) = all_installed (installed ordered install) more
