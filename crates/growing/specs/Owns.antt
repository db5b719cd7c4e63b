-- What a growing list and a beginning of it own.
use Rattle.std.specs.Prelude.{ℕ, Bool, true, false, List, map, length, nat_le, if◌then◌else◌}
use base.Fraction.{full_share}
use base.Stored.{Gv, Coded}
use base.Growing.{Order, prefixes, latest, at_least}
use base.Fml.{Lft, Fml, fshr_bor}

-- the names of two growing lists
abbrev pub Twins : Type 0
Twins = ℕ × ℕ

abbrev pub name_of : Twins → Bool → ℕ
name_of t false = t.0
name_of t true = t.1

-- of two beginnings of one list the longer
abbrev pub longer_of : {E : Type 0} → List E → List E → List E
longer_of xs ys = if nat_le (length xs) (length ys) then ys else xs

-- A growing list is kept as its ghost values, in an algebra that names no type parameter.
abbrev pub itself : Coded Gv
itself = record { code = λ g. g; inj = λ x y p. p }

abbrev pub logs : Order (List Gv)
logs = prefixes itself

module _ {E : Type 0} (c : E → Gv) where
  abbrev pub growing_owns : ℕ → List E → Fml
  growing_owns name entries = latest logs full_share name (map c entries)

  abbrev pub growing_shares : ℕ → List E → Lft → Fml
  growing_shares name entries κ = fshr_bor κ (λ q. latest logs q name (map c entries))

  abbrev pub beginning_owns : ℕ → List E → Fml
  beginning_owns name entries = at_least logs name (map c entries)
