-- A board: a list of entries that only grows. What it shows is the fold of its list.
use Rattle.std.specs.List.{list_all}
use Rattle.std.specs.Prelude.{◌≡◌, ℕ, ◌≤◌, length, Bool, true, false, ◌&&◌, nat_lt, nat_le, List, [], ◌∷◌, ◌++◌, map, cond, Option, Some, None}
use Rattle.units.specs.Lists.{gather, greatest}
use Rattle.units.specs.Keys.{Bytes}
use Rattle.units.specs.Versions.{of_key, at_time}
use Rattle.units.specs.declared.writes.Install.{Install}
use Rattle.versions.specs.Headed.{Headed}
use Rattle.versions.specs.Orders.{Orders}
use Rattle.versions.specs.Places.{SameFrom}
use Rattle.board.specs.declared.entry.BoardEntry.{BoardEntry}
use Rattle.board.specs.declared.entry.BoardEntry.TheVariants.{Installed, Safe, Horizon}

-- its versions, in the order in which they came
abbrev pub version_of : BoardEntry → Option Install
version_of (Installed i) = Some i
version_of (Safe t) = None
version_of (Horizon t) = None

abbrev pub versions_on : List BoardEntry → List Install
versions_on entries = gather version_of entries

-- the last timestamp up to which looks are answered, and 0 where there is none
abbrev pub safe_from : ℕ → List BoardEntry → ℕ
safe_from safe [] = safe
safe_from safe (Installed i ∷ es) = safe_from safe es
safe_from safe (Safe t ∷ es) = safe_from t es
safe_from safe (Horizon t ∷ es) = safe_from safe es

abbrev pub safe_on : List BoardEntry → ℕ
safe_on entries = safe_from 0 entries

-- there is a timestamp up to which looks are answered
abbrev pub has_safe : List BoardEntry → Bool
has_safe [] = false
has_safe (Installed i ∷ es) = has_safe es
has_safe (Safe t ∷ es) = true
has_safe (Horizon t ∷ es) = has_safe es

-- its horizon, below which no look is answered: the greatest, and 0 where there is none
abbrev pub horizon_in : BoardEntry → Option ℕ
horizon_in (Installed i) = None
horizon_in (Safe t) = None
horizon_in (Horizon t) = Some t

abbrev pub horizon_on : List BoardEntry → ℕ
horizon_on entries = greatest (gather horizon_in entries)

-- the value that a key has at a timestamp: that of its version with the greatest timestamp that is not above it
abbrev pub shown_at : List BoardEntry → Bytes → ℕ → Option Bytes
shown_at entries key t = at_time (versions_on entries) key t

-- a horizon as entries, none where it is 0
abbrev pub horizon_entries : ℕ → List BoardEntry
horizon_entries horizon = cond (nat_lt 0 horizon) (Horizon horizon ∷ []) []

-- the entries that a board begins with: its versions, its horizon, and the timestamp up to which looks are answered
abbrev pub first_entries : List Install → ℕ → ℕ → List BoardEntry
first_entries installs safe horizon = map (λ i. Installed i) installs ++ horizon_entries horizon ++ Safe safe ∷ []

-- the places of all these versions in order, as the horizon or an earlier one leaves them
abbrev pub AreInOrder : List Install → ℕ → Headed → Type 0
AreInOrder installs horizon places = (from : ℕ) × (from ≤ horizon) × Orders from installs (length installs) places

-- the versions give the values that a board with these entries shows, and these are its served time and its horizon
pub record MatchesEntries (versions : List Install) (safe horizon : ℕ) (entries : List BoardEntry) : Type 0 where
  pub same : SameFrom (horizon_on entries) versions (versions_on entries)
  pub served : safe ≡ safe_on entries
  pub since : horizon ≡ horizon_on entries

-- the timestamp is above the last that looks are answered at
abbrev pub is_past : Option ℕ → ℕ → Bool
is_past None at = true
is_past (Some safe) at = nat_lt safe at

-- and it does not fall
abbrev pub is_rising : Option ℕ → ℕ → Bool
is_rising None t = true
is_rising (Some safe) t = nat_le safe t

-- The entries may follow some versions, the last safe timestamp and a horizon: neither of the two falls, and a version is above the safe
-- timestamp and above its key's earlier ones. So no entry changes what a look at a safe timestamp shows; a horizon only says from when on
-- it is answered.
unfoldable pub may_follow : List Install → Option ℕ → ℕ → List BoardEntry → Bool
may_follow installs safe horizon [] = true
may_follow installs safe horizon (Installed i ∷ es) =
    is_past safe i.at && list_all (λ j. nat_lt j.at i.at) (of_key installs i.key) && may_follow (i ∷ installs) safe horizon es
may_follow installs safe horizon (Safe t ∷ es) = is_rising safe t && may_follow installs (Some t) horizon es
may_follow installs safe horizon (Horizon t ∷ es) = nat_le horizon t && may_follow installs safe t es

-- the rule of every board
abbrev pub is_board : List BoardEntry → Bool
is_board entries = may_follow [] None 0 entries
