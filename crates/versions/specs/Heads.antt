-- The head of a key: the eight bytes behind a prefix as one number. Heads order as their keys do, where they differ, whichever keys
-- begin with the prefix.
use Rattle.std.specs.Prelude.{◌≡◌, ℕ, zero, suc, ◌+◌, ◌*◌, ◌^◌, ◌<◌, List, [], ◌∷◌, map, get_or, cond, nat_lt, nat_eq, ◌-◌, Option, None, Some}
use Rattle.std.specs.List.{AllByRecursion}
use Rattle.units.specs.Keys.{Bytes}
use Rattle.units.specs.declared.writes.Install.{Install}

-- each byte fits eight bits
abbrev pub AreBytes : Bytes → Type 0
AreBytes key = (k : ℕ) → get_or key k 0 < 256

-- so many bytes as one number, the first of them its greatest digit; a missing byte is a zero
unfoldable pub number : ℕ → Bytes → ℕ
number zero key = 0
number (suc n) [] = 0
number (suc n) (b ∷ key) = b * 256 ^ n + number n key

-- the head of a key behind a prefix: its next eight bytes, or the least or greatest number where the key is before or behind all
-- that begin with the prefix
unfoldable pub head : Bytes → Bytes → ℕ
head [] key = number 8 key
head (p ∷ prefix) [] = 0
head (p ∷ prefix) (b ∷ key) = cond (nat_lt b p) 0 (cond (nat_lt p b) (2 ^ 64 - 1) (head prefix key))

-- a prefix that is kept as a key, none where it is empty
abbrev pub prefix_of : Option Bytes → Bytes
prefix_of None = []
prefix_of (Some key) = key

-- the heads of the keys of these versions
pub record AreHeads (prefix : Bytes) (versions : List Install) (heads : List ℕ) : Type 0 where
  pub bytes : AllByRecursion (λ i. AreBytes i.key) versions
  pub each : heads ≡ map (λ i. head prefix i.key) versions

-- what both keys begin with
abbrev pub common_prefix : Bytes → Bytes → Bytes
common_prefix [] last = []
common_prefix (x ∷ first) [] = []
common_prefix (x ∷ first) (y ∷ last) = cond (nat_eq x y) (x ∷ common_prefix first last) []
