-- Values that are read and written by type.
use Rattle.std.specs.Prelude.{◌≡◌, ℕ, List, Option, Some, None}
use Rattle.std.specs.Int.{to_be_bytes, w64}

-- what is read by type of a key: nothing where the key has no value, and else what is spelled by the bytes of its value
abbrev pub IsReadAs : {A : Type 0} → (A → List ℕ) → Option (List ℕ) → Option A → Type 0
IsReadAs spelled None None = Unit {0}
IsReadAs spelled None (Some x) = ⊥
IsReadAs spelled (Some bytes) None = ⊥
IsReadAs spelled (Some bytes) (Some x) = spelled x ≡ bytes

-- the number that a key has: 0 where it has no value
abbrev pub IsCount : Option (List ℕ) → ℕ → Type 0
IsCount None n = n ≡ 0
IsCount (Some bytes) n = to_be_bytes w64 n ≡ bytes
