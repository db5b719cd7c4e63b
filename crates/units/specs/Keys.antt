-- Keys, their order by bytes, and the shard that a key belongs to.
use Rattle.std.specs.List.{list_any}
use Rattle.std.specs.Prelude.{ℕ, Bool, true, false, ◌&&◌, ◌||◌, not, nat_eq, nat_lt, List, [], ◌∷◌}
use Rattle.units.specs.Lists.{count, same_numbers}
use Rattle.units.specs.declared.writes.Write.{Write}

-- the bytes of a key or of a value
abbrev pub Bytes : Type 0
Bytes = List ℕ

-- the two keys are one
abbrev pub same_key : Bytes → Bytes → Bool
same_key = same_numbers

-- the first key is before the second by bytes; a beginning of a key is before it
abbrev pub key_before : Bytes → Bytes → Bool
key_before [] [] = false
key_before [] (y ∷ ys) = true
key_before (x ∷ xs) [] = false
key_before (x ∷ xs) (y ∷ ys) = nat_lt x y || (nat_eq x y && key_before xs ys)

-- the shard of a key: the number of splits that are not greater than it
unfoldable pub shard_of : List Bytes → Bytes → ℕ
shard_of splits k = count (λ split. not (key_before k split)) splits

-- the key is in the list
abbrev pub has_key : List Bytes → Bytes → Bool
has_key ks k = list_any (same_key k) ks

-- the key is written
abbrev pub writes_key : List Write → Bytes → Bool
writes_key ws k = list_any (λ w. same_key w.key k) ws

-- the first write's key is before the second's
abbrev pub write_before : Write → Write → Bool
write_before a b = key_before a.key b.key
