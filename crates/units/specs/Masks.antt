-- The shards of a transaction as a set of bits, and as the ascending list that the definitions read.
use Rattle.std.specs.Prelude.{ℕ, zero, suc, ◌+◌, ◌/◌, ◌%◌, ◌^◌, nat_eq, Bool, List, [], ◌∷◌, cond}

-- the numbers from n on whose bit is set, in the next few bits
abbrev pub shards_from : ℕ → ℕ → ℕ → List ℕ
shards_from zero n mask = []
shards_from (suc bits) n mask = cond (nat_eq (mask % 2) 1) (n ∷ shards_from bits (suc n) (mask / 2)) (shards_from bits (suc n) (mask / 2))

-- the shards of a mask of 16 bits, ascending
abbrev pub shards_of_mask : ℕ → List ℕ
shards_of_mask mask = shards_from 16 0 mask

-- the numbers from n on that pass a test, in the next few
abbrev pub marked : (ℕ → Bool) → ℕ → ℕ → List ℕ
marked test zero n = []
marked test (suc bits) n = cond (test n) (n ∷ marked test bits (suc n)) (marked test bits (suc n))

-- the mask of some shards: 2^n for shard n, added
abbrev pub mask_of : List ℕ → ℕ
mask_of [] = 0
mask_of (n ∷ ns) = 2 ^ n + mask_of ns
