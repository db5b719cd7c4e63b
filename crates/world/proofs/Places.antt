-- The shards of a world by their places.
use Rattle.std.proofs.Common.{◌≡◌, ◌≢◌, ℕ, zero, suc, List, [], ◌∷◌, ◌++◌, Option, Some, None, slice_get, refl, ap}
use Rattle.std.specs.Prelude.{replicate}
use Rattle.units.specs.Lists.{replaced}
use Rattle.record.specs.declared.record.Record.{Record}
use Rattle.world.specs.World.{ShardNow, fresh_shard}

-- a log with one more record, or none
abbrev pub with_record : List Record → Option Record → List Record
with_record log None = log
with_record log (Some r) = log ++ r ∷ []

pub get-replaced_same : (shards : List ShardNow) (n : ℕ) (old new : ShardNow) → slice_get shards n ≡ Some old → slice_get (replaced shards n new) n ≡ Some new
get-replaced_same [] n old new e = cc
get-replaced_same (s ∷ shards) zero old new e = refl
get-replaced_same (s ∷ shards) (suc n) old new e = get-replaced_same shards n old new e

pub get-replaced_other : (shards : List ShardNow) (n m : ℕ) (new : ShardNow) → n ≢ m → slice_get (replaced shards n new) m ≡ slice_get shards m
get-replaced_other [] n m new ne = refl
get-replaced_other (s ∷ shards) zero zero new ne = absurd (ne refl)
get-replaced_other (s ∷ shards) zero (suc m) new ne = refl
get-replaced_other (s ∷ shards) (suc n) zero new ne = refl
get-replaced_other (s ∷ shards) (suc n) (suc m) new ne = get-replaced_other shards n m new (λ e. ne (ap suc e))

-- each shard before the first event
pub replicated : (count n : ℕ) (s : ShardNow) → slice_get (replicate count fresh_shard) n ≡ Some s → fresh_shard ≡ s
replicated zero n s e = cc
replicated (suc count) zero s e = some_is fresh_shard s e
  where
    some_is : (a b : ShardNow) → Some a ≡ Some b → a ≡ b
    some_is a b k = cc
replicated (suc count) (suc n) s e = replicated count n s e
