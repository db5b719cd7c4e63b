-- The versions of the serial run, each with the place of its transaction.
use Rattle.std.specs.Prelude.{ℕ, suc, Bool, cond, nat_lt, List, [], ◌∷◌, ◌++◌, map, Option, filter}
use Rattle.units.specs.Keys.{Bytes, key_before, same_key}
use Rattle.units.specs.declared.writes.Write.{Write}
use Rattle.record.specs.History.{Txn}
use Rattle.inspector.specs.Ascending.{AscendsBy}

-- a write of the transaction at a place
pub record PlacedWrite : Type 0 where
  pub place : ℕ
  pub write : Write

-- those of some writes
abbrev pub placed_at : ℕ → List Write → List PlacedWrite
placed_at n ws = map (λ w. record { place = n; write = w }) ws

-- those of some transactions, from place n on
abbrev pub placed_from : ℕ → List Txn → List PlacedWrite
placed_from n [] = []
placed_from n (t ∷ ts) = placed_at n t.writes ++ placed_from (suc n) ts

-- those of one key
abbrev pub placed_for : Bytes → List PlacedWrite → List PlacedWrite
placed_for k vs = filter (λ v. same_key k v.write.key) vs

-- one is of an earlier key
abbrev pub has_earlier_key : PlacedWrite → PlacedWrite → Bool
has_earlier_key v w = key_before v.write.key w.write.key

-- none comes before one of an earlier key
abbrev pub AscendsByKey : List PlacedWrite → Type 0
AscendsByKey vs = AscendsBy has_earlier_key vs

-- one is of an earlier transaction
abbrev pub has_earlier_place : PlacedWrite → PlacedWrite → Bool
has_earlier_place v w = nat_lt v.place w.place

-- none comes before one of an earlier transaction
abbrev pub AscendsByPlace : List PlacedWrite → Type 0
AscendsByPlace vs = AscendsBy has_earlier_place vs

-- those before a place
abbrev pub before_place : ℕ → List PlacedWrite → List PlacedWrite
before_place n vs = filter (λ v. nat_lt v.place n) vs

-- the last value, where there is one; else what it was
abbrev pub last_value : List PlacedWrite → Option Bytes → Option Bytes
last_value [] x = x
last_value (v ∷ vs) x = last_value vs v.write.value

-- a key's value after some writes, from what it was
abbrev pub written : List Write → Bytes → Option Bytes → Option Bytes
written [] k x = x
written (w ∷ ws) k x = written ws k (cond (same_key k w.key) w.value x)

-- a key's value after those of some transactions that pass a test
abbrev pub shown : (Txn → Bool) → List Txn → Bytes → Option Bytes → Option Bytes
shown test [] k x = x
shown test (t ∷ ts) k x = shown test ts k (cond (test t) (written t.writes k x) x)
