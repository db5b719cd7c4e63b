-- The serial meaning: transactions read off the logs and applied whole, one by one, to one plain map.
use Rattle.std.specs.Prelude.{ℕ, Bool, ◌&&◌, ◌||◌, not, cond, nat_eq, nat_lt, nat_le, List, [], ◌∷◌, ◌++◌, Option, Some, None, filter, flat_map}
use Rattle.units.specs.Lists.{gather, head, when, numbered, sorted, first}
use Rattle.units.specs.Ids.{Id, same_id, older}
use Rattle.units.specs.Keys.{Bytes, same_key}
use Rattle.record.specs.Records.{as_committed, as_prepared}
use Rattle.record.specs.declared.record.Prepared.{Prepared}
use Rattle.record.specs.declared.record.Committed.{Committed}
use Rattle.units.specs.declared.writes.Write.{Write}
use Rattle.record.specs.declared.record.Record.{Record}

-- the logs, each with its shard's number
abbrev pub by_shard : List (List Record) → List (ℕ × List Record)
by_shard logs = numbered 0 logs

-- what an id promised at the shards other than one, by ascending shard
abbrev pub promised_elsewhere : List (List Record) → Id → ℕ → List Prepared
promised_elsewhere logs t shard =
    flat_map (λ l. filter (λ p. same_id p.txn t && not (nat_eq l.0 shard)) (gather as_prepared l.1)) (by_shard logs)

-- a transaction of the history: its id, its timestamp and its writes in the order in which they are applied
pub record Txn : Type 0 where
  pub txn : Id
  pub at : ℕ
  pub writes : List Write

-- a commit decision at a shard as a transaction: its own writes, then those promised elsewhere
abbrev pub whole_txn : List (List Record) → ℕ → Committed → Txn
whole_txn logs shard c =
    record { txn = c.txn; at = c.at; writes = c.writes ++ flat_map (λ p. p.writes) (promised_elsewhere logs c.txn shard) }

-- each commit decision in the log of its least part
unfoldable pub history : List (List Record) → List Txn
history logs =
    flat_map (λ l. gather (λ c. cond (when (nat_eq l.0) (head c.parts)) (Some (whole_txn logs l.0 c)) None) (gather as_committed l.1)) (by_shard logs)

-- the serial order: by timestamp, then by id
abbrev pub serial_before : Txn → Txn → Bool
serial_before a b = nat_lt a.at b.at || (nat_eq a.at b.at && older a.txn b.txn)

-- a plain map from keys to values
abbrev pub Map : Type 0
Map = Bytes → Option Bytes

-- no key has a value
abbrev pub empty : Map
empty k = None

-- the map after one write; an erasure takes the key out
abbrev pub put : Write → Map → Map
put w m = λ k. cond (same_key k w.key) w.value (m k)

-- the map after some writes
abbrev pub put_all : List Write → Map → Map
put_all [] m = m
put_all (w ∷ ws) m = put_all ws (put w m)

-- the map after some transactions, one by one, each whole
abbrev pub applied : List Txn → Map → Map
applied [] m = m
applied (t ∷ ts) m = applied ts (put_all t.writes m)

-- the transactions in the serial order
abbrev pub serial : List Txn → List Txn
serial h = sorted serial_before h

-- the map of the transactions that come before one
unfoldable pub before : List Txn → Txn → Map
before h t = applied (filter (λ u. serial_before u t) (serial h)) empty

-- the map of the transactions up to a timestamp
unfoldable pub upto : List Txn → ℕ → Map
upto h at = applied (filter (λ u. nat_le u.at at) (serial h)) empty

-- the transaction of an id
abbrev pub find_txn : List Txn → Id → Option Txn
find_txn h t = first (λ u. same_id u.txn t) h
