-- The transactions of the logs, log by log, with what others promised as found among the records about each.
use Rattle.std.specs.Prelude.{ℕ, cond, ◌++◌, nat_eq, List, [], flat_map, Option, Some, None}
use Rattle.units.specs.Lists.{gather, head, when}
use Rattle.record.specs.History.{Txn}
use Rattle.record.specs.Records.{as_committed, as_prepared}
use Rattle.record.specs.declared.record.Committed.{Committed}
use Rattle.record.specs.declared.record.Prepared.{Prepared}
use Rattle.record.specs.declared.record.Record.{Record}
use Rattle.inspector.specs.Entries.{About, of_txn}

-- a list, or nothing
abbrev pub or_none : {A : Type 0} → Option (List A) → List A
or_none None = []
or_none (Some xs) = xs

-- the promises among some records, but for those of one shard
abbrev pub promised_in : ℕ → List About → List Prepared
promised_in shard es = gather (λ e. cond (nat_eq e.shard shard) None (as_prepared e.item)) es

-- a decision at a shard as a transaction
abbrev pub whole_in : ℕ → Committed → List About → Txn
whole_in shard c es = record { txn = c.txn; at = c.at; writes = c.writes ++ flat_map (λ p. p.writes) (promised_in shard es) }

-- the decision as a transaction, where it stands in the log of its least part
abbrev pub decision_in : List About → ℕ → Committed → Option Txn
decision_in es shard c = cond (when (nat_eq shard) (head c.parts)) (Some (whole_in shard c (of_txn c.txn es))) None

-- the transactions that one log decides
abbrev pub decided_in : List About → ℕ × List Record → List Txn
decided_in es l = gather (decision_in es l.0) (gather as_committed l.1)
