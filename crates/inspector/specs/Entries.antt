-- The records about transactions, each with its transaction and the number of its log.
use Rattle.std.specs.Prelude.{ℕ, zero, suc, Bool, nat_eq, List, [], ◌∷◌, map, Option, filter, flat_map, option_map}
use Rattle.units.specs.Ids.{Id, same_id, older}
use Rattle.units.specs.Lists.{gather}
use Rattle.record.specs.History.{by_shard}
use Rattle.record.specs.Records.{id_in}
use Rattle.record.specs.declared.record.Record.{Record}
use Rattle.inspector.specs.Ascending.{AscendsBy}

-- a record about a transaction, with the number of its log
pub record About : Type 0 where
  pub txn : Id
  pub shard : ℕ
  pub item : Record

-- the record as one about a transaction
abbrev pub about_in : ℕ → Record → Option About
about_in n r = option_map (λ t. record { txn = t; shard = n; item = r }) (id_in r)

-- those of all logs, log by log
abbrev pub entries : List (List Record) → List About
entries logs = flat_map (λ l. gather (about_in l.0) l.1) (by_shard logs)

-- those of one transaction
abbrev pub of_txn : Id → List About → List About
of_txn t es = filter (λ e. same_id t e.txn) es

-- one is of an older transaction
abbrev pub is_older : About → About → Bool
is_older e f = older e.txn f.txn

-- none comes before one of an older transaction
abbrev pub AscendsByTxn : List About → Type 0
AscendsByTxn es = AscendsBy is_older es

-- the records of one log
abbrev pub log_numbered : ℕ → List About → List Record
log_numbered n es = map (λ e. e.item) (filter (λ e. nat_eq n e.shard) es)

-- the records of some logs, from number n on
abbrev pub logs_from : ℕ → ℕ → List About → List (List Record)
logs_from zero n es = []
logs_from (suc k) n es = log_numbered n es ∷ logs_from k (suc n) es
