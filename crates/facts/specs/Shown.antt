-- The entries of the code, as the definition of the facts has them.
use Rattle.std.specs.Prelude.{List, [], ◌∷◌, map, Option, Some, None}
use Rattle.units.specs.Ids.{Id, same_id}
use Rattle.units.specs.ById.{with_member}
use Rattle.units.specs.Lists.{first}
use Rattle.record.specs.Records.{Unrecorded, StandsPrepared, StandsDecided, HasAborted, HasSettled, HasClosed}
use Rattle.record.specs.Records as records
use Rattle.record.specs.Facts as facts
use Rattle.facts.specs.declared.entry.Status.{Status}
use Rattle.facts.specs.declared.entry.Status.TheVariants as status

-- the status that is meant
abbrev pub meaning : Status → records.Status
meaning (status.Prepared p) = StandsPrepared p.value
meaning (status.Decided c) = StandsDecided c.value
meaning status.Aborted = HasAborted
meaning (status.Settled at parts) = HasSettled at parts
meaning (status.Closed coordinator outcome) = HasClosed coordinator outcome

-- no entry is no record
abbrev pub meant : Option Status → records.Status
meant None = Unrecorded
meant (Some s) = meaning s

-- the entries that are meant
abbrev pub shown_entries : List (Id × Status) → List facts.TxnStatus
shown_entries es = map (λ e. record { txn = e.0; status = meaning e.1 }) es

-- the entries by ascending id
abbrev pub by_id : List (Id × Status) → List (Id × Status)
by_id [] = []
by_id (e ∷ es) = with_member (λ x. x.0) (by_id es) e

-- the status of an id among some entries
abbrev pub status_in : List facts.TxnStatus → Id → records.Status
status_in es t = facts.or_unrecorded (first (λ e. same_id e.txn t) es)
