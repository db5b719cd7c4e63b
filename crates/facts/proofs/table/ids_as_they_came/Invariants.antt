use Rattle.std.proofs.Common.{◌≡◌, ◌++◌, map}
use Rattle.facts.proofs.table.ids_as_they_came.Given as goal

abbrev pub invariant-loop-txn : goal.invariant-loop-txn
invariant-loop-txn l = l.ids.items ++ l.txn-iterator ≡ map (λ e. e.0) l.statuses.entries
