use Rattle.std.proofs.Common.{◌∙◌, List, ap, rules}
use Rattle.std.proofs.lemmas.List.Sorted.{answers_always}
use Rattle.record.specs.declared.record.Record.TheVariants.{Abort}
use Rattle.inspector.specs.Entries.{About, of_txn}
use Rattle.inspector.proofs.IdRuns.{sorted_ascends, stable_by_id}
use Rattle.inspector.proofs.entries.entries_by_txn.Goals as goal

pub returns-clause-order : goal.returns-clause-order
returns-clause-order c = sorted_ascends (λ (e : About). e.txn) _ (c.in_ok-sort_by_key.ensures.sorted (λ e. e.txn)
    (answers_always _ _ _ (λ f a r g h. search rules)))

pub returns-clause-same : goal.returns-clause-same
returns-clause-same c =
    let stable = c.sort_by_key.ensures.stable (λ e. e.txn) (answers_always _ _ _ (λ f a r g h. search rules)) in
    λ t. stable_by_id (λ (e : About). e.txn) (record { txn = t; shard = 0; item = Abort t }) _ _ stable
    ∙ ap (λ (l : List About). of_txn t l) c.in_ok-found.ensures.found
