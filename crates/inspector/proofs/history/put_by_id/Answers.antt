use Rattle.std.proofs.Common.{rules}
use Rattle.std.proofs.lemmas.List.Sorted.{answers_always}
use Rattle.record.specs.History.{Txn}
use Rattle.inspector.proofs.IdRuns.{sorted_ascends}
use Rattle.inspector.proofs.FoundLaws.{stays_same}
use Rattle.inspector.proofs.history.put_by_id.Goals as goal

pub returns-clause-order : goal.returns-clause-order
returns-clause-order c = sorted_ascends (λ (u : Txn). u.txn) _ (c.in_ok-sort_by_key.ensures.sorted (λ u. u.txn)
    (answers_always _ _ _ (λ f a r g h. search rules)))

pub returns-clause-same : goal.returns-clause-same
returns-clause-same c = stays_same _ _ (c.sort_by_key.ensures.stable (λ u. u.txn) (answers_always _ _ _ (λ f a r g h. search rules)))
