use Rattle.std.proofs.Common.{rules}
use Rattle.std.proofs.lemmas.List.Sorted.{answers_always}
use Rattle.inspector.proofs.SerialOrder.{serial_is}
use Rattle.inspector.proofs.history.put_in_order.Goals as goal

pub returns-clause-serial : goal.returns-clause-serial
returns-clause-serial c =
    serial_is _ _ (c.in_ok-sort_by_key.ensures.sorted (λ t. (t.at, t.txn)) (answers_always _ _ _ (λ f a r g h. search rules)))
    (c.sort_by_key.ensures.stable (λ t. (t.at, t.txn)) (answers_always _ _ _ (λ f a r g h. search rules)))
