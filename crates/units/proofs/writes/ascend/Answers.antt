use Rattle.std.proofs.Common.{rules}
use Rattle.std.proofs.lemmas.List.Sorted.{answers_always}
use Rattle.units.specs.Keys.{write_before}
use Rattle.units.proofs.InOrder.{ascends_by}
use Rattle.units.proofs.KeyOrder.{before_by}
use Rattle.units.proofs.writes.ascend.Goals as goal

pub returns : goal.returns
returns c =
    ascends_by write_before c.args.writes.now _ (c.is_sorted_by.ensures.cases write_before
    (answers_always _ _ _ (λ f a r g h. search (rules, before_by a.0.now.key a.1.0.now.key))))
