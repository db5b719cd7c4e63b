use Rattle.std.proofs.Common.{◌∙◌, List, ap, rules}
use Rattle.std.proofs.lemmas.List.Sorted.{answers_always}
use Rattle.units.proofs.KeyOrder.{before_by}
use Rattle.inspector.specs.Versions.{PlacedWrite, has_earlier_key, placed_for}
use Rattle.inspector.proofs.Sorting.{ascends_from_sorted}
use Rattle.inspector.proofs.VersionLaws.{key_order, stable_of_key}
use Rattle.inspector.proofs.versions.versions_by_key.Goals as goal

pub returns-clause-order : goal.returns-clause-order
returns-clause-order c =
    ascends_from_sorted has_earlier_key key_order _ (c.in_ok-sort_by.ensures.sorted has_earlier_key key_order
    (answers_always _ _ _ (λ f a r g h. search (rules, before_by a.0.now.write.key a.1.0.now.write.key r))))

pub returns-clause-same : goal.returns-clause-same
returns-clause-same c =
    let stable = c.sort_by.ensures.stable has_earlier_key key_order
    (answers_always _ _ _ (λ f a r g h. search (rules, before_by a.0.now.write.key a.1.0.now.write.key r))) in
    λ k. stable_of_key _ _ stable k ∙ ap (λ (l : List PlacedWrite). placed_for k l) c.in_ok-found.ensures.found
