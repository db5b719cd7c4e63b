use Rattle.std.proofs.Common.{◌≡◌, ◌∙◌, ◌++◌, List, map, ap, subst, sym}
use Rattle.std.specs.List.{IsDistinct}
use Rattle.std.proofs.lemmas.List.{append-nil}
use Rattle.units.specs.Ids.{Id, same_id}
use Rattle.facts.proofs.table.ids_as_they_came.Goals as goal

all_came : (c : goal.In-None) → c.loop-txn.ids.items ≡ map (λ e. e.0) c.args.statuses.now.entries
all_came c =
    sym (append-nil c.loop-txn.ids.items) ∙ ap (λ (rest : List Id). c.loop-txn.ids.items ++ rest) (sym c.in-None.ensures.steps.0) ∙ c.loop-txn.invariant

pub returns-clause-ids : goal.returns-clause-ids
returns-clause-ids c = all_came c

pub returns-clause-once : goal.returns-clause-once
returns-clause-once c = subst (IsDistinct same_id) (sym (all_came c)) c.keys-txn-items.ensures.unique
