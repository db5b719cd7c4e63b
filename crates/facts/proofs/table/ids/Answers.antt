use Rattle.std.proofs.Common.{◌≡◌, List, map, subst, sym}
use Rattle.std.specs.List.{IsDistinct}
use Rattle.std.specs.List.Sorted.{IsPermutation, IsStableBy}
use Rattle.units.specs.Ids.{Id, same_id}
use Rattle.units.specs.ById.{IsById}
use Rattle.facts.specs.Shown.{shown_entries, by_id}
use Rattle.facts.proofs.Ids.{ids_ascend, is_less, sorted_ids}
use Rattle.facts.proofs.table.ids.Goals as goal

are_sorted : (c : goal.In_ok-sort) → c.sort.new.self.items ≡ map (λ e. e.txn) (shown_entries (by_id c.args.statuses.now.entries))
are_sorted c =
    let came = c.in_ok-ids.ensures.ids in
    sorted_ids c.args.statuses.now.entries c.sort.new.self.items c.in_ok-sort.ensures.sorted
    (subst (λ (xs : List Id). IsStableBy is_less xs c.sort.new.self.items) came c.sort.ensures.stable)
    (subst (λ (xs : List Id). IsPermutation xs c.sort.new.self.items) came c.sort.ensures.permutation)
    (subst (λ (xs : List Id). IsDistinct same_id xs) came c.in_ok-ids.ensures.once)

pub returns-clause-ids : goal.returns-clause-ids
returns-clause-ids c = are_sorted c

pub returns-clause-order : goal.returns-clause-order
returns-clause-order c = subst (IsById (λ t. t)) (sym (are_sorted c)) (ids_ascend c.args.statuses.now.entries)
