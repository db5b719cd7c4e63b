use Rattle.std.proofs.Common.{◌∙◌, ap, rules}
use Rattle.std.proofs.lemmas.Map.Made.{filter_same_pairs}
use Rattle.facts.specs.Shown.{shown_entries, by_id}
use Rattle.facts.proofs.Retired.{keeps, entries_kept}
use Rattle.facts.proofs.table.retire.Goals as goal

pub returns-clause-entries : goal.returns-clause-entries
returns-clause-entries c =
    let es = c.args.statuses.now.entries in
    let left = filter_same_pairs _ (keeps c.args.below) _ (λ k v b w f' t. search rules) es c.retain.new.self.entries c.retain.ensures.filtered in
    ap (λ l. shown_entries (by_id l)) left ∙ entries_kept c.args.below es
