-- The figures of each line are of its own durations.
use Rattle.std.proofs.Common.{◌≡◌, rules, subst, string_bytes}
use Rattle.progress.specs.Table.{IsTable, head_text}
use Rattle.progress.specs.Tally.{Tally}
use Rattle.progress.proofs.Percentiles.{stacked}
use Rattle.progress.proofs.progress.Progress.table.Goals as goal

pub returns : goal.returns
returns c =
    let head : string_bytes c.push_str.new.self ≡ head_text = search rules in
    subst (λ (t : Tally). IsTable t (string_bytes c.push_row-3.new.text)) c.self.view_is (
      c.in_ok-push_row.ensures.0,
      c.in_ok-push_row-2.ensures.0,
      c.in_ok-push_row-3.ensures.0,
      c.in_ok-push_row.ensures.1,
      c.in_ok-push_row-2.ensures.1,
      c.in_ok-push_row-3.ensures.1,
      stacked (string_bytes c.push_str.new.self) _ _ _ head_text _ _ _ head c.in_ok-push_row.ensures.2
          c.in_ok-push_row-2.ensures.2 c.in_ok-push_row-3.ensures.2,
    )
