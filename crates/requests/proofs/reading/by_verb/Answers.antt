use Rattle.std.proofs.Common.{inr}
use Rattle.requests.proofs.Verbs.{no_verb}
use Rattle.requests.proofs.reading.by_verb.Goals as goal

pub returns-in_default : goal.returns-in_default
returns-in_default c =
    let d = c.in_default in
    inr (no_verb c.args.verb.now _ d.not-begin d.not-get d.not-put d.not-erase d.not-commit d.not-abort d.not-view d.not-end d.not-help d.not-quit d.not-keys d.not-outcome
    d.not-stats)
