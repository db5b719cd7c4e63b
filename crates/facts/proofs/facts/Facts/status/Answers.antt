use Rattle.std.proofs.Common.{◌∙◌, ap}
use Rattle.record.specs.Facts.{recorded}
use Rattle.facts.specs.Known.{Known}
use Rattle.facts.proofs.Entries.{found_is}
use Rattle.facts.proofs.facts.Facts.status.Goals as goal

pub returns : goal.returns
returns c =
    found_is c.self.inside.statuses.entries c.args.txn _ c.get.ensures.value
    ∙ ap (λ (known : Known). recorded known.facts c.args.txn) c.self.view_is
