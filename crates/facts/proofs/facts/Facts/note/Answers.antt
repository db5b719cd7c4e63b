use Rattle.std.proofs.Common.{◌≡◌, true, subst}
use Rattle.record.specs.declared.record.Record.{Record}
use Rattle.facts.specs.Stages.{follows_next}
use Rattle.facts.proofs.Nexts.{outcome_next}
use Rattle.facts.proofs.facts.Facts.note.Goals as goal

pub end-requires-clause-follows : goal.end-requires-clause-follows
end-requires-clause-follows c =
    let known = c.args.self.now in
    outcome_next known.shard known.stage known.facts c.in-Outcome.txn c.in-Outcome.outcome
    (subst (λ (r : Record). follows_next known.shard known.stage known.facts r ≡ true) c.in-Outcome.is c.requires.follows)
