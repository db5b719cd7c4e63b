use Rattle.std.proofs.Common.{◌<◌, sym, subst, Some}
use Rattle.record.specs.Facts.{Facts}
use Rattle.memory.specs.Carry.{MayFollow}
use Rattle.memory.proofs.Logged.{next_of, stays_opened}
use Rattle.memory.proofs.carry.learn.Goals as goal

pub learn-requires-clause-follows : goal.learn-requires-clause-follows
learn-requires-clause-follows c =
    next_of c.args.ledger.now.shard c.args.ledger.now.stage c.args.ledger.now.facts c.in-Some.item
    (subst (MayFollow c.args.ledger.now.shard c.args.ledger.now.facts) c.in-Some.is c.requires.follows)

pub returns-in-Some-clause-opened : goal.returns-in-Some-clause-opened
returns-in-Some-clause-opened c =
    let follows : MayFollow c.args.ledger.now.shard c.args.ledger.now.facts (Some c.in-Some.item) =
    subst (MayFollow c.args.ledger.now.shard c.args.ledger.now.facts) c.in-Some.is c.requires.follows in
    subst (λ (f : Facts). 0 < f.epoch) (sym c.learn.ensures.facts)
    (stays_opened c.args.ledger.now.shard c.args.ledger.now.facts c.in-Some.item c.requires.opened follows)
