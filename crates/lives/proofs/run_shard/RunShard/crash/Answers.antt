use Rattle.std.proofs.Common.{OnOk, sym, subst}
use Rattle.lives.specs.Shows.{StandsFor, crashed_within}
use Rattle.lives.proofs.Showing.{crash_in_so, crash_so, life_kept, with_life}
use Rattle.lives.proofs.run_shard.RunShard.crash.Goals as goal

pub returns-in-Ok-clause-crashed : goal.returns-in-Ok-clause-crashed
returns-in-Ok-clause-crashed c setup s h orderly =
    let old = c.args.self.now in
    let mid = with_life old c.carry-answer.new.self in
    let new = with_life old c.crash.new.self in
    subst (λ o. OnOk c.crash.result (StandsFor setup new (crashed_within setup c.args.bag.now o c.args.fate s))) (sym c.in-Some.is)
    (crash_in_so setup c.args.bag.now s c.in-Some.call c.args.fate c.in-Some.doing old mid new c.carry-answer.result c.crash.result h
    (life_kept old c.carry-answer.new.self) c.carry-answer.ensures c.in-Ok.ensures.other (life_kept mid c.crash.new.self)
    (λ t k. c.crash.ensures.crashed old.setup t k) (orderly c.in-Some.call c.in-Some.doing c.in-Some.is))

pub returns-in-None-clause-crashed : goal.returns-in-None-clause-crashed
returns-in-None-clause-crashed c setup s h orderly =
    let old = c.args.self.now in
    let new = with_life old c.crash-in-None.new.self in
    subst (λ o. OnOk c.crash-in-None.result (StandsFor setup new (crashed_within setup c.args.bag.now o c.args.fate s))) (sym c.in-None.is)
    (crash_so setup s c.args.fate old new c.crash-in-None.result h (life_kept old c.crash-in-None.new.self)
    (λ t k. c.crash-in-None.ensures.crashed old.setup t k))
