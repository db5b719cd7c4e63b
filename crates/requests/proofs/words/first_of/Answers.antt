use Rattle.std.proofs.Common.{arith, sym}
use Rattle.std.proofs.lemmas.Grind.{common_steps}
use Rattle.requests.proofs.Clients.{first_is}
use Rattle.requests.proofs.words.first_of.Goals as goal

pub returns-else-line-at : goal.returns-else-line-at
returns-else-line-at c =
    let at = c.if-line-at.false in
    sym (first_is c.args.mark c.args.line.now c.loop-at.at c.loop-at.invariant.within c.loop-at.invariant.before (λ here. grind (arith, common_steps)))

pub returns-after-loop-at : goal.returns-after-loop-at
returns-after-loop-at c =
    let over = c.loop-at-test.false in
    sym (first_is c.args.mark c.args.line.now c.loop-at.at c.loop-at.invariant.within c.loop-at.invariant.before (λ here. grind (arith, common_steps)))
