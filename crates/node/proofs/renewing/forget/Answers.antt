use Rattle.std.proofs.Common.{◌∙◌, ◌<◌, ◌≤◌, ap, arith, inr, rules}
use Rattle.protocol.specs.Rows.{safe}
use Rattle.shard.specs.Core.{seen}
use Rattle.node.specs.InStep.{horizon_for}
use Rattle.node.proofs.Forgot.{forgot, kept_as, kept_low, roomy}
use Rattle.node.proofs.renewing.forget.Goals as goal

pub returns-then-le-clause-kept : goal.returns-then-le-clause-kept
returns-then-le-clause-kept g c =
    let core = seen c.args.core.now in
    let past = c.in-Some.past in
    let low : c.horizon_for-at.result ≤ core.facts.horizon = (search rules) in
    kept_as c.args.past past core.memory core.facts core.facts _ c.in-Some.is c.requires.memory
    (c.horizon_for-at.ensures ∙ ap (λ s. horizon_for s c.earliest.result past.micros) c.safe-served.ensures
    ∙ ap (λ e. horizon_for (safe core.memory) e past.micros) c.earliest.ensures.value)
    (kept_low _ core.facts low)

pub returns-in-Ok-clause-kept : goal.returns-in-Ok-clause-kept
returns-in-Ok-clause-kept g c =
    let core = seen c.args.core.now in
    let past = c.in-Some.past in
    let stepped = c.in-Ok.ensures.stepped (roomy _ _ c.requires.book) in
    let high : core.facts.horizon < c.horizon_for-at.result = (search rules) in
    kept_as c.args.past past core.memory core.facts (seen c.on.new.self).facts _ c.in-Some.is c.requires.memory
    (c.horizon_for-at.ensures ∙ ap (λ s. horizon_for s c.earliest.result past.micros) c.safe-served.ensures
    ∙ ap (λ e. horizon_for (safe core.memory) e past.micros) c.earliest.ensures.value)
    (forgot core (seen c.on.new.self) _ _ _ high (omega (arith, c.horizon_for-at.ensures, c.safe-served.ensures)) stepped.done.2)

pub returns-in-Ok-clause-moment : goal.returns-in-Ok-clause-moment
returns-in-Ok-clause-moment g c keeps =
    inr (_, (c.in-Ok.ensures.stepped (roomy _ _ c.requires.book)).written.any_moment c.requires.running keeps)

pub returns-in-Err-clause-moment : goal.returns-in-Err-clause-moment
returns-in-Err-clause-moment g c keeps =
    inr (_, (c.in-Err.ensures.stepped (roomy _ _ c.requires.book)).written.any_moment c.requires.running keeps)
