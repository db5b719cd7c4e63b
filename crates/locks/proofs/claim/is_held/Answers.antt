use Rattle.std.proofs.Common.{◌∙◌, sym}
use Rattle.units.specs.Keys.{same_key}
use Rattle.units.specs.declared.lock.Lock.{Lock}
use Rattle.locks.proofs.Passes.{any_passed, any_found, any_ended}
use Rattle.locks.proofs.claim.is_held.Goals as goal

pub loop-lock-preserved : goal.loop-lock-preserved
loop-lock-preserved c =
    any_passed (λ (h : Lock). same_key h.key c.args.key.now) c.args.locks.now c.loop-lock.lock-index c.lock-item.result c.loop-lock-test.true c.lock-item.is
    (sym c.eq.ensures ∙ c.if-eq.false) c.loop-lock.invariant

pub returns-then-eq : goal.returns-then-eq
returns-then-eq c =
    any_found (λ (h : Lock). same_key h.key c.args.key.now) c.args.locks.now c.loop-lock.lock-index c.lock-item.result c.loop-lock-test.true c.lock-item.is
    (sym c.eq.ensures ∙ c.if-eq.true) c.loop-lock.invariant

pub returns : goal.returns
returns c =
    any_ended (λ (h : Lock). same_key h.key c.args.key.now) c.args.locks.now c.loop-lock.lock-index c.loop-lock-test.false c.loop-lock.invariant
