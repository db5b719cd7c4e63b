use Rattle.std.proofs.Common.{◌∙◌, sym}
use Rattle.std.specs.List.{list_any}
use Rattle.units.specs.Locks.{locks_clash}
use Rattle.units.specs.declared.lock.Lock.{Lock}
use Rattle.locks.proofs.Clashes.{clash_one}
use Rattle.locks.proofs.Passes.{any_passed, any_found, any_ended}
use Rattle.locks.proofs.conflict.clash.Goals as goal

pub loop-lock-preserved : goal.loop-lock-preserved
loop-lock-preserved c =
    any_passed (λ (l : Lock). list_any (locks_clash l) c.args.others.now) c.args.locks.now c.loop-lock.lock-index c.lock-item.result c.loop-lock-test.true
    c.lock-item.is (sym (clash_one c.lock-item.result c.args.others.now) ∙ sym c.is_clashing.ensures ∙ c.if-is_clashing.false) c.loop-lock.invariant

pub returns-then-is_clashing : goal.returns-then-is_clashing
returns-then-is_clashing c =
    any_found (λ (l : Lock). list_any (locks_clash l) c.args.others.now) c.args.locks.now c.loop-lock.lock-index c.lock-item.result c.loop-lock-test.true
    c.lock-item.is (sym (clash_one c.lock-item.result c.args.others.now) ∙ sym c.is_clashing.ensures ∙ c.if-is_clashing.true) c.loop-lock.invariant

pub returns : goal.returns
returns c =
    any_ended (λ (l : Lock). list_any (locks_clash l) c.args.others.now) c.args.locks.now c.loop-lock.lock-index c.loop-lock-test.false
    c.loop-lock.invariant
