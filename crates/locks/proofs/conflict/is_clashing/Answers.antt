use Rattle.std.proofs.Common.{◌∙◌, ◌||◌, false, [], ◌∷◌, ap, sym}
use Rattle.std.specs.List.{list_any}
use Rattle.units.specs.Locks.{locks_clash}
use Rattle.units.specs.declared.lock.Lock.{Lock}
use Rattle.locks.proofs.Passes.{any_passed, any_found, any_ended}
use Rattle.locks.proofs.conflict.is_clashing.Goals as goal

pub loop-held-preserved : goal.loop-held-preserved
loop-held-preserved c =
    any_passed (λ (h : Lock). list_any (locks_clash h) (c.args.lock.now ∷ [])) c.args.locks.now c.loop-held.held-index c.held-item.result
    c.loop-held-test.true c.held-item.is (ap (λ b. b || false) (sym c.locks_clash.ensures ∙ c.if-locks_clash.false)) c.loop-held.invariant

pub returns-then-locks_clash : goal.returns-then-locks_clash
returns-then-locks_clash c =
    any_found (λ (h : Lock). list_any (locks_clash h) (c.args.lock.now ∷ [])) c.args.locks.now c.loop-held.held-index c.held-item.result
    c.loop-held-test.true c.held-item.is (ap (λ b. b || false) (sym c.locks_clash.ensures ∙ c.if-locks_clash.true)) c.loop-held.invariant

pub returns : goal.returns
returns c =
    any_ended (λ (h : Lock). list_any (locks_clash h) (c.args.lock.now ∷ [])) c.args.locks.now c.loop-held.held-index c.loop-held-test.false
    c.loop-held.invariant
