use Rattle.std.proofs.Common.{ℕ, subst}
use Rattle.std.specs.Prelude.{IfErr, IfOk}
use Rattle.store.specs.Histories.{IsToldBy, IsUntoldBy}
use Rattle.store.proofs.histories.told_up_to.Goals as goal

pub returns-clause-told : goal.returns-clause-told
returns-clause-told g c =
    subst (λ (last : ℕ). IfOk c.told.result (λ h. IsToldBy c.args.viewer.now c.told.new.viewer c.args.key.now c.args.from last h.versions.items h.next))
    c.earlier-last.ensures c.told.ensures.told

pub returns-clause-refused : goal.returns-clause-refused
returns-clause-refused g c =
    subst (λ (last : ℕ). IfErr c.told.result (IsUntoldBy c.args.viewer.now c.told.new.viewer c.args.key.now c.args.from last))
    c.earlier-last.ensures c.told.ensures.refused
