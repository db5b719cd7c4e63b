use Rattle.std.proofs.Common.{sym, subst}
use Rattle.session.specs.Shown.{IsWithinLimits}
use Rattle.session.proofs.Kept.{kept_doomed}
use Rattle.session.proofs.taking.Tx+Open.doom_by.Goals as goal

pub invariant_of-self : goal.invariant_of-self
invariant_of-self c =
    let i = c.self.inside in
    subst (λ aw. IsWithinLimits i.taken.items aw i.writes.items) (sym c.drop_key.ensures.same)
    (kept_doomed i.taken.items i.awaited.items i.writes.items c.args.key c.self.invariant)
