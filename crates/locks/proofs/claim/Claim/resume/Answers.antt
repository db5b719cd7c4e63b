use Rattle.locks.proofs.Clashes.{ascends-filled}
use Rattle.locks.proofs.claim.Claim.resume.Goals as goal

pub invariant_of-self : goal.invariant_of-self
invariant_of-self c =
    ascends-filled c.swap.new.y c.fill.new.buffer c.swap.ensures.y_after (λ v. v.items) _ _ c.deref-2.result.now c.fill.ensures.items
    c.deref.ensures.value c.self.invariant
