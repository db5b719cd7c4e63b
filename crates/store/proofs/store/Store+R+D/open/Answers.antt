use Rattle.std.proofs.Common.{arith}
use Rattle.store.proofs.store.Store+R+D.open.Goals as goal

-- there are as many viewers as clients, and these are within their limits
pub invariant_of-result : goal.invariant_of-result
invariant_of-result g c =
    let many = c.in_ok-opened.ensures.viewers in
    let few = c.in-Ok.ensures.few in (omega (arith, few.0, many), omega (arith, few.1, many))
