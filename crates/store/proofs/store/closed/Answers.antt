use Rattle.std.proofs.Common.{◌≡◌, ◌+◌, ◌<◌, ◌≤◌, ℕ, arith}
use Rattle.store.proofs.store.closed.Goals as goal

-- one more has room, if some are left
fits : (disks left rest all room : ℕ) → disks + left ≡ all → all ≤ room → rest + 1 ≡ left → disks < room
fits disks left rest all room whole few next = omega (arith, whole, few, next)

pub push_reserved-requires : goal.push_reserved-requires
push_reserved-requires g c =
    let here = fits _ _ _ _ _ c.loop-node.invariant.0 c.loop-node.invariant.1 c.in-Some.ensures.steps.1 in
    omega (arith, here, c.loop-node.disks.ok.0)
