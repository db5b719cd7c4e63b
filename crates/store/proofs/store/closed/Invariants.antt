use Rattle.std.proofs.Common.{◌≡◌, ◌≤◌, ◌+◌, length, vec_capacity}
use Rattle.store.proofs.store.closed.Given as goal

abbrev pub invariant-loop-node : goal.invariant-loop-node
invariant-loop-node g l =
    (length l.disks.items + l.node-iterator.rest.len ≡ length l.fn.nodes.items)
    × (length l.fn.nodes.items ≤ vec_capacity l.disks)
