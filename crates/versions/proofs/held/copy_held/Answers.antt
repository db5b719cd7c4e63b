use Rattle.std.proofs.Common.{sym, subst}
use Rattle.versions.specs.Arranged.{arranged}
use Rattle.versions.specs.Ordered.{IsInOrder}
use Rattle.versions.proofs.InPlace.{orders_held}
use Rattle.versions.proofs.Pruned.{kept-pruned}
use Rattle.versions.proofs.held.copy_held.Goals as goal

pub held_with_room-requires-clause-within : goal.held_with_room-requires-clause-within
held_with_room-requires-clause-within c = c.requires.1.within

pub held_with_room-requires-clause-order : goal.held_with_room-requires-clause-order
held_with_room-requires-clause-order c = c.requires.1.kept.order

pub returns-clause-orders : goal.returns-clause-orders
returns-clause-orders c =
    let t = arranged c.args.installs.now c.args.places.now.places in
    orders_held c.in_ok-held.held.items c.in_ok-held.order c.in_ok-held.ensures.order
    (subst (IsInOrder 4611686018427387903) (sym c.in_ok-held.ensures.held) (kept-pruned 4611686018427387903 c.args.horizon t c.requires.1.kept))
