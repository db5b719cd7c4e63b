use Rattle.std.proofs.Common.{length, ap, arith}
use Rattle.versions.specs.Arranged.{arranged}
use Rattle.versions.proofs.Arranged.{length_arranged}
use Rattle.versions.proofs.InPlace.{left_all}
use Rattle.versions.proofs.held.held_with_room.Goals as goal

pub returns-clause-held : goal.returns-clause-held
returns-clause-held c =
    let i = c.loop-at.invariant in
    let t = arranged c.args.installs.now c.args.places.now.places in
    left_all c.args.horizon t c.loop-at.held.items c.loop-at.at
    (omega (arith, length_arranged c.args.installs.now c.args.places.now.places, c.loop-at-test.false, ap length c.in_ok-list.ensures.places)) c.requires.order i.left
