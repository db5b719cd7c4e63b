use Rattle.units.specs.Versions.{at_time}
use Rattle.board.proofs.Continuing.{first_step, later_step}
use Rattle.board.proofs.history.first_part.Goals as goal

pub loop-version-init : goal.loop-version-init
loop-version-init c =
    first_step (at_time c.args.versions.now.installs c.args.key.now) c.args.key.now c.args.from c.args.to c.first_time.result c.note.new.history.next
    c.new.result.items c.note.new.history.versions.items c.new.ensures.items c.first_time.ensures c.in_ok-note.ensures.history

pub loop-version-preserved : goal.loop-version-preserved
loop-version-preserved c =
    later_step (at_time c.args.versions.now.installs c.args.key.now) c.args.key.now c.args.from c.args.to c.loop-version.history.next
    c.note-in-loop-version.new.history.next c.loop-version.history.versions.items c.note-in-loop-version.new.history.versions.items
    c.loop-version.invariant c.in_ok-note-2.ensures.history
