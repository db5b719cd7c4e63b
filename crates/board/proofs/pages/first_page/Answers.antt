use Rattle.std.specs.Option.{option_copied}
use Rattle.board.specs.Pages.{value_by}
use Rattle.board.proofs.Listing.{first_step, later_step}
use Rattle.board.proofs.pages.first_page.Goals as goal

pub loop-visit-init : goal.loop-visit-init
loop-visit-init c =
    first_step (value_by c.args.home.now c.args.versions.now.installs c.args.at) c.args.from.now (option_copied c.args.to) c.cut_off.result
    c.visit.new.page.next c.new.result.items c.visit.new.page.keys.items c.new.ensures.items c.cut_off.ensures c.in_ok-visit.ensures

pub loop-visit-preserved : goal.loop-visit-preserved
loop-visit-preserved c =
    later_step (value_by c.args.home.now c.args.versions.now.installs c.args.at) c.args.from.now (option_copied c.args.to) c.loop-visit.page.next
    c.visit-in-loop-visit.new.page.next c.loop-visit.page.keys.items c.visit-in-loop-visit.new.page.keys.items c.loop-visit.invariant c.in_ok-visit-2.ensures
