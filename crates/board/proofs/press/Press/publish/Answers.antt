use Rattle.std.proofs.Common.{drop, subst}
use Rattle.board.specs.Views.{Publishing, PublishesAll}
use Rattle.board.proofs.Accepts.{seen_as, publishing_keeps, publishes_all}
use Rattle.board.proofs.press.Press.publish.Goals as goal

pub invariant_of-result : goal.invariant_of-result
invariant_of-result g c =
    let x = c.self.inside.writer in
    let y = c.show-writer.result.0 in
    publishing_keeps x.desk.shown.value y.desk.shown.value (drop x.behind x.log.items)
    (drop y.behind y.log.items) c.show-writer.result.1 c.show-writer.ensures c.self.invariant.2

pub returns : goal.returns
returns g c =
    let x = c.self.inside.writer in
    let y = c.show-writer.result.0 in
    subst (λ (s : Publishing). PublishesAll s c.show-writer.result.1 (seen_as y.desk.shown.value (drop y.behind y.log.items))) c.self.view_is
    (publishes_all x.desk.shown.value y.desk.shown.value (drop x.behind x.log.items)
    (drop y.behind y.log.items) c.show-writer.result.1 c.show-writer.ensures)
