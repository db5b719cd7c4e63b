use Rattle.std.proofs.Common.{length}
use Rattle.versions.proofs.Orders.{orders_forgotten}
use Rattle.versions.proofs.placed.Places.forget.Goals as goal

pub returns-clause-orders : goal.returns-clause-orders
returns-clause-orders c = λ before o.
    let done = c.forget.ensures in
    orders_forgotten before c.args.horizon c.args.installs.now c.args.self.now c.forget.new.places o done.items
    (done.within (length c.args.installs.now) o.within) done.heads done.fewer
