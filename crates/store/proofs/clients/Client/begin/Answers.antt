use Rattle.store.specs.Attempts.{Worker}
use Rattle.store.proofs.Attempts.{begins}
use Rattle.store.proofs.clients.Client.begin.Goals as goal

pub returns : goal.returns
returns g c =
    let inside = c.self.inside in
    let is = c.in_ok-tx.ensures in
    let none = c.in_ok-wire.ensures.none in
    let before : Worker = record {
      run = inside.shared.now.run;
      splits = inside.shared.now.splits;
      drawing = inside.drawer;
      traffics = inside.past;
      viewers = inside.viewers.items;
      epsilon = inside.clock.epsilon;
      from = inside.clock.from;
      readings = inside.clock.readings;
    } in
    begins before c.args.self.now c.begin.new.drawer c.in_ok-tx.tx c.in_ok-wire.wire c.begin.new.self c.self.view_is none.0 none.1
    is.wire is.splits is.begun is.source is.drawn
