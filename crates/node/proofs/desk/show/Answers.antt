use Rattle.std.proofs.Common.{◌++◌, ◌∙◌}
use Rattle.board.specs.Views.{Publishing}
use Rattle.node.proofs.InStep.{safe_lawful, published_in_step, horizon_stays, published_shows}
use Rattle.node.proofs.desk.show.Goals as goal

pub safe-requires : goal.safe-requires
safe-requires g c =
    let one : Publishing = c.hand_horizon.new.publisher in
    safe_lawful c.args.installs.now c.args.safe c.hand_over.new.handed c.args.horizon (one.published ++ one.pending) c.hand_horizon.ensures.step
    c.in_ok-hand_over.ensures.all

pub returns-clause-step : goal.returns-clause-step
returns-clause-step g c =
    let one : Publishing = c.hand_horizon.new.publisher in
    let two : Publishing = c.safe.new.self in
    published_in_step c.args.installs.now c.args.safe c.hand_over.new.handed c.args.horizon one two c.publish.new.self c.hand_horizon.ensures.step
    c.in_ok-hand_over.ensures.all c.in_ok-safe.ensures c.publish.result c.publish.ensures

pub returns-clause-told : goal.returns-clause-told
returns-clause-told g c =
    let one : Publishing = c.hand_horizon.new.publisher in
    let two : Publishing = c.safe.new.self in
    horizon_stays c.args.installs.now c.args.safe c.hand_over.new.handed c.args.horizon one two c.publish.new.self c.hand_horizon.ensures.step
    c.in_ok-hand_over.ensures.all c.in_ok-safe.ensures c.hand_horizon.new.told c.publish.result c.hand_horizon.ensures.told c.publish.ensures

pub returns-clause-shown : goal.returns-clause-shown
returns-clause-shown g c =
    let one : Publishing = c.hand_horizon.new.publisher in
    let two : Publishing = c.safe.new.self in
    let before = c.hand_over.ensures.published in
    let after = c.hand_horizon.ensures.published in
    published_shows c.args.installs.now c.args.safe c.hand_over.new.handed c.args.horizon one two c.publish.new.self c.hand_horizon.ensures.step
    c.in_ok-hand_over.ensures.all c.in_ok-safe.ensures c.args.publisher.now (after.0 ∙ before.0, after.1 ∙ before.1)
    (c.hand_horizon.ensures.told ∙ c.in_ok-hand_horizon.ensures.raised) c.publish.result c.publish.ensures
