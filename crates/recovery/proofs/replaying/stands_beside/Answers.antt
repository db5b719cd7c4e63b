use Rattle.std.proofs.Common.{rules, ◌≡◌, ◌∙◌, ◌&&◌, not, ap}
use Rattle.protocol.specs.Plan.{opens}
use Rattle.memory.specs.Kept.{start_of}
use Rattle.recovery.proofs.Beside.{stands_are}
use Rattle.recovery.proofs.replaying.stands_beside.Goals as goal

pub returns-clause-stands : goal.returns-clause-stands
returns-clause-stands c =
    let all : c.if-is_late.result ≡ (not c.is_crowded-is_crowded.result && c.opens-is_free.result && c.lt-is_late.result && c.takes-is_above.result) =
    (search rules) in
    all
    ∙ stands_are c.args.state.now c.args.txn c.args.at c.args.reads.now c.args.writes.now c.is_crowded-is_crowded.result c.opens-is_free.result
    c.lt-is_late.result c.takes-is_above.result
    c.requires.recovered c.requires.absent c.is_crowded-is_crowded.ensures.crowded
    (c.opens-is_free.ensures ∙ ap (opens (start_of c.args.state.now) c.args.txn) (c.deref.ensures.value ∙ c.in_ok-needs.ensures.locks))
    (search rules) c.takes-is_above.ensures
