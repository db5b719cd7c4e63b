use Rattle.shard.specs.Gathered.{seen_halted}
use Rattle.node.specs.Grouped.{taken_of}
use Rattle.node.proofs.group.take_group.Goals as goal

pub returns-in-Err-clause-failed : goal.returns-in-Err-clause-failed
returns-in-Err-clause-failed g c from h =
    let whys = c.take_inputs-refusals.result.items in
    let taken = taken_of c.args.now.now c.args.inputs.now whys in
    let with = c.take_due.ensures from taken (c.take_inputs-refusals.ensures.ahead from h) in
    record {
      due = with.0;
      dues = with.1;
      whys = whys;
      count = c.take_inputs-refusals.ensures.count;
      left = c.take_inputs-refusals.ensures.left from h;
      halted = seen_halted c.in-Err.halted;
      same = c.stop.ensures;
      failed = c.in-Err.ensures.halted from _ with.2;
    }
