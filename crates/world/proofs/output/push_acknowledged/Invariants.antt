use Rattle.std.proofs.Common.{◌≡◌, ◌++◌, take, flat_map}
use Rattle.world.specs.Told.{ack_in}
use Rattle.world.proofs.output.push_acknowledged.Given as goal

abbrev pub invariant-loop-envelope : goal.invariant-loop-envelope
invariant-loop-envelope l = l.lines.items ≡ l.initial.lines.items ++ flat_map (ack_in l.told.keys l.event) (take l.envelope-index l.out)
