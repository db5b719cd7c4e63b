use Rattle.std.proofs.Common.{◌≡◌, ◌++◌}
use Rattle.world.proofs.output.put_all.Given as goal

abbrev pub invariant-loop-envelope : goal.invariant-loop-envelope
invariant-loop-envelope l = l.bag ≡ l.initial.bag ++ l.yielded
