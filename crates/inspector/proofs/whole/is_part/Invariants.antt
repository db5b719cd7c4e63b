use Rattle.std.proofs.Common.{◌≡◌, drop}
use Rattle.units.specs.Lists.{has}
use Rattle.inspector.proofs.whole.is_part.Given as goal

abbrev pub invariant-loop-part : goal.invariant-loop-part
invariant-loop-part l = has (drop l.part-index l.parts) l.number ≡ has l.parts l.number
