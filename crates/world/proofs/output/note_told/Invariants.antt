use Rattle.std.proofs.Common.{◌≡◌, ◌||◌, take, flat_map}
use Rattle.units.specs.Ids.{Id}
use Rattle.world.specs.Among.{is_among}
use Rattle.world.specs.Told.{told_in}
use Rattle.world.proofs.output.note_told.Given as goal

abbrev pub invariant-loop-envelope : goal.invariant-loop-envelope
invariant-loop-envelope l = (t : Id) → is_among l.told.keys t ≡ (is_among l.initial.told.keys t || is_among (flat_map told_in (take l.envelope-index l.out)) t)
