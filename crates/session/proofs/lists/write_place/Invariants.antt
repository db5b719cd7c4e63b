use Rattle.std.proofs.Common.{◌≡◌, ◌+◌, drop}
use Rattle.session.specs.Places.{write_place}
use Rattle.session.proofs.lists.write_place.Given as goal

abbrev pub invariant-loop-i : goal.invariant-loop-i
invariant-loop-i l = write_place l.writes l.key ≡ l.i + write_place (drop l.i l.writes) l.key
