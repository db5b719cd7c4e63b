use Rattle.std.proofs.Common.{◌≡◌, ◌+◌, drop}
use Rattle.session.specs.Places.{place_among}
use Rattle.session.proofs.lists.place_among.Given as goal

abbrev pub invariant-loop-i : goal.invariant-loop-i
invariant-loop-i l = place_among l.keys l.key ≡ l.i + place_among (drop l.i l.keys) l.key
