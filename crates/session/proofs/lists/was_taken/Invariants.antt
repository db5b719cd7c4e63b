use Rattle.std.specs.List.{list_any}
use Rattle.std.proofs.Common.{◌≡◌, drop}
use Rattle.units.specs.Keys.{same_key}
use Rattle.session.proofs.lists.was_taken.Given as goal

abbrev pub invariant-loop-answered : goal.invariant-loop-answered
invariant-loop-answered l = list_any (λ a. same_key a.key l.key) (drop l.answered-index l.taken) ≡ list_any (λ a. same_key a.key l.key) l.taken
