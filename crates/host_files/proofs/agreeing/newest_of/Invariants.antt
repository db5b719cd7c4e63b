use Rattle.std.proofs.Common.{◌≡◌, map}
use Rattle.std.specs.Prelude.{drop, max}
use Rattle.units.specs.Lists.{greatest}
use Rattle.host_files.proofs.agreeing.newest_of.Given as goal

-- the greatest so far, or of the rest, is that of all
abbrev pub invariant-loop-one : goal.invariant-loop-one
invariant-loop-one l =
    max l.newest.at (greatest (map (λ one. one.facts.facts.floor) (drop l.one-index l.all))) ≡ greatest (map (λ one. one.facts.facts.floor) l.all)
