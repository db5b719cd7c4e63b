use Rattle.std.specs.List.{list_all}
use Rattle.std.proofs.Common.{◌≡◌, drop, nat_lt}
use Rattle.inspector.proofs.whole.exist.Given as goal

abbrev pub invariant-loop-part : goal.invariant-loop-part
invariant-loop-part l = list_all (λ n. nat_lt n l.count) (drop l.part-index l.parts) ≡ list_all (λ n. nat_lt n l.count) l.parts
