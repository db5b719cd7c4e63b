-- The records that were read are no base.
use Rattle.std.proofs.Common.{◌≡◌, drop}
use Rattle.record.specs.Verdict.{has_base}
use Rattle.inspector.proofs.verdict.has_base.Given as goal

abbrev pub invariant-loop-item : goal.invariant-loop-item
invariant-loop-item l = has_base (drop l.item-index l.log) ≡ has_base l.log
