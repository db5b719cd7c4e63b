use Rattle.std.proofs.Common.{◌≡◌, ◌&&◌, drop, map, not, true, IfSome}
use Rattle.units.specs.Lists.{first}
use Rattle.record.specs.Accepted.{is_kept}
use Rattle.record.specs.Whole.{is_whole}
use Rattle.inspector.specs.Entries.{logs_from, of_txn}
use Rattle.inspector.proofs.torn.first_among.Given as goal

abbrev pub invariant-loop-entry : goal.invariant-loop-entry
invariant-loop-entry l = record {
  rest : first (λ t. is_kept l.retired t && not (is_whole t (logs_from l.count 0 (of_txn t l.found)))) (map (λ e. e.txn) (drop l.entry-index l.found))
      ≡ first (λ t. is_kept l.retired t && not (is_whole t (logs_from l.count 0 (of_txn t l.found)))) (map (λ e. e.txn) l.found);
  known : IfSome l.last (λ t. is_whole t (logs_from l.count 0 (of_txn t l.found)) ≡ true);
}
