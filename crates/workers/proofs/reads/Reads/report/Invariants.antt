use Rattle.std.proofs.Common.{◌≡◌, ◌++◌, ◌∷◌}
use Rattle.units.specs.declared.line.Line.TheVariants.{Ack}
use Rattle.workers.specs.Turns.{read_lines}
use Rattle.workers.proofs.reads.Reads.report.Given as goal

abbrev pub invariant-loop-one : goal.invariant-loop-one
invariant-loop-one l = record {
  whole : l.yielded ++ l.one-iterator.rest.items ≡ l.fn.self.asked.items;
  lines : l.lines.items ≡ l.fn.lines.items ++ Ack l.fn.self.txn l.fn.at l.fn.moment ∷ read_lines l.fn.self.txn l.yielded;
}
