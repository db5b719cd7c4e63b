use Rattle.std.proofs.Common.{◌≡◌, [], IsTrue, drop}
use Rattle.record.specs.Accepted.{followed}
use Rattle.record.specs.Facts.{facts_of}
use Rattle.facts.specs.Stages.{stage_of}
use Rattle.inspection.specs.Files.{records_behind}
use Rattle.inspection.proofs.following.records_of.Given as goal

abbrev pub invariant-loop-entry : goal.invariant-loop-entry
invariant-loop-entry l = record {
  shard : l.facts.shard ≡ l.fn.shard;
  known : l.facts.facts ≡ facts_of l.records.items;
  stage : l.facts.stage ≡ stage_of l.records.items;
  followed : IsTrue (followed l.fn.shard l.records.items);
  rest : records_behind l.fn.shard [] l.entries ≡ records_behind l.fn.shard l.records.items (drop l.entry-index l.entries);
}
