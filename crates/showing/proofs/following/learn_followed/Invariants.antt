-- What is known are the facts of the entries that were read, each of which follows those before it.
use Rattle.std.proofs.Common.{◌≡◌, [], IsTrue, take, drop}
use Rattle.record.specs.Accepted.{followed}
use Rattle.record.specs.Facts.{facts_of}
use Rattle.facts.specs.Stages.{stage_of}
use Rattle.inspection.specs.Files.{records_behind}
use Rattle.recovery.specs.Recovered.{items}
use Rattle.showing.proofs.following.learn_followed.Given as goal

abbrev pub invariant-loop-entry : goal.invariant-loop-entry
invariant-loop-entry l = record {
  shard : l.facts.shard ≡ l.fn.shard;
  known : l.facts.facts ≡ facts_of (items (take l.entry-index l.entries));
  stage : l.facts.stage ≡ stage_of (items (take l.entry-index l.entries));
  followed : IsTrue (followed l.fn.shard (items (take l.entry-index l.entries)));
  rest : records_behind l.fn.shard [] l.entries
      ≡ records_behind l.fn.shard (items (take l.entry-index l.entries)) (drop l.entry-index l.entries);
}
