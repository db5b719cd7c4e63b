-- What is known are the facts of the entries that were read.
use Rattle.std.proofs.Common.{◌≡◌, take}
use Rattle.record.specs.Facts.{facts_of}
use Rattle.facts.specs.Stages.{stage_of}
use Rattle.recovery.specs.Recovered.{items}
use Rattle.showing.proofs.learning.learn_all.Given as goal

abbrev pub invariant-loop-entry : goal.invariant-loop-entry
invariant-loop-entry l = record {
  shard : l.facts.shard ≡ l.setup.shard;
  known : l.facts.facts ≡ facts_of (items (take l.entry-index l.entries));
  stage : l.facts.stage ≡ stage_of (items (take l.entry-index l.entries));
}
