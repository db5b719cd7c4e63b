use Rattle.std.proofs.Common.{refl, None}
use Rattle.facts.specs.Shown.{shown_entries, by_id}
use Rattle.facts.specs.Stages.{stage_of}
use Rattle.record.specs.Facts.{facts_of}
use Rattle.record.specs.Installs.{installs_of}
use Rattle.facts.proofs.facts.Facts.new.Goals as goal

pub returns-clause-facts : goal.returns-clause-facts
unfolding facts_of installs_of
returns-clause-facts c = λ i. record {
  epoch = 0;
  floor = c.zero.ensures i;
  entries = shown_entries (by_id (c.new.ensures.empty i));
  installs = c.new-2.ensures.items i;
  horizon = c.zero-2.ensures i;
  retired = None;
}

pub returns-clause-stage : goal.returns-clause-stage
unfolding stage_of
returns-clause-stage c = refl
