use Rattle.std.proofs.Common.{◌≡◌, Result, Ok, Err}
use Rattle.std.specs.Prelude.{OnOk}
use Rattle.record.specs.Facts.{learn, or_floor}
use Rattle.record.specs.Records.{stamp_in}
use Rattle.facts.specs.Stages.{stage_after}
use Rattle.recovery.specs.Recovered.{IsRecovered}
use Rattle.recovery.proofs.Headed.{keeps_recovered}
use Rattle.recovery.proofs.replaying.keep.Goals as goal

pub returns-clause-ok : goal.returns-clause-ok
returns-clause-ok c = by_result c.keep.result c.keep.ensures.facts c.keep.ensures.stage c.keep.ensures.memory
  where
    by_result : {A E : Type 0} (r : Result A E) → OnOk r (c.keep.new.self.facts ≡ learn c.args.state.now.facts c.args.logged)
        → OnOk r (c.keep.new.self.stage ≡ stage_after c.args.state.now.stage c.args.logged)
        → OnOk r (c.keep.new.self.memory ≡ record c.args.state.now.memory { last = or_floor c.args.state.now.memory.last (stamp_in c.args.logged) })
        → OnOk r ((c.keep.new.self.facts ≡ learn c.args.state.now.facts c.args.logged)
        × (c.keep.new.self.stage ≡ stage_after c.args.state.now.stage c.args.logged) × IsRecovered c.keep.new.self)
    by_result (Ok x) facts stage memory =
        (facts, stage, keeps_recovered c.args.state.now c.keep.new.self c.args.logged c.requires.recovered c.requires.follows facts stage memory)
    by_result (Err e) facts stage memory = tt
