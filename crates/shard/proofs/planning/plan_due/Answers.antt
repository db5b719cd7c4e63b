use Rattle.std.proofs.Common.{Result, Ok, Err, IfOk}
use Rattle.std.proofs.Math.Logic.{∥∥₁_map}
use Rattle.units.specs.Limits.{most_rows}
use Rattle.units.specs.declared.fault.Fault.{Fault}
use Rattle.protocol.specs.Plan.{carried}
use Rattle.protocol.specs.Showable.{KeepsShowable}
use Rattle.protocol.specs.Step.{plan_input}
use Rattle.memory.specs.Carry.{IsFit}
use Rattle.memory.specs.Kept.{IsPlanned, start_of}
use Rattle.memory.specs.Plans.{plan_of}
use Rattle.memory.specs.declared.plan.Step.{Step}
use Rattle.shard.specs.Due.{IsDue}
use Rattle.shard.proofs.Plans.{is_due}
use Rattle.shard.proofs.Showable.{showable_then}
use Rattle.shard.proofs.planning.plan_due.Goals as goal

pub returns-clause-due : goal.returns-clause-due
returns-clause-due c = by_result c.plan_input.result c.plan_input.ensures.planned c.plan_input.ensures.fit
  where
    by_result : (r : Result Step Fault)
        → IsPlanned c.args.state.now (plan_input c.args.state.now.setup (start_of c.args.state.now) c.args.now.now c.args.input.now) r
        → IfOk r (IsFit c.args.state.now) → IfOk r (IsDue c.args.state.now)
    by_result (Ok p) planned fit =
        is_due c.args.state.now c.args.now.now c.args.input.now p c.writes_ascend.ensures.limit planned
        c.step_keeps_sound.ensures c.logged_follows.ensures c.installs_above.ensures c.requires.sound fit
        (showable_then c.args.state.now c.args.now.now c.args.input.now p c.writes_ascend.ensures.limit c.writes_ascend.ensures.order
        planned c.step_keeps_showable.ensures c.requires.sound c.requires.showable)
    by_result (Err fault) planned fit = tt

pub returns-clause-shows : goal.returns-clause-shows
returns-clause-shows c = by_result c.plan_input.result c.plan_input.ensures.planned
  where
    by_result : (r : Result Step Fault)
        → IsPlanned c.args.state.now (plan_input c.args.state.now.setup (start_of c.args.state.now) c.args.now.now c.args.input.now) r
        → IfOk r (λ p. ∥ KeepsShowable c.args.state.now.facts c.args.state.now.memory p.logged
        (carried (plan_of c.args.state.now.memory.rows p) c.args.state.now.memory) ∥₁)
    by_result (Ok p) planned =
        let k = c.args.state.now in
        ∥∥₁_map c.requires.sound (λ s. c.step_keeps_showable.ensures most_rows k.setup k.facts k.memory c.args.now.now c.args.input.now
        (plan_of k.memory.rows p) c.writes_ascend.ensures.limit c.writes_ascend.ensures.order s c.requires.showable planned)
    by_result (Err fault) planned = tt
