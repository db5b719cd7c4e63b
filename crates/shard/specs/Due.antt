-- What a step needs so that its record may be logged and its plan carried out.
use Rattle.units.specs.ById.{IsById}
use Rattle.protocol.specs.Plan.{carried}
use Rattle.protocol.specs.Step.{facts_after}
use Rattle.protocol.specs.Sound.{IsSound}
use Rattle.memory.specs.Carry.{IsFit, MayFollow, MayInstall}
use Rattle.memory.specs.Kept.{Kept}
use Rattle.memory.specs.Plans.{plan_of}
use Rattle.memory.specs.declared.plan.Step.{Step}
use Rattle.protocol.specs.Showable.{IsShowable}

-- the rows ascend by id; it may be carried out; its record may come next, and what that installs is above the versions of its keys; and the shard
-- is sound then, and its versions may be put on a board
pub record IsDue (k : Kept) (s : Step) : Type 0 where
  pub order : IsById (λ r. r.txn) k.memory.rows
  pub fit : IsFit k s
  pub follows : MayFollow k.setup.shard k.facts s.logged
  pub installs : MayInstall k.facts s.logged
  pub sound : ∥ IsSound k.setup.shard (facts_after k.facts s.logged) (carried (plan_of k.memory.rows s) k.memory) ∥₁
  pub showable : IsShowable (facts_after k.facts s.logged) (carried (plan_of k.memory.rows s) k.memory)
