use Rattle.memory.proofs.Admission.{admission_is_unseen, may_ask_by, ready_is_carriable}
use Rattle.memory.proofs.carry.ready_plans_can_be_carried.Goals as goal

pub returns-clause-unseen : goal.returns-clause-unseen
returns-clause-unseen c = admission_is_unseen

pub returns-clause-carriable : goal.returns-clause-carriable
returns-clause-carriable c = ready_is_carriable

pub returns-clause-asks : goal.returns-clause-asks
returns-clause-asks c = may_ask_by
