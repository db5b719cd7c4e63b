use Rattle.std.proofs.Common.{◌∙◌, List, refl, subst}
use Rattle.units.specs.Ids.{Id}
use Rattle.protocol.specs.Cells.{plan_granted}
use Rattle.memory.proofs.States.{planned-ok}
use Rattle.participant.specs.ByMessage.{MakesGrantedRead}
use Rattle.participant.proofs.reads.resume_read.Goals as goal

pub returns-in_default-clause-planned : goal.returns-in_default-clause-planned
unfolding plan_granted
returns-in_default-clause-planned c = λ earliest. refl

pub returns-clause-planned : goal.returns-clause-planned
unfolding plan_granted
returns-clause-planned c = λ earliest.
    let k = c.args.state.now in
    planned-ok k _ c.grant.result
    (subst (λ (ended : List Id). MakesGrantedRead k ended c.args.txn c.args.key.now c.grant.result) (c.from_vec-nobody.ensures ∙ c.new.ensures.items)
    c.grant.ensures.plan)
    c.grant.ensures.memory
