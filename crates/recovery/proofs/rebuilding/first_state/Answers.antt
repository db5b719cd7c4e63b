use Rattle.std.proofs.Common.{◌≡◌, ◌∙◌, [], ◌∷◌, true, sym, ap, subst}
use Rattle.std.proofs.lemmas.Result.{IfOk-weaker}
use Rattle.std.specs.Prelude.{Result, Ok, Err, IfOk}
use Rattle.units.specs.declared.fault.Fault.{Fault}
use Rattle.record.specs.Facts.{facts_of, learn}
use Rattle.record.specs.declared.record.Record.{Record}
use Rattle.facts.specs.Stages.{stage_after, stage_of}
use Rattle.facts.specs.declared.stage.Stage.TheVariants.{Head, Open}
use Rattle.memory.specs.Kept.{Kept}
use Rattle.recovery.specs.Recovered.{IsRecovered, base_in, is_first}
use Rattle.recovery.proofs.First.{base_is, base_recovered, base_stage, first_recovered, learnt_first}
use Rattle.recovery.proofs.rebuilding.first_state.Goals as goal

pub returns-in-Some-clause-stage : goal.returns-in-Some-clause-stage
returns-in-Some-clause-stage c =
    let e = c.in-Some.found.0 in
    let f = c.in-Some.found.1 in
    let n = c.in-Some.found.2 in
    let is : c.args.item.now ≡ Record.Base e f n = base_is c.args.item.now e f n (sym c.base_in.ensures ∙ c.in-Some.is) in
    IfOk-weaker c.based.result _ _ (λ s same. same ∙ base_stage e f n ∙ ap (stage_after (stage_of [])) (sym is)) c.based.ensures.stage

pub returns-in-Some-clause-recovered : goal.returns-in-Some-clause-recovered
returns-in-Some-clause-recovered c = by_result c.based.result c.based.ensures.facts c.based.ensures.stage c.based.ensures.empty
  where
    is : c.args.item.now ≡ Record.Base c.in-Some.found.0 c.in-Some.found.1 c.in-Some.found.2
    is = base_is c.args.item.now c.in-Some.found.0 c.in-Some.found.1 c.in-Some.found.2 (sym c.base_in.ensures ∙ c.in-Some.is)

    by_result : (r : Result Kept Fault) →
        IfOk r (λ s. s.facts ≡ learn (facts_of []) (Record.Base c.in-Some.found.0 c.in-Some.found.1 c.in-Some.found.2)) → IfOk r (λ s. s.stage ≡ Head)
        → IfOk r (λ s. s.memory ≡ record { last = c.in-Some.found.1; rows = []; ended = [] }) → IfOk r IsRecovered
    by_result (Ok s) facts stage memory =
        base_recovered s c.in-Some.found.0 c.in-Some.found.1 c.in-Some.found.2 (subst (λ (r : Record). is_first r
        ≡ true) is c.requires.first) facts stage memory
    by_result (Err x) facts stage memory = tt

pub returns-in-None-clause-facts : goal.returns-in-None-clause-facts
returns-in-None-clause-facts c =
    IfOk-weaker c.fresh.result _ _ (λ s same. same ∙ learnt_first c.args.item.now c.requires.first (sym c.base_in.ensures ∙ c.in-None.is)) c.fresh.ensures.facts

pub returns-in-None-clause-recovered : goal.returns-in-None-clause-recovered
returns-in-None-clause-recovered c = by_result c.fresh.result c.fresh.ensures.facts c.fresh.ensures.stage c.fresh.ensures.empty
  where
    by_result : (r : Result Kept Fault) → IfOk r (λ s. s.facts ≡ facts_of (Record.Opened 1 ∷ [])) → IfOk r (λ s. s.stage ≡ Open)
        → IfOk r (λ s. s.memory ≡ record { last = 0; rows = []; ended = [] }) → IfOk r IsRecovered
    by_result (Ok s) facts stage memory = first_recovered s facts stage memory
    by_result (Err x) facts stage memory = tt
