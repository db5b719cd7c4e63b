use Rattle.std.proofs.Common.{◌≡◌, ◌∙◌, inr, [], ◌∷◌, true, false, Some, None, sym, ap}
use Rattle.std.specs.Prelude.{Result, Ok, Err, OnOk}
use Rattle.record.specs.Accepted.{belongs}
use Rattle.record.specs.Facts.{facts_of}
use Rattle.facts.specs.Stages.{stage_of}
use Rattle.units.specs.declared.fault.Fault.{Fault}
use Rattle.recovery.specs.Recovered.{fault_next, is_first}
use Rattle.recovery.proofs.First.{first_refused, first_taken}
use Rattle.recovery.proofs.rebuilding.begin.Goals as goal

pub returns-then-not-is_first-clause-refused : goal.returns-then-not-is_first-clause-refused
returns-then-not-is_first-clause-refused c =
    let e = c.args.entry.now in
    let own : belongs c.args.setup.now e.item ≡ true = ap (belongs c.args.setup.now) (sym c.item.ensures) ∙ sym c.belongs.ensures ∙ c.if-not-belongs.false in
    let other : is_first e.item ≡ false = ap is_first (sym c.item-2.ensures) ∙ sym c.is_first.ensures ∙ c.if-not-is_first.true in
    inr (first_refused c.args.setup.now e own other ∙ ap Some (sym c.damage_at.ensures))

pub returns-clause-next : goal.returns-clause-next
returns-clause-next c =
    let e = c.args.entry.now in
    let own : belongs c.args.setup.now e.item ≡ true = ap (belongs c.args.setup.now) (sym c.item.ensures) ∙ sym c.belongs.ensures ∙ c.if-not-belongs.false in
    let first : is_first e.item ≡ true = ap is_first (sym c.item-2.ensures) ∙ sym c.is_first.ensures ∙ c.if-not-is_first.false in
    by_result c.first_state.result (first_taken c.args.setup.now e own first)
  where
    by_result : {A : Type 0} (r : Result A Fault) → fault_next c.args.setup.now (stage_of []) (facts_of []) c.args.entry.now ≡ None →
        OnOk r (fault_next c.args.setup.now (stage_of []) (facts_of []) c.args.entry.now ≡ None)
    by_result (Ok x) h = h
    by_result (Err e) h = tt
