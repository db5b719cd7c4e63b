use Rattle.std.proofs.Common.{rules}
use Rattle.std.proofs.lemmas.Iterator.{YieldsList-from_slice}
use Rattle.std.proofs.lemmas.Iterator.Search.{find_from_yields_List}
use Rattle.units.specs.Keys.{same_key}
use Rattle.session.specs.declared.answered.Answered.{Answered}
use Rattle.client.proofs.Seen.{found_none, found_some}
use Rattle.client.proofs.reading.answer_for.Goals as goal

pub returns-clause-none : goal.returns-clause-none
returns-clause-none c =
    let p = λ (x : Answered). same_key x.key c.args.key.now in
    found_none p c.args.taken.now _ c.find.result
    (find_from_yields_List p _ _ _ c.find.ensures.ran (YieldsList-from_slice c.args.taken.now cc) (λ x b q k. search rules))

pub returns-clause-some : goal.returns-clause-some
returns-clause-some c =
    let p = λ (x : Answered). same_key x.key c.args.key.now in
    found_some p c.args.taken.now _ c.find.result
    (find_from_yields_List p _ _ _ c.find.ensures.ran (YieldsList-from_slice c.args.taken.now cc) (λ x b q k. search rules))
