use Rattle.std.proofs.Common.{◌≡◌, [], refl, sym, ◌∙◌, subst}
use Rattle.std.specs.Prelude.{IfOk, IfSome, IfNone}
use Rattle.session.specs.Sessions.{parts_of}
use Rattle.session.specs.Shown.{closing_client}
use Rattle.session.proofs.Steps.{told_closing, told_open}
use Rattle.session.proofs.tx.Tx.told.Goals as goal

pub returns-then-is_closing-clause-none : goal.returns-then-is_closing-clause-none
returns-then-is_closing-clause-none g c =
    let s = c.args.self.now in
    let e = c.request.ensures in
    subst (λ ns. IfOk c.parts.result (λ parts. IfNone parts (ns ≡ [])))
    ((λ i. parts_of (e.splits i) (closing_client (e.txn i) (e.taken i) (e.writes i))) ∙ told_closing s.splits s.client s.client.stage refl
    (sym c.is_closing.ensures ∙ c.if-is_closing.true))
    c.parts.ensures.none

pub returns-then-is_closing-clause-some : goal.returns-then-is_closing-clause-some
returns-then-is_closing-clause-some g c =
    let s = c.args.self.now in
    let e = c.request.ensures in
    subst (λ told. IfOk c.parts.result (λ parts. IfSome parts (λ ns. ns ≡ told)))
    ((λ i. parts_of (e.splits i) (closing_client (e.txn i) (e.taken i) (e.writes i))) ∙ told_closing s.splits s.client s.client.stage refl
    (sym c.is_closing.ensures ∙ c.if-is_closing.true))
    c.parts.ensures.some

pub returns-else-is_closing-clause-none : goal.returns-else-is_closing-clause-none
returns-else-is_closing-clause-none g c =
    let s = c.args.self.now in
    subst (λ ns. IfOk c.asked_parts.result (λ parts. IfNone parts (ns ≡ [])))
    (told_open s.splits s.client s.client.stage refl (sym c.is_closing.ensures ∙ c.if-is_closing.false))
    c.asked_parts.ensures.none

pub returns-else-is_closing-clause-some : goal.returns-else-is_closing-clause-some
returns-else-is_closing-clause-some g c =
    let s = c.args.self.now in
    subst (λ told. IfOk c.asked_parts.result (λ parts. IfSome parts (λ ns. ns ≡ told)))
    (told_open s.splits s.client s.client.stage refl (sym c.is_closing.ensures ∙ c.if-is_closing.false))
    c.asked_parts.ensures.some
