use Rattle.std.proofs.Common.{ap, ◌∙◌, sym, inl, inr}
use Rattle.std.proofs.lemmas.Result.{MatchResult-weaker, MatchResult-from_both}
use Rattle.session.specs.Sessions.{Goes, IsClosing, closing_messages}
use Rattle.session.specs.Shown.{closing_client, is_made}
use Rattle.session.proofs.Steps.{closes_nothing, closes_awaited, closes_doomed, closes_goes, closing_same}
use Rattle.session.proofs.closing.Tx+Open.requests.Goals as goal

pub returns-then-is_blank : goal.returns-then-is_blank
returns-then-is_blank c = inl (closes_nothing _ _ (sym c.is_blank.ensures ∙ c.if-is_blank.true))

pub returns-then-is_awaiting : goal.returns-then-is_awaiting
returns-then-is_awaiting c =
    inl (closes_awaited _ _ (sym c.is_blank.ensures ∙ c.if-is_blank.false) (sym c.is_awaiting.ensures ∙ c.if-is_awaiting.true))

pub returns-then-is_doomed : goal.returns-then-is_doomed
returns-then-is_doomed c =
    inl (closes_doomed _ _ (sym c.is_blank.ensures ∙ c.if-is_blank.false) (sym c.is_awaiting.ensures ∙ c.if-is_awaiting.false)
    (sym c.is_doomed.ensures ∙ c.if-is_doomed.true))

pub returns : goal.returns
returns c =
    let s = c.args.self.now in
    let e = c.request.ensures in
    let goes =
    closes_goes s.splits s.client (sym c.is_blank.ensures ∙ c.if-is_blank.false) (sym c.is_awaiting.ensures ∙ c.if-is_awaiting.false)
    (sym c.is_doomed.ensures ∙ c.if-is_doomed.false) in
    MatchResult-weaker c.messages.result (MatchResult-from_both c.messages.result _ _ c.messages.ensures.same c.messages.ensures.memory)
    (λ out h. goes ∙ ap (Goes (record s.client { stage = IsClosing }))
    (sym (h ∙ (λ i. closing_messages (e.splits i) (closing_client (e.txn i) (e.taken i) (e.writes i))) ∙ closing_same s.splits s.client)))
    (λ fault h. inr (h, ap is_made goes))
