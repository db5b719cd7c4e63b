use Rattle.std.proofs.Common.{sym, ◌∙◌, inr}
use Rattle.std.proofs.lemmas.Result.{MatchResult-weaker}
use Rattle.session.proofs.Steps.{heard_again, heard_refused, heard_value, heard_second_epoch}
use Rattle.session.proofs.tx.Tx+Open.answered.Goals as goal

pub returns-then-not-expects-clause-step : goal.returns-then-not-expects-clause-step
returns-then-not-expects-clause-step c =
    let a = c.args.answer.now in
    let h = heard_again a.from a.key a.epoch a.answer c.args.self.now.client (sym c.expects.ensures ∙ c.if-not-expects.true) in
    (sym c.is_of.ensures ∙ c.if-not-is_of.false, h.0, h.1)

pub returns-in-Refused-clause-step : goal.returns-in-Refused-clause-step
returns-in-Refused-clause-step c =
    let a = c.args.answer.now in
    let h = heard_refused a.from a.key a.epoch a.answer c.args.self.now.client (sym c.expects.ensures ∙ c.if-not-expects.false) c.in-Refused.is in
    (sym c.is_of.ensures ∙ c.if-not-is_of.false, c.doom_by.ensures.step ∙ h.0, h.1)

pub returns-then-agrees-clause-step : goal.returns-then-agrees-clause-step
returns-then-agrees-clause-step c =
    let a = c.args.answer.now in
    let same = sym c.is_of.ensures ∙ c.if-not-is_of.false in
    let h = heard_value a.from a.key a.epoch a.answer c.args.self.now.client c.in-Holds.value
    (sym c.expects.ensures ∙ c.if-not-expects.false) c.in-Holds.is (sym c.agrees.ensures ∙ c.if-agrees.true) in
    MatchResult-weaker c.take_value.result c.take_value.ensures.step
    (λ heard k. (same, k.0 ∙ h.0, k.1 ∙ h.1))
    (λ fault k. (k.0, inr (k.1, same)))

pub returns-else-agrees-clause-step : goal.returns-else-agrees-clause-step
returns-else-agrees-clause-step c =
    let a = c.args.answer.now in
    let h = heard_second_epoch a.from a.key a.epoch a.answer c.args.self.now.client c.in-Holds.value
    (sym c.expects.ensures ∙ c.if-not-expects.false) c.in-Holds.is (sym c.agrees.ensures ∙ c.if-agrees.false) in
    (sym c.is_of.ensures ∙ c.if-not-is_of.false, c.doom_by-else-agrees.ensures.step ∙ h.0, h.1)
