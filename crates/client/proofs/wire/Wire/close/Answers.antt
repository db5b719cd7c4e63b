use Rattle.std.proofs.Common.{◌≡◌, [], ⊎_elim, inl, inr, refl, sym, ◌∙◌, subst, append-nil, rules}
use Rattle.units.specs.declared.fault.Fault.TheVariants.{BadRequest}
use Rattle.units.specs.declared.fault.Reason.TheVariants.{Doomed}
use Rattle.session.specs.Sessions.{closes}
use Rattle.session.specs.Shown.{Session}
use Rattle.client.specs.Ends.{IsGivenUp}
use Rattle.client.proofs.Closings.{closed_on, denied_doomed}
use Rattle.client.proofs.wire.Wire.close.Goals as goal

pub returns-in-Ok : goal.returns-in-Ok
returns-in-Ok g c =
    let tx = c.args.tx in
    let closed =
    closed_on tx.splits c.in-Ok.tx.splits tx.client c.in-Ok.tx.client c.end.result c.in-Ok.outbox c.args.self.now.sent c.send_all.new.self.sent
    c.end.new.self.sent c.args.self.now.heard c.send_all.new.self.heard c.end.new.self.heard c.in-Ok.ensures.splits c.in-Ok.ensures.step
    c.send_all.ensures.sent c.send_all.ensures.heard c.end.ensures in
    (closed.0, closed.1, closed.2, closed.3, inl (closed.4, closed.5))

pub returns-in-BadRequest-Doomed : goal.returns-in-BadRequest-Doomed
returns-in-BadRequest-Doomed g c =
    let tx = c.args.tx in
    let denied = c.in-Err.ensures.step in
    let doomed : c.in-Err.fault ≡ BadRequest Doomed = search rules in
    let sent = c.give_up.ensures.sent in (
      sent.0,
      [],
      sent.1,
      c.give_up.ensures.heard ∙ sym (append-nil c.args.self.now.heard),
      inr (
        denied_doomed (closes tx.splits tx.client) c.in-Err.fault denied.1 doomed,
        refl,
        subst (λ (s : Session). IsGivenUp s.client.txn sent.0) denied.0 sent.2,
      ),
    )

pub returns-in_default : goal.returns-in_default
returns-in_default g c =
    let denied = c.in-Err.ensures.step in
    let sent = c.give_up.ensures.sent in (
      sent.0,
      [],
      sent.1,
      c.give_up.ensures.heard ∙ sym (append-nil c.args.self.now.heard),
      (⊎_elim (λ own. inl own) (λ memory. inr memory.0) denied.1, subst (λ (s : Session). IsGivenUp s.client.txn sent.0) denied.0 sent.2),
    )
