use Rattle.std.proofs.Common.{[], ◌++◌, List, inl, inr, refl, ap, sym, ◌∙◌, subst, append-nil}
use Rattle.units.specs.Ids.{Id}
use Rattle.message.specs.Ends.{End}
use Rattle.session.specs.Sessions.{Client}
use Rattle.client.specs.Traffic.{Traffic}
use Rattle.session.specs.Shown.{finished_as}
use Rattle.client.specs.Ends.{IsTold, WasNotHeard, ended_of}
use Rattle.client.specs.declared.ended.Ended.{Ended}
use Rattle.client.proofs.Closings.{asked_once, told_by}
use Rattle.client.proofs.wire.Wire.quit.Goals as goal

pub returns-then-is_told : goal.returns-then-is_told
returns-then-is_told g c =
    ([], [], sym (append-nil c.args.self.now.sent), sym (append-nil c.args.self.now.heard), inl refl, (c.txn-txn.ensures, refl))

pub returns-in-Err : goal.returns-in-Err
returns-in-Err g c =
    ([], [], sym (append-nil c.args.self.now.sent), sym (append-nil c.args.self.now.heard), inl refl, (c.txn-txn.ensures, refl))

pub returns-in-Some : goal.returns-in-Some
returns-in-Some g c =
    let tx = c.args.tx in
    let quit = c.in-Ok.tx in
    let listens = c.insist.ensures in
    let asked = c.await_end.ensures.sent in
    let heard = c.in-Some.ensures.heard in
    let sent =
    asked_once tx.splits quit.splits tx.client quit.client c.in-Ok.outbox c.args.self.now.sent c.insist.new.self.sent c.await_end.new.self.sent
    c.in-Ok.ensures.splits c.in-Ok.ensures.client c.in-Ok.ensures.step.1 (ap (λ (t : Traffic). t.sent) listens ∙ c.send_all.ensures.sent) asked in (
      sent.0,
      heard.0,
      sent.1,
      heard.1 ∙ ap (λ (l : List End). l ++ heard.0) (ap (λ (t : Traffic). t.heard) listens ∙ c.send_all.ensures.heard),
      inr sent.2,
      subst (λ (e : Ended). IsTold tx.client.txn e heard.0) (sym c.end_of.ensures)
          (subst (λ (t : Id). IsTold t (ended_of (finished_as c.in-Some.done.outcome)) heard.0) (ap (λ (k : Client). k.txn) c.in-Ok.ensures.client)
          (told_by quit.client.txn c.in-Some.done heard.0 heard.2)),
    )

pub returns-in-None : goal.returns-in-None
returns-in-None g c =
    let tx = c.args.tx in
    let quit = c.in-Ok.tx in
    let listens = c.insist.ensures in
    let asked = c.await_end.ensures.sent in
    let heard = c.in-None.ensures.heard in
    let sent =
    asked_once tx.splits quit.splits tx.client quit.client c.in-Ok.outbox c.args.self.now.sent c.insist.new.self.sent c.await_end.new.self.sent
    c.in-Ok.ensures.splits c.in-Ok.ensures.client c.in-Ok.ensures.step.1 (ap (λ (t : Traffic). t.sent) listens ∙ c.send_all.ensures.sent) asked in (
      sent.0,
      heard.0,
      ap (λ (t : Traffic). t.sent) c.keep.ensures ∙ sent.1,
      ap (λ (t : Traffic). t.heard) c.keep.ensures ∙ (heard.1 ∙ ap (λ (l : List End). l ++ heard.0) (ap (λ (t : Traffic). t.heard) listens ∙ c.send_all.ensures.heard)),
      inr sent.2,
      (c.txn-txn.ensures, subst (λ (t : Id). WasNotHeard t heard.0) (ap (λ (k : Client). k.txn) c.in-Ok.ensures.client) heard.2),
    )
