use Rattle.std.proofs.Common.{◌≡◌, ◌∙◌, ◌++◌, ◌∷◌, ℕ, List, [], Some, ap, append-nil, map, rules, sym}
use Rattle.std.proofs.lemmas.List.{at_drop_all}
use Rattle.message.specs.declared.message.Envelope.{Envelope}
use Rattle.session.specs.Sessions.{messages_for, prepare_for}
use Rattle.session.specs.Shown.{closing_client, message_for}
use Rattle.session.proofs.Loops.{added}
use Rattle.session.proofs.request.Request.push_messages.Goals as goal

pub loop-shard-init : goal.loop-shard-init
loop-shard-init c =
    let s = c.args.self.now in
    let client = closing_client s.txn s.taken.now s.writes.now in
    let first = c.in-Some.coordinator.now in
    let others = c.in-Some.others.now in
    let parts : c.args.parts ≡ first ∷ others = search rules in
    ap (λ (l : List Envelope). l ++ map (prepare_for s.splits.now client first) others)
    (c.in_ok-push_message.ensures.same
    ∙ ap (λ (l : List Envelope). l ++ message_for s.splits.now client (Some c.args.parts) first first ∷ []) c.requires.0)
    ∙ ap (λ (ns : List ℕ). message_for s.splits.now client (Some ns) first first ∷ map (prepare_for s.splits.now client first) others) parts

pub loop-shard-preserved : goal.loop-shard-preserved
loop-shard-preserved c =
    let s = c.args.self.now in
    added (prepare_for s.splits.now (closing_client s.txn s.taken.now s.writes.now) c.in-Some.coordinator.now) c.in-Some.others.now c.loop-shard.shard-index
    c.shard-item.result c.loop-shard.envelopes.items c.push_message-in-loop-shard.new.envelopes.items
    c.loop-shard-test.true c.shard-item.is c.in_ok-push_message-2.ensures.same
    ∙ c.loop-shard.invariant

pub returns-after-loop-shard-clause-same : goal.returns-after-loop-shard-clause-same
returns-after-loop-shard-clause-same c =
    let s = c.args.self.now in
    let client = closing_client s.txn s.taken.now s.writes.now in
    let first = c.in-Some.coordinator.now in
    let others = c.in-Some.others.now in
    let parts : c.args.parts ≡ first ∷ others = search rules in
    sym (append-nil c.loop-shard.envelopes.items)
    ∙ ap (λ (l : List Envelope). c.loop-shard.envelopes.items ++ l)
    (sym (at_drop_all (λ ns. map (prepare_for s.splits.now client first) ns) others c.loop-shard.shard-index c.loop-shard-test.false))
    ∙ c.loop-shard.invariant
    ∙ ap (λ (ns : List ℕ). messages_for s.splits.now client ns) (sym parts)
