use Rattle.std.proofs.Common.{◌∙◌, sym, ap}
use Rattle.locks.specs.Tally.{held_against, own_in, is_own}
use Rattle.locks.proofs.Named.{ends_nobody, none_are_own}
use Rattle.locks.proofs.requests.ends.Goals as goal

pub returns-then-held-eq0 : goal.returns-then-held-eq0
returns-then-held-eq0 c =
    let none = none_are_own c.against-held.result.0 (own_in (held_against c.args.lock.now) c.args.claims.now c.args.txn) c.if-held-eq0.true in
    ends_nobody c.args.tally.now c.args.claims.now c.args.txn c.args.lock.now c.requires
    (ap (λ n. is_own n (own_in (held_against c.args.lock.now) c.args.claims.now c.args.txn)) (sym c.against-held.ensures.held) ∙ none)

pub returns-then-is_own : goal.returns-then-is_own
returns-then-is_own c =
    ends_nobody c.args.tally.now c.args.claims.now c.args.txn c.args.lock.now c.requires
    (ap (λ n. is_own n (own_in (held_against c.args.lock.now) c.args.claims.now c.args.txn)) (sym c.against-held.ensures.held)
    ∙ ap (is_own c.against-held.result.0) (sym c.own-own.ensures.held) ∙ sym c.is_own.ensures ∙ c.if-is_own.true)
