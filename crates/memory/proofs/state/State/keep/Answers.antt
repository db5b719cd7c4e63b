use Rattle.std.proofs.Common.{◌≡◌, ◌<◌, ◌∙◌, true, sym, subst}
use Rattle.record.specs.Facts.{Facts}
use Rattle.facts.specs.Stages.{follows_head}
use Rattle.safetime.specs.Safe.{Times}
use Rattle.memory.specs.Kept.{Kept}
use Rattle.memory.specs.Served.{IsHolding}
use Rattle.memory.proofs.Logged.{can_in_head, next_in_head, stays_begun}
use Rattle.memory.proofs.state.State.keep.Goals as goal

pub learn-requires-clause-follows : goal.learn-requires-clause-follows
learn-requires-clause-follows c =
    let one : follows_head c.self.inside.setup.shard c.self.inside.ledger.stage c.self.inside.ledger.facts c.args.logged ≡ true =
    subst (λ (k : Kept). follows_head k.setup.shard k.stage k.facts c.args.logged ≡ true) (sym c.self.view_is) c.requires.follows in
    let now : follows_head c.reserve.new.self.shard c.reserve.new.self.stage c.reserve.new.self.facts c.spend-item.result ≡ true =
    (λ i. follows_head ((c.reserve.ensures.same.1 ∙ c.self.invariant.1) i) (c.reserve.ensures.same.2 i) (c.reserve.ensures.same.0 i) (c.spend-item.ensures i))
    ∙ one in
    next_in_head c.reserve.new.self.shard c.reserve.new.self.stage c.reserve.new.self.facts c.spend-item.result now

pub learn-requires-clause-installs : goal.learn-requires-clause-installs
learn-requires-clause-installs c =
    let one : follows_head c.self.inside.setup.shard c.self.inside.ledger.stage c.self.inside.ledger.facts c.args.logged ≡ true =
    subst (λ (k : Kept). follows_head k.setup.shard k.stage k.facts c.args.logged ≡ true) (sym c.self.view_is) c.requires.follows in
    let now : follows_head c.reserve.new.self.shard c.reserve.new.self.stage c.reserve.new.self.facts c.spend-item.result ≡ true =
    (λ i. follows_head ((c.reserve.ensures.same.1 ∙ c.self.invariant.1) i) (c.reserve.ensures.same.2 i) (c.reserve.ensures.same.0 i) (c.spend-item.ensures i))
    ∙ one in
    can_in_head c.reserve.new.self.shard c.reserve.new.self.stage c.reserve.new.self.facts c.spend-item.result now

pub invariant_of-self-2 : goal.invariant_of-self-2
invariant_of-self-2 c =
    let one : follows_head c.self.inside.setup.shard c.self.inside.ledger.stage c.self.inside.ledger.facts c.args.logged ≡ true =
    subst (λ (k : Kept). follows_head k.setup.shard k.stage k.facts c.args.logged ≡ true) (sym c.self.view_is) c.requires.follows in
    let now : follows_head c.reserve.new.self.shard c.reserve.new.self.stage c.reserve.new.self.facts c.spend-item.result ≡ true =
    (λ i. follows_head ((c.reserve.ensures.same.1 ∙ c.self.invariant.1) i) (c.reserve.ensures.same.2 i) (c.reserve.ensures.same.0 i) (c.spend-item.ensures i))
    ∙ one in (
      subst (λ (f : Facts). 0 < f.epoch) (sym c.learn.ensures.facts)
          (stays_begun c.reserve.new.self.shard c.reserve.new.self.stage c.reserve.new.self.facts c.spend-item.result
          (subst (λ (f : Facts). 0 < f.epoch) (sym c.reserve.ensures.same.0) c.self.invariant.0) now),
      c.learn.ensures.shard ∙ c.reserve.ensures.same.1 ∙ c.self.invariant.1,
      subst (λ (t : Times). IsHolding t.holds c.self.inside.rows.rows) (sym c.raise.ensures) c.self.invariant.2,
    )
