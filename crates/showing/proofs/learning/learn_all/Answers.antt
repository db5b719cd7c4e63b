use Rattle.std.proofs.Common.{◌≡◌, ◌∙◌, sym, ap, ap₂, take}
use Rattle.record.specs.Facts.{facts_of, learn}
use Rattle.facts.specs.Stages.{stage_after, stage_of}
use Rattle.recovery.specs.Recovered.{items}
use Rattle.showing.proofs.Accepting.{next_follows, next_items, next_learnt}
use Rattle.showing.proofs.learning.learn_all.Goals as goal

pub learn_next-requires-clause-follows : goal.learn_next-requires-clause-follows
learn_next-requires-clause-follows c =
    let shard_is : c.reserve.new.self.shard ≡ c.args.setup.now.shard = c.in_ok-reserve.ensures.same.1 ∙ c.loop-entry.invariant.shard in
    let facts_is : c.reserve.new.self.facts ≡ facts_of (items (take c.loop-entry.entry-index c.args.entries.now)) =
    c.in_ok-reserve.ensures.same.0 ∙ c.loop-entry.invariant.known in
    let stage_is : c.reserve.new.self.stage ≡ stage_of (items (take c.loop-entry.entry-index c.args.entries.now)) =
    c.in_ok-reserve.ensures.same.2 ∙ c.loop-entry.invariant.stage in
    let item_is : c.in_ok-item.item ≡ c.entry-item.result.item = c.in_ok-item.ensures.same ∙ c.item.ensures in
    rw (shard_is, facts_is, stage_is, item_is)
    (next_follows c.accepted_follows.ensures c.follows_as_known.ensures c.args.setup.now c.args.entries.now c.loop-entry.entry-index
    c.entry-item.result c.requires c.loop-entry-test.true c.entry-item.is)

pub loop-entry-preserved : goal.loop-entry-preserved
loop-entry-preserved c =
    let facts_is : c.reserve.new.self.facts ≡ facts_of (items (take c.loop-entry.entry-index c.args.entries.now)) =
    c.in_ok-reserve.ensures.same.0 ∙ c.loop-entry.invariant.known in
    let item_is : c.in_ok-item.item ≡ c.entry-item.result.item = c.in_ok-item.ensures.same ∙ c.item.ensures in
    record {
      shard = c.learn_next.ensures.shard ∙ c.in_ok-reserve.ensures.same.1 ∙ c.loop-entry.invariant.shard;
      known = c.learn_next.ensures.facts ∙ ap₂ learn facts_is item_is
          ∙ sym (next_learnt c.accepted_follows.ensures c.learn_agrees.ensures c.args.setup.now c.args.entries.now c.loop-entry.entry-index
          c.entry-item.result c.requires c.loop-entry-test.true c.entry-item.is);
      stage = c.learn_next.ensures.stage ∙ ap₂ stage_after (c.in_ok-reserve.ensures.same.2 ∙ c.loop-entry.invariant.stage) item_is
          ∙ sym (ap stage_of (next_items c.args.entries.now c.loop-entry.entry-index c.entry-item.result c.loop-entry-test.true c.entry-item.is)
          ∙ c.stage_agrees.ensures (items (take c.loop-entry.entry-index c.args.entries.now)) c.entry-item.result.item);
    }
