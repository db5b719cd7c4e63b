use Rattle.std.proofs.Common.{[], ◌∷◌, ◌++◌, ◌∙◌}
use Rattle.gatelog.specs.declared.token.Entry.{Entry}
use Rattle.lives.proofs.Copies.{added_of}
use Rattle.lives.proofs.run_shard.copy_records.Goals as goal

pub loop-entry-preserved : goal.loop-entry-preserved
loop-entry-preserved c =
    let before = c.loop-entry.records.items in
    added_of (λ (e : Entry). e.item) c.args.entries.now c.loop-entry.entry-index c.entry-item.result c.args.records.now.items before
    c.push_reserved.new.self.items c.loop-entry-test.true c.entry-item.is c.loop-entry.invariant
    (c.push_reserved.ensures.items ∙ (λ i. c.in_ok-reserve.ensures.items i ++ (c.in_ok-record.ensures.same ∙ c.item.ensures) i ∷ []))
