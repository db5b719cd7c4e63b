use Rattle.std.proofs.Common.{◌∙◌, sym}
use Rattle.memory.specs.Kept.{start_of}
use Rattle.memory.proofs.States.{planned-by, refused-by}
use Rattle.coordinator.proofs.Counting.{count_kept, count_late, count_decided}
use Rattle.coordinator.proofs.votes.count.Goals as goal

pub returns-then-not-have_all_voted-clause-planned : goal.returns-then-not-have_all_voted-clause-planned
returns-then-not-have_all_voted-clause-planned c =
    let k = c.args.state.now in
    let s = c.args.collecting.now in
    planned-by k _ _ c.keep_vote.result
    (count_kept (start_of k) c.args.last.now.shard c.args.txn c.args.last.now.at s.request.latest s.request.parts s.request.reads s.request.writes
    s.votes _ c.requires.row
    (sym c.have_all_voted.ensures ∙ c.if-not-have_all_voted.true)) c.keep_vote.ensures.plan c.keep_vote.ensures.memory

pub returns-in_default-clause-planned : goal.returns-in_default-clause-planned
returns-in_default-clause-planned c =
    let k = c.args.state.now in
    let s = c.args.collecting.now in
    refused-by _ _
    (count_late (start_of k) c.args.last.now.shard c.args.txn c.args.last.now.at s.request.latest s.request.parts s.request.reads s.request.writes s.votes
    (sym c.have_all_voted.ensures ∙ c.if-not-have_all_voted.false) c.in_default.ensures.1)

pub returns-clause-planned : goal.returns-clause-planned
returns-clause-planned c =
    let k = c.args.state.now in
    let s = c.args.collecting.now in
    planned-by k _ _ c.decide_counted.result
    (count_decided (start_of k) c.args.last.now.shard c.args.txn c.args.last.now.at s.request.latest s.request.parts s.request.reads s.request.writes s.votes
    c.in-Ok.at (sym c.have_all_voted.ensures ∙ c.if-not-have_all_voted.false) c.in-Ok.ensures.0 c.in-Ok.ensures.1)
    c.decide_counted.ensures.plan c.decide_counted.ensures.memory
