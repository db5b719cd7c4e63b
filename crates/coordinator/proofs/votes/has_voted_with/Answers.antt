use Rattle.std.proofs.Common.{◌∙◌, nat_eq, ap, sym}
use Rattle.coordinator.proofs.Counting.{voted_before, voted_last}
use Rattle.coordinator.proofs.votes.has_voted_with.Goals as goal

pub returns-then-has_voted : goal.returns-then-has_voted
returns-then-has_voted c =
    let l = c.args.last.now in
    c.if-has_voted.true ∙ voted_before c.args.votes.now l.shard l.at c.args.number (sym c.has_voted.ensures ∙ c.if-has_voted.true)

pub returns-else-has_voted : goal.returns-else-has_voted
returns-else-has_voted c =
    let l = c.args.last.now in
    ap (λ n. nat_eq n c.args.number) c.number.ensures.same
    ∙ voted_last c.args.votes.now l.shard l.at c.args.number (sym c.has_voted.ensures ∙ c.if-has_voted.false)
