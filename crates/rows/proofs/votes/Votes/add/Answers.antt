use Rattle.std.proofs.Common.{◌≡◌, ◌<◌, ◌∙◌, ℕ, sym, ap, subst, arith, true, false, map, length}
use Rattle.protocol.specs.Rows.{with_vote}
use Rattle.rows.specs.States.{voted_of, has_voted, AreVotes, most_votes}
use Rattle.rows.proofs.Ballots.{space_for_vote, votes-append, vote_again, vote_added}
use Rattle.rows.proofs.votes.Votes.add.Goals as goal

pub returns-then-has_voted : goal.returns-then-has_voted
returns-then-has_voted c =
    let again : has_voted c.args.shard c.self.inside.votes.items ≡ true = ap (has_voted c.args.shard) (sym c.deref.ensures.value)
    ∙ sym c.has_voted.ensures ∙ c.if-has_voted.true in
    sym c.self.view_is ∙ vote_again c.args.shard c.args.at c.self.inside.votes.items again ∙ ap (with_vote c.args.shard c.args.at) c.self.view_is

pub push_reserved-requires : goal.push_reserved-requires
push_reserved-requires c =
    let new : has_voted c.args.shard c.self.inside.votes.items ≡ false = ap (has_voted c.args.shard) (sym c.deref.ensures.value)
    ∙ sym c.has_voted.ensures ∙ c.if-has_voted.false in
    let small : c.args.shard < 16 = subst (λ (n : ℕ). n < 16) c.number-number.ensures.same c.number-number.ensures.limit in
    let space : length c.self.inside.votes.items < most_votes = space_for_vote (record { shard = c.args.shard; at = c.args.at })
    c.self.inside.votes.items small new c.self.invariant.0 in
    omega (arith, space, c.self.invariant.1)

pub invariant_of-self : goal.invariant_of-self
invariant_of-self c =
    let new : has_voted c.args.shard c.self.inside.votes.items ≡ false = ap (has_voted c.args.shard) (sym c.deref.ensures.value)
    ∙ sym c.has_voted.ensures ∙ c.if-has_voted.false in
    let small : c.args.shard < 16 = subst (λ (n : ℕ). n < 16) c.number-number.ensures.same c.number-number.ensures.limit in (
      subst AreVotes (sym c.push_reserved.ensures.items) (votes-append c.self.inside.votes.items
          (record { shard = c.args.shard; at = c.args.at }) small new c.self.invariant.0),
      omega (arith, c.push_reserved.ensures.capacity, c.self.invariant.1),
    )

pub returns : goal.returns
returns c =
    let new : has_voted c.args.shard c.self.inside.votes.items ≡ false = ap (has_voted c.args.shard) (sym c.deref.ensures.value)
    ∙ sym c.has_voted.ensures ∙ c.if-has_voted.false in
    ap (map voted_of) c.push_reserved.ensures.items ∙ vote_added c.args.shard c.args.at c.self.inside.votes.items new
    ∙ ap (with_vote c.args.shard c.args.at) c.self.view_is
