use Rattle.std.proofs.Common.{◌∙◌, sym, ap, cond, [], ◌∷◌}
use Rattle.std.specs.Option.{option_copied}
use Rattle.locks.proofs.Named.{ends_one}
use Rattle.locks.proofs.requests.ends_if_named.Goals as goal

pub returns-then-gives_way_to : goal.returns-then-gives_way_to
returns-then-gives_way_to c =
    ends_one c.args.claims.now c.args.txn c.args.other c.args.lock.now c.in-Some.claim.now c.args.held c.args.own c.held_clashes.result
    (sym c.eq.ensures ∙ c.if-eq.false) (sym c.find.ensures ∙ ap option_copied c.in-Some.is) c.requires.held c.requires.own c.held_clashes.ensures
    (sym c.are_of_two.ensures ∙ c.if-not-are_of_two.false)
    ∙ ap (λ b. cond b (c.args.other ∷ []) []) (sym c.gives_way_to.ensures ∙ c.if-gives_way_to.true)

pub returns-else-gives_way_to : goal.returns-else-gives_way_to
returns-else-gives_way_to c =
    ends_one c.args.claims.now c.args.txn c.args.other c.args.lock.now c.in-Some.claim.now c.args.held c.args.own c.held_clashes.result
    (sym c.eq.ensures ∙ c.if-eq.false) (sym c.find.ensures ∙ ap option_copied c.in-Some.is) c.requires.held c.requires.own c.held_clashes.ensures
    (sym c.are_of_two.ensures ∙ c.if-not-are_of_two.false)
    ∙ ap (λ b. cond b (c.args.other ∷ []) []) (sym c.gives_way_to.ensures ∙ c.if-gives_way_to.false)
