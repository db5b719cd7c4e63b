use Rattle.std.proofs.Common.{sym, subst, ◌∙◌, List, None, Some}
use Rattle.std.specs.Option.{option_copied}
use Rattle.units.specs.Keys.{Bytes}
use Rattle.store.specs.Ranges.{IsShardEnd}
use Rattle.store.proofs.Ends.{no_split, none_of, nearer, farther}
use Rattle.store.proofs.ranges.+split_after.Goals as goal

pub returns-in_default : goal.returns-in_default
returns-in_default t c =
    subst (λ (ss : List Bytes). IsShardEnd ss c.args.from.now (option_copied c.args.to) None) (sym (none_of c.args.splits.now c.in_default.ensures.cases))
    (no_split c.args.from.now (option_copied c.args.to))

pub returns-then-is_nearer : goal.returns-then-is_nearer
returns-then-is_nearer t c =
    let split = c.in-Some.split.now in
    let rest = c.in-Some.rest.now in
    subst (λ (ss : List Bytes). IsShardEnd ss c.args.from.now (option_copied c.args.to) (Some split)) (sym c.in-Some.ensures.cases.0)
    (nearer split rest c.args.from.now (option_copied c.args.to) (option_copied c.split_after-nearest.result) c.split_after-nearest.ensures
    (sym c.is_nearer.ensures ∙ c.if-is_nearer.true))

pub returns-else-is_nearer : goal.returns-else-is_nearer
returns-else-is_nearer t c =
    let split = c.in-Some.split.now in
    let rest = c.in-Some.rest.now in
    subst (λ (ss : List Bytes). IsShardEnd ss c.args.from.now (option_copied c.args.to) (option_copied c.split_after-nearest.result))
    (sym c.in-Some.ensures.cases.0)
    (farther split rest c.args.from.now (option_copied c.args.to) (option_copied c.split_after-nearest.result) c.split_after-nearest.ensures
    (sym c.is_nearer.ensures ∙ c.if-is_nearer.false))
