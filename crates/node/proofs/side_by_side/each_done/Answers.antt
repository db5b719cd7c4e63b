use Rattle.std.proofs.Common.{◌≡◌, length, IsSomeAnd, Some, ap, subst, sym, ◌∙◌, arith}
use Rattle.std.proofs.lemmas.Bool.{eqb-true}
use Rattle.std.specs.List.{AllZip}
use Rattle.node.specs.declared.side_by_side.Job.{Job}
use Rattle.node.proofs.Lists.{nothing_zipped, written, zipped}
use Rattle.node.proofs.side_by_side.each_done.Goals as goal

-- a job is done
abbrev Does : {A B : Type 0} → (A → B → Type 0) → Job A B → Job A B → Type 0
Does {A} gives before after = (given : A) → before.todo ≡ Some given → IsSomeAnd after.done (gives given)

pub returns : goal.returns
returns g c =
    let gives = goal.F-post g c.args.work.now in
    let old = c.args.jobs.items in
    let new = c.for_each_mut.new.s in
    let lent = c.as_mut_slice.ensures.value in
    let same : length new ≡ length c.as_mut_slice.result.now = c.for_each_mut.auto.s in
    let long : c.args.jobs.len ≡ length old = omega (arith, c.args.jobs.ok.0) in
    subst (AllZip (Does gives) old) (sym (written _ old new long (same ∙ ap length lent)))
    (subst (λ jobs. AllZip (Does gives) jobs new) lent
    (zipped (Does gives) c.as_mut_slice.result.now new same
    (λ i d lt given todo.
    let k = (c.for_each_mut.ensures i d lt).1 in
    subst (λ o. IsSomeAnd o (gives given)) (ap (λ p. p.done) k.left) (k.call given (ap (λ p. p.todo) k.argument_is ∙ todo)))))

-- there is nothing to do
pub returns-then-is_empty : goal.returns-then-is_empty
returns-then-is_empty g c =
    let none = eqb-true _ _ (sym c.is_empty.ensures ∙ c.if-is_empty.true) in
    nothing_zipped _ _ (omega (arith, none, c.args.jobs.ok.0))
