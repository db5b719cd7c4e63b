use Rattle.std.proofs.Common.{◌≡◌, ◌≤◌, ◌∷◌, [], ◌++◌, length, None, Some, refl, sym, subst, arith}
use Rattle.std.proofs.lemmas.Slice.Zip.{AllZip-long, all_zipped_more}
use Rattle.std.specs.List.{AllZip}
use Rattle.node.proofs.Lists.{all_passed, is_before_end, passed}
use Rattle.node.proofs.side_by_side.jobs_of.Goals as goal

pub push_reserved-requires : goal.push_reserved-requires
push_reserved-requires g c =
    let jobs = c.loop-one.jobs in
    let here = is_before_end c.loop-one.yielded _ c.in-Some.one _ _ c.loop-one.invariant.0 c.in-Some.ensures.steps.0 in
    let same = AllZip-long _ c.loop-one.yielded jobs.items c.loop-one.invariant.2 in
    omega (arith, here, same, jobs.ok.0, c.loop-one.invariant.1)

pub loop-one-preserved : goal.loop-one-preserved
loop-one-preserved g c = (
  passed c.loop-one.yielded _ c.in-Some.one _ _ c.loop-one.invariant.0 c.in-Some.ensures.steps.0,
  subst (λ room. length c.args.given.items ≤ room) (sym c.push_reserved.ensures.capacity) c.loop-one.invariant.1,
  subst (AllZip _ (c.loop-one.yielded ++ c.in-Some.one ∷ [])) (sym c.push_reserved.ensures.items)
      (all_zipped_more _ c.loop-one.yielded c.loop-one.jobs.items c.in-Some.one _ c.loop-one.invariant.2 (refl, refl)),
)

pub returns : goal.returns
returns g c =
    let rest = c.loop-one.one-iterator.rest in
    let none : length rest.items ≡ 0 = omega (arith, rest.ok.0, c.in-None.ensures.steps.0) in
    subst (λ given. AllZip (λ one job. (job.todo ≡ Some one) × (job.done ≡ None)) given c.loop-one.jobs.items)
    (all_passed c.loop-one.yielded rest.items _ c.loop-one.invariant.0 none) c.loop-one.invariant.2
