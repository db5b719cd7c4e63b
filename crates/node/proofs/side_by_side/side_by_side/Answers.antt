use Rattle.std.proofs.Common.{◌≡◌, IsSome, IsSomeAnd, Option, Some, None, refl, subst, arith}
use Rattle.std.proofs.lemmas.Slice.Zip.{AllZip-long}
use Rattle.node.proofs.Lists.{holds_of_second, joined}
use Rattle.node.proofs.side_by_side.side_by_side.Goals as goal

is_there : {T : Type 0} (P : T → Type 0) (o : Option T) → IsSomeAnd o P → IsSome o
is_there P None there = absurd there
is_there P (Some x) there = refl

-- what is said of what is there is said of it by name
it_is : {T : Type 0} (P : T → Type 0) (o : Option T) (x : T) → IsSomeAnd o P → o ≡ Some x → P x
it_is P o x there same = subst (λ o. IsSomeAnd o P) same there

pub each_done-jobs-requires-clause-undone : goal.each_done-jobs-requires-clause-undone
each_done-jobs-requires-clause-undone g c κs within =
    holds_of_second _ _ (λ given job new. new.1) c.args.given.items c.jobs_of.result.items c.jobs_of.ensures

pub results_of-requires-clause-room : goal.results_of-requires-clause-room
results_of-requires-clause-room g c =
    let first = AllZip-long _ c.args.given.items c.jobs_of.result.items c.jobs_of.ensures in
    let second = AllZip-long _ c.jobs_of.result.items c.each_done-jobs.result.items c.each_done-jobs.ensures in
    omega (arith, first, second, c.args.given.ok.0, c.len.ensures, c.in-Ok.ensures.capacity)

pub results_of-requires-clause-done : goal.results_of-requires-clause-done
results_of-requires-clause-done g c =
    let gives = goal.F-post g c.args.work.now in
    holds_of_second _ _ (λ given job there. is_there (gives given) job.done there) c.args.given.items c.each_done-jobs.result.items
    (joined _ _ (λ given job. IsSomeAnd job.done (gives given)) (λ given before after new does. does given new.0)
    c.args.given.items c.jobs_of.result.items c.each_done-jobs.result.items c.jobs_of.ensures c.each_done-jobs.ensures)

pub returns-clause-each : goal.returns-clause-each
returns-clause-each g c =
    let gives = goal.F-post g c.args.work.now in
    joined _ _ gives (λ given job done there same. it_is (gives given) job.done done there same)
    c.args.given.items c.each_done-jobs.result.items c.results_of.result.items
    (joined _ _ (λ given job. IsSomeAnd job.done (gives given)) (λ given before after new does. does given new.0)
    c.args.given.items c.jobs_of.result.items c.each_done-jobs.result.items c.jobs_of.ensures c.each_done-jobs.ensures)
    c.results_of.ensures
