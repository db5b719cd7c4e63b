use Rattle.std.proofs.Common.{◌≡◌, ◌<◌, ◌≤◌, List, ◌∷◌, [], ◌++◌, length, IsSome, Option, Some, None, refl, rules, sym, subst, ◌∙◌, arith}
use Rattle.std.proofs.lemmas.Bool.{eqb-true}
use Rattle.std.proofs.lemmas.Slice.Zip.{AllZip-long, all_zipped_more}
use Rattle.std.specs.List.{AllZip}
use Rattle.node.proofs.Lists.{all_passed, holds_of_next, is_before_end, passed, taken_front}
use Rattle.node.proofs.Outcomes.{not_empty}
use Rattle.node.proofs.side_by_side.results_of.Goals as goal

pub remove-todo-requires : goal.remove-todo-requires
remove-todo-requires g c = not_empty _ _ c.is_empty.ensures c.loop-jobs-test.true

-- with nothing done there are no results
none_done : {B : Type 0} (ys : List B) → ys ≡ [] → AllZip (λ (x y : B). x ≡ y) [] ys
none_done [] empty = tt
none_done (y ∷ ys) empty = cc

pub loop-jobs-init : goal.loop-jobs-init
loop-jobs-init g c = record { room = c.requires.room; done = ([], refl, none_done _ c.requires.empty) }

pub push_reserved-requires : goal.push_reserved-requires
push_reserved-requires g c =
    let was = c.loop-jobs.invariant.done in
    let some : 0 < length c.loop-jobs.jobs.items = omega (arith, not_empty _ _ c.is_empty.ensures c.loop-jobs-test.true, c.loop-jobs.jobs.ok.0) in
    let front = taken_front c.loop-jobs.jobs.items c.remove-todo.new.self.items c.remove-todo.result some c.remove-todo.ensures.value c.remove-todo.ensures.items in
    let here = is_before_end was.0 _ c.remove-todo.result _ _ was.1 front in
    let same = AllZip-long _ was.0 c.loop-jobs.results.items was.2 in
    omega (arith, here, same, c.loop-jobs.results.ok.0, c.loop-jobs.invariant.room)

pub loop-jobs-preserved : goal.loop-jobs-preserved
loop-jobs-preserved g c =
    let was = c.loop-jobs.invariant.done in
    let some : 0 < length c.loop-jobs.jobs.items = omega (arith, not_empty _ _ c.is_empty.ensures c.loop-jobs-test.true, c.loop-jobs.jobs.ok.0) in
    let front = taken_front c.loop-jobs.jobs.items c.remove-todo.new.self.items c.remove-todo.result some c.remove-todo.ensures.value c.remove-todo.ensures.items in
    record {
      room = subst (λ room. length c.args.jobs.items ≤ room) (sym c.push_reserved.ensures.capacity) c.loop-jobs.invariant.room;
      done = (
        was.0 ++ c.remove-todo.result ∷ [],
        passed was.0 _ c.remove-todo.result _ _ was.1 front,
        subst (AllZip _ (was.0 ++ c.remove-todo.result ∷ [])) (sym c.push_reserved.ensures.items)
            (all_zipped_more _ was.0 c.loop-jobs.results.items c.remove-todo.result _ was.2 (search rules)),
      );
    }

-- nothing is not there
nothing : {T : Type 0} (o : Option T) → o ≡ None → IsSome o → ⊥
nothing None is there = cc
nothing (Some x) is there = cc

pub unreachable-requires : goal.unreachable-requires
unreachable-requires g c =
    let was = c.loop-jobs.invariant.done in
    let some : 0 < length c.loop-jobs.jobs.items = omega (arith, not_empty _ _ c.is_empty.ensures c.loop-jobs-test.true, c.loop-jobs.jobs.ok.0) in
    let front = taken_front c.loop-jobs.jobs.items c.remove-todo.new.self.items c.remove-todo.result some c.remove-todo.ensures.value c.remove-todo.ensures.items in
    nothing c.remove-todo.result.done (search rules)
    (holds_of_next (λ job. IsSome job.done) was.0 _ c.remove-todo.result _ _ was.1 front c.requires.done)

pub returns : goal.returns
returns g c =
    let was = c.loop-jobs.invariant.done in
    let none = eqb-true _ _ (sym c.is_empty.ensures ∙ c.loop-jobs-test.false) in
    subst (λ jobs. AllZip (λ job result. job.done ≡ Some result) jobs c.loop-jobs.results.items)
    (all_passed was.0 c.loop-jobs.jobs.items _ was.1 (omega (arith, none, c.loop-jobs.jobs.ok.0))) was.2
