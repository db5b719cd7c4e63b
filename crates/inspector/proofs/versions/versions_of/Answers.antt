use Rattle.std.proofs.Common.{◌∙◌, ◌+◌, ◌++◌, List, add-one, ap, drop, sym}
use Rattle.std.proofs.lemmas.List.{at_drop_all}
use Rattle.units.specs.declared.writes.Write.{Write}
use Rattle.record.specs.History.{Txn}
use Rattle.inspector.specs.Versions.{placed_at, placed_from}
use Rattle.inspector.proofs.Steps.{at_member, put_all, put_more}
use Rattle.inspector.proofs.versions.versions_of.Goals as goal

pub loop-place-preserved : goal.loop-place-preserved
loop-place-preserved c =
    let ts = c.args.ordered.now in
    let n = c.loop-place.place in
    let t = c.index-ordered-place.result in
    let left = drop (n + 1) ts in
    put_more c.loop-place.found.items (placed_at n t.writes) _ (placed_from n (drop n ts)) (placed_from (n + 1) left) (placed_from 0 ts)
    (c.in_ok-add_writes.ensures.found
    ∙ ap (λ (ws : List Write). c.loop-place.found.items ++ placed_at n ws) (c.as_slice.ensures.value ∙ ap (λ (u : Txn). u.writes) c.transaction.view_is))
    (at_member (λ l. placed_from n l) ts n t c.loop-place-test.true c.index-ordered-place.is
    ∙ ap (λ k. placed_at n t.writes ++ placed_from k left) (sym (add-one n)))
    c.loop-place.invariant

pub returns-clause-found : goal.returns-clause-found
returns-clause-found c =
    let ts = c.args.ordered.now in
    let n = c.loop-place.place in
    put_all c.loop-place.found.items _ (placed_from 0 ts) (at_drop_all (λ l. placed_from n l) ts n c.loop-place-test.false) c.loop-place.invariant
