use Rattle.std.proofs.Common.{◌≡◌, ◌+◌, ◌-◌, ◌<◌, ◌∙◌, sym, ap, arith, List, length, ◌∷◌, drop}
use Rattle.std.proofs.lemmas.List.{drop_more, at_drop_all}
use Rattle.units.specs.ById.{with_member}
use Rattle.units.specs.Ids.{Id}
use Rattle.units.specs.declared.lock.Lock.{Lock}
use Rattle.locks.specs.Ways.{ids_in_way}
use Rattle.locks.proofs.Each.{ends_none}
use Rattle.locks.proofs.Named.{ids_passed, ids_added}
use Rattle.locks.proofs.requests.wounded_by_name.Goals as goal

pub loop-left-init : goal.loop-left-init
loop-left-init c =
    let needs = c.args.needs.now in
    record {
      within = omega arith;
      ids = c.new-ids.ensures.items ∙ sym (at_drop_all (λ (l : List Lock). ids_in_way c.args.txn l c.args.claims.now) needs (length needs) (omega arith)
          ∙ ends_none c.args.txn c.args.claims.now);
    }

pub loop-left-preserved-in-Nobody : goal.loop-left-preserved-in-Nobody
loop-left-preserved-in-Nobody c =
    let needs = c.args.needs.now in
    let at = c.loop-left.left - 1 in
    let x = c.index-needs-left.result in
    let ids = λ (l : List Lock). ids_in_way c.args.txn l c.args.claims.now in
    let within : at < length needs = omega (arith, c.loop-left.invariant.within, c.loop-left-test.true) in
    let step : at + 1 ≡ c.loop-left.left = omega (arith, c.loop-left-test.true) in
    let there : drop at needs ≡ x ∷ drop c.loop-left.left needs =
    drop_more needs at x within ∙ ap (λ (y : Lock). y ∷ drop (at + 1) needs) (sym c.index-needs-left.is) ∙ ap (λ n. x ∷ drop n needs) step in
    record {
      within = omega (arith, c.loop-left.invariant.within);
      ids = c.loop-left.invariant.ids
          ∙ sym (ap ids there ∙ ids_passed c.args.txn x (drop c.loop-left.left needs) c.args.claims.now c.in-Nobody.ensures);
    }

pub loop-left-preserved : goal.loop-left-preserved
loop-left-preserved c =
    let needs = c.args.needs.now in
    let at = c.loop-left.left - 1 in
    let x = c.index-needs-left.result in
    let ids = λ (l : List Lock). ids_in_way c.args.txn l c.args.claims.now in
    let within : at < length needs = omega (arith, c.loop-left.invariant.within, c.loop-left-test.true) in
    let step : at + 1 ≡ c.loop-left.left = omega (arith, c.loop-left-test.true) in
    let there : drop at needs ≡ x ∷ drop c.loop-left.left needs =
    drop_more needs at x within ∙ ap (λ (y : Lock). y ∷ drop (at + 1) needs) (sym c.index-needs-left.is) ∙ ap (λ n. x ∷ drop n needs) step in
    record {
      within = omega (arith, c.loop-left.invariant.within);
      ids = c.in_ok-add-in-One.ensures ∙ ap (λ (l : List Id). with_member (λ i. i) l c.in-One.other) c.loop-left.invariant.ids
          ∙ sym (ap ids there ∙ ids_added c.args.txn x (drop c.loop-left.left needs) c.args.claims.now c.in-One.other c.requires.order c.in-One.ensures);
    }
