use Rattle.std.proofs.Common.{◌≤◌, ◌∙◌, ◌++◌, [], ◌∷◌, List, IsTrue, length, take, ap, sym, subst, arith}
use Rattle.std.proofs.lemmas.List.{take_more, take_all, length-take-le}
use Rattle.units.specs.Keys.{write_before}
use Rattle.units.specs.Lists.{ascends}
use Rattle.units.specs.declared.writes.Write.{Write}
use Rattle.units.proofs.writes.Writes.copy.Goals as goal

pub loop-write-preserved : goal.loop-write-preserved
loop-write-preserved c =
    let items = c.deref-write-items.result.now in
    let at = c.loop-write.write-index in
    record {
      items = c.push_reserved.ensures.items ∙ ap (λ (l : List Write). l ++ c.in-Ok.copy ∷ []) c.loop-write.invariant.items
          ∙ ap (λ (w : Write). take at items ++ w ∷ []) (c.in-Ok.ensures.same ∙ c.write-item.is)
          ∙ sym (take_more items at c.write-item.result c.loop-write-test.true);
      room = omega (arith, c.loop-write.invariant.room, c.push_reserved.ensures.capacity);
    }

pub push_reserved-requires : goal.push_reserved-requires
push_reserved-requires c =
    let items = c.deref-write-items.result.now in
    let at = c.loop-write.write-index in
    omega (arith, ap length c.loop-write.invariant.items, length-take-le at items (omega (arith, c.loop-write-test.true)))

pub returns-clause-same : goal.returns-clause-same
returns-clause-same c =
    c.loop-write.invariant.items ∙ take_all c.loop-write.write-index c.deref-write-items.result.now c.loop-write-test.false
    ∙ c.deref-write-items.ensures.value ∙ c.self.view_is

pub invariant_of-result : goal.invariant_of-result
invariant_of-result c =
    let all = c.loop-write.invariant.items ∙ take_all c.loop-write.write-index c.deref-write-items.result.now c.loop-write-test.false
    ∙ c.deref-write-items.ensures.value in
    subst (λ (l : List Write). (length l ≤ 128) × IsTrue (ascends write_before l)) (sym all) c.self.invariant
