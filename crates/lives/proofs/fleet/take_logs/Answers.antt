use Rattle.std.proofs.Common.{◌<◌, [], ◌∷◌, ◌++◌, length, map, ap, ◌∙◌, subst, sym, arith, rules}
use Rattle.lives.specs.Fleet.{AreOn}
use Rattle.lives.proofs.Fleets.{AreTaken, first_left, logs_more, not_empty, on_more, one_taken, passed, stands_first}
use Rattle.lives.proofs.fleet.take_logs.Goals as goal

pub returns-in_err-disk-clause-memory : goal.returns-in_err-disk-clause-memory
returns-in_err-disk-clause-memory c config n ss h =
    let left = c.loop-alloc.shards in
    let there : 0 < length left.items = omega (arith, not_empty _ _ c.is_empty.ensures c.loop-alloc-test.true, left.ok.0) in
    passed c.from_residual-in_err-disk.result c.in_err-disk.field-0.0 (search rules)
    (stands_first c.args.shards.now.items left.items c.remove.new.self.items (map (λ log. log.items) c.loop-alloc.logs.items) c.remove.result _
    (first_left left.items c.remove.new.self.items c.remove.result there c.remove.ensures.value c.remove.ensures.items)
    (λ setup s is. c.in_err-disk.ensures.memory s (c.into_disk.ensures setup s is)) c.loop-alloc.invariant.0 config n ss h)

pub loop-alloc-preserved : goal.loop-alloc-preserved
loop-alloc-preserved c =
    let all = c.args.shards.now.items in
    let left = c.loop-alloc.shards in
    let after = c.remove.new.self.items in
    let log = c.in_ok-disk.log in
    let there : 0 < length left.items = omega (arith, not_empty _ _ c.is_empty.ensures c.loop-alloc-test.true, left.ok.0) in
    let more = logs_more c.loop-alloc.logs.items c.push_reserved-in-loop-alloc.new.self.items log (λ l. l.items)
    (c.push_reserved-in-loop-alloc.ensures.items ∙ ap (λ ls. ls ++ log ∷ []) c.in_ok-reserve-2.ensures.items) in (
      subst (λ ls. AreTaken all ls after) more
          (one_taken all left.items after (map (λ l. l.items) c.loop-alloc.logs.items) c.remove.result log.items
          (first_left left.items after c.remove.result there c.remove.ensures.value c.remove.ensures.items)
          (λ setup s is. c.in_ok-disk.ensures.log s (c.into_disk.ensures setup s is)) c.loop-alloc.invariant.0),
      subst (λ ds. AreOn ds (map (λ l. l.items) c.push_reserved-in-loop-alloc.new.self.items))
          (sym (c.push_reserved.ensures.items ∙ ap (λ ds. ds ++ c.in_ok-disk.disk ∷ []) c.in_ok-reserve.ensures.items))
          (subst (λ ls. AreOn (c.loop-alloc.disks.items ++ c.in_ok-disk.disk ∷ []) ls) more
          (on_more c.loop-alloc.disks.items (map
          (λ l. l.items) c.loop-alloc.logs.items) c.in_ok-disk.disk log.items c.loop-alloc.invariant.1 c.in_ok-disk.ensures.disk)),
    )
