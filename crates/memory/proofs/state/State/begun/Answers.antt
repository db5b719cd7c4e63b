use Rattle.std.proofs.Common.{◌<◌, ℕ, List, [], ap, refl, sym, subst}
use Rattle.record.specs.Facts.{Facts}
use Rattle.protocol.specs.Rows.{Row}
use Rattle.safetime.specs.Safe.{Times}
use Rattle.safetime.specs.Laws.{SameHolds}
use Rattle.memory.specs.Served.{stamps_held}
use Rattle.memory.proofs.state.State.begun.Goals as goal

pub invariant_of-result : goal.invariant_of-result
invariant_of-result c = (
  subst (λ (f : Facts). 0 < f.epoch) (sym c.in-Ok.ensures.facts) c.requires.opened,
  c.in-Ok.ensures.shard,
  subst (λ (rows : List Row). SameHolds c.in-Ok-new.times.holds (stamps_held rows)) (sym c.in-Ok-new-2.ensures.none)
      (subst (λ (holds : List ℕ). SameHolds holds (stamps_held [])) (sym (ap (λ (t : Times). t.holds) c.in-Ok-new.ensures.times))
      (record { each = λ at. refl })),
)
