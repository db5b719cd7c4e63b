use Rattle.std.proofs.Common.{◌≡◌, ◌||◌, drop}
use Rattle.units.specs.Ids.{Id}
use Rattle.world.specs.Among.{is_among}
use Rattle.world.specs.Counts.{commits_here}
use Rattle.world.proofs.counting.note_decided.Given as goal

abbrev pub invariant-loop-item : goal.invariant-loop-item
invariant-loop-item l = (t : Id) → (is_among l.ids.keys t || commits_here t l.shard (drop l.item-index l.log))
    ≡ (is_among l.initial.ids.keys t || commits_here t l.shard l.log)
