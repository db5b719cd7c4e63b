use Rattle.std.proofs.Common.{◌≡◌, ◌≤◌, [], length, take, vec_capacity}
use Rattle.node.specs.Grouped.{AreLeftOut, taken_of}
use Rattle.shard.specs.Gathered.{seen_ahead}
use Rattle.shard.specs.Groups.{IsAheadOf}
use Rattle.shard.specs.On.{CoreView}
use Rattle.node.proofs.group.take_inputs.Given as goal

abbrev pub invariant-loop-input : goal.invariant-loop-input
invariant-loop-input g l =
    (length l.refusals.items ≡ l.input-index)
    × (length l.inputs ≤ vec_capacity l.refusals)
    × ((from : CoreView g.row.D.Denot) → IsAheadOf g.D.Disk.file g.D.Disk.clock g.D.Disk.since g.D.Disk.failures from (seen_ahead l.fn.ahead) []
    → IsAheadOf g.D.Disk.file g.D.Disk.clock g.D.Disk.since g.D.Disk.failures from (seen_ahead l.ahead)
    (taken_of l.now (take l.input-index l.inputs) l.refusals.items)
    × AreLeftOut from [] l.now (take l.input-index l.inputs) l.refusals.items)
