use Rattle.std.proofs.Common.{take}
use Rattle.world.specs.World.{start}
use Rattle.lives.specs.Runs.{IsRun}
use Rattle.world.specs.declared.event.Config.{Config}
use Rattle.playing.proofs.Playings.{HasPlayed}
use Rattle.playing.proofs.plays.play_all.Given as goal

abbrev pub invariant-loop-number : goal.invariant-loop-number
invariant-loop-number l = (config : Config) → IsRun l.fn.run (start config) → HasPlayed config (take l.number l.events) l.run l.replies.items l.counts.items
