use Rattle.std.proofs.Common.{sym, subst}
use Rattle.shard.specs.Core.{seen}
use Rattle.lives.specs.Lives.{HoldsLog, LivesAs}
use Rattle.lives.proofs.Living.{core_disk, down_disk}
use Rattle.lives.proofs.life.Life.into_disk.Goals as goal

pub returns-in-Up : goal.returns-in-Up
returns-in-Up c setup s h =
    subst (HoldsLog s) (sym c.stop.ensures) (core_disk setup s (seen c.in-Up.core) s.state (subst (LivesAs setup s) c.in-Up.is h))

pub returns-in-Down : goal.returns-in-Down
returns-in-Down c setup s h = down_disk s c.in-Down.disk s.state (subst (LivesAs setup s) c.in-Down.is h)
