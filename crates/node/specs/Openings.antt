-- What the openings of several disks come to.
use Rattle.std.specs.Prelude.{◌≡◌, ◌⊎◌, ℕ, ◌<◌, ◌≤◌, List, Result, Ok, Err}
use Rattle.units.specs.declared.fault.Fault.{Fault}
use Rattle.units.specs.declared.fault.Fault.TheVariants.{Memory as WantsMemory}
use Rattle.units.specs.declared.setup.Setup.{Setup}
use Rattle.disk.specs.declared.plan.FailurePlan.{FailurePlan}
use Rattle.disk.specs.File.{File}
use Rattle.board.specs.Views.{AreViewers, Viewing}
use Rattle.shard.specs.declared.shard_core.Core.{Core}
use Rattle.shard.specs.Core.{seen, book_of}
use Rattle.shard.specs.On.{CoreView}
use Rattle.shard.specs.Opened.{HasOpened, HasNotOpened}
use Rattle.node.specs.Dealt.{ShowsDisk}
use Rattle.node.specs.Opening.{IsBegun}
use Rattle.node.specs.declared.fleet.Made.{Made}

module _ {D : Type 0} (keeps obeys : Type 0) (file : D → File) (clock : D → ℕ) (since : D → ℕ → List ℕ → Type 0) (failures : D → ℕ)
    (plan : D → FailurePlan) where
  -- what the opening of a disk comes to, of a shard that is told this: a core, or why there is none, with the disk
  abbrev pub IsOpening : {g : _} → D × Setup → Result (Core D g) (Fault × D) → Type 0
  IsOpening given (Ok core) =
      HasOpened keeps obeys file clock since failures plan given.0 given.1 (seen core)
      × IsBegun keeps obeys file clock since failures plan given.0 given.1 (book_of core)
  IsOpening given (Err refused) = HasNotOpened keeps obeys file clock since failures plan given.0 given.1 refused.0 refused.1

  -- the opening of a disk came to a core, with this epoch and this greatest timestamp, and with so many viewers of its board
  pub record IsOpenedAt (given : D × Setup) (epoch last n : ℕ) (views : List Viewing) : Type 0 where
    pub core : CoreView D
    pub opened : HasOpened keeps obeys file clock since failures plan given.0 given.1 core
    pub epoch_is : epoch ≡ core.facts.epoch
    pub last_is : last ≡ core.memory.last
    pub viewer : Viewing
    pub viewers : AreViewers n viewer views
    pub shown : ShowsDisk keeps obeys file clock since failures plan given viewer

  -- why there is no node over a disk: memory is wanting, or its opening is refused for this
  abbrev pub IsNotMade : D × Setup → Fault → Type 0
  IsNotMade given fault = (fault ≡ WantsMemory) ⊎ ((back : D) × HasNotOpened keeps obeys file clock since failures plan given.0 given.1 fault back)

  -- what came of the node that was to be made over a disk, with so many viewers
  abbrev pub IsMade : {N : Type 0} → ℕ → D × Setup → Result (Made N) Fault → Type 0
  IsMade n given (Ok made) = IsOpenedAt given made.epoch made.last n made.viewers.items
  IsMade n given (Err fault) = 0 < n → n ≤ 64 → IsNotMade given fault
