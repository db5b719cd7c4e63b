-- Which boards the viewers of workers show.
use Rattle.std.specs.Prelude.{◌≡◌, ℕ, List, map, Result, Ok, Err}
use Rattle.std.specs.List.{AllZip}
use Rattle.units.specs.Keys.{Bytes}
use Rattle.units.specs.declared.fault.Fault.{Fault}
use Rattle.units.specs.declared.setup.Setup.{Setup}
use Rattle.disk.specs.declared.plan.FailurePlan.{FailurePlan}
use Rattle.disk.specs.File.{File}
use Rattle.board.specs.Board.{first_entries}
use Rattle.board.specs.Dealing.{AreDealt}
use Rattle.board.specs.Views.{AreViewers, Viewing}
use Rattle.shard.specs.Look.{safe_at}
use Rattle.shard.specs.On.{CoreView}
use Rattle.shard.specs.Opened.{HasOpened}
use Rattle.node.specs.InStep.{home_of}
use Rattle.node.specs.Together.{AreSetups}
use Rattle.node.specs.declared.fleet.Made.{Made}

-- so many viewers came with a node that was made, and they are all alike
abbrev pub HasViewers : {N : Type 0} → ℕ → Result (Made N) Fault → Viewing → Type 0
HasViewers n (Ok made) one = AreViewers n one made.viewers.items
HasViewers n (Err fault) one = Unit {0}

module _ {D : Type 0} (keeps obeys : Type 0) (file : D → File) (clock : D → ℕ) (since : D → ℕ → List ℕ → Type 0) (failures : D → ℕ)
    (plan : D → FailurePlan) where
  -- A new viewer of the board of a disk. It knows what the core shows that the disk was opened to, and answers for the keys of that shard.
  pub record ShowsDisk (given : D × Setup) (viewer : Viewing) : Type 0 where
    pub core : CoreView D
    pub opened : HasOpened keeps obeys file clock since failures plan given.0 given.1 core
    pub seen : viewer.seen ≡ first_entries core.facts.installs (safe_at core) core.facts.horizon
    pub told : viewer.told ≡ viewer.seen
    pub home : viewer.home ≡ home_of given.1

  -- each worker has one new viewer of the board of each of some disks, by shard
  pub record AreDealtOver (splits : List Bytes) (stride : ℕ) (disks : List D) (lists : List (List Viewing)) : Type 0 where
    pub given : List (D × Setup)
    pub of : map (λ one. one.0) given ≡ disks
    pub setups : AreSetups splits stride 0 given
    pub viewers : List Viewing
    pub shown : AllZip ShowsDisk given viewers
    pub dealt : AreDealt viewers lists
