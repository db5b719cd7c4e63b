-- What lies under a node's lock, and what it is to open a stopped node's disk again.
use Rattle.std.specs.Prelude.{◌≡◌, ◌⊎◌, ℕ, Bool, true, IsTrue, IsFalse, List, Option, Some, None}
use Rattle.units.specs.declared.fault.Fault.{Fault}
use Rattle.units.specs.declared.fault.Fault.TheVariants.{BadRequest, Device}
use Rattle.units.specs.declared.fault.Reason.TheVariants.{Again, Many}
use Rattle.units.specs.declared.setup.Setup.{Setup}
use Rattle.disk.specs.declared.plan.FailurePlan.{FailurePlan}
use Rattle.disk.specs.File.{File}
use Rattle.shard.specs.Look.{safe_at}
use Rattle.shard.specs.On.{CoreView}
use Rattle.shard.specs.Opened.{HasOpened}
use Rattle.board.specs.declared.entry.BoardEntry.{BoardEntry}
use Rattle.board.specs.Board.{first_entries}
use Rattle.board.specs.declared.home.Home.{Home}
use Rattle.board.specs.Views.{Publishing, Viewing}
use Rattle.node.specs.InStep.{DeskView, IsCount, IsNoCount, IsNewBoard, AreOnBoard, home_of}
use Rattle.node.specs.Opening.{HasNoDesk, IsBegun}

-- so many viewers of one new board, which shows these entries, for the keys of the shard
abbrev pub AreOnNewBoard : ℕ → Setup → List BoardEntry → List Viewing → Type 0
AreOnNewBoard n setup entries viewers = (p : Publishing) × IsNewBoard p entries × AreOnBoard n setup p viewers

-- So many viewers of one new board, for the keys of a home: what a core has is shown there, and all that they were told is on it.
abbrev pub AreOpenedAgain : Type 0 → ℕ → Home → List Viewing → Type 0
AreOpenedAgain D n home viewers =
    (setup : Setup) × (home ≡ home_of setup)
    × ((core : CoreView D) × AreOnNewBoard n setup (first_entries core.facts.installs (safe_at core) core.facts.horizon) viewers)

-- the disk of a desk that was stopped, and its board, where that is still shown
pub record RestView (D : Type 0) : Type 0 where
  pub disk : D
  pub board : Option Publishing

-- a desk, or the disk of a desk that was stopped
pub data PlaceView (D : Type 0) : Type 0 where
  Serving : DeskView D → PlaceView D
  Resting : RestView D → PlaceView D

abbrev pub disk_of_place : {D : Type 0} → PlaceView D → D
disk_of_place (Serving desk) = desk.core.disk
disk_of_place (Resting rest) = rest.disk

-- its board, where that is still shown
abbrev pub board_of_place : {D : Type 0} → PlaceView D → Option Publishing
board_of_place (Serving desk) = Some desk.board
board_of_place (Resting rest) = rest.board

-- its core was stopped, or it is a disk alone
abbrev pub is_at_rest : {D : Type 0} → PlaceView D → Bool
is_at_rest (Serving desk) = desk.core.stopped
is_at_rest (Resting rest) = true

-- what the core of a desk was told; of a disk alone there is no core, and it is this
abbrev pub told_of : {D : Type 0} → Setup → Option (PlaceView D) → Setup
told_of setup (Some (Serving desk)) = desk.core.setup
told_of setup (Some (Resting rest)) = setup
told_of setup None = setup

module _ {D : Type 0} (keeps obeys : Type 0) (file : D → File) (clock : D → ℕ) (since : D → ℕ → List ℕ → Type 0) (failures : D → ℕ)
    (plan : D → FailurePlan) where
  -- The log of a disk was taken up, and a new board shows the versions of its core, its horizon and then its served time. It has as many viewers
  -- as a board may have.
  pub record HasReopened (disk : D) (setup : Setup) (n : ℕ) (desk : DeskView D) (views : List Viewing) : Type 0 where
    pub count : IsCount n
    pub opened : HasOpened keeps obeys file clock since failures plan disk setup desk.core
    pub book : IsBegun keeps obeys file clock since failures plan disk setup desk.book
    pub board : IsNewBoard desk.board (first_entries desk.core.facts.installs (safe_at desk.core) desk.core.facts.horizon)
    pub viewers : AreOnBoard n setup desk.board views

  module _ (finds : D → D → Type 0) where
    -- What was stopped is served again, over the disk that was found for its own. The old board is shown until its publisher ends.
    abbrev pub HasRestarted : PlaceView D → PlaceView D → Setup → ℕ → List Viewing → Option Publishing → Type 0
    HasRestarted old (Serving desk) setup n viewers former =
        IsTrue (is_at_rest old) × (former ≡ board_of_place old)
        × ((disk : D) × finds (disk_of_place old) disk × HasReopened disk setup n desk viewers)
    HasRestarted old (Resting rest) setup n viewers former = ⊥

    -- Why a disk was not opened again, which is left so: a number of viewers that no board has is refused before anything else; else no disk was found, or
    -- no desk was made of the one that was.
    abbrev pub IsUnopenedAgain : D → Setup → ℕ → Fault → D → Type 0
    IsUnopenedAgain disk setup n fault back =
        (IsNoCount n × (fault ≡ BadRequest Many) × (back ≡ disk))
        ⊎ (IsCount n × ((fault ≡ Device)
        ⊎ ((found : D) × finds disk found × HasNoDesk keeps obeys file clock since failures plan found setup n fault back)))

    -- What was not stopped stays as it is, and the request is wrong. Else the disk is there alone, and may be opened again, and its board is still shown.
    abbrev pub HasNotRestarted : PlaceView D → PlaceView D → Setup → ℕ → Fault → Type 0
    HasNotRestarted old (Serving desk) setup n fault = IsFalse (is_at_rest old) × (Serving desk ≡ old) × (fault ≡ BadRequest Again)
    HasNotRestarted old (Resting back) setup n fault =
        IsTrue (is_at_rest old) × IsUnopenedAgain (disk_of_place old) setup n fault back.disk × (back.board ≡ board_of_place old)
