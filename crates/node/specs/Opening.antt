-- What it is to open a desk over a disk.
use Rattle.std.specs.Prelude.{◌≡◌, ◌⊎◌, ℕ, List, Option, Ok}
use Rattle.units.specs.declared.fault.Fault.{Fault}
use Rattle.units.specs.declared.fault.Fault.TheVariants.{BadRequest, Memory as WantsMemory}
use Rattle.units.specs.declared.fault.Reason.TheVariants.{Many}
use Rattle.units.specs.declared.setup.Setup.{Setup}
use Rattle.disk.specs.declared.plan.FailurePlan.{FailurePlan}
use Rattle.disk.specs.File.{File, surface}
use Rattle.record.specs.declared.record.Record.{Record}
use Rattle.shard.specs.Books.{BookView, new_book}
use Rattle.shard.specs.Logs.{records_in}
use Rattle.shard.specs.On.{CoreView}
use Rattle.shard.specs.Opened.{HasOpened, HasNotOpened}
use Rattle.node.specs.InStep.{IsCount, IsNoCount, IsNoDesk}

module _ {D : Type 0} (keeps obeys : Type 0) (file : D → File) (clock : D → ℕ) (since : D → ℕ → List ℕ → Type 0) (failures : D → ℕ)
    (plan : D → FailurePlan) where
  -- the log of a disk was taken up, and the board refused
  pub record HasNoBoard (disk : D) (setup : Setup) (n : ℕ) (fault : Fault) (back : D) : Type 0 where
    pub core : CoreView D
    pub opened : HasOpened keeps obeys file clock since failures plan disk setup core
    pub disk_back : back ≡ core.disk
    pub why : IsNoDesk n fault

  -- Why no desk was made of a disk, and what it gives back. A number of viewers that no board has is refused before the disk is
  -- touched; else memory for the setup, the opening, or the board was refused.
  abbrev pub HasNoDesk : D → Setup → ℕ → Fault → D → Type 0
  HasNoDesk disk setup n fault back =
      (IsNoCount n × (fault ≡ BadRequest Many) × (back ≡ disk))
      ⊎ (IsCount n × (((fault ≡ WantsMemory) × (back ≡ disk)) ⊎ (HasNotOpened keeps obeys file clock since failures plan disk setup fault back
      ⊎ HasNoBoard disk setup n fault back)))

  -- the book of a core that took the log of a disk up: where it is to keep one, it has the records that were found, and no page
  abbrev pub IsBegun : D → Setup → Option BookView → Type 0
  IsBegun disk setup book = keeps → (records : List Record) → records_in (surface (file disk)).seen ≡ Ok records → book ≡ new_book setup.book records
