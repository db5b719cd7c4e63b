-- What the record that comes next installs.
use Rattle.std.specs.Prelude.{IsTrue, Bool, not, ◌||◌, List, Some, length}
use Rattle.units.specs.Lists.{ascends}
use Rattle.units.specs.Versions.{above_versions, version_before}
use Rattle.units.specs.declared.writes.Install.{Install}
use Rattle.record.specs.Facts.{Facts, recorded}
use Rattle.record.specs.declared.record.Record.{Record}
use Rattle.record.specs.declared.record.Record.TheVariants.{Outcome}
use Rattle.facts.specs.Stages.{is_head}
use Rattle.facts.specs.declared.stage.Stage.{Stage}
use Rattle.protocol.specs.Sound.{writes_standing}
use Rattle.versions.specs.Headed.{Headed}
use Rattle.versions.specs.Orders.{Orders}

-- an outcome is above the versions of the keys that it writes; that a version of a head is above those of its key is told from their order
abbrev pub CanInstall : Facts → Record → Type 0
CanInstall facts (Outcome t (Some s)) = IsTrue (above_versions facts.installs s (writes_standing (recorded facts t)))
CanInstall facts _ = Unit {0}

-- in the head of a log the versions ascend by key and timestamp
abbrev pub head_ascends : Stage → List Install → Bool
head_ascends stage installs = not (is_head stage) || ascends version_before installs

-- the places of all versions in order, as the horizon leaves them
abbrev pub AreInOrder : Facts → Headed → Type 0
AreInOrder facts places = Orders facts.horizon facts.installs (length facts.installs) places
