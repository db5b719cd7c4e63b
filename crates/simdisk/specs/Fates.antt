-- What becomes of the changes that are not synced.
use Rattle.std.specs.Prelude.{ℕ, List, get_or}
use Rattle.disk.specs.declared.plan.Fate.{Fate}
use Rattle.disk.specs.declared.plan.Fate.TheVariants.{Old, New}
use Rattle.disk.specs.File.{File, seen_by, crash_leaves}
use Rattle.simdisk.specs.declared.change.Change.{Change}
use Rattle.simdisk.specs.declared.change.Change.TheVariants.{Write, Tried, Cut}
use Rattle.simdisk.specs.declared.tear.Fates.{Fates}
use Rattle.simdisk.specs.declared.tear.Fates.TheVariants.{AsSeen, Given}

-- the fate by which a read sees a change
abbrev pub fate_seen : Change → Fate
fate_seen (Write at count) = New
fate_seen (Tried at count) = Old
fate_seen (Cut len) = New

-- the fate of a change at its place, the oldest being at 0
abbrev pub fate_at : Fates → ℕ → Change → Fate
fate_at AsSeen place change = fate_seen change
fate_at (Given fates) place change = get_or fates.now place Old

-- what a file holds once each change is made by its fate
abbrev pub made_by : Fates → File → List ℕ
made_by AsSeen file = seen_by file.durable file.changes
made_by (Given fates) file = crash_leaves fates.now file
