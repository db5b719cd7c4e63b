-- What contracts see of a disk in memory.
use Rattle.std.specs.Prelude.{ℕ, List, ◌∷◌, length, map}
use Rattle.disk.specs.File.{File}
use Rattle.disk.specs.declared.plan.FailurePlan.{FailurePlan}
use Rattle.simdisk.specs.Held.{held_file, HasRoomFor}
use Rattle.simdisk.specs.Moments.{Left}
use Rattle.simdisk.specs.declared.simdisk.SimDisk.{SimDisk}

-- what the last sync left, and the changes since
abbrev pub disk_file : SimDisk → File
disk_file d = held_file d.buffers

-- the file at all earlier moments, the newest first
abbrev pub disk_past : SimDisk → List File
disk_past d = map held_file d.past.entries

-- which call is to fail
abbrev pub disk_plan : SimDisk → FailurePlan
disk_plan d = d.plan

-- how often the disk has failed
abbrev pub disk_failures : SimDisk → ℕ
disk_failures d = d.failures.number

-- so many more changes and syncs, of so many bytes in all, need no memory
abbrev pub DiskHasRoom : SimDisk → ℕ → ℕ → Type 0
DiskHasRoom d calls bytes = HasRoomFor d.buffers calls bytes

-- the moment: how often a change was begun
abbrev pub disk_clock : SimDisk → ℕ
disk_clock d = length (disk_past d)

-- a crash at some moment from that one on might have left this image
abbrev pub LeftSince : SimDisk → ℕ → List ℕ → Type 0
LeftSince d moment image = Left moment (disk_file d ∷ disk_past d) image
