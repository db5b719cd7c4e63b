-- The disk behind a command.
use Rattle.std.specs.Prelude.{ℕ, Result, Ok, Err}
use Rattle.units.specs.declared.fault.Fault.{Fault}
use Rattle.simdisk.specs.declared.simdisk.SimDisk.{SimDisk}
use Rattle.command_line.specs.Commands.{Asked, told_asked, once_asked, format_asked, play_asked, inspect_asked, drive_asked, dump_asked, history_asked}
use Rattle.command_line.specs.Commands.{get_asked, put_asked, stats_asked, migrate_asked, compact_asked}
use Rattle.once.specs.Shards.{IsLogged}

-- a disk behind a command
abbrev pub LogsCommand : Asked → ℕ → SimDisk → Type 0
LogsCommand (told_asked words) status disk = Unit {0}
LogsCommand (once_asked key value first second) status disk = IsLogged key value first status disk
LogsCommand (format_asked file) status disk = Unit {0}
LogsCommand (play_asked file) status disk = Unit {0}
LogsCommand (inspect_asked lines logs) status disk = Unit {0}
LogsCommand (drive_asked file table) status disk = Unit {0}
LogsCommand (dump_asked file json) status disk = Unit {0}
LogsCommand (history_asked dir key json) status disk = Unit {0}
LogsCommand (get_asked dir key at form) status disk = Unit {0}
LogsCommand (put_asked dir key value) status disk = Unit {0}
LogsCommand (stats_asked logs json) status disk = Unit {0}
LogsCommand (migrate_asked old new) status disk = Unit {0}
LogsCommand (compact_asked old new) status disk = Unit {0}

-- a disk behind the command that some words ask for
abbrev pub LogsTo : Result Asked Fault → ℕ → SimDisk → Type 0
LogsTo (Ok asked) status disk = LogsCommand asked status disk
LogsTo (Err fault) status disk = ⊥
