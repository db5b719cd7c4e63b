-- What a contract sees of an open log.
use Rattle.std.specs.Prelude.{ℕ, Bool}
use Rattle.gatelog.specs.declared.gatelog.GateLog.{GateLog}

-- the disk that holds its file
abbrev pub disk_of : {D : Type 0} {g : _} → GateLog D g → D
disk_of log = log.disk

-- the offset of the closed gate behind its last record
abbrev pub gate_at : {D : Type 0} {g : _} → GateLog D g → ℕ
gate_at log = log.gate

-- the number of its next free slot, which is that of all slots where none is left
abbrev pub next_slot : {D : Type 0} {g : _} → GateLog D g → ℕ
next_slot log = log.slot

-- a device call failed in it
abbrev pub is_stopped : {D : Type 0} {g : _} → GateLog D g → Bool
is_stopped log = log.stopped
