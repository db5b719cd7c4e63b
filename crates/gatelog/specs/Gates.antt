-- Gates of the log's file, and what an append that a call of it ends leaves of its record. It makes four device calls, counted
-- from 0: it writes the frame behind the closed gate, syncs, opens the gate, syncs.
use Rattle.std.specs.Prelude.{ℕ, Bool, true, false, nat_le, ◌==◌, if◌then◌else◌}
use Rattle.disk.specs.declared.plan.Fate.{Fate}
use Rattle.disk.specs.declared.plan.Fate.TheVariants.{Old, New, Filled}
use Rattle.frames.specs.Gate.{open_gate}
use Rattle.gatelog.specs.declared.frame.TheConstants.{FIRST_GATE}

-- the offset of the first gate, behind the header and the slots
abbrev pub first_gate : ℕ
first_gate = FIRST_GATE

-- a read gives the record, where this call fails
abbrev pub is_read : ℕ → Bool
is_read call = nat_le 3 call

-- a gate with this fate is open behind a crash
abbrev pub opens_gate : Fate → Bool
opens_gate Old = false
opens_gate New = true
opens_gate (Filled byte) = byte == open_gate

-- a crash leaves the record, where this call fails and the oldest change that is not synced has this fate
abbrev pub is_left : ℕ → Fate → Bool
is_left call fate = if nat_le call 1 then false else (if nat_le call 3 then opens_gate fate else true)
