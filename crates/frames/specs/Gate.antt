-- A gate: the byte before a frame.
use Rattle.std.specs.Prelude.{ℕ}
use Rattle.frames.specs.declared.gate.TheConstants.{OPEN_GATE}

-- the gate that is open; every other byte is a closed one
abbrev pub open_gate : ℕ
open_gate = OPEN_GATE
