-- What contracts see of a stream, and what is printed of a fault.
use Rattle.std.specs.Prelude.{ℕ, List, ◌++◌, codes}
use Rattle.units.specs.Faults.{fault_text}
use Rattle.units.specs.declared.fault.Fault.{Fault}
use Rattle.output.specs.declared.stream.Stream.{Stream}

-- its writer
abbrev pub writer_of : {W : Type 0} → Stream W → W
writer_of stream = stream.writer

-- how often a write to it has failed
abbrev pub failures_of : {W : Type 0} → Stream W → ℕ
failures_of stream = stream.failures.number

-- the line of a fault
abbrev pub fault_line : Fault → List ℕ
fault_line fault = codes "fault: " ++ (fault_text fault ++ codes "\n")
