-- What was read of the writes is told.
use Rattle.std.proofs.Common.{take, string_bytes}
use Rattle.showing.specs.Json.{AreWrites}
use Rattle.showing.proofs.history_json.lines_of.Given as goal

abbrev pub invariant-loop-write : goal.invariant-loop-write
invariant-loop-write l = AreWrites (take l.write-index l.told) (string_bytes l.text)
