-- A line for each entry that was read.
use Rattle.std.proofs.Common.{take, string_bytes}
use Rattle.showing.specs.JsonTexts.{AreEntries}
use Rattle.showing.proofs.record_json.lines_of.Given as goal

abbrev pub invariant-loop-entry : goal.invariant-loop-entry
invariant-loop-entry l = AreEntries (take l.entry-index l.entries) (string_bytes l.text)
