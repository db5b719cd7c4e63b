-- The lines of the writes that were read stand behind the text.
use Rattle.std.proofs.Common.{◌≡◌, ◌++◌, take, flat_map, string_bytes}
use Rattle.showing.specs.HistoryTexts.{told_line}
use Rattle.showing.proofs.history_lines.push_lines.Given as goal

abbrev pub invariant-loop-write : goal.invariant-loop-write
invariant-loop-write l = string_bytes l.text ≡ string_bytes l.initial.text ++ flat_map told_line (take l.write-index l.told)
