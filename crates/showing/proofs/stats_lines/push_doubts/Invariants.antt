-- A line for each transaction that was read stands behind the text.
use Rattle.std.proofs.Common.{◌≡◌, ◌++◌, take, flat_map, string_bytes}
use Rattle.showing.specs.StatsTexts.{doubt_line}
use Rattle.showing.proofs.stats_lines.push_doubts.Given as goal

abbrev pub invariant-loop-doubt : goal.invariant-loop-doubt
invariant-loop-doubt l = string_bytes l.text ≡ string_bytes l.initial.text ++ flat_map doubt_line (take l.doubt-index l.doubts)
