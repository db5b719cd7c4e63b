-- What was read of the transactions in doubt is told, and what stands before the next one.
use Rattle.std.proofs.Common.{◌≡◌, length, take, string_bytes}
use Rattle.showing.specs.JsonTexts.{AreDoubts, mark_after}
use Rattle.showing.proofs.stats_json.doubts_json.Given as goal

abbrev pub invariant-loop-doubt : goal.invariant-loop-doubt
invariant-loop-doubt l = (told : AreDoubts (take l.doubt-index l.doubts) (string_bytes l.text)) × (l.mark ≡ mark_after (length told.rows))
