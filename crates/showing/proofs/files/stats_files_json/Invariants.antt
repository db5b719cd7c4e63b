-- What is told of the logs that were read, and what stands before the next one.
use Rattle.std.proofs.Common.{◌≡◌, ◌++◌, List, codes, length, map, take, string_bytes}
use Rattle.showing.specs.JsonTexts.{LogJson, commas, mark_after}
use Rattle.showing.specs.StatsTexts.{AreNumbersOf}
use Rattle.showing.proofs.files.stats_files_json.Given as goal

abbrev pub invariant-loop-log : goal.invariant-loop-log
invariant-loop-log g l = (rows : List LogJson)
    × AreNumbersOf g.F.Log.Disk.keeps_model g.F.Log.Disk.file (g.F.Files.is_named l.files) (map (λ log. log.now) (take l.log-index l.logs))
    (map (λ r. r.told) rows)
    × (map (λ r. r.told.numbers) rows ≡ l.told.items) × (l.mark ≡ mark_after (length rows))
    × (string_bytes l.text ≡ codes "{\"logs\":[" ++ commas (map (λ r. r.text) rows))
