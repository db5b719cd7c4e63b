-- What is told of the logs that were read.
use Rattle.std.proofs.Common.{◌≡◌, List, map, take, flat_map, string_bytes}
use Rattle.showing.specs.StatsTexts.{AreNumbersOf, ToldLog, log_text}
use Rattle.showing.proofs.files.stats_files.Given as goal

abbrev pub invariant-loop-log : goal.invariant-loop-log
invariant-loop-log g l = (told : List ToldLog)
    × AreNumbersOf g.F.Log.Disk.keeps_model g.F.Log.Disk.file (g.F.Files.is_named l.files) (map (λ log. log.now) (take l.log-index l.logs)) told
    × (map (λ t. t.numbers) told ≡ l.told.items) × (string_bytes l.text ≡ flat_map log_text told)
