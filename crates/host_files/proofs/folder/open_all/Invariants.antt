use Rattle.std.proofs.Common.{◌≡◌, false, length}
use Rattle.std.specs.Prelude.{All}
use Rattle.filedisk.specs.State.{file_is_changed}
use Rattle.host_files.proofs.folder.open_all.Given as goal

abbrev pub invariant-loop-shard : goal.invariant-loop-shard
invariant-loop-shard g l = record {
  count : length l.logs.items ≡ l.shard;
  unchanged : All (λ log. file_is_changed log ≡ false) l.logs.items;
}
