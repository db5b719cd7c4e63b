use Rattle.std.proofs.Common.{◌≡◌, length}
use Rattle.host_files.proofs.copying.files_in.Given as goal

abbrev pub invariant-loop-shard-2 : goal.invariant-loop-shard-2
invariant-loop-shard-2 g l = length l.files.items ≡ l.shard
