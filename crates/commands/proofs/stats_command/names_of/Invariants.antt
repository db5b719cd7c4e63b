-- The names of the shards so far.
use Rattle.std.proofs.Common.{◌≡◌, ◌≤◌, map, string_bytes}
use Rattle.commands.specs.Replies.{log_names}
use Rattle.commands.proofs.stats_command.names_of.Given as goal

abbrev pub invariant-loop-shard : goal.invariant-loop-shard
invariant-loop-shard l = record {
  named : map (λ name. string_bytes name) l.names.items ≡ log_names l.folder l.shard;
  small : l.shard ≤ l.shards;
}
