-- The names that were lent.
use Rattle.std.proofs.Common.{◌≡◌, map, string_bytes, take}
use Rattle.commands.proofs.stats_command.stats_of_store.Given as goal

abbrev pub invariant-loop-name : goal.invariant-loop-name
invariant-loop-name g l = map (λ log. log.now) l.logs.items ≡ map (λ name. string_bytes name) (take l.name-index l.names)
