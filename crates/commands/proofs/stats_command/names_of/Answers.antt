use Rattle.std.proofs.Common.{◌≡◌, ◌∙◌, ap, arith, map, string_bytes}
use Rattle.commands.specs.Replies.{log_names}
use Rattle.commands.proofs.Named.{names_more, none_named}
use Rattle.commands.proofs.stats_command.names_of.Goals as goal

pub loop-shard-preserved : goal.loop-shard-preserved
loop-shard-preserved c = record {
  named =
      names_more (λ name. string_bytes name) c.args.folder.now c.loop-shard.shard c.loop-shard.names.items c.push.new.self.items c.in_ok-name.name
      c.in_ok-push.ensures.items c.in_ok-name.ensures.name c.loop-shard.invariant.named;
  small = omega (arith, c.loop-shard-test.true);
}

pub returns-clause-names : goal.returns-clause-names
returns-clause-names c =
    let same : c.loop-shard.shard ≡ c.args.shards = omega (arith, c.loop-shard-test.false, c.loop-shard.invariant.small) in
    c.loop-shard.invariant.named ∙ ap (log_names c.args.folder.now) same

pub loop-shard-init : goal.loop-shard-init
loop-shard-init c = record {
  named = ap (map (λ name. string_bytes name)) c.new-names.ensures.items ∙ none_named c.args.folder.now;
  small = omega arith;
}
