use Rattle.std.proofs.Common.{◌∙◌}
use Rattle.std.specs.Prelude.{nat_eq}
use Rattle.session.specs.declared.answered.Answered.{Answered}
use Rattle.session.proofs.Requests.{keys_taken, some_key}
use Rattle.session.proofs.request.Request.reads_at.Goals as goal

pub unreachable-requires : goal.unreachable-requires
unreachable-requires c =
    some_key (λ (a : Answered). nat_eq a.shard c.args.shard) c.args.self.now.taken.now c.in-Some.answered.now c.in-Ok.keys
    c.in-Some.ensures.some (c.in-Ok.ensures.0 ∙ c.in_ok-push_keys_read_at.ensures.same) c.in-Err-new.ensures.1

pub unreachable-requires-in-Err : goal.unreachable-requires-in-Err
unreachable-requires-in-Err c =
    keys_taken (λ (a : Answered). nat_eq a.shard c.args.shard) c.args.self.now.taken.now c.args.self.now.writes.now c.push_keys_read_at.new.keys.items
    c.args.self.now.kept c.in_ok-push_keys_read_at.ensures.same c.in-Err.ensures.1
