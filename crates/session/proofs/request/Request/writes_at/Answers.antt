use Rattle.std.specs.Prelude.{nat_eq}
use Rattle.units.specs.Keys.{shard_of}
use Rattle.units.specs.declared.writes.Write.{Write}
use Rattle.session.proofs.Requests.{writes_taken}
use Rattle.session.proofs.request.Request.writes_at.Goals as goal

pub unreachable-requires : goal.unreachable-requires
unreachable-requires c =
    writes_taken (λ (w : Write). nat_eq (shard_of c.args.self.now.splits.now w.key) c.args.shard) c.args.self.now.taken.now c.args.self.now.writes.now
    c.push_writes_of.new.part.items c.args.self.now.kept c.in-Ok.ensures.same c.in-Err-from_vec.ensures.1
