use Rattle.std.proofs.Common.{arith}
use Rattle.lives.proofs.Showing.{as_many}
use Rattle.lives.proofs.run_shard.RunShard.views.Goals as goal

pub returns : goal.returns
returns c setup s h =
    let r = c.args.self.now in
    omega (arith, c.len.ensures, r.views.ok.0, as_many r.installs.items r.views.items s.views h.views)
