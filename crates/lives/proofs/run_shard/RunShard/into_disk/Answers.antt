use Rattle.lives.proofs.run_shard.RunShard.into_disk.Goals as goal

pub returns : goal.returns
returns c setup s h = c.into_disk.ensures setup s h.lives
