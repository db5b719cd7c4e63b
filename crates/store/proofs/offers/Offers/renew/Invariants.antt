use Rattle.store.specs.Views.{AreRenewed}
use Rattle.store.proofs.offers.Offers.renew.Given as goal

abbrev pub invariant-loop-shard : goal.invariant-loop-shard
invariant-loop-shard g l = AreRenewed l.fn.splits l.fn.viewers.items l.viewers.items
