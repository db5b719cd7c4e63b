use Rattle.std.proofs.Common.{◌≡◌, drop}
use Rattle.session.specs.Sessions.{epochs_agree}
use Rattle.session.proofs.lists.epochs_agree.Given as goal

abbrev pub invariant-loop-answered : goal.invariant-loop-answered
invariant-loop-answered l = epochs_agree l.taken l.shard l.epoch ≡ epochs_agree (drop l.answered-index l.taken) l.shard l.epoch
