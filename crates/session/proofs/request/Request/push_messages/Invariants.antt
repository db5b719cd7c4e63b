use Rattle.std.proofs.Common.{◌≡◌, ◌++◌, ◌∷◌, map, drop}
use Rattle.session.specs.Sessions.{messages_for, prepare_for}
use Rattle.session.specs.Shown.{closing_client}
use Rattle.session.proofs.request.Request.push_messages.Given as goal

abbrev pub invariant-loop-shard : goal.invariant-loop-shard
invariant-loop-shard l =
    l.envelopes.items ++ map (prepare_for l.self.splits.now (closing_client l.self.txn l.self.taken.now l.self.writes.now) l.coordinator)
    (drop l.shard-index l.others)
    ≡ messages_for l.self.splits.now (closing_client l.self.txn l.self.taken.now l.self.writes.now) (l.coordinator ∷ l.others)
