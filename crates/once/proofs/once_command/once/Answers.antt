-- The disk holds what the shard's log held.
use Rattle.std.proofs.Common.{◌≡◌, ℕ, sym, subst}
use Rattle.std.specs.Prelude.{Result, Ok, Err, IfOk, nat_eq}
use Rattle.truetime.specs.Interval.{Interval}
use Rattle.units.specs.Keys.{Bytes}
use Rattle.shard.specs.Core.{seen}
use Rattle.shard.specs.On.{CoreView}
use Rattle.simdisk.specs.declared.simdisk.SimDisk.{SimDisk}
use Rattle.output.specs.declared.failure.Failure.{Failure}
use Rattle.once.specs.Replies.{first_stamp}
use Rattle.once.specs.Shards.{HasLog, HoldsRecords, IsLogged, log_after}
use Rattle.once.proofs.once_command.once.Goals as goal

logged_as : (key value : Bytes) (first : Interval) (core : CoreView SimDisk) (disk : SimDisk) (r : Result ℕ Failure) → disk ≡ core.disk
    → IfOk r (λ status. (stamp : ℕ) × (first_stamp first ≡ Ok stamp) × HasLog (log_after (nat_eq status 0) key value stamp) core)
    → IfOk r (λ status. IsLogged key value first status disk)
logged_as key value first core disk (Err failure) is log = tt
logged_as key value first core disk (Ok status) is log = (
  log.0,
  log.1,
  subst (HoldsRecords (log_after (nat_eq status 0) key value log.0)) (sym is) (record { read = log.2.read; durable = log.2.durable }),
)

pub returns-clause-logged : goal.returns-clause-logged
returns-clause-logged g c = logged_as c.args.key c.args.value c.args.first.now (seen c.commit_and_settle-status.new.core) _
    c.commit_and_settle-status.result c.stop.ensures c.commit_and_settle-status.ensures.log
