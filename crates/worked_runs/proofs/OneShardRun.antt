-- A run of one transaction at one shard: it is decided, waits until its timestamp has passed, and is acknowledged.
use Rattle.std.proofs.Common.{refl}
use Rattle.std.specs.Prelude.{◌≡◌, true, List, [], ◌∷◌, Some}
use Rattle.record.specs.Verdict.{verdict}
use Rattle.units.specs.declared.line.Verdict.TheVariants.{Yes}
use Rattle.world.specs.World.{run, replies_of_run, logs_of}
use Rattle.world.specs.Lawful.{lawful}
use Rattle.units.specs.declared.fault.Fault.TheVariants.{Early}
use Rattle.units.specs.declared.line.Line.{Line}
use Rattle.record.specs.declared.record.Record.{Record}
use Rattle.world.specs.declared.event.Act.{Act}
use Rattle.world.specs.declared.event.Doing.{Doing}
use Rattle.world.specs.declared.event.Event.{Event}
use Rattle.world.specs.declared.event.Reply.{Reply}
use Rattle.protocol.specs.Outputs.{decision}
use Rattle.world.specs.Computing.{computing}
use Rattle.protocol.proofs.Samples.{a, one, txn, clock, sets, commit_of, done_of, to_shard, to_session}
use Rattle.worked_runs.proofs.Events.{two_shards, on}

abbrev pub events : List Event
events =
    on 100 (Act.Begin (txn 1)) ∷ on 100 (Act.Write (txn 1) a (Some one)) ∷ on 100 (Act.Close (txn 1))
    ∷ on 105 (Act.Deliver 0 (clock 100 110))
    ∷ on 112 (Act.At 0 (Doing.Settle (txn 1) (clock 105 112)))
    ∷ on 115 (Act.At 0 (Doing.Settle (txn 1) (clock 112 121)))
    ∷ []

abbrev pub logs : List (List Record)
logs =
    (Record.Opened 1 ∷ decision (txn 1) 111 (0 ∷ []) [] (sets a one ∷ []) ∷ Record.Outcome (txn 1) (Some 111) ∷ [])
    ∷ (Record.Opened 1 ∷ [])
    ∷ []

abbrev pub lines : List Line
lines = Line.Begin (txn 1) 0 ∷ Line.Ack (txn 1) 111 5 ∷ []

pub is_lawful : lawful two_shards events ≡ true
unfolding computing
is_lawful = refl

pub replies_are : replies_of_run two_shards events
    ≡ Reply.Done ∷ Reply.Done ∷ Reply.Done ∷ Reply.Done ∷ Reply.Refused Early ∷ Reply.Done ∷ []
unfolding computing
replies_are = refl

pub messages_are : (run two_shards events).bag
    ≡ to_shard 0 (commit_of (txn 1) (0 ∷ []) 0 [] (sets a one ∷ [])) ∷ to_session (txn 1) (done_of (txn 1) (Some 111)) ∷ []
unfolding computing
messages_are = refl

pub logs_are : logs_of (run two_shards events) ≡ logs
unfolding computing
logs_are = refl

pub lines_are : (run two_shards events).lines ≡ lines
unfolding computing
lines_are = refl

pub verdict_is : verdict logs lines ≡ Yes
unfolding computing
verdict_is = refl
