-- A run of one transaction over two shards by two-phase commit, with its log, its lines and its verdict; and the faults that an inspector finds.
use Rattle.std.proofs.Common.{refl}
use Rattle.std.specs.Prelude.{◌≡◌, true, List, [], ◌∷◌, map, Some, None}
use Rattle.record.specs.Accepted.{Accepted, taken}
use Rattle.record.specs.History.{history, serial}
use Rattle.record.specs.Verdict.{verdict}
use Rattle.units.specs.declared.line.Verdict.TheVariants.{Yes, Torn, Lost, WrongRead, WrongOrder}
use Rattle.world.specs.World.{run, replies_of_run, logs_of, counted_lines}
use Rattle.world.specs.Lawful.{lawful}
use Rattle.units.specs.declared.line.Line.{Line}
use Rattle.record.specs.declared.record.Record.{Record}
use Rattle.message.specs.declared.message.Envelope.{Envelope}
use Rattle.world.specs.declared.event.Act.{Act}
use Rattle.world.specs.declared.event.Doing.{Doing}
use Rattle.world.specs.declared.event.Event.{Event}
use Rattle.world.specs.declared.event.Reply.{Reply}
use Rattle.protocol.specs.Outputs.{promise, decision}
use Rattle.world.specs.Computing.{computing}
use Rattle.protocol.proofs.Samples.{commit_of, done_of, outcome_of, prepare_of, vote_of, a, z, one, two, txn, clock, sets, shard, to_shard, to_session}
use Rattle.worked_runs.proofs.Events.{two_shards, on}

abbrev pub events : List Event
events =
    on 100 (Act.Begin (txn 2)) ∷ on 100 (Act.Write (txn 2) a (Some one)) ∷ on 100 (Act.Write (txn 2) z (Some two)) ∷ on 100 (Act.Close (txn 2))
    ∷ on 105 (Act.Deliver 0 (clock 100 110))
    ∷ on 205 (Act.Deliver 1 (clock 200 210))
    ∷ on 206 (Act.Deliver 2 (clock 200 210))
    ∷ on 215 (Act.At 0 (Doing.Settle (txn 2) (clock 201 230)))
    ∷ on 216 (Act.Deliver 4 (clock 210 220))
    ∷ on 217 (Act.Look 1 z 200)
    ∷ []

-- every message that was put out, in order
abbrev pub messages : List Envelope
messages =
    to_shard 0 (commit_of (txn 2) (0 ∷ 1 ∷ []) 0 [] (sets a one ∷ []))
    ∷ to_shard 1 (prepare_of (txn 2) 0 0 [] (sets z two ∷ []))
    ∷ to_shard 0 (vote_of 1 (txn 2) (Some 200))
    ∷ to_session (txn 2) (done_of (txn 2) (Some 200))
    ∷ to_shard 1 (outcome_of 0 (txn 2) (Some 200))
    ∷ []

abbrev pub logs : List (List Record)
logs =
    (Record.Opened 1 ∷ decision (txn 2) 200 (0 ∷ 1 ∷ []) [] (sets a one ∷ []) ∷ Record.Outcome (txn 2) (Some 200) ∷ [])
    ∷ (Record.Opened 1 ∷ promise (txn 2) 0 200 [] (sets z two ∷ []) ∷ Record.Outcome (txn 2) (Some 200) ∷ [])
    ∷ []

abbrev pub lines : List Line
lines = Line.Begin (txn 2) 0 ∷ Line.Ack (txn 2) 200 7 ∷ Line.Look z 200 (Some two) ∷ []

pub is_lawful : lawful two_shards events ≡ true
unfolding computing
is_lawful = refl

pub replies_are : replies_of_run two_shards events
    ≡ Reply.Done ∷ Reply.Done ∷ Reply.Done ∷ Reply.Done ∷ Reply.Done ∷ Reply.Done ∷ Reply.Done ∷ Reply.Done ∷ Reply.Done
    ∷ Reply.Shows (Some two) ∷ []
unfolding computing
replies_are = refl

pub messages_are : (run two_shards events).bag ≡ messages
unfolding computing
messages_are = refl

pub logs_are : logs_of (run two_shards events) ≡ logs
unfolding computing
logs_are = refl

pub lines_are : counted_lines logs (run two_shards events).lines ≡ lines
unfolding computing
lines_are = refl

pub verdict_is : verdict logs lines ≡ Yes
unfolding computing
verdict_is = refl

-- both shards take these lists of records for their logs
pub the_logs_are_accepted : map (taken (shard 0)) ((Record.Opened 1 ∷ decision (txn 2) 200 (0 ∷ 1 ∷ []) [] (sets a one ∷ []) ∷ Record.Outcome (txn 2)
    (Some 200) ∷ []) ∷ []) ≡ Accepted ∷ []
unfolding computing
the_logs_are_accepted = refl

-- ---- what an inspector finds

-- the logs of one transaction of one shard, committed at 111
abbrev pub one_commit : List (List Record)
one_commit =
    (Record.Opened 1 ∷ decision (txn 1) 111 (0 ∷ []) [] (sets a one ∷ []) ∷ Record.Outcome (txn 1) (Some 111) ∷ [])
    ∷ (Record.Opened 1 ∷ [])
    ∷ []

pub a_look_that_misses_a_version : verdict one_commit (Line.Look a 111 None ∷ []) ≡ WrongRead 0
unfolding computing
a_look_that_misses_a_version = refl

pub an_acknowledgement_at_another_time : verdict one_commit (Line.Ack (txn 1) 110 5 ∷ []) ≡ Lost (txn 1)
unfolding computing
an_acknowledgement_at_another_time = refl

pub begun_after_with_a_smaller_timestamp :
    verdict
    ((Record.Opened 1 ∷ decision (txn 1) 111 (0 ∷ []) [] (sets a one ∷ []) ∷ [])
    ∷ (Record.Opened 1 ∷ decision (txn 2) 105 (1 ∷ []) [] (sets z two ∷ []) ∷ [])
    ∷ [])
    (Line.Ack (txn 1) 111 5 ∷ Line.Begin (txn 2) 9 ∷ [])
    ≡ WrongOrder 1 0
unfolding computing
begun_after_with_a_smaller_timestamp = refl

pub a_commit_without_its_other_part :
    verdict ((Record.Opened 1 ∷ decision (txn 2) 200 (0 ∷ 1 ∷ []) [] [] ∷ []) ∷ (Record.Opened 1 ∷ []) ∷ []) [] ≡ Torn (txn 2)
unfolding computing
a_commit_without_its_other_part = refl

-- two commits at one timestamp stand by their ids
pub equal_timestamps_stand_by_id :
    map (λ u. u.txn)
    (serial (history ((Record.Opened 1 ∷ decision (txn 2) 111 (0 ∷ []) [] (sets a one ∷ []) ∷ [])
    ∷ (Record.Opened 1 ∷ decision (txn 1) 111 (1 ∷ []) [] (sets z two ∷ []) ∷ [])
    ∷ [])))
    ≡ txn 1 ∷ txn 2 ∷ []
unfolding computing
equal_timestamps_stand_by_id = refl
