-- Runs with crashes, failing device calls and openings.
use Rattle.std.proofs.Common.{refl}
use Rattle.std.specs.Prelude.{ℕ, ◌≡◌, ◌-◌, ◌^◌, List, [], ◌∷◌, ◌++◌, map, Some, None}
use Rattle.world.specs.World.{run, replies_of_run, logs_of, start}
use Rattle.world.specs.Lawful.{first_unlawful_from}
use Rattle.units.specs.declared.fault.Fault.TheVariants.{Early, Stopped, Device, NotYet, BadRequest}
use Rattle.units.specs.declared.fault.Reason.TheVariants.{Nothing}
use Rattle.units.specs.declared.line.Line.{Line}
use Rattle.record.specs.declared.record.Record.{Record}
use Rattle.world.specs.declared.event.Act.{Act}
use Rattle.disk.specs.declared.plan.Fate.{Fate}
use Rattle.world.specs.declared.event.Config.{Config}
use Rattle.world.specs.declared.event.Doing.{Doing}
use Rattle.world.specs.declared.event.Event.{Event}
use Rattle.world.specs.declared.event.Reply.{Reply}
use Rattle.protocol.specs.Outputs.{promise, decision}
use Rattle.world.specs.Computing.{computing}
use Rattle.protocol.proofs.Samples.{a, m, z, one, two, txn, clock, sets}
use Rattle.worked_runs.proofs.Served.{served}
use Rattle.worked_runs.proofs.Events.{two_shards, on}

-- one write, committed by one shard but not settled
abbrev pub one_write : List Event
one_write =
    on 100 (Act.Begin (txn 1)) ∷ on 100 (Act.Write (txn 1) a (Some one)) ∷ on 100 (Act.Close (txn 1)) ∷ []

abbrev pub one_decided : List Event
one_decided = one_write ++ on 105 (Act.Deliver 0 (clock 100 110)) ∷ []

-- a decided row outlives a crash; its data is seen by nobody until its time has passed
abbrev pub after_a_crash : List Event
after_a_crash =
    on 106 (Act.Crash 0) ∷ on 106 (Act.Look 0 a 0) ∷ on 107 (Act.At 0 Doing.Open)
    ∷ on 108 (Act.Look 0 a 111) ∷ on 108 (Act.Look 0 a 110)
    ∷ on 110 (Act.At 0 (Doing.Settle (txn 1) (clock 105 112)))
    ∷ on 115 (Act.At 0 (Doing.Settle (txn 1) (clock 112 121)))
    ∷ on 116 (Act.Look 0 a 111)
    ∷ []

pub a_decision_outlives_a_crash : replies_of_run two_shards (one_decided ++ after_a_crash)
    ≡ Reply.Done ∷ Reply.Done ∷ Reply.Done ∷ Reply.Done
    ∷ Reply.Crashed ∷ Reply.Refused Stopped ∷ Reply.Done
    ∷ Reply.Refused NotYet ∷ Reply.Shows None
    ∷ Reply.Refused Early ∷ Reply.Done
    ∷ Reply.Shows (Some one)
    ∷ []
unfolding computing
a_decision_outlives_a_crash = refl

pub and_is_acknowledged_then : (run two_shards (one_decided ++ after_a_crash)).lines
    ≡ Line.Begin (txn 1) 0 ∷ Line.Look a 110 None ∷ Line.Ack (txn 1) 111 10 ∷ Line.Look a 111 (Some one) ∷ []
unfolding computing
and_is_acknowledged_then = refl

-- ---- an outcome that was lost is asked for

abbrev pub two_writes : List Event
two_writes =
    on 100 (Act.Begin (txn 2)) ∷ on 100 (Act.Write (txn 2) a (Some one)) ∷ on 100 (Act.Write (txn 2) z (Some two)) ∷ on 100 (Act.Close (txn 2))
    ∷ on 105 (Act.Deliver 0 (clock 100 110)) ∷ on 205 (Act.Deliver 1 (clock 200 210)) ∷ on 206 (Act.Deliver 2 (clock 200 210))
    ∷ on 215 (Act.At 0 (Doing.Settle (txn 2) (clock 201 230)))
    ∷ []

abbrev pub asks : List Event
asks =
    on 216 (Act.Crash 1) ∷ on 217 (Act.At 1 Doing.Open)
    ∷ on 218 (Act.Look 1 z 200)
    ∷ on 219 (Act.At 1 (Doing.Nudge (txn 2) (clock 210 220)))
    ∷ on 220 (Act.Deliver 5 (clock 215 225))
    ∷ on 221 (Act.Deliver 6 (clock 215 225))
    ∷ on 222 (Act.Look 1 z 200)
    ∷ []

pub a_lost_outcome_is_asked_for : replies_of_run two_shards (two_writes ++ asks)
    ≡ Reply.Done ∷ Reply.Done ∷ Reply.Done ∷ Reply.Done ∷ Reply.Done ∷ Reply.Done ∷ Reply.Done ∷ Reply.Done
    ∷ Reply.Crashed ∷ Reply.Done ∷ Reply.Refused NotYet ∷ Reply.Done ∷ Reply.Done ∷ Reply.Done ∷ Reply.Shows (Some two)
    ∷ []
unfolding computing
a_lost_outcome_is_asked_for = refl

pub its_log_is : logs_of (run two_shards (two_writes ++ asks))
    ≡ (Record.Opened 1 ∷ decision (txn 2) 200 (0 ∷ 1 ∷ []) [] (sets a one ∷ []) ∷ Record.Outcome (txn 2) (Some 200) ∷ [])
    ∷ (Record.Opened 1 ∷ promise (txn 2) 0 200 [] (sets z two ∷ []) ∷ Record.Opened 2 ∷ Record.Outcome (txn 2) (Some 200) ∷ [])
    ∷ []
unfolding computing
its_log_is = refl

-- ---- served time outlives a crash by its ceiling, which is logged some stride ahead

abbrev pub with_stride : Config
with_stride = record { splits = m ∷ []; stride = 50 }

abbrev pub advances : List Event
advances =
    on 155 (Act.At 1 (Doing.Advance 150 (clock 150 160))) ∷ on 156 (Act.Crash 1) ∷ on 157 (Act.At 1 Doing.Open)
    ∷ on 157 (Act.Begin (txn 1)) ∷ on 157 (Act.Write (txn 1) a (Some one)) ∷ on 157 (Act.Write (txn 1) z (Some two)) ∷ on 157 (Act.Close (txn 1))
    ∷ on 165 (Act.Deliver 1 (clock 160 170))
    ∷ []

pub a_promise_is_above_all_that_was_served : logs_of (run with_stride advances)
    ≡ (Record.Opened 1 ∷ [])
    ∷ (Record.Opened 1 ∷ Record.Ceiling 200 ∷ Record.Opened 2 ∷ promise (txn 1) 0 201 [] (sets z two ∷ []) ∷ [])
    ∷ []
unfolding computing
a_promise_is_above_all_that_was_served = refl

-- ---- a crash in each call of an append: the record is there only where its gate was left open

abbrev pub advanced_with : ℕ → Fate → List (List Record)
advanced_with call fate = logs_of (run two_shards (on 205 (Act.CrashIn 1 call fate 1 (Doing.Advance 200 (clock 200 210))) ∷ []))

abbrev pub old_log : List (List Record)
old_log = (Record.Opened 1 ∷ []) ∷ (Record.Opened 1 ∷ []) ∷ []

abbrev pub new_log : List (List Record)
new_log = (Record.Opened 1 ∷ []) ∷ (Record.Opened 1 ∷ Record.Ceiling 200 ∷ []) ∷ []

pub in_the_first_call : advanced_with 0 Fate.New ≡ old_log
unfolding computing
in_the_first_call = refl

pub with_the_gate_open : advanced_with 2 (Fate.Filled 165) ≡ new_log
unfolding computing
with_the_gate_open = refl

pub with_another_byte_in_the_gate : advanced_with 2 (Fate.Filled 55) ≡ old_log
unfolding computing
with_another_byte_in_the_gate = refl

pub after_the_last_call : advanced_with 4 Fate.Old ≡ new_log
unfolding computing
after_the_last_call = refl

-- ---- a failing call stops the shard; the next opening settles what is there

abbrev pub fails_in : ℕ → List Event
fails_in call =
    one_write
    ++ on 105 (Act.FailIn 0 call 0 (Doing.Take 0 (clock 100 110))) ∷ on 106 (Act.Deliver 0 (clock 100 110)) ∷ on 107 (Act.Look 0 a 0)
    ∷ on 108 (Act.At 0 Doing.Open)
    ∷ []

-- what is heard, whichever call fails: the failure, a refusal of what comes next, a look as before, and the opening
abbrev pub stopped : List Reply
stopped =
    Reply.Done ∷ Reply.Done ∷ Reply.Done ∷ Reply.Refused Device ∷ Reply.Refused Stopped ∷ Reply.Shows None ∷ Reply.Done ∷ []

pub a_stopped_shard_refuses : map (λ call. replies_of_run two_shards (fails_in call)) (0 ∷ 1 ∷ 2 ∷ 3 ∷ []) ≡ stopped ∷ stopped ∷ stopped ∷ stopped ∷ []
unfolding computing
a_stopped_shard_refuses = refl

-- with a write that fails, or the sync before the gate is opened, nothing is left
abbrev pub nothing_left : List (List Record)
nothing_left = (Record.Opened 1 ∷ Record.Opened 2 ∷ []) ∷ (Record.Opened 1 ∷ []) ∷ []

pub a_call_that_fails_early_leaves_nothing :
    map (λ call. logs_of (run two_shards (fails_in call))) (0 ∷ 1 ∷ 2 ∷ []) ≡ nothing_left ∷ nothing_left ∷ nothing_left ∷ []
unfolding computing
a_call_that_fails_early_leaves_nothing = refl

pub a_last_sync_that_fails_leaves_the_record : logs_of (run two_shards (fails_in 3))
    ≡ (Record.Opened 1 ∷ decision (txn 1) 111 (0 ∷ []) [] (sets a one ∷ []) ∷ Record.Opened 2 ∷ []) ∷ (Record.Opened 1 ∷ []) ∷ []
unfolding computing
a_last_sync_that_fails_leaves_the_record = refl

-- and its row is decided again
pub and_its_row : served (run two_shards (fails_in 3)) 0 ≡ Some (111, 110)
unfolding computing served
and_its_row = refl

-- the record of the last sync that failed is lost where the shard crashes before it is opened
pub unless_it_crashes_first : logs_of (run two_shards (one_write ++ on 105 (Act.FailIn 0 3 0 (Doing.Take 0 (clock 100 110))) ∷ on 106
    (Act.Crash 0) ∷ on 107 (Act.At 0 Doing.Open) ∷ []))
    ≡ nothing_left
unfolding computing
unless_it_crashes_first = refl

-- ---- what no network, clock or client can do

pub a_message_that_was_never_sent : first_unlawful_from (start two_shards) (on 100 (Act.Deliver 0 (clock 100 110)) ∷ []) ≡ Some 0
unfolding computing
a_message_that_was_never_sent = refl

pub a_second_begin : first_unlawful_from (start two_shards) (on 100 (Act.Begin (txn 1)) ∷ on 100 (Act.Begin (txn 1)) ∷ []) ≡ Some 1
unfolding computing
a_second_begin = refl

pub a_time_that_falls : first_unlawful_from (start two_shards) (on 100 (Act.Begin (txn 1)) ∷ on 99 (Act.Begin (txn 2)) ∷ []) ≡ Some 1
unfolding computing
a_time_that_falls = refl

pub a_dishonest_reading : first_unlawful_from (start two_shards) (on 100 (Act.At 0 (Doing.Advance 1 (clock 101 110))) ∷ []) ≡ Some 0
unfolding computing
a_dishonest_reading = refl

pub an_advance_beyond_the_limit :
    first_unlawful_from (start two_shards)
    (on 100 (Act.At 0 (Doing.Advance (2 ^ 62 - 1) (clock 0 (2 ^ 62)))) ∷ on 100 (Act.At 0 (Doing.Advance (2 ^ 62) (clock 0 (2 ^ 62)))) ∷ []) ≡ Some 1
unfolding computing
an_advance_beyond_the_limit = refl

pub an_opening_of_a_shard_that_runs : first_unlawful_from (start two_shards) (on 100 (Act.At 0 Doing.Open) ∷ []) ≡ Some 0
unfolding computing
an_opening_of_a_shard_that_runs = refl

-- a crash or a failure in an event of another shard; in one of its own shard it may happen
abbrev pub advances_under : ℕ → Act
advances_under named = Act.CrashIn 0 0 Fate.Old named (Doing.Advance 1 (clock 99 110))

pub a_crash_in_an_event_of_another_shard : first_unlawful_from (start two_shards) (on 100 (advances_under 1) ∷ []) ≡ Some 0
unfolding computing
a_crash_in_an_event_of_another_shard = refl

pub a_crash_in_an_event_of_its_own : first_unlawful_from (start two_shards) (on 100 (advances_under 0) ∷ []) ≡ None
unfolding computing
a_crash_in_an_event_of_its_own = refl

pub a_failure_in_an_event_of_another_shard :
    first_unlawful_from (start two_shards)
    (on 100 (Act.FailIn 1 0 1 (Doing.Resume (clock 99 110))) ∷ on 100 (Act.FailIn 1 0 0 (Doing.Resume (clock 99 110))) ∷ []) ≡ Some 1
unfolding computing
a_failure_in_an_event_of_another_shard = refl

pub a_transaction_of_nothing : replies_of_run two_shards (on 100 (Act.Begin (txn 1)) ∷ on 100 (Act.Close (txn 1)) ∷ [])
    ≡ Reply.Done ∷ Reply.Refused (BadRequest Nothing) ∷ []
unfolding computing
a_transaction_of_nothing = refl
