-- Served time: what a promise and a decision hold back, and what outlives a crash. Beside it looks, and two commits at one
-- timestamp.
use Rattle.std.proofs.Common.{refl}
use Rattle.std.specs.Prelude.{ℕ, ◌≡◌, List, [], ◌∷◌, ◌++◌, slice_get, Option, Some, None}
use Rattle.units.specs.declared.fault.Fault.TheVariants.{NotYet, Stranger}
use Rattle.units.specs.declared.line.Line.{Line}
use Rattle.record.specs.declared.record.Record.{Record}
use Rattle.protocol.specs.Rows.{safe}
use Rattle.protocol.specs.Outputs.{decision, promise}
use Rattle.protocol.proofs.Samples.{read_of, a, m, z, one, two, txn, clock, sets, commit_of, prepare_of, vote_of, outcome_of, answer_of, done_of}
use Rattle.protocol.proofs.Samples.{to_shard, to_session}
use Rattle.message.specs.declared.message.Answer.TheVariants.{Holds}
use Rattle.world.specs.Computing.{computing}
use Rattle.world.specs.World.{World, Runs, run, replies_of_run, logs_of}
use Rattle.world.specs.declared.event.Act.{Act}
use Rattle.world.specs.declared.event.Config.{Config}
use Rattle.world.specs.declared.event.Doing.{Doing}
use Rattle.world.specs.declared.event.Event.{Event}
use Rattle.world.specs.declared.event.Reply.{Reply}
use Rattle.worked_runs.proofs.Events.{two_shards, on}

-- the greatest timestamp and the served time of a running shard
unfoldable pub served : World → ℕ → Option (ℕ × ℕ)
unfolding computing
served w n =
    elim (slice_get w.shards n) [ None ↦ None | Some s ↦ elim s.state [ Runs memory ↦ Some (memory.last, safe memory) | _ ↦ None ] ]

-- ---- a promise at 200 is served below 200 alone, until its outcome is there

abbrev pub promised : List Event
promised =
    on 100 (Act.Begin (txn 2)) ∷ on 100 (Act.Write (txn 2) a (Some one)) ∷ on 100 (Act.Write (txn 2) z (Some two)) ∷ on 100 (Act.Close (txn 2))
    ∷ on 105 (Act.Deliver 0 (clock 100 110)) ∷ on 205 (Act.Deliver 1 (clock 200 210)) ∷ []

pub a_promise_holds_back : served (run two_shards promised) 1 ≡ Some (200, 199)
unfolding computing served
a_promise_holds_back = refl

pub looks_at_a_promise : replies_of_run two_shards (promised ++ on 206 (Act.Look 1 z 199) ∷ on 206 (Act.Look 1 z 200) ∷ on 206 (Act.Look 0 z 0) ∷ [])
    ≡ Reply.Done ∷ Reply.Done ∷ Reply.Done ∷ Reply.Done ∷ Reply.Done ∷ Reply.Done
    ∷ Reply.Shows None ∷ Reply.Refused NotYet ∷ Reply.Refused Stranger ∷ []
unfolding computing
looks_at_a_promise = refl

abbrev pub told : List Event
told =
    promised ++ on 206 (Act.Deliver 2 (clock 200 210)) ∷ on 215 (Act.At 0 (Doing.Settle (txn 2) (clock 201 230)))
    ∷ on 216 (Act.Deliver 4 (clock 210 220)) ∷ on 217 (Act.Deliver 4 (clock 210 220)) ∷ []

pub an_outcome_frees : served (run two_shards told) 1 ≡ Some (200, 200)
unfolding computing served
an_outcome_frees = refl

pub an_outcome_comes_twice : logs_of (run two_shards told)
    ≡ (Record.Opened 1 ∷ decision (txn 2) 200 (0 ∷ 1 ∷ []) [] (sets a one ∷ []) ∷ Record.Outcome (txn 2) (Some 200) ∷ [])
    ∷ (Record.Opened 1 ∷ promise (txn 2) 0 200 [] (sets z two ∷ []) ∷ Record.Outcome (txn 2) (Some 200) ∷ [])
    ∷ []
unfolding computing
an_outcome_comes_twice = refl

-- ---- what outlives a crash

abbrev pub crashed : ℕ → ℕ → List Event
crashed at n = on at (Act.Crash n) ∷ on at (Act.At n Doing.Open) ∷ []

pub a_promise_outlives_a_crash : served (run two_shards (promised ++ crashed 210 1)) 1 ≡ Some (200, 199)
unfolding computing served
a_promise_outlives_a_crash = refl

abbrev pub decided : List Event
decided =
    on 100 (Act.Begin (txn 1)) ∷ on 100 (Act.Write (txn 1) a (Some one)) ∷ on 100 (Act.Close (txn 1)) ∷ on 105 (Act.Deliver 0 (clock 100 110)) ∷ []

pub a_decision_outlives_a_crash : served (run two_shards (decided ++ crashed 106 0)) 0 ≡ Some (111, 110)
unfolding computing served
a_decision_outlives_a_crash = refl

abbrev pub with_stride : Config
with_stride = record { splits = m ∷ []; stride = 50 }

abbrev pub advanced : List Event
advanced = on 155 (Act.At 1 (Doing.Advance 150 (clock 150 160))) ∷ []

pub a_ceiling_is_ahead : served (run with_stride advanced) 1 ≡ Some (150, 150)
unfolding computing served
a_ceiling_is_ahead = refl

pub and_is_served_after_a_crash : served (run with_stride (advanced ++ crashed 156 1)) 1 ≡ Some (200, 200)
unfolding computing served
and_is_served_after_a_crash = refl

-- ---- two commits of one shard each at one timestamp stand by their ids

abbrev pub two_alone : List Event
two_alone =
    on 100 (Act.Begin (txn 1)) ∷ on 100 (Act.Begin (txn 2)) ∷ on 100 (Act.Write (txn 1) a (Some one)) ∷ on 100 (Act.Write (txn 2) z (Some two))
    ∷ on 100 (Act.Close (txn 2)) ∷ on 100 (Act.Close (txn 1)) ∷ on 105 (Act.Deliver 0 (clock 100 110)) ∷ on 105 (Act.Deliver 1 (clock 100 110)) ∷ []

pub both_at_one_time : logs_of (run two_shards two_alone)
    ≡ (Record.Opened 1 ∷ decision (txn 1) 111 (0 ∷ []) [] (sets a one ∷ []) ∷ [])
    ∷ (Record.Opened 1 ∷ decision (txn 2) 111 (1 ∷ []) [] (sets z two ∷ []) ∷ [])
    ∷ []
unfolding computing
both_at_one_time = refl

-- ---- a part that only reads holds served time back as well, and installs nothing

abbrev pub reads_and_writes : List Event
reads_and_writes =
    on 70 (Act.Begin (txn 3)) ∷ on 70 (Act.Read (txn 3) z) ∷ on 80 (Act.Deliver 0 (clock 75 85)) ∷ on 81 (Act.Deliver 1 (clock 75 85))
    ∷ on 82 (Act.Write (txn 3) a (Some one)) ∷ on 83 (Act.Close (txn 3))
    ∷ on 92 (Act.Deliver 3 (clock 90 95)) ∷ on 105 (Act.Deliver 2 (clock 100 110)) ∷ on 106 (Act.Deliver 4 (clock 100 110))
    ∷ on 116 (Act.At 0 (Doing.Settle (txn 3) (clock 112 121))) ∷ on 117 (Act.Deliver 6 (clock 112 121)) ∷ []

pub what_a_reading_part_logs : logs_of (run two_shards reads_and_writes)
    ≡ (Record.Opened 1 ∷ decision (txn 3) 111 (0 ∷ 1 ∷ []) [] (sets a one ∷ []) ∷ Record.Outcome (txn 3) (Some 111) ∷ [])
    ∷ (Record.Opened 1 ∷ promise (txn 3) 0 90 (z ∷ []) [] ∷ Record.Outcome (txn 3) (Some 111) ∷ [])
    ∷ []
unfolding computing
what_a_reading_part_logs = refl

pub what_a_reading_part_serves : served (run two_shards reads_and_writes) 1 ≡ Some (111, 111)
unfolding computing served
what_a_reading_part_serves = refl

pub what_it_reports : (run two_shards reads_and_writes).lines
    ≡ Line.Begin (txn 3) 0 ∷ Line.Read (txn 3) z None ∷ Line.Ack (txn 3) 111 9 ∷ []
unfolding computing
what_it_reports = refl

-- ---- reads of an earlier epoch are refused, and the transaction aborts

abbrev pub old_epoch : List Event
old_epoch =
    on 70 (Act.Begin (txn 1)) ∷ on 70 (Act.Read (txn 1) z) ∷ on 80 (Act.Deliver 0 (clock 75 85)) ∷ on 81 (Act.Deliver 1 (clock 75 85))
    ∷ on 82 (Act.Write (txn 1) a (Some one)) ∷ on 83 (Act.Close (txn 1))
    ∷ on 90 (Act.Crash 1) ∷ on 91 (Act.At 1 Doing.Open)
    ∷ on 105 (Act.Deliver 2 (clock 100 110)) ∷ on 205 (Act.Deliver 3 (clock 200 210)) ∷ on 206 (Act.Deliver 4 (clock 200 210)) ∷ []

pub an_old_epoch_aborts : logs_of (run two_shards old_epoch)
    ≡ (Record.Opened 1 ∷ Record.Abort (txn 1) ∷ []) ∷ (Record.Opened 1 ∷ Record.Opened 2 ∷ []) ∷ []
unfolding computing
an_old_epoch_aborts = refl

pub an_old_epoch_is_told : (run two_shards old_epoch).bag
    ≡ to_shard 1 (read_of (txn 1) z)
    ∷ to_session (txn 1) (answer_of 1 (txn 1) z 1 (Holds None))
    ∷ to_shard 0 (commit_of (txn 1) (0 ∷ 1 ∷ []) 0 [] (sets a one ∷ []))
    ∷ to_shard 1 (prepare_of (txn 1) 0 1 (z ∷ []) [])
    ∷ to_shard 0 (vote_of 1 (txn 1) None)
    ∷ to_session (txn 1) (done_of (txn 1) None)
    ∷ to_shard 1 (outcome_of 0 (txn 1) None)
    ∷ []
unfolding computing
an_old_epoch_is_told = refl
