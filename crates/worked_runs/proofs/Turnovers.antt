-- Runs with turnovers: the log of a settled transaction is turned over; a crash in its call 3, a failure in it, an opening and steps behind it.
use Rattle.std.proofs.Common.{refl}
use Rattle.std.specs.Prelude.{ℕ, ◌≡◌, ◌^◌, true, List, [], ◌∷◌, ◌++◌, slice_get, Option, Some, option_map}
use Rattle.units.specs.declared.fault.Fault.TheVariants.{Device, Stopped, TimeSpent}
use Rattle.units.specs.declared.line.Verdict.TheVariants.{Yes}
use Rattle.record.specs.Verdict.{verdict}
use Rattle.record.specs.declared.record.Record.{Record}
use Rattle.record.specs.declared.record.Record.TheVariants as records
use Rattle.disk.specs.declared.plan.Fate.{Fate}
use Rattle.versions.specs.Pruned.{pruned}
use Rattle.protocol.specs.Outputs.{decision}
use Rattle.protocol.specs.Rows.{Memory}
use Rattle.protocol.specs.Step.{Refuses}
use Rattle.protocol.proofs.Samples.{a, one, two, txn, clock, sets, done_of, to_session}
use Rattle.ledger.specs.Turned.{turned}
use Rattle.world.specs.World.{ShardNow, Area, Nothing, Runs, areas_of, effect, gate_of, logs_of, new_area, read_area, replies_of_run, run, setup_of}
use Rattle.world.specs.Lawful.{lawful}
use Rattle.world.specs.declared.event.Act.{Act}
use Rattle.world.specs.declared.event.Doing.{Doing}
use Rattle.world.specs.declared.event.Event.{Event}
use Rattle.world.specs.declared.event.Reply.{Reply}
use Rattle.world.specs.Computing.{computing}
use Rattle.worked_runs.proofs.Events.{two_shards, on}
use Rattle.worked_runs.proofs.OneShardRun.{events as settled, logs as settled_logs}

-- the area that a read of a shard's disk gives, and where the log in it ends
abbrev pub area_at : List Event → ℕ → Option Area
area_at es n = option_map read_area (slice_get (run two_shards es).shards n)

abbrev pub gate_at : List Event → ℕ → Option ℕ
gate_at es n = option_map (λ s. gate_of (read_area s)) (slice_get (run two_shards es).shards n)

-- the first area, with the records that were logged
abbrev pub first_records : List Record
first_records = records.Opened 1 ∷ decision (txn 1) 111 (0 ∷ []) [] (sets a one ∷ []) ∷ records.Outcome (txn 1) (Some 111) ∷ []

abbrev pub first_area : Area
first_area = record { begins = 9224; slot = 0; records = first_records }

-- what is renewed of it
abbrev pub renewed : List Record
renewed = records.Base 1 111 0 ∷ records.Version (record { key = a; at = 111; value = Some one }) ∷ records.Settled (txn 1) 111 (0 ∷ []) ∷ []

abbrev pub renewed_area : Area
renewed_area = record { begins = 9312; slot = 1; records = renewed }

-- ---- the turnover

abbrev pub turn : Event
turn = on 236 (Act.At 0 Doing.Turn)

abbrev pub turned_over : List Event
turned_over = settled ++ turn ∷ []

pub before_it : area_at settled 0 ≡ Some first_area
unfolding computing
before_it = refl

pub is_lawful : lawful two_shards turned_over ≡ true
unfolding computing turned pruned
is_lawful = refl

pub new_area_is : area_at turned_over 0 ≡ Some renewed_area
unfolding computing turned pruned
new_area_is = refl

pub ends_at : gate_at turned_over 0 ≡ Some 9394
unfolding computing turned pruned
ends_at = refl

-- all records that were logged are the same
pub logs_are : logs_of (run two_shards turned_over) ≡ settled_logs
unfolding computing turned pruned
logs_are = refl

-- the verdict on what the disks hold
pub verdict_is : verdict (areas_of (run two_shards turned_over)) (run two_shards turned_over).lines ≡ Yes
unfolding computing turned pruned
verdict_is = refl

-- ---- a crash in call 3

abbrev pub crashed : Fate → List Event
crashed fate = settled ++ on 236 (Act.CrashIn 0 3 fate 0 Doing.Turn) ∷ []

pub crash_is_lawful : lawful two_shards (crashed Fate.New) ≡ true
unfolding computing turned pruned
crash_is_lawful = refl

pub old_left : area_at (crashed Fate.Old) 0 ≡ Some first_area
unfolding computing turned pruned
old_left = refl

pub filled_left : area_at (crashed (Fate.Filled 55)) 0 ≡ Some first_area
unfolding computing turned pruned
filled_left = refl

pub new_left : area_at (crashed Fate.New) 0 ≡ Some renewed_area
unfolding computing turned pruned
new_left = refl

-- before it the slot is not written, behind it the new area stays
pub early_left : area_at (settled ++ on 236 (Act.CrashIn 0 2 Fate.New 0 Doing.Turn) ∷ []) 0 ≡ Some first_area
unfolding computing turned pruned
early_left = refl

pub late_left : area_at (settled ++ on 236 (Act.CrashIn 0 5 Fate.Old 0 Doing.Turn) ∷ []) 0 ≡ Some renewed_area
unfolding computing turned pruned
late_left = refl

-- ---- a failure in it

abbrev pub failed : ℕ → List Event
failed call = settled ++ on 236 (Act.FailIn 0 call 0 Doing.Turn) ∷ on 237 (Act.At 0 Doing.Turn) ∷ []

pub failed_replies : replies_of_run two_shards (failed 3)
    ≡ replies_of_run two_shards settled ++ Reply.Refused Device ∷ Reply.Refused Stopped ∷ []
unfolding computing turned pruned
failed_replies = refl

-- a read gives the old area where the gate was not written, and the new one where it was not synced
pub read_old : area_at (failed 3) 0 ≡ Some first_area
unfolding computing turned pruned
read_old = refl

pub read_new : area_at (failed 4) 0 ≡ Some renewed_area
unfolding computing turned pruned
read_new = refl

-- and a later crash leaves one or the other
abbrev pub then_crashed : ℕ → Fate → List Event
then_crashed call fate = failed call ++ on 238 (Act.CrashIn 0 0 fate 0 Doing.Turn) ∷ []

pub left_old : area_at (then_crashed 4 Fate.Old) 0 ≡ Some first_area
unfolding computing turned pruned
left_old = refl

pub left_new : area_at (then_crashed 3 Fate.New) 0 ≡ Some renewed_area
unfolding computing turned pruned
left_new = refl

-- ---- an opening and steps behind it

-- the commit of the transaction comes again, and another one is made
abbrev pub opened : Fate → List Event
opened fate = crashed fate ++ on 300 (Act.At 0 Doing.Open) ∷ []

abbrev pub went_on : Fate → List Event
went_on fate =
    opened fate ++ on 310 (Act.Deliver 0 (clock 305 315)) ∷ on 320 (Act.Begin (txn 2)) ∷ on 320 (Act.Write (txn 2) a (Some two))
    ∷ on 320 (Act.Close (txn 2)) ∷ on 325 (Act.Deliver 3 (clock 320 330)) ∷ []

abbrev pub later_records : List Record
later_records = records.Opened 2 ∷ decision (txn 2) 331 (0 ∷ []) [] (sets a two ∷ []) ∷ []

pub goes_on_lawfully : lawful two_shards (went_on Fate.New) ≡ true
unfolding computing turned pruned
goes_on_lawfully = refl

-- it is done, as before, and nothing is logged for it
pub done_again : slice_get (run two_shards (went_on Fate.New)).bag 2 ≡ Some (to_session (txn 1) (done_of (txn 1) (Some 111)))
unfolding computing turned pruned
done_again = refl

-- what is logged is behind the new area, or behind the old one
pub new_goes_on : area_at (went_on Fate.New) 0 ≡ Some (record { begins = 9312; slot = 1; records = renewed ++ later_records })
unfolding computing turned pruned
new_goes_on = refl

pub old_goes_on : area_at (went_on Fate.Old) 0 ≡ Some (record { begins = 9224; slot = 0; records = first_records ++ later_records })
unfolding computing turned pruned
old_goes_on = refl

pub same_logs : logs_of (run two_shards (went_on Fate.New)) ≡ logs_of (run two_shards (went_on Fate.Old))
unfolding computing turned pruned
same_logs = refl

-- the next turnover takes the next slot, behind the gate of the area
pub next_turnover : option_map new_area (slice_get (run two_shards (went_on Fate.New)).shards 0)
    ≡ Some (record {
      begins = 9451;
      slot = 2;
      records = records.Base 2 331 0 ∷ records.Version (record { key = a; at = 111; value = Some one }) ∷ records.Settled (txn 1) 111 (0 ∷ [])
          ∷ decision (txn 2) 331 (0 ∷ []) [] (sets a two ∷ []) ∷ [];
    })
unfolding computing turned pruned
next_turnover = refl

-- ---- where there is no place

-- a shard that runs, with its log in an area of the file
abbrev pub placed : Memory → ℕ → ℕ → ShardNow
placed memory begins slot =
    record { log = first_records; area = record { begins = begins; slot = slot; records = first_records }; unsure = Nothing; state = Runs memory; views = [] }

pub no_slot : (memory : Memory) → effect (setup_of two_shards 0) [] (placed memory 9224 1024) Doing.Turn ≡ Refuses TimeSpent
unfolding computing turned pruned
no_slot memory = refl

pub no_room : (memory : Memory) → effect (setup_of two_shards 0) [] (placed memory (2 ^ 40) 0) Doing.Turn ≡ Refuses TimeSpent
unfolding computing turned pruned
no_room memory = refl
