-- A version horizon: below it no value is read, above it all is as before, and it outlives a crash. Two commits at one shard
-- are settled, served time is above both, and the older value is forgotten.
use Rattle.std.proofs.Common.{refl}
use Rattle.std.specs.Prelude.{ℕ, ◌≡◌, ◌-◌, ◌^◌, true, List, [], ◌∷◌, ◌++◌, Some}
use Rattle.disk.specs.declared.plan.Fate.{Fate}
use Rattle.units.specs.declared.fault.Fault.TheVariants.{NotYet, Stranger, TooOld}
use Rattle.units.specs.declared.line.Line.{Line}
use Rattle.units.specs.declared.line.Verdict.TheVariants.{Yes}
use Rattle.record.specs.Verdict.{verdict}
use Rattle.record.specs.declared.record.Record.{Record}
use Rattle.protocol.specs.Outputs.{decision}
use Rattle.protocol.proofs.Samples.{a, z, one, two, txn, clock, sets}
use Rattle.world.specs.Computing.{computing}
use Rattle.world.specs.Lawful.{lawful, first_unlawful_from}
use Rattle.world.specs.World.{run, replies_of_run, logs_of, start}
use Rattle.world.specs.declared.event.Act.{Act}
use Rattle.world.specs.declared.event.Doing.{Doing}
use Rattle.world.specs.declared.event.Event.{Event}
use Rattle.world.specs.declared.event.Reply.{Reply}
use Rattle.worked_runs.proofs.Events.{two_shards, on}

-- z is one at 200 and two at 300, and all up to 400 is served
abbrev pub two_versions : List Event
two_versions =
    on 100 (Act.Begin (txn 1)) ∷ on 100 (Act.Write (txn 1) z (Some one)) ∷ on 100 (Act.Close (txn 1))
    ∷ on 195 (Act.Deliver 0 (clock 190 199)) ∷ on 205 (Act.At 1 (Doing.Settle (txn 1) (clock 201 210)))
    ∷ on 206 (Act.Begin (txn 2)) ∷ on 206 (Act.Write (txn 2) z (Some two)) ∷ on 206 (Act.Close (txn 2))
    ∷ on 295 (Act.Deliver 2 (clock 290 299)) ∷ on 305 (Act.At 1 (Doing.Settle (txn 2) (clock 301 310)))
    ∷ on 405 (Act.At 1 (Doing.Advance 400 (clock 400 410))) ∷ []

abbrev pub done_so_far : List Reply
done_so_far =
    Reply.Done ∷ Reply.Done ∷ Reply.Done ∷ Reply.Done ∷ Reply.Done ∷ Reply.Done ∷ Reply.Done ∷ Reply.Done ∷ Reply.Done ∷ Reply.Done
    ∷ Reply.Done ∷ []

abbrev pub forgets : ℕ → Act
forgets at = Act.At 1 (Doing.Forget at (clock 400 410))

abbrev pub forgotten : List Event
forgotten = two_versions ++ on 406 (forgets 401) ∷ on 406 (forgets 300) ∷ []

abbrev pub older : List Record
older =
    Record.Opened 1 ∷ decision (txn 1) 200 (1 ∷ []) [] (sets z one ∷ []) ∷ Record.Outcome (txn 1) (Some 200)
    ∷ decision (txn 2) 300 (1 ∷ []) [] (sets z two ∷ []) ∷ Record.Outcome (txn 2) (Some 300) ∷ Record.Ceiling 400 ∷ []

-- ---- what is forgotten is too old, where the key is at home; and nothing above what is served is forgotten

abbrev pub looked : List Event
looked =
    forgotten ++ on 407 (Act.Look 1 z 299) ∷ on 407 (Act.Look 1 z 300) ∷ on 407 (Act.Look 1 z 401) ∷ on 407 (Act.Look 1 a 299)
    ∷ on 408 (forgets 300) ∷ on 408 (forgets 299) ∷ []

pub is_lawful : lawful two_shards looked ≡ true
unfolding computing
is_lawful = refl

pub replies_are : replies_of_run two_shards looked
    ≡ done_so_far ++ Reply.Refused NotYet ∷ Reply.Done
    ∷ Reply.Refused TooOld ∷ Reply.Shows (Some two) ∷ Reply.Refused NotYet ∷ Reply.Refused Stranger
    ∷ Reply.Done ∷ Reply.Done ∷ []
unfolding computing
replies_are = refl

-- one horizon is logged: to forget the same again, or less, leaves no record
pub logs_are : logs_of (run two_shards looked) ≡ (Record.Opened 1 ∷ []) ∷ (older ++ Record.Horizon 300 ∷ []) ∷ []
unfolding computing
logs_are = refl

-- a look that is refused is no line
pub lines_are : (run two_shards looked).lines
    ≡ Line.Begin (txn 1) 0 ∷ Line.Ack (txn 1) 200 4 ∷ Line.Begin (txn 2) 5 ∷ Line.Ack (txn 2) 300 9 ∷ Line.Look z 300 (Some two) ∷ []
unfolding computing
lines_are = refl

pub verdict_is : verdict (logs_of (run two_shards looked)) (run two_shards looked).lines ≡ Yes
unfolding computing
verdict_is = refl

-- ---- to forget makes no view: one that was made before shows what it showed, and the next one has the horizon

pub views_are : replies_of_run two_shards
    (forgotten ++ on 407 (Act.View 1 1 z 299) ∷ on 420 (Act.At 1 (Doing.Advance 405 (clock 410 430)))
    ∷ on 421 (Act.View 1 1 z 299) ∷ on 421 (Act.View 1 2 z 299) ∷ on 421 (Act.View 1 2 z 300) ∷ on 421 (Act.View 1 3 z 300) ∷ [])
    ≡ done_so_far ++ Reply.Refused NotYet ∷ Reply.Done
    ∷ Reply.Shows (Some one) ∷ Reply.Done
    ∷ Reply.Shows (Some one) ∷ Reply.Refused TooOld ∷ Reply.Shows (Some two) ∷ Reply.Refused Stranger ∷ []
unfolding computing
views_are = refl

-- ---- a horizon outlives a crash

pub after_a_crash : replies_of_run two_shards
    (forgotten ++ on 407 (Act.Crash 1) ∷ on 408 (Act.At 1 Doing.Open) ∷ on 409 (Act.Look 1 z 299) ∷ on 409 (Act.Look 1 z 300) ∷ on 410 (forgets 300) ∷ [])
    ≡ done_so_far ++ Reply.Refused NotYet ∷ Reply.Done
    ∷ Reply.Crashed ∷ Reply.Done ∷ Reply.Refused TooOld ∷ Reply.Shows (Some two) ∷ Reply.Done ∷ []
unfolding computing
after_a_crash = refl

-- and one that struck its append leaves it where its gate was left open
abbrev pub forgotten_with : ℕ → Fate → List (List Record)
forgotten_with call fate = logs_of (run two_shards (two_versions ++ on 406 (Act.CrashIn 1 call fate 1 (Doing.Forget 300 (clock 400 410))) ∷ []))

pub in_the_first_call : forgotten_with 0 Fate.New ≡ (Record.Opened 1 ∷ []) ∷ older ∷ []
unfolding computing
in_the_first_call = refl

pub with_the_gate_open : forgotten_with 2 (Fate.Filled 165) ≡ (Record.Opened 1 ∷ []) ∷ (older ++ Record.Horizon 300 ∷ []) ∷ []
unfolding computing
with_the_gate_open = refl

-- ---- what is lawful: a timestamp within the limit, and an honest reading

pub a_horizon_above_the_limit : first_unlawful_from (start two_shards)
    (on 100 (Act.At 1 (Doing.Forget (2 ^ 62 - 1) (clock 90 110))) ∷ on 100 (Act.At 1 (Doing.Forget (2 ^ 62) (clock 90 110))) ∷ []) ≡ Some 1
unfolding computing
a_horizon_above_the_limit = refl

pub a_dishonest_reading : first_unlawful_from (start two_shards) (on 100 (Act.At 1 (Doing.Forget 0 (clock 101 110))) ∷ []) ≡ Some 0
unfolding computing
a_dishonest_reading = refl
