-- Steps of one shard: promises, votes, decisions, wounds, waits, refusals.
use Rattle.std.proofs.Common.{refl}
use Rattle.std.specs.Prelude.{◌≡◌, List, [], ◌∷◌, Some, None}
use Rattle.protocol.specs.Rows.{safe}
use Rattle.protocol.specs.Outputs.{promise, decision}
use Rattle.units.specs.declared.fault.Fault.TheVariants.{Early, TimeSpent, Future}
use Rattle.units.specs.declared.writes.Write.{Write}
use Rattle.truetime.specs.Interval.{Interval}
use Rattle.record.specs.declared.record.Record.{Record}
use Rattle.message.specs.declared.message.Input.{Input}
use Rattle.message.specs.declared.message.Answer.TheVariants.{Holds}
use Rattle.protocol.specs.Computing.{computing}
use Rattle.protocol.proofs.Samples.{answer_of, ask_of, commit_of, done_of, give_up_of, outcome_of, prepare_of, read_of, vote_of, a, z, one, two, txn}
use Rattle.protocol.proofs.Samples.{clock, sets, shard, opened, fresh, Refuses, Does, fed, hears, nothing, comes, to_shard, to_session}

-- what is written in the examples
abbrev pub writes_a : List Write
writes_a = sets a one ∷ []

abbrev pub writes_z : List Write
writes_z = sets z two ∷ []

-- a commit of one shard: decided at 111, told only when 111 has passed
abbrev pub alone : List (Interval × Input)
alone =
    comes (commit_of (txn 1) (0 ∷ []) 0 [] writes_a) (clock 100 110)
    ∷ (clock 105 112, Input.Settle (txn 1)) ∷ (clock 111 120, Input.Settle (txn 1)) ∷ (clock 112 121, Input.Settle (txn 1)) ∷ []

pub a_commit_waits_until_its_time_has_passed : hears (shard 0) fresh alone
    ≡ Does (Some (decision (txn 1) 111 (0 ∷ []) [] writes_a)) []
    ∷ Refuses Early
    ∷ Refuses Early
    ∷ Does (Some (Record.Outcome (txn 1) (Some 111))) (to_session (txn 1) (done_of (txn 1) (Some 111)) ∷ [])
    ∷ []
unfolding computing
a_commit_waits_until_its_time_has_passed = refl

-- two parts: the coordinator collects, the other promises at 200, and the vote decides at 200
abbrev pub collects : Interval × Input
collects = comes (commit_of (txn 2) (0 ∷ 1 ∷ []) 0 [] writes_a) (clock 100 110)

abbrev pub prepares : Interval × Input
prepares = comes (prepare_of (txn 2) 0 0 [] writes_z) (clock 200 210)

abbrev pub votes : Interval × Input
votes = comes (vote_of 1 (txn 2) (Some 200)) (clock 200 210)

pub the_other_part_promises : hears (shard 1) fresh (prepares ∷ [])
    ≡ Does (Some (promise (txn 2) 0 200 [] writes_z)) (to_shard 0 (vote_of 1 (txn 2) (Some 200)) ∷ []) ∷ []
unfolding computing
the_other_part_promises = refl

pub the_vote_decides : hears (shard 0) fresh (collects ∷ votes ∷ [])
    ≡ nothing ∷ Does (Some (decision (txn 2) 200 (0 ∷ 1 ∷ []) [] writes_a)) [] ∷ []
unfolding computing
the_vote_decides = refl

-- a vote before the commit changes nothing; the same vote after it decides
pub an_early_vote_is_passed_over : hears (shard 0) fresh (votes ∷ collects ∷ votes ∷ [])
    ≡ nothing ∷ nothing ∷ Does (Some (decision (txn 2) 200 (0 ∷ 1 ∷ []) [] writes_a)) [] ∷ []
unfolding computing
an_early_vote_is_passed_over = refl

-- a promise at 200 is served below 200 alone
pub a_promise_holds_the_served_time : safe (fed (shard 1) fresh (prepares ∷ [])).memory ≡ 199
unfolding computing
a_promise_holds_the_served_time = refl

pub a_promise_raises_the_greatest_time : (fed (shard 1) fresh (prepares ∷ [])).memory.last ≡ 200
unfolding computing
a_promise_raises_the_greatest_time = refl

-- the outcome comes twice: logged once, and the second changes nothing
abbrev pub outcome : Interval × Input
outcome = comes (outcome_of 0 (txn 2) (Some 200)) (clock 210 220)

pub a_repeated_outcome_changes_nothing : hears (shard 1) fresh (prepares ∷ outcome ∷ outcome ∷ [])
    ≡ Does (Some (promise (txn 2) 0 200 [] writes_z)) (to_shard 0 (vote_of 1 (txn 2) (Some 200)) ∷ [])
    ∷ Does (Some (Record.Outcome (txn 2) (Some 200))) []
    ∷ nothing
    ∷ []
unfolding computing
a_repeated_outcome_changes_nothing = refl

-- an older writer wounds a younger reader, which is refused from then on
pub an_older_writer_wounds : hears (shard 1) fresh
    (comes (read_of (txn 2) z) (clock 190 195)
    ∷ comes (prepare_of (txn 1) 0 0 [] writes_z) (clock 200 210)
    ∷ comes (prepare_of (txn 2) 0 1 (z ∷ []) []) (clock 205 215)
    ∷ [])
    ≡ Does None (to_session (txn 2) (answer_of 1 (txn 2) z 1 (Holds None)) ∷ [])
    ∷ Does (Some (promise (txn 1) 0 200 [] writes_z)) (to_shard 0 (vote_of 1 (txn 1) (Some 200)) ∷ [])
    ∷ Does None (to_shard 0 (vote_of 1 (txn 2) None) ∷ [])
    ∷ []
unfolding computing
an_older_writer_wounds = refl

-- a younger writer waits for an older reader, and goes on when that one gives up
pub a_younger_writer_waits : hears (shard 1) fresh
    (comes (read_of (txn 1) z) (clock 190 195)
    ∷ comes (prepare_of (txn 2) 0 0 [] writes_z) (clock 200 210)
    ∷ comes (give_up_of (txn 1)) (clock 205 215)
    ∷ (clock 220 230, Input.Resume)
    ∷ [])
    ≡ Does None (to_session (txn 1) (answer_of 1 (txn 1) z 1 (Holds None)) ∷ [])
    ∷ nothing
    ∷ nothing
    ∷ Does (Some (promise (txn 2) 0 220 [] writes_z)) (to_shard 0 (vote_of 1 (txn 2) (Some 220)) ∷ [])
    ∷ []
unfolding computing
a_younger_writer_waits = refl

-- reads of an earlier epoch are refused, and that vote aborts the transaction at its coordinator
pub an_old_epoch_is_refused : hears (shard 1) (opened (Record.Opened 1 ∷ Record.Opened 2 ∷ []))
    (comes (prepare_of (txn 1) 0 1 (z ∷ []) []) (clock 200 210) ∷ [])
    ≡ Does None (to_shard 0 (vote_of 1 (txn 1) None) ∷ []) ∷ []
unfolding computing
an_old_epoch_is_refused = refl

pub a_refused_vote_aborts : hears (shard 0) fresh
    (comes (commit_of (txn 1) (0 ∷ 1 ∷ []) 0 [] writes_a) (clock 100 110)
    ∷ comes (vote_of 1 (txn 1) None) (clock 210 220)
    ∷ [])
    ≡ nothing
    ∷ Does (Some (Record.Abort (txn 1)))
    (to_session (txn 1) (done_of (txn 1) None) ∷ to_shard 1 (outcome_of 0 (txn 1) None) ∷ [])
    ∷ []
unfolding computing
a_refused_vote_aborts = refl

-- a coordinator that does not know a transaction logs its abort before it answers, and keeps to it
pub an_unknown_transaction_is_aborted : hears (shard 0) fresh
    (comes (ask_of 1 (txn 9)) (clock 100 110)
    ∷ comes (commit_of (txn 9) (0 ∷ 1 ∷ []) 0 [] writes_a) (clock 100 110)
    ∷ [])
    ≡ Does (Some (Record.Abort (txn 9))) (to_shard 1 (outcome_of 0 (txn 9) None) ∷ [])
    ∷ Does None (to_session (txn 9) (done_of (txn 9) None) ∷ [])
    ∷ []
unfolding computing
an_unknown_transaction_is_aborted = refl

-- who gave up before the commit came is aborted
pub who_gave_up_is_aborted : hears (shard 0) fresh
    (comes (give_up_of (txn 4)) (clock 100 110)
    ∷ comes (commit_of (txn 4) (0 ∷ []) 0 [] writes_a) (clock 100 110)
    ∷ [])
    ≡ nothing ∷ Does (Some (Record.Abort (txn 4))) (to_session (txn 4) (done_of (txn 4) None) ∷ []) ∷ []
unfolding computing
who_gave_up_is_aborted = refl

-- time is served up to the latest end of a reading, and logged once
pub an_advance_is_logged_once : hears (shard 1) fresh
    ((clock 100 110, Input.Advance 111) ∷ (clock 100 110, Input.Advance 110) ∷ (clock 100 110, Input.Advance 110) ∷ [])
    ≡ Refuses Future ∷ Does (Some (Record.Ceiling 110)) [] ∷ nothing ∷ []
unfolding computing
an_advance_is_logged_once = refl

-- at the end of time a commit is refused
pub the_time_is_spent : hears (shard 0) fresh
    (comes (commit_of (txn 1) (0 ∷ []) 0 [] writes_a) (clock 100 4611686018427387903) ∷ [])
    ≡ Refuses TimeSpent ∷ []
unfolding computing
the_time_is_spent = refl

-- a read that the writer of another key made: the promise is at 90, the commit at 111, and the outcome installs nothing
pub a_part_that_only_reads : hears (shard 1) fresh
    (comes (read_of (txn 3) z) (clock 80 85)
    ∷ comes (prepare_of (txn 3) 0 1 (z ∷ []) []) (clock 90 95)
    ∷ comes (outcome_of 0 (txn 3) (Some 111)) (clock 112 121)
    ∷ [])
    ≡ Does None (to_session (txn 3) (answer_of 1 (txn 3) z 1 (Holds None)) ∷ [])
    ∷ Does (Some (promise (txn 3) 0 90 (z ∷ []) [])) (to_shard 0 (vote_of 1 (txn 3) (Some 90)) ∷ [])
    ∷ Does (Some (Record.Outcome (txn 3) (Some 111))) []
    ∷ []
unfolding computing
a_part_that_only_reads = refl
