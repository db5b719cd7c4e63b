-- Ids that retire: below the id nothing is said of any more, and above it all is as before. Two commits at one shard are settled, and the
-- first is retired; its versions stay, a turnover keeps nothing of how it ended, and all of it outlives a crash.
use Rattle.std.proofs.Common.{refl}
use Rattle.std.specs.Prelude.{ℕ, ◌≡◌, true, List, [], ◌∷◌, ◌++◌, slice_get, Some, option_map}
use Rattle.units.specs.Ids.{Id}
use Rattle.units.specs.declared.fault.Fault.TheVariants.{NotYet, Stranger}
use Rattle.units.specs.declared.line.Verdict.TheVariants.{Yes}
use Rattle.record.specs.Verdict.{verdict}
use Rattle.record.specs.declared.record.Record.{Record}
use Rattle.versions.specs.Pruned.{pruned}
use Rattle.protocol.proofs.Samples.{z, one, two, txn, clock}
use Rattle.ledger.specs.Turned.{turned}
use Rattle.world.specs.Computing.{computing}
use Rattle.world.specs.Lawful.{lawful, first_unlawful_from}
use Rattle.world.specs.World.{run, replies_of_run, areas_of, logs_of, read_area, start}
use Rattle.world.specs.declared.event.Act.{Act}
use Rattle.world.specs.declared.event.Doing.{Doing}
use Rattle.world.specs.declared.event.Event.{Event}
use Rattle.world.specs.declared.event.Reply.{Reply}
use Rattle.worked_runs.proofs.Events.{two_shards, on}
use Rattle.worked_runs.proofs.Forgotten.{two_versions, done_so_far, older}

abbrev pub retires : Id → Act
retires below = Act.At 1 (Doing.Retire below (clock 400 410))

abbrev pub delivers : ℕ → Act
delivers number = Act.Deliver number (clock 400 410)

abbrev pub retired : List Event
retired = two_versions ++ on 406 (retires (txn 2)) ∷ []

-- ---- what is said of a retired id is refused, and a kept one is answered; the versions stay

abbrev pub asked : List Event
asked =
    retired ++ on 407 (delivers 0) ∷ on 407 (delivers 2) ∷ on 407 (Act.At 1 (Doing.Settle (txn 1) (clock 400 410)))
    ∷ on 408 (Act.Look 1 z 200) ∷ on 408 (Act.Look 1 z 300) ∷ on 409 (retires (txn 2)) ∷ on 409 (retires (txn 1)) ∷ []

pub is_lawful : lawful two_shards asked ≡ true
unfolding computing
is_lawful = refl

pub replies_are : replies_of_run two_shards asked
    ≡ done_so_far ++ Reply.Done
    ∷ Reply.Refused Stranger ∷ Reply.Done ∷ Reply.Refused Stranger
    ∷ Reply.Shows (Some one) ∷ Reply.Shows (Some two) ∷ Reply.Done ∷ Reply.Done ∷ []
unfolding computing
replies_are = refl

-- one record is logged: to retire the same again, or less, leaves none
pub logs_are : logs_of (run two_shards asked) ≡ (Record.Opened 1 ∷ []) ∷ (older ++ Record.Retired (txn 2) ∷ []) ∷ []
unfolding computing
logs_are = refl

pub verdict_is : verdict (logs_of (run two_shards asked)) (run two_shards asked).lines ≡ Yes
unfolding computing
verdict_is = refl

-- ---- nobody retires who has a row

abbrev pub decided : List Event
decided =
    on 100 (Act.Begin (txn 1)) ∷ on 100 (Act.Write (txn 1) z (Some one)) ∷ on 100 (Act.Close (txn 1)) ∷ on 195 (Act.Deliver 0 (clock 190 199))
    ∷ on 406 (retires (txn 2)) ∷ on 406 (retires (txn 1)) ∷ on 407 (Act.At 1 (Doing.Settle (txn 1) (clock 400 410))) ∷ on 408 (retires (txn 2)) ∷ []

pub not_while_it_stands : replies_of_run two_shards decided
    ≡ Reply.Done ∷ Reply.Done ∷ Reply.Done ∷ Reply.Done ∷ Reply.Refused NotYet ∷ Reply.Done ∷ Reply.Done ∷ Reply.Done ∷ []
unfolding computing
not_while_it_stands = refl

-- ---- a turnover keeps the versions and the kept id, and nothing of the retired one

abbrev pub turned_over : List Event
turned_over = retired ++ on 410 (Act.At 1 Doing.Turn) ∷ []

abbrev pub renewed : List Record
renewed =
    Record.Base 1 400 0 ∷ Record.Version (record { key = z; at = 200; value = Some one })
    ∷ Record.Version (record { key = z; at = 300; value = Some two })
    ∷ Record.Retired (txn 2) ∷ Record.Settled (txn 2) 300 (1 ∷ []) ∷ []

pub renewed_is : option_map (λ s. (read_area s).records) (slice_get (run two_shards turned_over).shards 1) ≡ Some renewed
unfolding computing turned pruned
renewed_is = refl

-- the verdict passes over the acknowledgement of the retired one
pub verdict_of_areas : verdict (areas_of (run two_shards turned_over)) (run two_shards turned_over).lines ≡ Yes
unfolding computing turned pruned
verdict_of_areas = refl

-- ---- it outlives a crash, with the old area and with the new one

abbrev pub reopened : List Event
reopened = on 411 (Act.Crash 1) ∷ on 412 (Act.At 1 Doing.Open) ∷ on 413 (delivers 0) ∷ on 413 (delivers 2) ∷ on 414 (Act.Look 1 z 200) ∷ []

abbrev pub after_it : List Reply
after_it = Reply.Crashed ∷ Reply.Done ∷ Reply.Refused Stranger ∷ Reply.Done ∷ Reply.Shows (Some one) ∷ []

pub after_a_crash : replies_of_run two_shards (retired ++ reopened) ≡ done_so_far ++ Reply.Done ∷ after_it
unfolding computing
after_a_crash = refl

pub after_a_turnover : replies_of_run two_shards (turned_over ++ reopened) ≡ done_so_far ++ Reply.Done ∷ Reply.Done ∷ after_it
unfolding computing turned pruned
after_a_turnover = refl

-- ---- what is lawful: an honest reading

pub a_dishonest_reading : first_unlawful_from (start two_shards) (on 100 (Act.At 1 (Doing.Retire (txn 1) (clock 101 110))) ∷ []) ≡ Some 0
unfolding computing
a_dishonest_reading = refl
