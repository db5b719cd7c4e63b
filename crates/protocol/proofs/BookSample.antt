-- The book of one commit, and its replay.
use Rattle.std.proofs.Common.{◌≡◌, List, [], ◌∷◌, Some, refl}
use Rattle.record.specs.declared.record.Record.{Record}
use Rattle.message.specs.declared.message.Input.{Input}
use Rattle.protocol.specs.Computing.{computing}
use Rattle.protocol.specs.Outputs.{done_to}
use Rattle.protocol.specs.Replay.{BookEntry, IsReplay, opened_with, replayed}
use Rattle.protocol.proofs.Samples.{a, one, txn, clock, sets, shard, commit_of}

-- it is decided at 111, and settled at a reading above
abbrev book : List BookEntry
book =
    record { input = Input.Deliver (commit_of (txn 1) (0 ∷ []) 0 [] (sets a one ∷ [])); now = clock 100 110; outbox = [] }
    ∷ record { input = Input.Settle (txn 1); now = clock 112 121; outbox = done_to (txn 1) (Some 111) ∷ [] }
    ∷ []

it_replays : IsReplay (shard 0) (opened_with (Record.Opened 1 ∷ [])) book
unfolding computing
it_replays = (refl, (refl, tt))

where_it_leads : (replayed (shard 0) (opened_with (Record.Opened 1 ∷ [])) book).memory.last ≡ 111
unfolding computing
where_it_leads = refl
