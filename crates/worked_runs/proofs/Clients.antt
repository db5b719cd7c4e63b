-- Sessions: what they put out, and what they refuse.
use Rattle.std.proofs.Common.{refl}
use Rattle.std.specs.Prelude.{◌≡◌, List, [], ◌∷◌, drop, Some, None}
use Rattle.world.specs.World.{run, replies_of_run}
use Rattle.units.specs.declared.fault.Fault.TheVariants.{BadRequest, Stranger}
use Rattle.units.specs.declared.fault.Reason.TheVariants.{Again, Awaited, Doomed}
use Rattle.message.specs.declared.message.Answer.TheVariants.{Holds, Refused}
use Rattle.world.specs.declared.event.Act.{Act}
use Rattle.world.specs.declared.event.Doing.{Doing}
use Rattle.world.specs.declared.event.Event.{Event}
use Rattle.world.specs.declared.event.Reply.{Reply}
use Rattle.world.specs.Computing.{computing}
use Rattle.protocol.proofs.Samples.{answer_of, commit_of, give_up_of, prepare_of, read_of, a, m, z, one, two, txn, clock, sets, to_shard, to_session}
use Rattle.worked_runs.proofs.Events.{two_shards, on}

-- a read that is not yet answered, a repeated read, a close while one is awaited
abbrev pub asks : List Event
asks =
    on 100 (Act.Begin (txn 1)) ∷ on 100 (Act.Read (txn 1) z) ∷ on 100 (Act.Read (txn 1) z) ∷ on 100 (Act.Close (txn 1))
    ∷ on 101 (Act.Deliver 0 (clock 100 110)) ∷ on 102 (Act.Deliver 1 (clock 100 110)) ∷ on 103 (Act.Deliver 1 (clock 100 110))
    ∷ on 104 (Act.Read (txn 1) z) ∷ on 104 (Act.Write (txn 1) a (Some one)) ∷ on 105 (Act.Close (txn 1)) ∷ on 106 (Act.Close (txn 1))
    ∷ on 107 (Act.Quit (txn 1)) ∷ on 108 (Act.Quit (txn 1))
    ∷ []

pub what_is_refused : replies_of_run two_shards asks
    ≡ Reply.Done ∷ Reply.Done ∷ Reply.Refused (BadRequest Awaited) ∷ Reply.Refused (BadRequest Awaited)
    ∷ Reply.Done ∷ Reply.Done ∷ Reply.Done
    ∷ Reply.Refused (BadRequest Again) ∷ Reply.Done ∷ Reply.Done ∷ Reply.Refused Stranger
    ∷ Reply.Done ∷ Reply.Refused Stranger
    ∷ []
unfolding computing
what_is_refused = refl

-- the read, its answer, the commit and the prepare with the epoch of the read, and at the end both shards are told
pub what_is_put_out : (run two_shards asks).bag
    ≡ to_shard 1 (read_of (txn 1) z)
    ∷ to_session (txn 1) (answer_of 1 (txn 1) z 1 (Holds None))
    ∷ to_shard 0 (commit_of (txn 1) (0 ∷ 1 ∷ []) 0 [] (sets a one ∷ []))
    ∷ to_shard 1 (prepare_of (txn 1) 0 1 (z ∷ []) [])
    ∷ to_shard 0 (give_up_of (txn 1))
    ∷ to_shard 1 (give_up_of (txn 1))
    ∷ []
unfolding computing
what_is_put_out = refl

-- an answer of a second epoch dooms the session
abbrev pub two_epochs : List Event
two_epochs =
    on 100 (Act.Begin (txn 1)) ∷ on 100 (Act.Read (txn 1) z) ∷ on 101 (Act.Deliver 0 (clock 100 110)) ∷ on 102 (Act.Deliver 1 (clock 100 110))
    ∷ on 103 (Act.Crash 1) ∷ on 104 (Act.At 1 Doing.Open)
    ∷ on 105 (Act.Read (txn 1) m) ∷ on 106 (Act.Deliver 2 (clock 100 110)) ∷ on 107 (Act.Deliver 3 (clock 100 110))
    ∷ on 108 (Act.Write (txn 1) z (Some two)) ∷ on 109 (Act.Quit (txn 1))
    ∷ []

pub a_second_epoch_dooms : replies_of_run two_shards two_epochs
    ≡ Reply.Done ∷ Reply.Done ∷ Reply.Done ∷ Reply.Done ∷ Reply.Crashed ∷ Reply.Done ∷ Reply.Done ∷ Reply.Done ∷ Reply.Done
    ∷ Reply.Refused (BadRequest Doomed) ∷ Reply.Done ∷ []
unfolding computing
a_second_epoch_dooms = refl

-- an answer that is refused is taken, and dooms the session: the key is not awaited any more, nothing but giving up is left,
-- and giving up tells the shard that refused
abbrev pub refused_read : List Event
refused_read =
    on 90 (Act.Begin (txn 1)) ∷ on 90 (Act.Begin (txn 2)) ∷ on 91 (Act.Read (txn 2) z) ∷ on 92 (Act.Deliver 0 (clock 90 95)) ∷ on 93
    (Act.Deliver 1 (clock 90 95))
    ∷ on 94 (Act.Write (txn 1) z (Some one)) ∷ on 94 (Act.Write (txn 1) a (Some one)) ∷ on 94 (Act.Close (txn 1)) ∷ on 95 (Act.Deliver 3 (clock 90 95))
    ∷ on 96 (Act.Read (txn 2) m) ∷ on 97 (Act.Read (txn 2) a) ∷ on 98 (Act.Deliver 5 (clock 90 105)) ∷ on 99 (Act.Deliver 7 (clock 90 105))
    ∷ on 100 (Act.Read (txn 2) m) ∷ on 100 (Act.Read (txn 2) (110 ∷ [])) ∷ on 100 (Act.Write (txn 2) a (Some one)) ∷ on 100 (Act.Close (txn 2))
    ∷ on 101 (Act.Deliver 6 (clock 90 105)) ∷ on 102 (Act.Deliver 8 (clock 90 105)) ∷ on 103 (Act.Read (txn 2) a) ∷ on 103 (Act.Close (txn 2))
    ∷ on 104 (Act.Quit (txn 2)) ∷ []

pub a_refused_answer_dooms : replies_of_run two_shards refused_read
    ≡ Reply.Done ∷ Reply.Done ∷ Reply.Done ∷ Reply.Done ∷ Reply.Done
    ∷ Reply.Done ∷ Reply.Done ∷ Reply.Done ∷ Reply.Done
    ∷ Reply.Done ∷ Reply.Done ∷ Reply.Done ∷ Reply.Done
    ∷ Reply.Refused (BadRequest Again) ∷ Reply.Refused (BadRequest Doomed) ∷ Reply.Refused (BadRequest Doomed) ∷ Reply.Refused (BadRequest Awaited)
    ∷ Reply.Done ∷ Reply.Done ∷ Reply.Refused (BadRequest Awaited) ∷ Reply.Refused (BadRequest Awaited)
    ∷ Reply.Done ∷ []
unfolding computing
a_refused_answer_dooms = refl

pub who_is_told : drop 9 (run two_shards refused_read).bag ≡ to_shard 0 (give_up_of (txn 2)) ∷ to_shard 1 (give_up_of (txn 2)) ∷ []
unfolding computing
who_is_told = refl

-- the session of 1.3 asks a key of a shard at which it was ended meanwhile
abbrev pub ended_reader : List Event
ended_reader =
    on 90 (Act.Begin (txn 3)) ∷ on 90 (Act.Read (txn 3) z) ∷ on 90 (Act.Read (txn 3) m) ∷ on 91 (Act.Deliver 0 (clock 90 95)) ∷ on 92
    (Act.Deliver 2 (clock 90 95))
    ∷ on 93 (Act.Begin (txn 1)) ∷ on 93 (Act.Write (txn 1) z (Some one)) ∷ on 93 (Act.Close (txn 1)) ∷ on 94 (Act.Deliver 3 (clock 90 95))
    ∷ on 95 (Act.Deliver 1 (clock 90 95)) ∷ on 96 (Act.Deliver 4 (clock 90 100)) ∷ on 97 (Act.Deliver 4 (clock 90 100))
    ∷ on 98 (Act.Read (txn 3) m) ∷ on 98 (Act.Close (txn 3)) ∷ on 99 (Act.Quit (txn 3)) ∷ []

pub a_doomed_session_cannot_close : replies_of_run two_shards ended_reader
    ≡ Reply.Done ∷ Reply.Done ∷ Reply.Done ∷ Reply.Done ∷ Reply.Done
    ∷ Reply.Done ∷ Reply.Done ∷ Reply.Done ∷ Reply.Done
    ∷ Reply.Done ∷ Reply.Done ∷ Reply.Done
    ∷ Reply.Refused (BadRequest Again) ∷ Reply.Refused (BadRequest Doomed) ∷ Reply.Done ∷ []
unfolding computing
a_doomed_session_cannot_close = refl

pub and_tells_its_shard : drop 4 (run two_shards ended_reader).bag
    ≡ to_session (txn 3) (answer_of 1 (txn 3) m 1 Refused) ∷ to_shard 1 (give_up_of (txn 3)) ∷ []
unfolding computing
and_tells_its_shard = refl

-- giving up while closing tells each part
pub giving_up_while_closing : (run two_shards
    (on 100 (Act.Begin (txn 2)) ∷ on 100 (Act.Write (txn 2) a (Some one)) ∷ on 100 (Act.Write (txn 2) z (Some two)) ∷ on 100 (Act.Close (txn 2))
    ∷ on 101 (Act.Quit (txn 2)) ∷ [])).bag
    ≡ to_shard 0 (commit_of (txn 2) (0 ∷ 1 ∷ []) 0 [] (sets a one ∷ []))
    ∷ to_shard 1 (prepare_of (txn 2) 0 0 [] (sets z two ∷ []))
    ∷ to_shard 0 (give_up_of (txn 2))
    ∷ to_shard 1 (give_up_of (txn 2))
    ∷ []
unfolding computing
giving_up_while_closing = refl
