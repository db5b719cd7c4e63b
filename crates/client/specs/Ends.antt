-- How a transaction ends at its client, and what was put out and heard till then.
use Rattle.std.specs.Prelude.{◌≡◌, ◌⊎◌, ℕ, zero, suc, Bool, true, false, not, List, [], ◌∷◌, ◌++◌, Option, Some, None, Result, Ok, Err}
use Rattle.std.specs.List.{list_all}
use Rattle.units.specs.Ids.{Id, same_id}
use Rattle.units.specs.Keys.{Bytes}
use Rattle.units.specs.declared.fault.Fault.{Fault}
use Rattle.units.specs.declared.fault.Fault.TheVariants.{BadRequest, Memory}
use Rattle.units.specs.declared.fault.Reason.TheVariants.{Doomed}
use Rattle.message.specs.Ends.{End}
use Rattle.message.specs.declared.message.Envelope.{Envelope}
use Rattle.message.specs.declared.message.Message.{Message}
use Rattle.session.specs.Sessions.{Client, IsClosing, Denies, Goes, closes, closing_messages}
use Rattle.session.specs.Shown.{farewells}
use Rattle.session.specs.declared.answered.Finished.{Finished}
use Rattle.session.specs.declared.answered.Finished.TheVariants as finished
use Rattle.client.specs.declared.ended.Ended.{Ended}
use Rattle.client.specs.declared.ended.Ended.TheVariants as ended
use Rattle.client.specs.declared.ended.Halt.{Halt}
use Rattle.client.specs.declared.ended.Halt.TheVariants as halt
use Rattle.client.specs.declared.hearing.Hearing.{Hearing}
use Rattle.client.specs.declared.hearing.Hearing.TheVariants as hearing

-- why a refused call ends the code of a transaction: a doomed one is to be run again
abbrev pub halt_for : Fault → Halt
halt_for (BadRequest Doomed) = halt.Again
halt_for fault = halt.Refused fault

-- how a transaction that finished has ended
abbrev pub ended_of : Finished → Ended
ended_of (finished.Committed s) = ended.Committed s
ended_of finished.Aborted = ended.Aborted

-- the end that was heard, where it was one
abbrev pub end_heard : Hearing → List End
end_heard (hearing.End done) = done ∷ []
end_heard _ = []

-- so many times the same
abbrev pub times : {A : Type 0} → ℕ → List A → List A
times zero xs = []
times (suc n) xs = times n xs ++ xs

-- the message gives this transaction up
abbrev pub is_give_up : Id → Envelope → Bool
is_give_up txn e = elim e.message [ Message.GiveUp g ↦ same_id txn g.txn | _ ↦ false ]

-- what was put out gives the transaction up, and nothing else: none of it closes it
abbrev pub IsGivenUp : Id → List Envelope → Type 0
IsGivenUp txn sent = list_all (is_give_up txn) sent ≡ true

-- what is put out as a session that is closing is given up and asked for once more, over and over while nothing is heard
abbrev pub IsAskedOnce : List Bytes → Client → List Envelope → Type 0
IsAskedOnce splits c sent = (n : ℕ) × (sent ≡ (farewells splits c ++ closing_messages splits c) ++ times n (closing_messages splits c))

-- what is put out of a session that is closing, behind the messages of its closing: the same over and over while nothing is heard; and
-- where it is given up then, what asks once more
pub record IsPressed (splits : List Bytes) (c : Client) (sent : List Envelope) : Type 0 where
  pub again : ℕ
  pub last : List Envelope
  pub whole : sent ≡ times again (closing_messages splits c) ++ last
  pub asks : (last ≡ []) ⊎ IsAskedOnce splits c last

-- what is put out of a session that closes: it may close, and the messages of its closing come first
pub record IsClosed (splits : List Bytes) (c : Client) (sent : List Envelope) : Type 0 where
  pub behind : List Envelope
  pub may : closes splits c ≡ Goes (record c { stage = IsClosing }) (closing_messages splits c)
  pub whole : sent ≡ closing_messages splits c ++ behind
  pub presses : IsPressed splits (record c { stage = IsClosing }) behind

-- an end is of another transaction
abbrev pub is_other : Id → End → Bool
is_other txn done = not (same_id txn done.txn)

-- of some ends none is of the transaction
abbrev pub WasNotHeard : Id → List End → Type 0
WasNotHeard txn heard = list_all (is_other txn) heard ≡ true

-- the last of some ends is the transaction's, and tells this
abbrev pub WasHeard : Id → Option ℕ → List End → Type 0
WasHeard txn outcome heard =
    (before : List End) × (done : End) × (heard ≡ before ++ done ∷ []) × (same_id txn done.txn ≡ true) × (done.outcome ≡ outcome)

-- what the ends come to that were heard of a transaction that closed
abbrev pub IsTold : Id → Ended → List End → Type 0
IsTold txn (ended.Committed s) heard = WasHeard txn (Some s) heard
IsTold txn ended.Aborted heard = WasHeard txn None heard
IsTold txn (ended.Unknown t) heard = (t ≡ txn) × WasNotHeard txn heard

-- the end that a client waits for
abbrev pub IsAwaited : Id → Option End → List End → Type 0
IsAwaited txn None heard = WasNotHeard txn heard
IsAwaited txn (Some done) heard = (before : List End) × (heard ≡ before ++ done ∷ []) × (same_id txn done.txn ≡ true)

-- how a session ends whose code has gone to its end, by what was put out and heard: it closed, and that was told; or it was doomed, and is given
-- up and aborted
abbrev pub IsEnded : List Bytes → Client → Ended → List Envelope → List End → Type 0
IsEnded splits c end sent heard =
    (IsClosed splits c sent × IsTold c.txn end heard)
    ⊎ ((closes splits c ≡ Denies (BadRequest Doomed)) × (end ≡ ended.Aborted) × IsGivenUp c.txn sent)

-- why a session whose code has gone to its end does not close: it may not, or there is no memory
abbrev pub IsRefused : List Bytes → Client → Fault → List Envelope → Type 0
IsRefused splits c fault sent = ((closes splits c ≡ Denies fault) ⊎ (fault ≡ Memory)) × IsGivenUp c.txn sent

-- what comes of a session whose code went no further
abbrev pub left : Halt → Result Ended Fault
left halt.Again = Ok ended.Aborted
left halt.Abandon = Ok ended.Aborted
left (halt.Refused fault) = Err fault
left (halt.Unserved shard fault) = Err fault
