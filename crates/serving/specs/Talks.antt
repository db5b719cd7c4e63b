-- What a client is asked over lines and answers, and the session that these alone lead.
use Rattle.std.specs.Prelude.{◌≡◌, ◌⊎◌, Bool, true, false, List, [], ◌∷◌, ◌++◌, ℕ, Option, Some, None, Result, Ok, Err, map, slice_get, IfSome}
use Rattle.units.specs.Ids.{Id}
use Rattle.units.specs.Keys.{Bytes, shard_of}
use Rattle.units.specs.declared.fault.Fault.{Fault}
use Rattle.units.specs.declared.fault.Fault.TheVariants.{Memory, Stranger}
use Rattle.units.specs.declared.writes.Write.{Write}
use Rattle.session.specs.Sessions.{Client, Goes, buffers}
use Rattle.session.specs.Shown.{IsDenied}
use Rattle.message.specs.Ends.{End as Said}
use Rattle.message.specs.declared.message.Envelope.{Envelope}
use Rattle.board.specs.Views.{Viewing}
use Rattle.client.specs.Outcomes.{IsFound}
use Rattle.client.specs.declared.asking.Outcome.{Outcome}
use Rattle.client.specs.declared.asking.Outcome.TheVariants as outcome
use Rattle.client.specs.Ends.{halt_for}
use Rattle.client.specs.Readings.{HasRead, seen}
use Rattle.client.specs.declared.ended.Halt.{Halt as Halted}
use Rattle.client.specs.declared.ended.Halt.TheVariants as halted
use Rattle.store.specs.Attempts.{AreAttempts, Attempt, ComesTo, Worker, widened, worked_all}
use Rattle.store.specs.Ranges.{IsListedBy, IsUnlistedBy}
use Rattle.store.specs.Views.{LookedAt}
use Rattle.store.specs.declared.ended.Ended.{Ended}
use Rattle.store.specs.declared.ended.Ended.TheVariants as ended
use Rattle.store.specs.declared.ended.Halt.{Halt}
use Rattle.store.specs.declared.ended.Halt.TheVariants as halt
use Rattle.requests.specs.declared.asked.Request.{Request}
use Rattle.requests.specs.declared.asked.Request.TheVariants as request
use Rattle.requests.specs.declared.answered.Answer.{Answer}
use Rattle.requests.specs.declared.answered.Answer.TheVariants as answer
use Rattle.requests.specs.declared.answered.Found.TheVariants as found
use Rattle.serving.specs.declared.acts.End.{End}
use Rattle.serving.specs.declared.acts.End.TheVariants.{Stays, Ends}
use Rattle.serving.specs.declared.asks.Exchange.{Exchange}
use Rattle.serving.specs.declared.conversation.Last.{Last}
use Rattle.serving.specs.declared.conversation.Last.TheVariants as last

-- what the code of a transaction over lines comes to, and how it ends: it gives no value, and abandons for no reason of its own
abbrev pub Ran : Type 0
Ran = Result (Unit {0}) (Halt (Unit {0}))

abbrev pub Told : Type 0
Told = Result (Ended (Unit {0}) (Unit {0})) Fault

-- ---- one line

-- what a read comes to: it is answered by what the session sees then of each key; or it is refused, or ends the transaction. The session has
-- read, and done nothing else
abbrev pub IsRead : List Bytes → List Bytes → End → Client → Client → Type 0
IsRead splits keys (Stays (answer.Values all)) c d = HasRead splits c d × (map Some all.items ≡ map (seen d) keys)
IsRead splits keys (Stays (answer.Refused fault)) c d = HasRead splits c d
IsRead splits keys (Ends (Err why)) c d = HasRead splits c d
IsRead splits keys _ c d = ⊥

-- the session refuses a write, for its own reason or for want of memory
abbrev pub WasDenied : Write → Halted → Client → Type 0
WasDenied w why c = (fault : Fault) × (why ≡ halt_for fault) × IsDenied (buffers w c) fault

-- what is made of what the session answers to a write
abbrev pub end_of_write : Result (Unit {0}) Halted → End
end_of_write (Ok done) = Stays answer.Done
end_of_write (Err (halted.Refused Memory)) = Ends (Err (halt.Refused Memory))
end_of_write (Err (halted.Refused fault)) = Stays (answer.Refused fault)
end_of_write (Err why) = Ends (Err (widened why))

-- What a write comes to: the session buffers this write; or it is as it was, and refuses it. For want of memory the transaction ends.
abbrev pub IsWrote : Write → End → Client → Client → Type 0
IsWrote w (Stays answer.Done) c d = buffers w c ≡ Goes d []
IsWrote w (Stays (answer.Refused fault)) c d = (d ≡ c) × (fault ≡ Memory → ⊥) × WasDenied w (halted.Refused fault) c
IsWrote w (Ends (Err why)) c d = (d ≡ c) × ((why ≡ halt.Refused Memory) ⊎ ((call : Halted) × (why ≡ widened call) × WasDenied w call c))
IsWrote w _ c d = ⊥

-- what a line makes of a transaction's session: it stays open, and this is answered; or it is to end so. It closes only where that is asked
abbrev pub IsActed : List Bytes → Result Request Fault → End → Client → Client → Type 0
IsActed splits (Ok (request.Get keys)) end c d = IsRead splits keys.items end c d
IsActed splits (Ok (request.Put key value)) end c d = IsWrote (record { key = key; value = Some value }) end c d
IsActed splits (Ok (request.Erase key)) end c d = IsWrote (record { key = key; value = None }) end c d
IsActed splits (Ok request.Commit) (Ends (Ok closes)) c d = d ≡ c
IsActed splits (Ok request.Abort) (Ends (Err (halt.Abandon why))) c d = d ≡ c
IsActed splits (Ok request.Help) (Stays answer.Help) c d = d ≡ c
IsActed splits (Ok request.Begin) (Stays answer.Misplaced) c d = d ≡ c
IsActed splits (Ok request.View) (Stays answer.Misplaced) c d = d ≡ c
IsActed splits (Ok (request.ViewAt at)) (Stays answer.Misplaced) c d = d ≡ c
IsActed splits (Ok (request.Keys from to limit)) (Stays answer.Misplaced) c d = d ≡ c
IsActed splits (Ok request.End) (Stays answer.Misplaced) c d = d ≡ c
IsActed splits (Ok (request.Outcome id)) (Stays answer.Misplaced) c d = d ≡ c
IsActed splits (Ok request.Stats) (Stays answer.Misplaced) c d = d ≡ c
IsActed splits (Ok request.Quit) (Stays answer.Misplaced) c d = d ≡ c
IsActed splits (Err Memory) (Ends (Err (halt.Refused told))) c d = (told ≡ Memory) × (d ≡ c)
IsActed splits (Err fault) (Stays (answer.Refused told)) c d = (told ≡ fault) × (d ≡ c) × (fault ≡ Memory → ⊥)
IsActed splits _ _ c d = ⊥

-- ---- one line of a view, or of neither

-- What a page of keys comes to, of a view at a time: by a look at the board of the first key's shard, these keys of the range are those that have
-- a value then, up to where the next page begins; or it is refused as that look is.
abbrev pub IsPaged : List Bytes → List Viewing → List Viewing → Bytes → Option Bytes → ℕ → Answer → Type 0
IsPaged splits old new from to at (answer.Page keys next) =
    LookedAt old new (shard_of splits from) (λ viewer after. IsListedBy splits viewer after from to at keys.items next)
IsPaged splits old new from to at (answer.Refused fault) =
    ((fault ≡ Stranger) × (slice_get old (shard_of splits from) ≡ None))
    ⊎ LookedAt old new (shard_of splits from) (λ viewer after. IsUnlistedBy viewer after from at fault)
IsPaged splits old new from to at _ = ⊥

-- what a line makes of a view at a time, if it asks for keys, or for what a view does not tell
abbrev pub IsLooked : List Bytes → List Viewing → List Viewing → ℕ → Result Request Fault → Answer → Type 0
IsLooked splits old new at (Ok (request.Keys from to limit)) told = IsPaged splits old new from to at told
IsLooked splits old new at (Ok (request.Outcome id)) told = told ≡ answer.Misplaced
IsLooked splits old new at (Ok request.Stats) told = told ≡ answer.Misplaced
IsLooked splits old new at asked told = Unit {0}

-- what is answered of how a transaction ended
abbrev pub answer_of_outcome : Result Outcome Fault → Answer
answer_of_outcome (Ok (outcome.Committed at)) = answer.Found (found.Committed at)
answer_of_outcome (Ok outcome.Aborted) = answer.Found found.Aborted
answer_of_outcome (Ok outcome.Open) = answer.Found found.Open
answer_of_outcome (Ok outcome.Unknown) = answer.Found found.Unknown
answer_of_outcome (Err fault) = answer.Refused fault

-- How a transaction ended is asked of its shards, and answered by what these said; or nobody is asked, and nobody knows, or there is no memory.
abbrev pub IsAsked : Worker → Worker → Id → Answer → Type 0
IsAsked old new id told =
    ((told ≡ answer.Found found.Unknown) × (new ≡ old))
    ⊎ (((told ≡ answer.Refused Memory) × (new ≡ old))
    ⊎ ((sent : List Envelope) × (heard : List Said) × (how : Outcome)
    × (new ≡ record old { traffics = old.traffics ++ (record { sent = sent; heard = heard }) ∷ [] })
    × IsFound id how heard × (told ≡ answer_of_outcome (Ok how))))

-- ---- the lines of a transaction

-- each of some exchanges led the session on
abbrev pub AreLed : List Bytes → List Exchange → Client → Client → Type 0
AreLed splits [] c d = d ≡ c
AreLed splits (e ∷ rest) c d = (m : Client) × IsActed splits e.asked (Stays e.answer) c m × AreLed splits rest m d

-- one line more was said, and it alone led the session
pub record IsLine (splits : List Bytes) (before now : List Exchange) (c d : Client) : Type 0 where
  pub line : Exchange
  pub said : now ≡ before ++ line ∷ []
  pub led : IsActed splits line.asked (Stays line.answer) c d

-- what was said since, which alone led the session
pub record IsTalk (splits : List Bytes) (before now : List Exchange) (c d : Client) : Type 0 where
  pub talk : List Exchange
  pub said : now ≡ before ++ talk
  pub led : AreLed splits talk c d

-- why no more is taken, and what the code of the transaction comes to then: the last line asks for it, or is what the store ended it at; or
-- none came, and it is given up, as it is where an answer could not be told
abbrev pub IsOver : List Bytes → Last → Ran → Client → Client → Type 0
IsOver splits (last.Asked asked) ran c d = IsActed splits asked (Ends ran) c d
IsOver splits last.Silence (Err (halt.Abandon why)) c d = d ≡ c
IsOver splits last.Nothing (Err (halt.Abandon why)) c d = d ≡ c
IsOver splits (last.Failed fault) (Err (halt.Abandon why)) c d = (asked : Result Request Fault) × ((told : Answer) × IsActed splits asked (Stays told) c d)
IsOver splits _ _ c d = ⊥

-- the lines of a transaction: what was said led its session, and then it was over
pub record IsSpoken (splits : List Bytes) (before now : List Exchange) (why : Last) (ran : Ran) (c d : Client) : Type 0 where
  pub between : Client
  pub talk : IsTalk splits before now c between
  pub over : IsOver splits why ran between d

-- what is said once a transaction was given up that was idle for too long: nothing more, or a line that is answered so
abbrev pub IsLate : List Exchange → List Exchange → Type 0
IsLate before now =
    (now ≡ before) ⊎ ((asked : Result Request Fault) × (now ≡ before ++ record { asked = asked; answer = answer.Aborted } ∷ []))

-- ---- how a transaction ended

-- what its last line is answered
abbrev pub answer_of_last : Told → Answer
answer_of_last (Ok (ended.Committed at id value)) = answer.Committed at id
answer_of_last (Ok (ended.Abandoned why)) = answer.Aborted
answer_of_last (Ok (ended.Aborted tries)) = answer.Aborted
answer_of_last (Ok (ended.Unknown id)) = answer.Unknown id
answer_of_last (Err fault) = answer.Over fault

-- the same; where none began, that is refused
abbrev pub answer_of_end : Bool → Told → Answer
answer_of_end true told = answer_of_last told
answer_of_end false (Ok end) = answer.Aborted
answer_of_end false (Err fault) = answer.Refused fault

-- what a write by a transaction of its own is answered: the same, but that nothing was open which a refusal could end
abbrev pub answer_of_write : Told → Answer
answer_of_write (Err fault) = answer.Refused fault
answer_of_write told = answer_of_last told

-- A transaction over lines: the client has made one attempt at most, which is a session of the definitions. Where a line of it is still to be
-- answered, that is by what the one try came to.
pub record IsTried (old new : Worker) (last : Option Exchange) : Type 0 where
  pub made : List (Attempt (Unit {0}) (Unit {0}))
  pub attempts : AreAttempts old.run made
  pub whole : new ≡ worked_all old made
  pub began : Bool
  pub ended : Told
  pub comes : ComesTo 1 new made ended
  pub told : IfSome last (λ e. e.answer ≡ answer_of_end began ended)
