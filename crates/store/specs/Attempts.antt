-- What contracts see of a transaction while its code runs, of each attempt of a client, and of what they come to.
use Rattle.std.specs.Prelude.{◌≡◌, ◌⊎◌, ◌^◌, ◌<◌, ◌≤◌, ℕ, Bool, true, false, List, [], ◌∷◌, ◌++◌, length, Result, Ok, Err, MatchResult, Contains}
use Rattle.std.specs.Fn.{Mut, CalledAtMut}
use Rattle.std.specs.Borrow.{MutBor}
use Rattle.std.specs.List.{FoldsTo, list_all}
use Rattle.units.specs.Ids.{Id, same_id}
use Rattle.units.specs.Keys.{Bytes}
use Rattle.units.specs.declared.fault.Fault.{Fault}
use Rattle.units.specs.declared.fault.Fault.TheVariants.{Memory, Stranger, TimeSpent}
use Rattle.units.specs.declared.writes.Write.{Write}
use Rattle.message.specs.Ends.{End}
use Rattle.message.specs.declared.message.Envelope.{Envelope}
use Rattle.tickets.specs.Draws.{Drawing}
use Rattle.truetime.specs.Interval.{Interval}
use Rattle.board.specs.Views.{Viewing}
use Rattle.session.specs.Sessions.{Client, Goes, begun, buffers}
use Rattle.session.specs.Shown.{Session}
use Rattle.client.specs.Ends.{IsEnded, IsGivenUp, IsRefused, left}
use Rattle.client.specs.Readings.{AreReads, HasRead}
use Rattle.client.specs.Traffic.{Traffic}
use Rattle.client.specs.declared.ended.Ended.{Ended as Finish}
use Rattle.client.specs.declared.ended.Ended.TheVariants as finish
use Rattle.client.specs.declared.ended.Halt.{Halt as Halted}
use Rattle.client.specs.declared.ended.Halt.TheVariants as halted
use Rattle.store.specs.declared.ended.Ended.{Ended}
use Rattle.store.specs.declared.ended.Ended.TheVariants as ended
use Rattle.store.specs.declared.ended.Halt.{Halt}
use Rattle.store.specs.declared.ended.Halt.TheVariants as halt

-- ---- a transaction while its code runs

-- a transaction: its session, and what was put out and heard of it
pub record Doing : Type 0 where
  pub session : Session
  pub traffic : Traffic

-- what the code of a transaction does: it reads, or it writes
pub data Act : Type 0 where
  Reads : Act
  Writes : Write → Act

abbrev pub IsAct : List Bytes → Act → Client → Client → Type 0
IsAct splits Reads c d = HasRead splits c d
IsAct splits (Writes w) c d = buffers w c ≡ Goes d []

abbrev pub AreActs : List Bytes → List Act → Client → Client → Type 0
AreActs splits [] c d = d ≡ c
AreActs splits (a ∷ rest) c d = (m : Client) × IsAct splits a c m × AreActs splits rest m d

-- a session behind some acts, each of which is the definition's
abbrev pub HasDone : List Bytes → Client → Client → Type 0
HasDone splits c d = (acts : List Act) × AreActs splits acts c d

-- a session came from its beginning by the definition's acts, and nothing was put out but its reads
pub record IsAtWork (d : Doing) : Type 0 where
  pub did : HasDone d.session.splits (begun d.session.client.txn) d.session.client
  pub reads : AreReads d.session.client.txn d.traffic.sent

-- a new transaction: it has done nothing, and nothing was put out or heard of it
abbrev pub beginning : List Bytes → Id → Doing
beginning splits t = record { session = record { splits = splits; client = begun t }; traffic = record { sent = []; heard = [] } }

-- ---- why code goes no further

-- what a call that goes no further is to the code of a transaction: no call abandons one
abbrev pub widened : {E : Type 0} → Halted → Halt E
widened halted.Again = halt.Again
widened halted.Abandon = halt.Again
widened (halted.Refused fault) = halt.Refused fault
widened (halted.Unserved shard fault) = halt.Unserved shard fault

-- what the code of a transaction came to, as its client ends it: the value and the reason are the code's own
abbrev pub narrowed : {E : Type 0} → Halt E → Halted
narrowed halt.Again = halted.Again
narrowed (halt.Abandon why) = halted.Abandon
narrowed (halt.Refused fault) = halted.Refused fault
narrowed (halt.Unserved shard fault) = halted.Unserved shard fault

abbrev pub ran_of : {T E : Type 0} → Result T (Halt E) → Result (Unit {0}) Halted
ran_of (Ok value) = Ok tt
ran_of (Err why) = Err (narrowed why)

-- ---- an attempt

-- an attempt of a transaction: the number that was drawn for it, its session when its code had run, what that came to, what was put out and
-- heard till then, what behind it, and how it ended
pub record Attempt (T E : Type 0) : Type 0 where
  pub number : ℕ
  pub left : Doing
  pub ran : Result T (Halt E)
  pub sent : List Envelope
  pub heard : List End
  pub ended : Result Finish Fault

-- all that was put out and heard of it
abbrev pub traffic_of : {T E : Type 0} → Attempt T E → Traffic
traffic_of a = record { sent = a.left.traffic.sent ++ a.sent; heard = a.left.traffic.heard ++ a.heard }

-- how a transaction ends whose code has run, by what was put out and heard behind that: where its code went to its end, as a session of the
-- definitions that closes or may not; and else it is given up, and nothing is put out that closes it
abbrev pub Ends : Session → Result (Unit {0}) Halted → List Envelope → List End → Result Finish Fault → Type 0
Ends s ran sent heard ended =
    MatchResult ran (λ _. MatchResult ended (λ e. IsEnded s.splits s.client e sent heard) (λ fault. IsRefused s.splits s.client fault sent))
    (λ h. IsGivenUp s.client.txn sent × ((ended ≡ left h) ⊎ (ended ≡ Err Memory)))

-- the id of an attempt, in a run
abbrev pub id_in : {T E : Type 0} → ℕ → Attempt T E → Id
id_in run a = record { run = run; number = a.number }

-- What each attempt is: a session of the definitions, under the id that was drawn for it, and ended so. Code that has put another transaction
-- in the place of its own is refused as a stranger, and what it left is given up.
pub record IsAttempt {T E : Type 0} (run : ℕ) (a : Attempt T E) : Type 0 where
  pub work : IsAtWork a.left
  pub own : (same_id (id_in run a) a.left.session.client.txn ≡ true) ⊎ (a.ran ≡ Err (halt.Refused Stranger))
  pub ends : Ends a.left.session (ran_of a.ran) a.sent a.heard a.ended

abbrev pub AreAttempts : {T E : Type 0} → ℕ → List (Attempt T E) → Type 0
AreAttempts run [] = Unit {0}
AreAttempts run (a ∷ rest) = IsAttempt run a × AreAttempts run rest

-- what the code of a transaction comes to, by whether what it left is its own
abbrev pub kept : {T E : Type 0} → Bool → Result T (Halt E) → Result T (Halt E)
kept true ran = ran
kept false ran = Err (halt.Refused Stranger)

-- the code runs again behind an attempt that was aborted, unless it asked for that
abbrev pub runs_again : {T E : Type 0} → Result T (Halt E) → Result Finish Fault → Bool
runs_again (Err (halt.Abandon why)) ended = false
runs_again ran (Ok finish.Aborted) = true
runs_again ran ended = false

-- What is told of the last attempt, which had this id: it is committed under this id, with the value that its code gave; abandoned, for the
-- reason that its code gave; unknown; or a fault. No attempt is the last that ended otherwise.
abbrev pub IsToldAs : {T E : Type 0} → Id → Result T (Halt E) → Result Finish Fault → Result (Ended T E) Fault → Type 0
IsToldAs id ran (Err fault) told = told ≡ Err fault
IsToldAs id (Ok value) (Ok (finish.Committed at)) told = told ≡ Ok (ended.Committed at id value)
IsToldAs id (Ok value) (Ok (finish.Unknown txn)) told = told ≡ Ok (ended.Unknown txn)
IsToldAs id (Err (halt.Abandon why)) (Ok end) told = told ≡ Ok (ended.Abandoned why)
IsToldAs id ran end told = ⊥

-- ---- a client

-- what contracts see of a client: the run of its ids, the splits of its store, what it has drawn from which source, what was put out and
-- heard of each of its attempts, its viewers by shard, and of its clock the epsilon, the timestamp from which it goes on, and all readings, the
-- newest first
pub record Worker : Type 0 where
  pub run : ℕ
  pub splits : List Bytes
  pub drawing : Drawing
  pub traffics : List Traffic
  pub viewers : List Viewing
  pub epsilon : ℕ
  pub from : ℕ
  pub readings : List Interval

-- A client of a run over these splits that has made no attempt, and whose clock has this epsilon and goes on from this timestamp. Its viewers are
-- one of these lists.
abbrev pub IsFresh : ℕ → List Bytes → ℕ → ℕ → List (List Viewing) → Worker → Type 0
IsFresh run splits epsilon from dealt w =
    (w.run ≡ run) × (w.splits ≡ splits) × (w.epsilon ≡ epsilon) × (w.from ≡ from) × (w.traffics ≡ []) × Contains dealt w.viewers

-- the client has drawn one number more
abbrev pub drew : Worker → ℕ → Worker
drew w number = record w { drawing = record w.drawing { drawn = w.drawing.drawn ++ number ∷ [] } }

-- a client behind one attempt more
abbrev pub worked : {T E : Type 0} → Worker → Attempt T E → Worker
worked w a = record (drew w a.number) { traffics = w.traffics ++ traffic_of a ∷ [] }

-- a client behind some attempts
abbrev pub worked_all : {T E : Type 0} → Worker → List (Attempt T E) → Worker
worked_all w [] = w
worked_all w (a ∷ rest) = worked_all (worked w a) rest

module _ {F T E : Type 0} (g : Mut F (MutBor Doing × Unit {0}) (Result T (Halt E) × (MutBor Doing × Unit {0}))) where
  -- an attempt ran the code on a new transaction of its id over the store's splits, and that left what it did
  abbrev pub Runs : Worker → F → Attempt T E → F → Type 0
  Runs w f a f' =
      (ran : Result T (Halt E)) × CalledAtMut g f (beginning w.splits (id_in w.run a)) ran f' a.left
      × (a.ran ≡ kept (same_id (id_in w.run a) a.left.session.client.txn) ran)

  -- a client behind some attempts, each of which ran the code, one behind the other
  pub record HasTried (old : Worker) (f : F) (made : List (Attempt T E)) (new : Worker) (f' : F) : Type 0 where
    pub whole : new ≡ worked_all old made
    pub attempts : AreAttempts old.run made
    pub ran : FoldsTo (Runs old) f made f'

-- no further attempt is begun: there is no memory, or no number that could be drawn
abbrev pub CannotBegin : Worker → Fault → Type 0
CannotBegin w fault = (fault ≡ Memory) ⊎ ((fault ≡ TimeSpent) × (length w.drawing.drawn ≡ 2 ^ 40))

-- each of some attempts was aborted, and its code did not abandon it
abbrev pub AreAborted : {T E : Type 0} → List (Attempt T E) → Type 0
AreAborted made = list_all (λ a. runs_again a.ran a.ended) made ≡ true

-- the last of some attempts of a run is over, and told so
pub record IsOver {T E : Type 0} (run : ℕ) (made : List (Attempt T E)) (result : Result (Ended T E) Fault) : Type 0 where
  pub before : List (Attempt T E)
  pub last : Attempt T E
  pub whole : made ≡ before ++ last ∷ []
  pub aborted : AreAborted before
  pub over : runs_again last.ran last.ended ≡ false
  pub told : IsToldAs (id_in run last) last.ran last.ended result

-- What some attempts come to. All were aborted, as many as might be made, and their number is told; or no further one could be begun; or the
-- last is over, and that is answered.
abbrev pub ComesTo : {T E : Type 0} → ℕ → Worker → List (Attempt T E) → Result (Ended T E) Fault → Type 0
ComesTo tries w made result =
    (AreAborted made × (length made ≡ tries) × (result ≡ Ok (ended.Aborted tries)))
    ⊎ ((AreAborted made × (length made < tries) × ((fault : Fault) × (result ≡ Err fault) × CannotBegin w fault))
    ⊎ (IsOver w.run made result × (length made ≤ tries)))

-- some attempts were all aborted, one at least and no more than might be made, and their number is told
abbrev pub IsCutShort : {T E : Type 0} → ℕ → List (Attempt T E) → Result (Ended T E) Fault → Type 0
IsCutShort tries made result =
    AreAborted made × (0 < length made) × (length made ≤ tries) × (result ≡ Ok (ended.Aborted (length made)))

-- what some attempts come to before a deadline: the same, or they end sooner, and then each was aborted
abbrev pub ComesWithin : {T E : Type 0} → ℕ → Worker → List (Attempt T E) → Result (Ended T E) Fault → Type 0
ComesWithin tries w made result = ComesTo tries w made result ⊎ IsCutShort tries made result
