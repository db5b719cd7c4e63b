-- What it means that a value was put at a key.
use Rattle.std.specs.Prelude.{◌≡◌, ◌⊎◌, ◌<◌, ◌≤◌, ℕ, List, [], ◌∷◌, ◌++◌, length, Some, Result, Ok, MatchResult}
use Rattle.std.specs.List.{All}
use Rattle.units.specs.Ids.{Id}
use Rattle.units.specs.Keys.{Bytes}
use Rattle.units.specs.declared.fault.Fault.{Fault}
use Rattle.units.specs.declared.fault.Fault.TheVariants.{Future, Memory, TimeSpent}
use Rattle.session.specs.Sessions.{Client, Goes, begun, buffers}
use Rattle.session.specs.Shown.{IsDenied}
use Rattle.client.specs.Ends.{halt_for}
use Rattle.client.specs.declared.ended.Ended.{Ended}
use Rattle.client.specs.declared.ended.Ended.TheVariants.{Aborted, Committed, Unknown}
use Rattle.client.specs.declared.ended.Halt.{Halt as Halted}
use Rattle.store.specs.Attempts.{Attempt as AttemptOf, Doing, IsAttempt, id_in, widened}
use Rattle.store.specs.declared.ended.Ended.{Ended as EndedOf}
use Rattle.store.specs.declared.ended.Ended.TheVariants as ended
use Rattle.store.specs.declared.ended.Halt.{Halt as HaltOf}
use Rattle.store.specs.declared.ended.Halt.TheVariants as halt
use Rattle.store.specs.Unopened.{IsUnmade}
use Rattle.host_files.specs.Folders.{IsFolderFault}
use Rattle.commands.specs.Puts.{Said}

-- the code of a put gives no value, and abandons for no reason of its own
abbrev pub Halt : Type 0
Halt = HaltOf (Unit {0})

abbrev pub Attempt : Type 0
Attempt = AttemptOf (Unit {0}) (Unit {0})

-- how the store tells the end of a put, and what is printed of it
abbrev pub Told : Type 0
Told = EndedOf (Unit {0}) (Unit {0})

abbrev pub end_told : Told → Ended
end_told (ended.Committed at id value) = Committed at
end_told (ended.Abandoned why) = Aborted
end_told (ended.Aborted tries) = Aborted
end_told (ended.Unknown id) = Unknown id

-- what the code of a put does to its transaction: it writes this value to this key; or it changes nothing, for want of memory or as the
-- session refuses the write
abbrev pub Puts : Bytes → Bytes → Doing → Result (Unit {0}) Halt → Doing → Type 0
Puts key value old result new =
    MatchResult result (λ _. buffers (record { key = key; value = Some value }) old.session.client ≡ Goes new.session.client [])
    (λ why. (new ≡ old) × ((why ≡ halt.Refused Memory)
    ⊎ ((call : Halted) × (why ≡ widened call) × ((fault : Fault) × (call ≡ halt_for fault) × IsDenied (buffers (record { key = key; value = Some value }) old.session.client) fault))))

-- a session with one write, of this value to this key, and without a read
abbrev pub one_write : Bytes → Bytes → Id → Client
one_write key value txn = record (begun txn) { writes = record { key = key; value = Some value } ∷ [] }

-- An attempt to put a value at a key: a session of the definitions, which closes or is given up as they say. Where its code went to its
-- end, it has that one write, and no other and no read; else memory was wanting, and it does not close.
pub record IsPutting (run : ℕ) (key value : Bytes) (a : Attempt) : Type 0 where
  pub attempt : IsAttempt run a
  pub wrote : MatchResult a.ran (λ _. a.left.session.client ≡ one_write key value (id_in run a)) (λ why. why ≡ halt.Refused Memory)

abbrev pub IsAborted : Attempt → Type 0
IsAborted a = a.ended ≡ Ok Aborted

-- the last of some attempts ended so, its code had gone to its end, and each before it was aborted
pub record IsLast (made : List Attempt) (ended : Ended) : Type 0 where
  pub before : List Attempt
  pub last : Attempt
  pub whole : made ≡ before ++ last ∷ []
  pub aborted : All IsAborted before
  pub ran : last.ran ≡ Ok tt
  pub told : last.ended ≡ Ok ended

-- how some attempts end: all were aborted, and there was one at least; or the write stands, or nobody said so, as the last ended
abbrev pub EndAs : List Attempt → Ended → Type 0
EndAs made Aborted = (0 < length made) × All IsAborted made
EndAs made ended = IsLast made ended

-- a put of a value at a key ended so, by attempts of one run
pub record IsPut (key value : Bytes) (ended : Ended) : Type 0 where
  pub run : ℕ
  pub made : List Attempt
  pub few : length made ≤ 5
  pub each : All (IsPutting run key value) made
  pub end : EndAs made ended

-- what is said of a put; that it went to the store in the folder no contract tells
abbrev pub IsWritten : Said
IsWritten folder key value ended = IsPut key value ended

-- why nothing is said: the folder or one of its logs is refused, memory is wanting, or no number is left for an id
abbrev pub IsUnwritten : Fault → Type 0
IsUnwritten fault = IsFolderFault fault ⊎ (IsUnmade fault ⊎ ((fault ≡ TimeSpent) ⊎ (fault ≡ Future)))
