-- How a session reads at its client.
use Rattle.std.specs.Prelude.{◌≡◌, ℕ, Bool, true, false, List, [], ◌∷◌, ◌++◌, Option, Some, None, option_map}
use Rattle.std.specs.List.{list_all}
use Rattle.units.specs.Ids.{Id, same_id}
use Rattle.units.specs.Keys.{Bytes, same_key}
use Rattle.units.specs.Lists.{first}
use Rattle.units.specs.declared.writes.Write.{Write}
use Rattle.message.specs.Ends.{End}
use Rattle.message.specs.declared.message.Answer.{Answer}
use Rattle.message.specs.declared.message.Envelope.{Envelope}
use Rattle.message.specs.declared.message.Message.{Message}
use Rattle.session.specs.Sessions.{Client, Goes, reads, hears}
use Rattle.session.specs.Shown.{Session}
use Rattle.session.specs.declared.answered.Answered.{Answered}
use Rattle.client.specs.Traffic.{Traffic}

-- a step of a session that reads: a key is asked for, or an answer is heard
pub data Step : Type 0 where
  Asks : Bytes → Step
  Hears : ℕ → Bytes → ℕ → Answer → Step

abbrev pub IsStep : List Bytes → Step → Client → Client → Type 0
IsStep splits (Asks k) c d = (es : List Envelope) × (reads splits k c ≡ Goes d es)
IsStep splits (Hears n k epoch answer) c d = d ≡ hears n k epoch answer c

abbrev pub AreSteps : List Bytes → List Step → Client → Client → Type 0
AreSteps splits [] c d = d ≡ c
AreSteps splits (s ∷ ss) c d = (m : Client) × IsStep splits s c m × AreSteps splits ss m d

-- a session behind some steps of reading, each of which is the definition's
abbrev pub HasRead : List Bytes → Client → Client → Type 0
HasRead splits c d = (ss : List Step) × AreSteps splits ss c d

-- the message asks for a key of the transaction
abbrev pub is_read : Id → Envelope → Bool
is_read txn e = elim e.message [ Message.Read r ↦ same_id txn r.txn | _ ↦ false ]

-- what was put out asks for keys, and does nothing else
abbrev pub AreReads : Id → List Envelope → Type 0
AreReads txn sent = list_all (is_read txn) sent ≡ true

-- A wire and a session before and behind some reading: what was put out asks for keys, and the session has read.
pub record IsReading (old new : Traffic) (before behind : Session) : Type 0 where
  pub sent : (sent : List Envelope) × (new.sent ≡ old.sent ++ sent) × AreReads before.client.txn sent
  pub heard : (heard : List End) × (new.heard ≡ old.heard ++ heard)
  pub splits : behind.splits ≡ before.splits
  pub txn : behind.client.txn ≡ before.client.txn
  pub read : HasRead before.splits before.client behind.client

-- what was written to a key, where it was
abbrev pub written : List Write → Bytes → Option (Option Bytes)
written ws k = option_map (λ w. w.value) (first (λ w. same_key w.key k) ws)

-- what was answered for a key, where it was
abbrev pub answered : List Answered → Bytes → Option (Option Bytes)
answered taken k = option_map (λ a. a.value) (first (λ a. same_key a.key k) taken)

-- the first that is there
abbrev pub or_else : {A : Type 0} → Option A → Option A → Option A
or_else (Some x) y = Some x
or_else None y = y

-- what a transaction sees of a key: what it has written to it, or else what was answered
abbrev pub seen : Client → Bytes → Option (Option Bytes)
seen c k = or_else (written c.writes k) (answered c.taken k)

-- what is seen of a key stays, whatever is read behind it
abbrev pub SeenStays : Type 0
SeenStays = (splits : List Bytes) (c d : Client) (k : Bytes) (value : Option Bytes) → HasRead splits c d → seen c k ≡ Some value → seen d k ≡ Some value
