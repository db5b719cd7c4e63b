-- What contracts see of a transaction, and how a step's answer stands to the definition's.
use Rattle.std.specs.List.{list_all}
use Rattle.std.specs.Prelude.{◌≡◌, ◌⊎◌, ◌≤◌, ◌+◌, ℕ, Bool, true, false, not, ◌&&◌, cond, List, [], ◌∷◌, length, map, Option, Some, None, IsTrue}
use Rattle.units.specs.Lists.{ascends}
use Rattle.units.specs.Ids.{Id}
use Rattle.units.specs.Keys.{Bytes, has_key, write_before}
use Rattle.units.specs.declared.fault.Fault.{Fault}
use Rattle.units.specs.declared.fault.Fault.TheVariants.{Memory}
use Rattle.units.specs.declared.writes.Write.{Write}
use Rattle.message.specs.declared.message.Address.TheVariants.{Shard}
use Rattle.message.specs.declared.message.Envelope.{Envelope}
use Rattle.message.specs.declared.message.Message.{Message}
use Rattle.message.specs.declared.message.Answer.{Answer}
use Rattle.message.specs.declared.message.Answer.TheVariants.{Holds, Refused}
use Rattle.session.specs.declared.answered.Answered.{Answered}
use Rattle.session.specs.declared.answered.Heard.{Heard}
use Rattle.session.specs.declared.answered.Finished.{Finished}
use Rattle.session.specs.Sessions.{Client, Stage, IsOpen, IsClosing, Moved, Denies, Goes, is_doomed, epochs_agree, prepare_for, read_set, shards_told}
use Rattle.session.specs.Sessions.{writes_at_shard}

-- a transaction: the splits of the shards that it goes over, and its client
pub record Session : Type 0 where
  pub splits : List Bytes
  pub client : Client

-- no key is there twice
abbrev pub distinct : List Bytes → Bool
distinct [] = true
distinct (k ∷ ks) = not (has_key ks k) && distinct ks

-- the keys of the answers that were taken
abbrev pub taken_keys : List Answered → List Bytes
taken_keys taken = map (λ a. a.key) taken

-- what a transaction keeps: at most 128 keys are asked for, a key is answered once and then not awaited, and the writes
-- are at most 128 by ascending keys
pub record IsWithinLimits (taken : List Answered) (awaited : List Bytes) (writes : List Write) : Type 0 where
  pub few_keys : length taken + length awaited ≤ 128
  pub once : IsTrue (distinct (taken_keys taken))
  pub apart : IsTrue (list_all (λ k. not (has_key (taken_keys taken) k)) awaited)
  pub few_writes : length writes ≤ 128
  pub ascending : IsTrue (ascends write_before writes)

-- the step is made
abbrev pub is_made : Moved → Bool
is_made (Denies f) = false
is_made (Goes c es) = true

-- a step is refused for its own reason, or else for want of memory
abbrev pub IsDenied : Moved → Fault → Type 0
IsDenied m f = (m ≡ Denies f) ⊎ ((f ≡ Memory) × (is_made m ≡ true))

-- the session is closing
abbrev pub is_closing : Stage → Bool
is_closing IsClosing = true
is_closing _ = false

-- what an answer that is awaited comes to
abbrev pub taken_as : Bool → Answer → Heard
taken_as agree Refused = Heard.Doomed
taken_as agree (Holds x) = cond agree (Heard.Value x) Heard.Doomed

-- what an answer comes to
abbrev pub heard_as : Client → ℕ → Bytes → ℕ → Answer → Heard
heard_as c n k epoch answer =
    cond (has_key c.awaited k && not (is_doomed c)) (taken_as (epochs_agree c.taken n epoch) answer) Heard.Again

-- how the end reads
abbrev pub finished_as : Option ℕ → Finished
finished_as None = Finished.Aborted
finished_as (Some s) = Finished.Committed s

-- as much of a session as its closing reads
abbrev pub closing_client : Id → List Answered → List Write → Client
closing_client t taken writes = record { txn = t; stage = IsOpen; doom = None; taken = taken; awaited = []; writes = writes }

-- what a shard is told of a transaction that is given up
abbrev pub give_up_to : Id → ℕ → Envelope
give_up_to t n = record { to = Shard n; message = Message.GiveUp (record { txn = t }) }

-- what a giving up says
abbrev pub farewells : List Bytes → Client → List Envelope
farewells splits c = map (give_up_to c.txn) (shards_told splits c)

-- the message to a part: Commit with all parts to the one that decides, Prepare to any other
abbrev pub message_for : List Bytes → Client → Option (List ℕ) → ℕ → ℕ → Envelope
message_for splits c (Some parts) coordinator n =
    record {
      to = Shard n;
      message = Message.Commit (record {
        txn = c.txn;
        parts = parts;
        reads = read_set c n;
        writes =
            writes_at_shard splits c n;
      });
    }
message_for splits c None coordinator n = prepare_for splits c coordinator n
