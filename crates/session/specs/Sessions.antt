-- A client's session: it reads, buffers writes, closes into one set of messages, and hears the end of its transaction.
use Rattle.std.specs.List.{list_any, list_all}
use Rattle.std.specs.Prelude.{ℕ, Bool, true, false, not, cond, ◌&&◌, ◌||◌, nat_eq, nat_lt, nat_le, List, [], ◌∷◌, ◌++◌, length, map, Option, Some}
use Rattle.std.specs.Prelude.{None, filter, option_to_list}
use Rattle.units.specs.Lists.{first, sorted, once, insert, when}
use Rattle.units.specs.Ids.{Id}
use Rattle.units.specs.Keys.{Bytes, same_key, key_before, write_before, shard_of, has_key, writes_key}
use Rattle.units.specs.declared.fault.Fault.{Fault}
use Rattle.units.specs.declared.fault.Fault.TheVariants.{BadRequest}
use Rattle.units.specs.declared.fault.Reason.{Reason}
use Rattle.units.specs.declared.fault.Reason.TheVariants.{Many, Nothing, Again, Awaited, Doomed}
use Rattle.units.specs.declared.writes.Write.{Write}
use Rattle.message.specs.declared.message.Message.{Message}
use Rattle.message.specs.declared.message.Envelope.{Envelope}
use Rattle.message.specs.declared.message.Address.TheVariants.{Shard}
use Rattle.message.specs.ReadSet.{ReadSet}
use Rattle.message.specs.declared.message.Answer.{Answer}
use Rattle.message.specs.declared.message.Answer.TheVariants.{Holds, Refused}
use Rattle.session.specs.declared.answered.Answered.{Answered}

-- open, closing (its messages are out), or over
pub data Stage : Type 0 where
  IsOpen : Stage
  IsClosing : Stage
  IsOver : Stage

-- the answers taken, the key whose answer doomed the session (it was refused, or of a second epoch of its shard), the keys
-- whose answer is not yet taken, and the writes by ascending key. A doomed session can only give up
pub record Client : Type 0 where
  pub txn : Id
  pub stage : Stage
  pub doom : Option Bytes
  pub taken : List Answered
  pub awaited : List Bytes
  pub writes : List Write

-- a session as it begins
abbrev pub begun : Id → Client
begun t = record { txn = t; stage = IsOpen; doom = None; taken = []; awaited = []; writes = [] }

-- what a session's step answers: a refusal, or the session after it and the messages that it puts out
pub data Moved : Type 0 where
  Denies : Fault → Moved
  Goes : Client → List Envelope → Moved

-- refused for the first of some reasons that holds, else the step
abbrev pub unless : List (Bool × Reason) → Moved → Moved
unless [] m = m
unless (r ∷ rs) m = cond (r.0) (Denies (BadRequest r.1)) (unless rs m)

-- a value of the key was taken
abbrev pub was_taken : Client → Bytes → Bool
was_taken c k = list_any (λ a. same_key a.key k) c.taken

-- the session is doomed
abbrev pub is_doomed : Client → Bool
is_doomed c = when (λ k. true) c.doom

-- the key's answer was taken: a value, or the answer that doomed the session
abbrev pub was_answered : Client → Bytes → Bool
was_answered c k = was_taken c k || when (same_key k) c.doom

-- the keys that were asked for: those answered, the one that doomed the session, and those awaited
abbrev pub asked_keys : Client → List Bytes
asked_keys c = map (λ a. a.key) c.taken ++ option_to_list c.doom ++ c.awaited

-- to read a key: its shard is asked
unfoldable pub reads : List Bytes → Bytes → Client → Moved
reads splits k c =
    unless ((nat_le 128 (length (asked_keys c)), Many) ∷ (was_answered c k, Again) ∷ (has_key c.awaited k, Awaited) ∷ (is_doomed c, Doomed) ∷ [])
    (Goes (record c { awaited = c.awaited ++ k ∷ [] })
    (record { to = Shard (shard_of splits k); message = Message.Read (record { txn = c.txn; key = k }) } ∷ []))

-- the writes with one given anew, by ascending key
abbrev pub with_write : List Write → Write → List Write
with_write ws w = insert write_before w (filter (λ v. not (same_key v.key w.key)) ws)

-- to buffer a write: a later write of a key replaces the earlier
unfoldable pub buffers : Write → Client → Moved
buffers w c =
    unless ((nat_le 128 (length c.writes) && not (writes_key c.writes w.key), Many) ∷ (is_doomed c, Doomed) ∷ [])
    (Goes (record c { writes = with_write c.writes w }) [])

-- the answers of a shard are all of one epoch
abbrev pub epochs_agree : List Answered → ℕ → ℕ → Bool
epochs_agree taken n epoch = list_all (λ a. not (nat_eq a.shard n) || nat_eq a.epoch epoch) taken

-- the keys without one
abbrev pub without_key : List Bytes → Bytes → List Bytes
without_key ks k = filter (λ j. not (same_key j k)) ks

-- the session after the answer that doomed it
abbrev pub doomed_by : Bytes → Client → Client
doomed_by k c = record c { doom = Some k; awaited = without_key c.awaited k }

-- the session after an answer that it awaited; one that is refused, or of a second epoch of its shard, dooms it
abbrev pub take_answer : Client → ℕ → Bytes → ℕ → Answer → Client
take_answer c n k epoch Refused = doomed_by k c
take_answer c n k epoch (Holds x) =
    cond (epochs_agree c.taken n epoch)
    (record c { taken = c.taken ++ record { key = k; shard = n; epoch = epoch; value = x } ∷ []; awaited = without_key c.awaited k })
    (doomed_by k c)

-- an answer for a key that is awaited is taken; any other, and any to a doomed session, changes nothing
unfoldable pub hears : ℕ → Bytes → ℕ → Answer → Client → Client
hears n k epoch answer c = cond (has_key c.awaited k && not (is_doomed c)) (take_answer c n k epoch answer) c

-- the shards that were read or written, ascending
abbrev pub parts_of : List Bytes → Client → List ℕ
parts_of splits c = sorted nat_lt (once (map (λ a. a.shard) c.taken ++ map (λ w. shard_of splits w.key) c.writes))

-- the epoch in which a shard was read, 0 where it was not
abbrev pub epoch_or_none : Option Answered → ℕ
epoch_or_none None = 0
epoch_or_none (Some a) = a.epoch

-- the epoch in which the session read at a shard
abbrev pub epoch_read_at : Client → ℕ → ℕ
epoch_read_at c n = epoch_or_none (first (λ a. nat_eq a.shard n) c.taken)

-- the keys read at a shard, ascending
abbrev pub reads_at : Client → ℕ → List Bytes
reads_at c n = sorted key_before (map (λ a. a.key) (filter (λ a. nat_eq a.shard n) c.taken))

-- what was read at a shard: the keys and their epoch
abbrev pub read_set : Client → ℕ → ReadSet
read_set c n = record { epoch = epoch_read_at c n; keys = reads_at c n }

-- the writes of a shard
abbrev pub writes_at_shard : List Bytes → Client → ℕ → List Write
writes_at_shard splits c n = filter (λ w. nat_eq (shard_of splits w.key) n) c.writes

-- the message to a part that does not decide
abbrev pub prepare_for : List Bytes → Client → ℕ → ℕ → Envelope
prepare_for splits c coordinator n =
    record {
      to = Shard n;
      message = Message.Prepare (record {
        txn = c.txn;
        coordinator = coordinator;
        reads = read_set c n;
        writes =
            writes_at_shard splits c n;
      });
    }

-- the messages of a closing: Commit to the least part, which decides, then Prepare to each other part
abbrev pub messages_for : List Bytes → Client → List ℕ → List Envelope
messages_for splits c [] = []
messages_for splits c (n ∷ ns) =
    record {
      to = Shard n;
      message = Message.Commit (record {
        txn = c.txn;
        parts = n ∷ ns;
        reads = read_set c n;
        writes =
            writes_at_shard splits c n;
      });
    } ∷ map (prepare_for splits c n) ns

-- the messages of the closing, the same each time
unfoldable pub closing_messages : List Bytes → Client → List Envelope
closing_messages splits c = messages_for splits c (parts_of splits c)

-- the list has no member
abbrev pub is_none : {A : Type 0} → List A → Bool
is_none [] = true
is_none (x ∷ xs) = false

-- to close
unfoldable pub closes : List Bytes → Client → Moved
closes splits c =
    unless ((is_none (asked_keys c) && is_none c.writes, Nothing) ∷ (not (is_none c.awaited), Awaited) ∷ (is_doomed c, Doomed) ∷ [])
    (Goes (record c { stage = IsClosing }) (closing_messages splits c))

-- the shards that were asked, ascending
abbrev pub asked_shards : List Bytes → Client → List ℕ
asked_shards splits c = sorted nat_lt (once (map (λ a. a.shard) c.taken ++ map (shard_of splits) (option_to_list c.doom ++ c.awaited)))

-- the shards that a giving up tells: each that was asked, or when closing each that takes part
abbrev pub shards_told : List Bytes → Client → List ℕ
shards_told splits c = elim c.stage [ IsClosing ↦ parts_of splits c | _ ↦ asked_shards splits c ]

-- to give up: these shards are told, and the session is over
unfoldable pub gives_up : List Bytes → Client → Moved
gives_up splits c =
    Goes (record c { stage = IsOver }) (map (λ n. record { to = Shard n; message = Message.GiveUp (record { txn = c.txn }) }) (shards_told splits c))

-- the end of the transaction was heard
abbrev pub finishes : Client → Moved
finishes c = Goes (record c { stage = IsOver }) []
