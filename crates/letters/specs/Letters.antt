-- Whose letters a node takes, and which of them it keeps.
use Rattle.std.specs.Prelude.{ℕ, Bool, true, false, not, ◌&&◌, List, Option, Some, None}
use Rattle.std.specs.List.{list_all}
use Rattle.units.specs.Ids.{Id, same_id}
use Rattle.message.specs.declared.message.Envelope.{Envelope}
use Rattle.message.specs.declared.message.Input.{Input}
use Rattle.message.specs.declared.message.Message.{Message}

-- the transaction whose session has sent a message
abbrev pub sender_of : Message → Option Id
sender_of (Message.Read r) = Some r.txn
sender_of (Message.Prepare p) = Some p.txn
sender_of (Message.Commit c) = Some c.txn
sender_of (Message.GiveUp g) = Some g.txn
sender_of _ = None

-- the transaction whose session has sent an input
abbrev pub session_of : Input → Option Id
session_of (Input.Deliver m) = sender_of m
session_of _ = None

-- it is not there
abbrev pub is_none : Option ℕ → Bool
is_none None = true
is_none (Some at) = false

-- a message answers what a transaction asks for: its read, or its end, or that it is not voted for
abbrev pub is_answer : Id → Envelope → Bool
is_answer txn e =
    elim e.message [
      | Message.ReadAnswer a ↦ same_id a.txn txn
      | Message.Done d ↦ same_id d.txn txn
      | Message.Vote v ↦ is_none v.vote && same_id v.txn txn
      | _ ↦ false
    ]

-- none of some messages answers what a transaction asks for
abbrev pub is_unanswered : Id → List Envelope → Bool
is_unanswered txn out = list_all (λ e. not (is_answer txn e)) out

-- a node that has taken a session's message, and put this out, keeps what that asks for
abbrev pub keeps_message : Message → List Envelope → Bool
keeps_message (Message.Read r) out = is_unanswered r.txn out
keeps_message (Message.Prepare p) out = is_unanswered p.txn out
keeps_message (Message.Commit c) out = is_unanswered c.txn out
keeps_message _ out = false

abbrev pub keeps : Input → List Envelope → Bool
keeps (Input.Deliver m) out = keeps_message m out
keeps _ out = false
