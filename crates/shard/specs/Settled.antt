-- What stands once a transaction is settled.
use Rattle.std.specs.List.{list_any}
use Rattle.std.specs.Prelude.{◌≡◌, ℕ, Bool, IsTrue, ◌&&◌, nat_eq, List, ◌∷◌, Some, Result, Ok, Err, IfOk}
use Rattle.units.specs.Ids.{Id, same_id}
use Rattle.units.specs.Lists.{when}
use Rattle.units.specs.declared.fault.Fault.{Fault}
use Rattle.disk.specs.Image.{Surface, MayLeave}
use Rattle.message.specs.declared.message.Envelope.{Envelope}
use Rattle.record.specs.Records.{as_committed}
use Rattle.record.specs.declared.record.Record.{Record}
use Rattle.protocol.specs.Outputs.{done_to}
use Rattle.message.specs.declared.message.Input.{Input}
use Rattle.shard.specs.Logs.{records_in}

-- the record is the commit decision of this transaction at this timestamp
abbrev pub is_commit : Id → ℕ → Record → Bool
is_commit t at r = when (λ c. same_id c.txn t && nat_eq c.at at) (as_committed r)

-- the records have it
abbrev pub HasCommit : Result (List Record) Fault → Id → ℕ → Type 0
HasCommit (Ok records) t at = IsTrue (list_any (is_commit t at) records)
HasCommit (Err fault) t at = ⊥

-- A settling that is taken puts out the transaction's end at a timestamp, before all else; from then on every image that a
-- crash may leave has its commit decision at that timestamp.
abbrev pub IsDurablySettled : Type 0 → Surface → Input → Result (List Envelope) Fault → Type 0
IsDurablySettled keeps disk (Input.Settle t) result =
    IfOk result (λ out. (at : ℕ) × (others : List Envelope) × (out ≡ done_to t (Some at) ∷ others)
    × (keeps → (image : List ℕ) → MayLeave disk image → HasCommit (records_in image) t at))
IsDurablySettled keeps disk _ result = Unit {0}
