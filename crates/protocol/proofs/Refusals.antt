-- A step refuses for reasons of its own alone: never for want of memory, a failing device, a full log.
use Rattle.std.proofs.Common.{refl}
use Rattle.std.specs.Prelude.{◌≡◌, Bool, true, List, [], ◌∷◌, Ok, Err}
use Rattle.std.specs.List.{list_all}
use Rattle.units.specs.Keys.{Bytes}
use Rattle.units.specs.declared.writes.Write.{Write}
use Rattle.record.specs.declared.record.Record.{Record}
use Rattle.message.specs.declared.message.Message.{Message}
use Rattle.protocol.specs.Rows.{Phase, Row}
use Rattle.protocol.specs.Plan.{Planned}
use Rattle.protocol.specs.Step.{plan_input}
use Rattle.protocol.specs.Refusals.{Owns, OwnRefusals}
use Rattle.protocol.proofs.Contents.{Brings, Fits, Told, walked}

-- nothing is asked of what rows and records speak of
abbrev any_reads : List Bytes → List Write → Bool
any_reads reads writes = true

abbrev any_phase : Phase → Bool
any_phase phase = true

abbrev any_record : Record → Bool
any_record r = true

any_fits : Fits any_reads any_phase any_record
any_fits = record {
  idle = refl;
  reading = λ k. refl;
  preparing = λ c rs ws. refl;
  committing = λ l ps rs ws. refl;
  collecting = λ l ps rs ws votes. refl;
  prepared = λ c p. refl;
  decided = λ s ps. refl;
  promised = λ t c p rs ws. refl;
  decides = λ t s ps rs ws. refl;
  aborted = λ t. refl;
  outcomes = λ t outcome. refl;
  ceilings = λ at. refl;
  horizons = λ at. refl;
  retirements = λ below. refl;
}

any_rows : (rows : List Row) → list_all (λ (r : Row). any_phase r.phase) rows ≡ true
any_rows [] = refl
any_rows (r ∷ rows) = any_rows rows

brought : (m : Message) → Brings any_reads m
brought (Message.Prepare p) = refl
brought (Message.Commit c) = refl
brought _ = tt

by_walk : (plan : Planned) → Told any_reads any_phase any_record any_fits plan → Owns plan
by_walk (Ok p) h = tt
by_walk (Err fault) h = h.each

pub own_refusals : OwnRefusals
own_refusals setup b now i = by_walk (plan_input setup b now i)
    (walked any_reads any_phase any_record any_fits setup b now i (any_rows b.memory.rows) (λ m same h. brought m))
