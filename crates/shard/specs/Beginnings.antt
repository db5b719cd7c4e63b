-- Where a log begins, as an opening finds it.
use Rattle.std.specs.Prelude.{◌≡◌, ℕ, ◌+◌, List, [], ◌∷◌, Option, Some, None, Result, Ok, Err}
use Rattle.std.specs.Option.{unwrap_or}
use Rattle.units.specs.declared.fault.Fault.{Fault}
use Rattle.record.specs.declared.record.Record.{Record}
use Rattle.frames.specs.Placed.{Placed}
use Rattle.gatelog.specs.Gates.{first_gate}
use Rattle.gatelog.specs.Log.{scan}
use Rattle.shard.specs.declared.begun.Begun.{Begun}
use Rattle.shard.specs.declared.begun.Found.{Found}

-- the one, or else the other
abbrev pub or_else : Option ℕ → Option ℕ → Option ℕ
or_else (Some n) other = Some n
or_else None other = other

-- a record at this offset with which a log grows: a renewal writes the others, of what is held and has ended
abbrev pub growth_of : ℕ → Record → Option ℕ
growth_of offset (Record.Base epoch floor horizon) = None
growth_of offset (Record.Version install) = None
growth_of offset (Record.Settled txn at parts) = None
growth_of offset (Record.Closed txn coordinator outcome) = None
growth_of offset (Record.Abort txn) = None
growth_of offset _ = Some offset

abbrev pub growth_at : Placed → Option ℕ
growth_at e = growth_of e.offset e.item

-- the offset of the first entry
abbrev pub first_in : List Placed → Option ℕ
first_in [] = None
first_in (e ∷ es) = Some e.offset

-- the offset of the first of them
abbrev pub growth_in : List Placed → Option ℕ
growth_in [] = None
growth_in (e ∷ es) = or_else (growth_at e) (growth_in es)

-- where a log with these entries begins that ends at this gate
abbrev pub begun_in : List Placed → ℕ → Begun
begun_in es gate = record { at = unwrap_or (first_in es) gate; grown = unwrap_or (growth_in es) gate }

-- where a renewed log begins that has a file for itself, and grows from its gate on
abbrev pub begun_anew : ℕ → Begun
begun_anew gate = record { at = first_gate + 1; grown = gate }

-- so it begins by what a scan finds
abbrev pub IsBegunBy : Result (List Placed × ℕ) Fault → Begun → Type 0
IsBegunBy (Ok found) begun = begun ≡ begun_in found.0 found.1
IsBegunBy (Err fault) begun = ⊥

-- so the log of a file begins
abbrev pub IsBegunIn : List ℕ → Begun → Type 0
IsBegunIn image begun = IsBegunBy (scan image) begun

-- what a sink has found of it behind some entries
abbrev pub none_found : Found
none_found = record { first = None; growth = None }

abbrev pub found_in : List Placed → Found
found_in es = record { first = first_in es; growth = growth_in es }

abbrev pub and_found : Found → Placed → Found
and_found found e = record { first = or_else found.first (Some e.offset); growth = or_else found.growth (growth_at e) }
