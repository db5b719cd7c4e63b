-- The lines of a report, and what they acknowledge.
use Rattle.std.specs.List.{list_any}
use Rattle.std.specs.Prelude.{ℕ, ◌≡◌, Bool, ◌&&◌, nat_eq, List, slice_get, Some}
use Rattle.units.specs.Ids.{Id, same_id}
use Rattle.record.specs.History.{Txn, history}
use Rattle.units.specs.declared.line.Line.{Line}

-- the id is in the history at this timestamp
abbrev pub is_in_at : List Txn → Id → ℕ → Bool
is_in_at h t at = list_any (λ u. same_id u.txn t && nat_eq u.at at) h

-- the line is one of the report's
abbrev pub IsLine : List Line → Line → Type 0
IsLine lines l = (i : ℕ) × (slice_get lines i ≡ Some l)
