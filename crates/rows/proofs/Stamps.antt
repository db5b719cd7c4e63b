-- The rows that are prepared and those that are decided, by their phase and by their state.
use Rattle.std.proofs.Common.{◌≡◌, ℕ, List, [], ◌∷◌, Option, Some, None, refl, ap, ◌∙◌}
use Rattle.units.specs.Lists.{gather, tail}
use Rattle.units.specs.Ids.{Id}
use Rattle.units.specs.Locks.{Claim}
use Rattle.units.specs.declared.lock.Lock.{Lock}
use Rattle.protocol.specs.Rows.{Row}
use Rattle.rows.specs.CodeRows.{txn_of, phase_of, phase_of_wait, stamp_if_prepared, stamp_if_decided}
use Rattle.rows.specs.RowTable.{paired, held_first, prepared_row, decided_row}
use Rattle.rows.specs.declared.row.Row.{Row as CodeRow}
use Rattle.rows.specs.declared.row.Row.TheVariants.{Reading, Collecting, Prepared, Decided}
use Rattle.rows.specs.declared.wait.Wait.{Wait}

-- what is gathered of the rows that a contract sees is gathered of the code's
gather-paired : (f : Row → Option (Id × ℕ)) (g : CodeRow → Option (Id × ℕ))
    → ((r : CodeRow) (held : List Lock) → f (record { txn = txn_of r; held = held; phase = phase_of r }) ≡ g r)
    → (rows : List CodeRow) (table : List Claim) → gather f (paired rows table) ≡ gather g rows
gather-paired f g same [] table = refl
gather-paired f g same (r ∷ rs) table =
    ap (λ (o : Option (Id × ℕ)). elim o as (λ _. List (Id × ℕ)) [
      | None ↦ gather f (paired rs (tail table))
      | Some x ↦
          x ∷ gather f (paired rs (tail table))
    ]) (same r (held_first table))
    ∙ ap (λ (l : List (Id × ℕ)). elim (g r) as (λ _. List (Id × ℕ)) [ None ↦ l | Some x ↦ x ∷ l ]) (gather-paired f g same rs (tail table))

-- the two words for one row
prepared_alike : (r : CodeRow) (held : List Lock) → prepared_row (record { txn = txn_of r; held = held; phase = phase_of r }) ≡ stamp_if_prepared r
prepared_alike (Reading s) held = by_wait s.wait
  where
    by_wait : (w : Option Wait) → prepared_row (record { txn = s.token.txn; held = held; phase = phase_of_wait w }) ≡ None
    by_wait None = refl
    by_wait (Some (Wait.Read k)) = refl
    by_wait (Some (Wait.Prepare p)) = refl
    by_wait (Some (Wait.Commit c)) = refl
prepared_alike (Collecting s) held = refl
prepared_alike (Prepared s) held = refl
prepared_alike (Decided s) held = refl

decided_alike : (r : CodeRow) (held : List Lock) → decided_row (record { txn = txn_of r; held = held; phase = phase_of r }) ≡ stamp_if_decided r
decided_alike (Reading s) held = by_wait s.wait
  where
    by_wait : (w : Option Wait) → decided_row (record { txn = s.token.txn; held = held; phase = phase_of_wait w }) ≡ None
    by_wait None = refl
    by_wait (Some (Wait.Read k)) = refl
    by_wait (Some (Wait.Prepare p)) = refl
    by_wait (Some (Wait.Commit c)) = refl
decided_alike (Collecting s) held = refl
decided_alike (Prepared s) held = refl
decided_alike (Decided s) held = refl

pub gather-prepared : (rows : List CodeRow) (table : List Claim) → gather prepared_row (paired rows table) ≡ gather stamp_if_prepared rows
gather-prepared rows table = gather-paired prepared_row stamp_if_prepared prepared_alike rows table

pub gather-decided : (rows : List CodeRow) (table : List Claim) → gather decided_row (paired rows table) ≡ gather stamp_if_decided rows
gather-decided rows table = gather-paired decided_row stamp_if_decided decided_alike rows table
