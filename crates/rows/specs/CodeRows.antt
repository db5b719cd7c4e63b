-- The rows as the code keeps them: typed states, by ascending id.
use Rattle.std.specs.Prelude.{◌≡◌, ◌≤◌, ℕ, Bool, true, false, not, List, length, Option, None, Some}
use Rattle.units.specs.Lists.{when}
use Rattle.units.specs.Limits.{most_rows}
use Rattle.units.specs.Ids.{Id}
use Rattle.units.specs.ById.{IsById, has_member, find_member, without_member, with_member}
use Rattle.protocol.specs.Rows.{Phase, Idle, WaitsRead, WaitsPrepare, WaitsCommit, Collecting as CollectsVotes, IsPrepared, IsDecided, is_firm}
use Rattle.locks.specs.Table.{Token}
use Rattle.rows.specs.declared.row.Row.{Row}
use Rattle.rows.specs.declared.row.Row.TheVariants.{Reading, Collecting, Prepared, Decided}
use Rattle.rows.specs.declared.wait.Wait.{Wait}

-- the token that a row holds
abbrev pub token_of : Row → Token
token_of (Reading s) = s.token
token_of (Collecting s) = s.token
token_of (Prepared s) = s.token
token_of (Decided s) = s.token

-- whose row it is
abbrev pub txn_of : Row → Id
txn_of r = (token_of r).txn

-- the phase of a transaction that reads, by what it waits with
abbrev pub phase_of_wait : Option Wait → Phase
phase_of_wait None = Idle
phase_of_wait (Some (Wait.Read key)) = WaitsRead key
phase_of_wait (Some (Wait.Prepare p)) = WaitsPrepare p.coordinator p.reads p.writes
phase_of_wait (Some (Wait.Commit c)) = WaitsCommit c.latest c.parts c.reads c.writes

-- the phase of a row, by its state
abbrev pub phase_of : Row → Phase
phase_of (Reading s) = phase_of_wait s.wait
phase_of (Collecting s) = CollectsVotes s.request.latest s.request.parts s.request.reads s.request.writes s.votes
phase_of (Prepared s) = IsPrepared s.coordinator s.at
phase_of (Decided s) = IsDecided s.at s.parts

-- it reads: it is idle, or waits
abbrev pub is_reading : Phase → Bool
is_reading phase = not (is_firm phase)

-- it is idle
abbrev pub is_idle : Phase → Bool
is_idle Idle = true
is_idle _ = false

-- it collects votes
abbrev pub is_collecting : Phase → Bool
is_collecting (CollectsVotes latest parts reads writes votes) = true
is_collecting _ = false

-- it is idle, or collects votes
abbrev pub may_decide : Phase → Bool
may_decide Idle = true
may_decide (CollectsVotes latest parts reads writes votes) = true
may_decide _ = false

-- nothing is promised or decided
abbrev pub may_abort : Phase → Bool
may_abort (IsPrepared coordinator at) = false
may_abort (IsDecided at parts) = false
may_abort _ = true

-- it is prepared or decided
abbrev pub may_close : Phase → Bool
may_close phase = not (may_abort phase)

-- the transaction and its timestamp, of a row that is prepared, and of one that is decided
abbrev pub stamp_if_prepared : Row → Option (Id × ℕ)
stamp_if_prepared (Prepared s) = Some (s.token.txn, s.at)
stamp_if_prepared _ = None

abbrev pub stamp_if_decided : Row → Option (Id × ℕ)
stamp_if_decided (Decided s) = Some (s.token.txn, s.at)
stamp_if_decided _ = None

-- some row is the transaction's
abbrev pub has_txn : List Row → Id → Bool
has_txn rows t = has_member txn_of rows t

-- the row of a transaction
abbrev pub row_of : List Row → Id → Option Row
row_of rows t = find_member txn_of rows t

-- a transaction has a row whose phase passes a test
abbrev pub passes : (Phase → Bool) → List Row → Id → Bool
passes test rows t = when (λ r. test (phase_of r)) (row_of rows t)

-- the rows without a transaction's
abbrev pub without_txn : List Row → Id → List Row
without_txn rows t = without_member txn_of rows t

-- the rows with one given anew, in its place
abbrev pub put_in : List Row → Row → List Row
put_in rows r = with_member txn_of rows r

-- what is kept of the rows: they ascend by id, and are not too many
pub record IsRowList (rows : List Row) : Type 0 where
  pub order : IsById txn_of rows
  pub few : length rows ≤ most_rows

-- the row of a transaction was taken out of the rows, which leaves the others
pub record IsOut (rows others : List Row) (t : Id) (r : Row) : Type 0 where
  pub laws : IsRowList rows
  pub row : row_of rows t ≡ Some r
  pub rest : others ≡ without_txn rows t
