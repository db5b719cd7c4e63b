-- The laws that a lock table keeps.
use Rattle.std.specs.Prelude.{◌≡◌, IsTrue, Bool, true, ◌||◌, not, List, [], Option, None, Some}
use Rattle.std.specs.List.{AllByRecursion, list_any, list_all}
use Rattle.units.specs.Lists.{ascends}
use Rattle.units.specs.Ids.{Id, older}
use Rattle.units.specs.ById.{IsById, find_member}
use Rattle.units.specs.Locks.{Claim, clash, others, is_waiting, waits_before, blockers, lock_before}

-- two transactions that hold one key both share it
abbrev pub keeps_lock_law : List Claim → Bool
keeps_lock_law table = list_all (λ c. not (list_any (λ d. clash c.held d.held) (others table c.txn))) table

-- each holder in the way of a waiter is older than it, or firm
abbrev pub keeps_wait_law : List Claim → Bool
keeps_wait_law table = list_all (λ w. list_all (λ c. older c.txn w.txn || c.firm) (blockers table w.txn w.needs)) table

-- each transaction holds its locks by ascending key, each key once
abbrev pub holds_by_key : List Claim → Bool
holds_by_key table = list_all (λ c. ascends lock_before c.held) table

-- what a table keeps: its claims stand by ascending id, each id once
pub record IsLawfulTable (table : List Claim) : Type 0 where
  pub order : IsById (λ c. c.txn) table
  pub keys : IsTrue (holds_by_key table)
  pub lock_law : IsTrue (keeps_lock_law table)
  pub wait_law : IsTrue (keeps_wait_law table)

-- a waiter in whose way stand no holder and no older waiter's needs
abbrev pub IsReady : List Claim → Claim → Type 0
IsReady table c =
    IsTrue (is_waiting c) × (blockers table c.txn c.needs ≡ []) × (waits_before table c.txn c.needs ≡ [])

-- no waiter is ready, or the one of an id is and no older one is
abbrev pub IsOldestReady : List Claim → Option Id → Type 0
IsOldestReady table None = AllByRecursion (λ d. IsReady table d → ⊥) table
IsOldestReady table (Some t) =
    (c : Claim) × (find_member (λ d. d.txn) table t ≡ Some c) × IsReady table c × AllByRecursion (λ d. older d.txn t ≡ true → IsReady table d → ⊥) table
