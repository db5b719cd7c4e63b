-- Accounts, transfers between them, and audits: laws of the transactions that stand in the logs.
use Rattle.std.specs.Prelude.{ℕ, ◌+◌, ◌≡◌, ◌⊎◌, ◌<◌, ◌≤◌, IsTrue, List, [], ◌∷◌, Option, filter}
use Rattle.units.specs.Keys.{Bytes, writes_key}
use Rattle.units.specs.Ids.{Id}
use Rattle.units.specs.declared.line.Line.{Line}
use Rattle.units.specs.declared.writes.Write.{Write}
use Rattle.record.specs.History.{Txn, Map, empty, put_all, history, upto}
use Rattle.record.specs.Lines.{IsLine}
use Rattle.record.specs.declared.record.Record.{Record}
use Rattle.law.specs.Among.{IsAmong}
use Rattle.world.specs.Headline.{MayBeLeft}
use Rattle.world.specs.Lawful.{lawful}
use Rattle.world.specs.World.{run}
use Rattle.world.specs.declared.event.Config.{Config}
use Rattle.world.specs.declared.event.Event.{Event}

-- the keys of the accounts, and how much a value is; no value may be an opening balance
pub record Bank : Type 0 where
  pub accounts : List Bytes
  pub amount : Option Bytes → ℕ

-- how much some keys hold together
abbrev pub sum_of : Bank → List Bytes → Map → ℕ
sum_of b [] m = 0
sum_of b (k ∷ ks) m = b.amount (m k) + sum_of b ks m

-- how much all accounts hold together
abbrev pub total : Bank → Map → ℕ
total b m = sum_of b b.accounts m

-- the accounts that some writes are of
abbrev pub accounts_of : Bank → List Write → List Bytes
accounts_of b ws = filter (writes_key ws) b.accounts

-- a transaction read each account that it writes, and writes as much there as it read
pub record IsTransfer (b : Bank) (lines : List Line) (t : Id) (ws : List Write) : Type 0 where
  pub found : Map
  pub read : (k : Bytes) → IsAmong (accounts_of b ws) k → IsLine lines (Line.Read t k (found k))
  pub even : sum_of b (accounts_of b ws) (put_all ws found) ≡ sum_of b (accounts_of b ws) found

-- each transaction of the logs that is above one timestamp and up to another is a transfer
abbrev pub AllTransfers : Bank → List (List Record) → List Line → ℕ → ℕ → Type 0
AllTransfers b logs lines from at =
    (u : Txn) → IsAmong (history logs) u → from < u.at → u.at ≤ at → IsTransfer b lines u.txn u.writes

-- conservation: between two timestamps with transfers alone between them the accounts hold as much together, and where all
-- are transfers as much as at the start
pub record TotalStays : Type 0 where
  pub later : (b : Bank) (config : Config) (es : List Event) (logs : List (List Record)) (from at : ℕ) →
      IsTrue (lawful config es) → MayBeLeft config es logs →
      from ≤ at → AllTransfers b logs (run config es).lines from at →
      total b (upto (history logs) at) ≡ total b (upto (history logs) from)
  pub always : (b : Bank) (config : Config) (es : List Event) (logs : List (List Record)) (at : ℕ) →
      IsTrue (lawful config es) → MayBeLeft config es logs →
      ((u : Txn) → IsAmong (history logs) u → u.at ≤ at → IsTransfer b (run config es).lines u.txn u.writes) →
      total b (upto (history logs) at) ≡ total b empty

-- an audit: an answered look at each account, all at one timestamp
abbrev pub IsAudit : Bank → List Line → ℕ → Map → Type 0
IsAudit b lines at seen = (k : Bytes) → IsAmong b.accounts k → IsLine lines (Line.Look k at (seen k))

-- two audits find as much, if there are transfers alone between their timestamps
abbrev pub AuditsAgree : Type 0
AuditsAgree =
    (b : Bank) (config : Config) (es : List Event) (logs : List (List Record)) (from at : ℕ) (first second : Map) →
    IsTrue (lawful config es) → MayBeLeft config es logs →
    from ≤ at → AllTransfers b logs (run config es).lines from at →
    IsAudit b (run config es).lines from first → IsAudit b (run config es).lines at second →
    total b second ≡ total b first

-- a transaction leaves enough in an account: at least the least amount, or no less than it read there
abbrev pub LeavesEnough : Bank → ℕ → List Line → Id → List Write → Bytes → Type 0
LeavesEnough b least lines t ws k =
    (least ≤ b.amount (put_all ws empty k))
    ⊎ ((x : Option Bytes) × IsLine lines (Line.Read t k x) × (b.amount x ≤ b.amount (put_all ws empty k)))

-- no account is ever below the least amount, if each transaction leaves enough in each account that it writes
abbrev pub NeverBelow : Type 0
NeverBelow =
    (b : Bank) (least : ℕ) (config : Config) (es : List Event) (logs : List (List Record)) (at : ℕ) →
    IsTrue (lawful config es) → MayBeLeft config es logs →
    ((k : Bytes) → IsAmong b.accounts k → least ≤ b.amount (empty k)) →
    ((u : Txn) (k : Bytes) → IsAmong (history logs) u → u.at ≤ at → IsAmong (accounts_of b u.writes) k →
    LeavesEnough b least (run config es).lines u.txn u.writes k) →
    (k : Bytes) → IsAmong b.accounts k → least ≤ b.amount (upto (history logs) at k)
