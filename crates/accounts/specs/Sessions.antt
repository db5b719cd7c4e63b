-- The laws of accounts with nothing asked of the logs: what is asked is asked of the sessions alone, since what stands in
-- the logs is what sessions wrote.
use Rattle.std.specs.Prelude.{ℕ, Bool, ◌≡◌, ◌≤◌, IsTrue, List, Option}
use Rattle.units.specs.Ids.{Id}
use Rattle.units.specs.Keys.{Bytes}
use Rattle.units.specs.declared.line.Line.{Line}
use Rattle.units.specs.declared.writes.Write.{Write}
use Rattle.record.specs.History.{Map, empty, put_all, history, upto}
use Rattle.record.specs.Lines.{IsLine}
use Rattle.record.specs.declared.record.Record.{Record}
use Rattle.session.specs.Sessions.{Client}
use Rattle.law.specs.Among.{IsAmong}
use Rattle.law.specs.Written.{has_closed}
use Rattle.world.specs.Headline.{MayBeLeft}
use Rattle.world.specs.Lawful.{lawful}
use Rattle.world.specs.World.{World, run}
use Rattle.world.specs.declared.event.Config.{Config}
use Rattle.world.specs.declared.event.Event.{Event}
use Rattle.accounts.specs.Keeping.{AgreesWithReads, Keeps}
use Rattle.accounts.specs.Bank.{Bank, total, IsTransfer, IsAudit, LeavesEnough, accounts_of}

-- something is true of each session that closed
abbrev pub AllClosed : World → (Client → Type 0) → Type 0
AllClosed w P = (c : Client) → IsAmong w.clients c → IsTrue (has_closed w c.txn) → P c

-- a test that the empty map passes, and that each closed session keeps by what it was answered and what it wrote, is passed
-- at every timestamp of the logs
abbrev pub SessionsKeep : Type 0
SessionsKeep =
    (test : Map → Bool) (config : Config) (es : List Event) (logs : List (List Record)) (at : ℕ) →
    IsTrue (lawful config es) → MayBeLeft config es logs →
    IsTrue (test empty) → AllClosed (run config es) (λ c. Keeps test (run config es).lines c.txn c.writes) →
    IsTrue (test (upto (history logs) at))

-- a session does as a function says: it wrote what the function gives of each map that says what it was answered
abbrev pub DoesAs : (Map → List Write) → List Line → Id → List Write → Type 0
DoesAs f lines t ws = (m : Map) → AgreesWithReads lines t m → f m ≡ ws

-- a function from maps to writes keeps a test
abbrev pub IsKeeping : (Map → Bool) → (Map → List Write) → Type 0
IsKeeping test f = (m : Map) → IsTrue (test m) → IsTrue (test (put_all (f m) m))

-- a test that the empty map passes is passed at every timestamp, if each closed session does as some function says that
-- keeps it
abbrev pub ServicesKeep : Type 0
ServicesKeep =
    (test : Map → Bool) (config : Config) (es : List Event) (logs : List (List Record)) (at : ℕ) →
    IsTrue (lawful config es) → MayBeLeft config es logs →
    IsTrue (test empty) →
    AllClosed (run config es) (λ c. (f : Map → List Write) × IsKeeping test f × DoesAs f (run config es).lines c.txn c.writes) →
    IsTrue (test (upto (history logs) at))

-- each closed session is a transfer
abbrev pub AllTransfer : Bank → World → Type 0
AllTransfer b w = AllClosed w (λ c. IsTransfer b w.lines c.txn c.writes)

-- if each closed session is a transfer, the accounts hold at every timestamp as much together as at the start, and so each
-- audit finds
pub record SessionsConserve : Type 0 where
  pub snapshots : (b : Bank) (config : Config) (es : List Event) (logs : List (List Record)) (at : ℕ) →
      IsTrue (lawful config es) → MayBeLeft config es logs →
      AllTransfer b (run config es) → total b (upto (history logs) at) ≡ total b empty
  pub audits : (b : Bank) (config : Config) (es : List Event) (at : ℕ) (seen : Map) → IsTrue (lawful config es) →
      AllTransfer b (run config es) → IsAudit b (run config es).lines at seen → total b seen ≡ total b empty

-- if each closed session leaves enough in each account that it writes, no audit finds too little
abbrev pub SessionsLeaveEnough : Type 0
SessionsLeaveEnough =
    (b : Bank) (least : ℕ) (config : Config) (es : List Event) (k : Bytes) (at : ℕ) (x : Option Bytes) →
    IsTrue (lawful config es) →
    ((j : Bytes) → IsAmong b.accounts j → least ≤ b.amount (empty j)) →
    AllClosed (run config es)
    (λ c. (j : Bytes) → IsAmong (accounts_of b c.writes) j → LeavesEnough b least (run config es).lines c.txn c.writes j) →
    IsAmong b.accounts k → IsLine (run config es).lines (Line.Look k at x) → least ≤ b.amount x
