-- A service that moves money: what a transfer does, and what its audits find.
use Rattle.std.specs.Prelude.{ℕ, ◌+◌, ◌-◌, ◌≡◌, ◌≢◌, ◌⊎◌, ◌≤◌, false, cond, nat_le, IsTrue, List, [], ◌∷◌, Some}
use Rattle.units.specs.Ids.{Id}
use Rattle.units.specs.Keys.{Bytes, writes_key}
use Rattle.units.specs.declared.line.Line.{Line}
use Rattle.units.specs.declared.writes.Write.{Write}
use Rattle.record.specs.History.{Txn, Map, empty, history, put_all, upto}
use Rattle.record.specs.declared.record.Record.{Record}
use Rattle.session.specs.Sessions.{Client}
use Rattle.law.specs.Among.{IsAmong}
use Rattle.world.specs.Headline.{MayBeLeft}
use Rattle.world.specs.Lawful.{lawful}
use Rattle.world.specs.World.{World, run}
use Rattle.world.specs.declared.event.Config.{Config}
use Rattle.world.specs.declared.event.Event.{Event}
use Rattle.accounts.specs.Bank.{Bank, total, IsAudit}
use Rattle.accounts.specs.Keeping.{AgreesWithReads}
use Rattle.accounts.specs.Sessions.{AllClosed, DoesAs}

-- each key once
abbrev pub KeysOnce : List Bytes → Type 0
KeysOnce [] = Unit {0}
KeysOnce (k ∷ ks) = (IsAmong ks k → ⊥) × KeysOnce ks

-- how a number is written in an account
pub record IsSpelt (b : Bank) (spell : ℕ → Bytes) : Type 0 where
  pub once : KeysOnce b.accounts
  pub reads_back : (n : ℕ) → b.amount (Some (spell n)) ≡ n

-- to move an amount between two accounts: nothing is written where there is too little
abbrev pub transfer : Bank → (ℕ → Bytes) → Bytes → Bytes → ℕ → Map → List Write
transfer b spell from to n m =
    cond (nat_le n (b.amount (m from)))
    (record { key = from; value = Some (spell (b.amount (m from) - n)) }
    ∷ record { key = to; value = Some (spell (b.amount (m to) + n)) } ∷ [])
    []

-- a session is a transfer between two accounts
pub record Transfers (b : Bank) (spell : ℕ → Bytes) (w : World) (c : Client) : Type 0 where
  pub from : Bytes
  pub to : Bytes
  pub amount : ℕ
  pub from_account : IsAmong b.accounts from
  pub to_account : IsAmong b.accounts to
  pub apart : from ≢ to
  pub follows : DoesAs (transfer b spell from to amount) w.lines c.txn c.writes

-- a session writes no account
abbrev pub WritesNone : Bank → Client → Type 0
WritesNone b c = (k : Bytes) → IsAmong b.accounts k → writes_key c.writes k ≡ false

-- if each session that closes is a transfer or writes no account, each audit finds what there was at the start, whatever
-- crashed meanwhile
abbrev pub TransfersConserve : Type 0
TransfersConserve =
    (b : Bank) (spell : ℕ → Bytes) (config : Config) (es : List Event) (at : ℕ) (seen : Map) → IsSpelt b spell →
    IsTrue (lawful config es) →
    AllClosed (run config es) (λ c. Transfers b spell (run config es) c ⊎ WritesNone b c) →
    IsAudit b (run config es).lines at seen → total b seen ≡ total b empty

-- a session, or its transaction in the logs, leaves a total: on each map that says what it read, its writes make the accounts hold as much
-- together, as those of a session do that opens them all
abbrev pub Leaves : Bank → ℕ → List Line → Id → List Write → Type 0
Leaves b sum lines t ws = (m : Map) → AgreesWithReads lines t m → total b (put_all ws m) ≡ sum

-- each session that closes is a transfer, writes no account, or leaves the total
abbrev pub AllKeep : Bank → (ℕ → Bytes) → ℕ → World → Type 0
AllKeep b spell sum w = AllClosed w (λ c. Transfers b spell w c ⊎ (WritesNone b c ⊎ Leaves b sum w.lines c.txn c.writes))

-- behind a session that leaves a total, transfers keep it: the accounts hold as much at its timestamp and at each later one, and so each view
-- finds that is not before it, whatever crashed meanwhile
pub record TransfersKeep : Type 0 where
  pub snapshots : (b : Bank) (spell : ℕ → Bytes) (sum : ℕ) (config : Config) (es : List Event) (logs : List (List Record)) (opening : Txn) (at : ℕ) →
      IsSpelt b spell → IsTrue (lawful config es) → MayBeLeft config es logs →
      IsAmong (history logs) opening → Leaves b sum (run config es).lines opening.txn opening.writes →
      AllKeep b spell sum (run config es) → opening.at ≤ at → total b (upto (history logs) at) ≡ sum
  pub audits : (b : Bank) (spell : ℕ → Bytes) (sum : ℕ) (config : Config) (es : List Event) (logs : List (List Record)) (opening : Txn) (at : ℕ) (seen : Map) →
      IsSpelt b spell → IsTrue (lawful config es) → MayBeLeft config es logs →
      IsAmong (history logs) opening → Leaves b sum (run config es).lines opening.txn opening.writes →
      AllKeep b spell sum (run config es) → opening.at ≤ at → IsAudit b (run config es).lines at seen → total b seen ≡ sum
