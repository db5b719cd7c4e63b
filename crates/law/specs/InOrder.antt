-- The history of the logs that a crash may leave is one strict order: each id stands in it once, and the map before a
-- transaction is what those in front of it leave.
use Rattle.std.specs.Prelude.{◌≡◌, ◌≤◌, IsTrue, List, ◌∷◌, ◌++◌, length, Some, filter}
use Rattle.units.specs.Ids.{Id, same_id}
use Rattle.units.specs.Keys.{Bytes}
use Rattle.record.specs.History.{Txn, history, find_txn, serial, before, applied, empty}
use Rattle.record.specs.declared.record.Record.{Record}
use Rattle.world.specs.Headline.{MayBeLeft}
use Rattle.world.specs.Lawful.{lawful}
use Rattle.world.specs.declared.event.Config.{Config}
use Rattle.world.specs.declared.event.Event.{Event}
use Rattle.law.specs.Among.{IsAmong}

-- no two transactions have one id, and each is found by its own
pub record HasIdsOnce (h : List Txn) : Type 0 where
  pub once : (t : Id) → length (filter (λ u. same_id t u.txn) h) ≤ 1
  pub found : (u : Txn) → IsAmong h u → find_txn h u.txn ≡ Some u

abbrev pub IdsStandOnce : Type 0
IdsStandOnce =
    (config : Config) (es : List Event) (logs : List (List Record)) → IsTrue (lawful config es) → MayBeLeft config es logs →
    HasIdsOnce (history logs)

-- wherever a transaction stands in the serial order
abbrev pub BeforeIsInFront : Type 0
BeforeIsInFront =
    (config : Config) (es : List Event) (logs : List (List Record)) → IsTrue (lawful config es) → MayBeLeft config es logs →
    (front : List Txn) (u : Txn) (back : List Txn) → serial (history logs) ≡ front ++ u ∷ back →
    (k : Bytes) → before (history logs) u k ≡ applied front empty k
