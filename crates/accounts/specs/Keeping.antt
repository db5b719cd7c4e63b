-- A test of the whole map that each transaction keeps by itself is passed by every snapshot.
use Rattle.std.specs.Prelude.{ℕ, Bool, ◌≡◌, ◌<◌, ◌≤◌, IsTrue, List, Option}
use Rattle.units.specs.Ids.{Id}
use Rattle.units.specs.Keys.{Bytes}
use Rattle.units.specs.declared.line.Line.{Line}
use Rattle.units.specs.declared.writes.Write.{Write}
use Rattle.record.specs.History.{Txn, Map, empty, put_all, history, upto}
use Rattle.record.specs.Lines.{IsLine}
use Rattle.record.specs.declared.record.Record.{Record}
use Rattle.law.specs.Among.{IsAmong}
use Rattle.world.specs.Headline.{MayBeLeft}
use Rattle.world.specs.Lawful.{lawful}
use Rattle.world.specs.World.{run}
use Rattle.world.specs.declared.event.Config.{Config}
use Rattle.world.specs.declared.event.Event.{Event}

-- a map says what a transaction read
abbrev pub AgreesWithReads : List Line → Id → Map → Type 0
AgreesWithReads lines t m = (k : Bytes) (x : Option Bytes) → IsLine lines (Line.Read t k x) → m k ≡ x

-- a transaction keeps a test: a map that says what the transaction read, and passes, passes after its writes
abbrev pub Keeps : (Map → Bool) → List Line → Id → List Write → Type 0
Keeps test lines t ws = (m : Map) → AgreesWithReads lines t m → IsTrue (test m) → IsTrue (test (put_all ws m))

-- whatever crash strikes a lawful run: a test that the empty map passes and each transaction keeps is passed at every
-- timestamp
abbrev pub KeptFromTheStart : Type 0
KeptFromTheStart =
    (test : Map → Bool) (config : Config) (es : List Event) (logs : List (List Record)) (at : ℕ) →
    IsTrue (lawful config es) → MayBeLeft config es logs →
    IsTrue (test empty) →
    ((u : Txn) → IsAmong (history logs) u → u.at ≤ at → Keeps test (run config es).lines u.txn u.writes) →
    IsTrue (test (upto (history logs) at))

-- and one that was passed at a timestamp is passed later, if each transaction between keeps it
abbrev pub KeptBetween : Type 0
KeptBetween =
    (test : Map → Bool) (config : Config) (es : List Event) (logs : List (List Record)) (from at : ℕ) →
    IsTrue (lawful config es) → MayBeLeft config es logs →
    from ≤ at → IsTrue (test (upto (history logs) from)) →
    ((u : Txn) → IsAmong (history logs) u → from < u.at → u.at ≤ at → Keeps test (run config es).lines u.txn u.writes) →
    IsTrue (test (upto (history logs) at))
