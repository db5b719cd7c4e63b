-- What true time has to do with timestamps: nothing is installed before its time, and a look at the present shows what was
-- acknowledged.
use Rattle.std.specs.List.{list_all}
use Rattle.std.specs.Prelude.{ℕ, ◌≡◌, ◌<◌, ◌≤◌, Bool, IsTrue, nat_lt, List, ◌∷◌, ◌++◌, Option, Some, None}
use Rattle.units.specs.Ids.{Id}
use Rattle.units.specs.Keys.{Bytes}
use Rattle.record.specs.History.{history, upto}
use Rattle.record.specs.Installs.{installs_of}
use Rattle.record.specs.Lines.{IsLine, is_in_at}
use Rattle.record.specs.declared.record.Record.{Record}
use Rattle.world.specs.Headline.{MayBeLeft}
use Rattle.world.specs.Lawful.{lawful}
use Rattle.world.specs.World.{ShardNow, run, happens}
use Rattle.units.specs.declared.line.Line.{Line}
use Rattle.world.specs.declared.event.Act.{Act}
use Rattle.world.specs.declared.event.Config.{Config}
use Rattle.world.specs.declared.event.Event.{Event}
use Rattle.world.specs.declared.event.Reply.{Reply}

-- each version of a shard's log has a timestamp below a time
abbrev pub installed_before : ℕ → ShardNow → Bool
installed_before time s = list_all (λ i. nat_lt i.at time) (installs_of s.log)

-- at every moment of a lawful run each version's timestamp has passed. Times do not fall, so each version was installed
-- at an event whose true time is above its timestamp
abbrev pub InstalledInThePast : Type 0
InstalledInThePast =
    (config : Config) (es : List Event) → IsTrue (lawful config es) →
    IsTrue (list_all (installed_before (run config es).time) (run config es).shards)

-- the key and the time of a look: at a shard, or through one of its views
abbrev pub looks_at : Act → Option (Bytes × ℕ)
looks_at (Act.Look n k at) = Some (k, at)
looks_at (Act.View n v k at) = Some (k, at)
looks_at _ = None

-- a transaction is in the serial run up to a time, and an answered look shows that run
pub record ShowsTxn (logs : List (List Record)) (reply : Reply) (k : Bytes) (at : ℕ) (t : Id) (s : ℕ) : Type 0 where
  pub logged : IsTrue (is_in_at (history logs) t s)
  pub within : s < at
  pub shown : (x : Option Bytes) → reply ≡ Reply.Shows x → upto (history logs) at k ≡ x

-- a look is at the present if its time is not before its event's true time. Each transaction that was acknowledged before it
-- is in the serial run that it shows: in the logs of that moment and of each later one, whatever crash strikes there
abbrev pub LooksShowAcknowledged : Type 0
LooksShowAcknowledged =
    (config : Config) (es later : List Event) (e : Event) (logs : List (List Record)) →
    IsTrue (lawful config (es ++ e ∷ later)) → MayBeLeft config (es ++ e ∷ later) logs →
    (k : Bytes) (at : ℕ) → looks_at e.act ≡ Some (k, at) → e.time ≤ at →
    (t : Id) (s m : ℕ) → IsLine (run config es).lines (Line.Ack t s m) →
    ShowsTxn logs (happens (run config es) e).1 k at t s
