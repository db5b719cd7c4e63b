-- What stands in the logs is what sessions wrote: nothing else, and all of it.
use Rattle.std.specs.List.{list_any}
use Rattle.std.specs.Prelude.{Bool, false, ◌≡◌, IsTrue, List, Some}
use Rattle.units.specs.Ids.{Id, same_id}
use Rattle.units.specs.Keys.{Bytes}
use Rattle.message.specs.declared.message.Envelope.{Envelope}
use Rattle.message.specs.declared.message.Message.{Message}
use Rattle.record.specs.History.{Txn, Map, put_all, history}
use Rattle.record.specs.declared.record.Record.{Record}
use Rattle.session.specs.Sessions.{Client}
use Rattle.world.specs.Headline.{MayBeLeft}
use Rattle.world.specs.Lawful.{lawful}
use Rattle.world.specs.World.{World, client_of, run}
use Rattle.world.specs.declared.event.Config.{Config}
use Rattle.world.specs.declared.event.Event.{Event}
use Rattle.law.specs.Among.{IsAmong}

-- a session closed: its request to commit was put out
abbrev pub asks_to_commit : Id → Envelope → Bool
asks_to_commit t e = elim e.message [ Message.Commit c ↦ same_id c.txn t | _ ↦ false ]

abbrev pub has_closed : World → Id → Bool
has_closed w t = list_any (asks_to_commit t) w.bag

-- a transaction of the history is a session's: that of its id, which closed, and it does to any map what the session's own
-- writes do
pub record IsOfSession (w : World) (u : Txn) : Type 0 where
  pub client : Client
  pub there : client_of w u.txn ≡ Some client
  pub closed : IsTrue (has_closed w u.txn)
  pub same : (m : Map) (k : Bytes) → put_all u.writes m k ≡ put_all client.writes m k

-- whatever crash strikes a lawful run, each transaction of the logs is that of a session
abbrev pub WrittenBySessions : Type 0
WrittenBySessions =
    (config : Config) (es : List Event) (logs : List (List Record)) → IsTrue (lawful config es) → MayBeLeft config es logs →
    (u : Txn) → IsAmong (history logs) u → IsOfSession (run config es) u
