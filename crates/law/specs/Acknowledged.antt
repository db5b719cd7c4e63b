-- A report has a line for the first message that tells a session its commit. This is why one line is enough: each such message
-- that was put out, also a later one, is of an id whose line stands there already, with the same timestamp. So what holds of
-- lines (the commit is in the logs and whole, and what begins later has the larger timestamp) holds of each such message.
use Rattle.std.specs.Prelude.{ℕ, IsTrue, List, Some}
use Rattle.units.specs.Ids.{Id}
use Rattle.units.specs.declared.line.Line.{Line}
use Rattle.record.specs.Lines.{IsLine}
use Rattle.message.specs.declared.message.Address.{Address}
use Rattle.message.specs.declared.message.Envelope.{Envelope}
use Rattle.message.specs.declared.message.Message.{Message}
use Rattle.world.specs.Lawful.{lawful}
use Rattle.world.specs.World.{run}
use Rattle.world.specs.declared.event.Config.{Config}
use Rattle.world.specs.declared.event.Event.{Event}
use Rattle.law.specs.Among.{IsAmong}

-- the message that a transaction committed at a timestamp
abbrev pub committed_to : Address → Id → ℕ → Envelope
committed_to to t s = record { to = to; message = Message.Done (record { txn = t; outcome = Some s }) }

-- at every moment, each that was put out has its line
abbrev pub CommitsAreLines : Type 0
CommitsAreLines =
    (config : Config) (es : List Event) → IsTrue (lawful config es) →
    (to : Address) (t : Id) (s : ℕ) → IsAmong (run config es).bag (committed_to to t s) →
    (m : ℕ) × IsLine (run config es).lines (Line.Ack t s m)
