-- What is known of the shards of a world one by one.
use Rattle.std.specs.Prelude.{ℕ, ◌≡◌, IsTrue, List, [], ◌∷◌, ◌++◌, slice_get, Some}
use Rattle.record.specs.Accepted.{Accepted, followed, taken}
use Rattle.record.specs.Facts.{facts_of}
use Rattle.record.specs.declared.record.Record.{Record}
use Rattle.message.specs.declared.message.Envelope.{Envelope}
use Rattle.protocol.specs.Rows.{Memory}
use Rattle.protocol.specs.Step.{Does}
use Rattle.ledger.specs.Keeps.{Alike, IsLasting}
use Rattle.world.specs.World.{World, ShardNow, setup_of, effect, read_area, read_log, run}
use Rattle.world.specs.Lawful.{lawful}
use Rattle.world.specs.Headline.{MayLeaveLog}
use Rattle.world.specs.declared.event.Config.{Config}
use Rattle.world.specs.declared.event.Doing.{Doing}
use Rattle.world.specs.declared.event.Event.{Event}

-- in each log that a crash may leave each record follows those before it, and so does the record of a step under way; and an
-- opening takes the log that a read of the disk gives
pub record IsSteady (w : World) : Type 0 where
  pub follows : (n : ℕ) (s : ShardNow) (log : List Record) → slice_get w.shards n ≡ Some s → MayLeaveLog s log → IsTrue (followed n log)
  pub logged : (n : ℕ) (s : ShardNow) (doing : Doing) (r : Record) (memory : Memory) (out : List Envelope) → slice_get w.shards n ≡ Some s →
      effect (setup_of w.config n) w.bag s doing ≡ Does (Some r) memory out → IsTrue (followed n (read_log s ++ r ∷ []))
  pub takes : (n : ℕ) (s : ShardNow) → slice_get w.shards n ≡ Some s → taken (setup_of w.config n) (read_log s) ≡ Accepted

-- so at every moment of a lawful run
abbrev pub AlwaysSteady : Type 0
AlwaysSteady = (config : Config) (es : List Event) → IsTrue (lawful config es) → IsSteady (run config es)

-- an opening takes the area that a read of the disk gives, and it is alike to all records that were logged. What is said may be renewed
pub record HasAreas (w : World) : Type 0 where
  pub takes : (n : ℕ) (s : ShardNow) → slice_get w.shards n ≡ Some s → taken (setup_of w.config n) (read_area s).records ≡ Accepted
  pub alike : (n : ℕ) (s : ShardNow) → slice_get w.shards n ≡ Some s → Alike (facts_of (read_log s)) (facts_of (read_area s).records)
  pub lasting : (n : ℕ) (s : ShardNow) → slice_get w.shards n ≡ Some s → IsLasting (facts_of (read_log s))

-- so at every moment of a lawful run
abbrev pub AlwaysHasAreas : Type 0
AlwaysHasAreas = (config : Config) (es : List Event) → IsTrue (lawful config es) → HasAreas (run config es)
