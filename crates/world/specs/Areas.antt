-- What the disks of a run hold: each has an area, whose records keep what all records of its shard say that were logged since it was
-- formatted. So a crash that strikes within a turnover, too, leaves the old area or one that keeps the same.
use Rattle.std.specs.Prelude.{ℕ, ◌≡◌, ◌⊎◌, IsTrue, List, [], ◌∷◌, ◌++◌, slice_get, Option, Some, option_to_list}
use Rattle.record.specs.Accepted.{Accepted, taken}
use Rattle.record.specs.Facts.{facts_of}
use Rattle.record.specs.declared.record.Record.{Record}
use Rattle.message.specs.declared.message.Envelope.{Envelope}
use Rattle.protocol.specs.Rows.{Memory}
use Rattle.protocol.specs.Step.{Does}
use Rattle.ledger.specs.Keeps.{Keeps}
use Rattle.world.specs.World.{World, ShardNow, Area, Unsure, Nothing, Shown, Hidden, TurnShown, TurnHidden, area_behind, effect, read_log, run}
use Rattle.world.specs.World.{setup_of, with_records}
use Rattle.world.specs.Lawful.{lawful}
use Rattle.world.specs.Headline.{doing_of}
use Rattle.world.specs.declared.event.Config.{Config}
use Rattle.world.specs.declared.event.Doing.{Doing}
use Rattle.world.specs.declared.event.Event.{Event}

-- what may be there beside: a record in both, or another area that has the same to say
abbrev pub IsBeside : ShardNow → Unsure → List Record → Area → Type 0
IsBeside s Nothing log area = ⊥
IsBeside s (Shown r) log area = (log ≡ s.log ++ r ∷ []) × (area ≡ with_records s.area (r ∷ []))
IsBeside s (Hidden r) log area = (log ≡ s.log ++ r ∷ []) × (area ≡ with_records s.area (r ∷ []))
IsBeside s (TurnShown other) log area = (log ≡ s.log) × (area ≡ other)
IsBeside s (TurnHidden other) log area = (log ≡ s.log) × (area ≡ other)

-- what a crash between two events may leave of a shard: the records that it then has logged since it was formatted, and the area that its
-- disk then has
abbrev pub MayLeaveArea : ShardNow → List Record → Area → Type 0
MayLeaveArea s log area = ((log ≡ s.log) × (area ≡ s.area)) ⊎ IsBeside s s.unsure log area

-- a step or a turnover that is under way may be done
pub record MayHaveDone (w : World) (s : ShardNow) (n : ℕ) (doing : Doing) (log : List Record) (area : Area) : Type 0 where
  pub logged : Option Record
  pub memory : Memory
  pub out : List Envelope
  pub does : effect (setup_of w.config n) w.bag s doing ≡ Does logged memory out
  pub log_is : log ≡ read_log s ++ option_to_list logged
  pub area_is : area ≡ area_behind s doing logged

-- what a crash leaves of one shard: between two events, or within a next one that may happen
abbrev pub MayBeLeftAt : Config → List Event → ℕ → List Record → Area → Type 0
MayBeLeftAt config es n log area =
    (s : ShardNow) × (slice_get (run config es).shards n ≡ Some s)
    × (MayLeaveArea s log area
    ⊎ ((e : Event) × (doing : Doing) × IsTrue (lawful config (es ++ e ∷ []))
    × (doing_of (run config es) e.act ≡ Some (n, doing))
    × MayHaveDone (run config es) s n doing log area))

-- an opening takes the area, and it keeps what the records say: the same epoch, floor and horizon, the same of each transaction, and each
-- value from the horizon up
abbrev pub KeepsWhatIsSaid : Config → ℕ → List Record → Area → Type 0
KeepsWhatIsSaid config n log area =
    (taken (setup_of config n) area.records ≡ Accepted) × Keeps (facts_of log) (facts_of area.records)

-- the law of areas
abbrev pub AreasKeep : Type 0
AreasKeep =
    (config : Config) (es : List Event) (n : ℕ) (log : List Record) (area : Area) → IsTrue (lawful config es) →
    MayBeLeftAt config es n log area → KeepsWhatIsSaid config n log area
