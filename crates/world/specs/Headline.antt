-- The law of the store: in every lawful run, at every moment and whatever crash strikes there, also within a write, the
-- recovered logs are taken by openings and hold every acknowledged commit, each transaction stands at one timestamp on all
-- its shards or on none, every answered read equals the serial run by timestamp up to its own, and a transaction begun
-- after another's acknowledgement has the larger timestamp.
use Rattle.std.specs.Prelude.{ℕ, zero, suc, ◌≡◌, ◌⊎◌, IsTrue, List, [], ◌∷◌, ◌++◌, slice_get, Option, Some, None}
use Rattle.units.specs.Ids.{Id}
use Rattle.record.specs.History.{history}
use Rattle.record.specs.Serially.{LooksSerially, ReadsSerially, OrderedByTime}
use Rattle.record.specs.Accepted.{Accepted, taken}
use Rattle.record.specs.Whole.{is_whole, Resolves}
use Rattle.record.specs.Lines.{IsLine, is_in_at}
use Rattle.protocol.specs.Step.{Does}
use Rattle.world.specs.World.{World, ShardNow, Unsure, Nothing, Shown, Hidden, TurnShown, TurnHidden, read_log, effect, setup_of, run}
use Rattle.world.specs.Lawful.{lawful}
use Rattle.record.specs.declared.record.Record.{Record}
use Rattle.units.specs.declared.line.Line.{Line}
use Rattle.message.specs.declared.message.Address.TheVariants.{Shard, Session}
use Rattle.world.specs.declared.event.Act.{Act}
use Rattle.world.specs.declared.event.Config.{Config}
use Rattle.world.specs.declared.event.Doing.{Doing}
use Rattle.world.specs.declared.event.Event.{Event}

-- ---- the clauses, of some logs and the lines of a run

-- an opening of each shard takes its log
abbrev pub AllAccepted : Config → List (List Record) → Type 0
AllAccepted config logs =
    (n : ℕ) (log : List Record) → slice_get logs n ≡ Some log → taken (setup_of config n) log ≡ Accepted

-- what was acknowledged is in the history at its timestamp, and whole
abbrev pub KeepsAcknowledged : List (List Record) → List Line → Type 0
KeepsAcknowledged logs lines =
    (t : Id) (at m : ℕ) → IsLine lines (Line.Ack t at m) → IsTrue (is_in_at (history logs) t at) × IsTrue (is_whole t logs)

-- each transaction is whole, and stands at one timestamp on all its shards or on none
abbrev pub AllOrNothing : List (List Record) → Type 0
AllOrNothing logs = (t : Id) → IsTrue (is_whole t logs) × Resolves logs t

-- the clauses together
pub record IsExternallyConsistent (config : Config) (logs : List (List Record)) (lines : List Line) : Type 0 where
  pub recovered : AllAccepted config logs
  pub acknowledged : KeepsAcknowledged logs lines
  pub all_or_nothing : AllOrNothing logs
  pub looks : LooksSerially logs lines
  pub reads : ReadsSerially logs lines
  pub order : OrderedByTime logs lines

-- ---- every moment, every crash

-- the record that may be on a disk although its append failed
abbrev pub IsUnsure : Unsure → Record → Type 0
IsUnsure Nothing r = ⊥
IsUnsure (Shown q) r = q ≡ r
IsUnsure (Hidden q) r = q ≡ r
IsUnsure (TurnShown other) r = ⊥
IsUnsure (TurnHidden other) r = ⊥

-- what a crash may leave of one shard's log: its records, with an unsure one or without
abbrev pub MayLeaveLog : ShardNow → List Record → Type 0
MayLeaveLog s log = (log ≡ s.log) ⊎ ((r : Record) × IsUnsure s.unsure r × (log ≡ s.log ++ r ∷ []))

-- what a crash between two events may leave of all logs
abbrev pub MayLeaveLogs : List ShardNow → List (List Record) → Type 0
MayLeaveLogs [] [] = Unit {0}
MayLeaveLogs (s ∷ ss) (l ∷ ls) = MayLeaveLog s l × MayLeaveLogs ss ls
MayLeaveLogs _ _ = ⊥

-- the shard at which an act is under way, and its doing
abbrev pub doing_of : World → Act → Option (ℕ × Doing)
doing_of w (Act.At n doing) = Some (n, doing)
doing_of w (Act.CrashIn n call fate named doing) = Some (n, doing)
doing_of w (Act.FailIn n call named doing) = Some (n, doing)
doing_of w (Act.Deliver m now) =
    elim (slice_get w.bag m) [ None ↦ None | Some e ↦ elim e.to [ Shard n ↦ Some (n, Doing.Take m now) | Session t ↦ None ] ]
doing_of w _ = None

-- a step under way may have left its record
abbrev pub MayHaveLogged : World → ShardNow → ℕ → Doing → List Record → Type 0
MayHaveLogged w s n doing log =
    (r : Record) × (((memory : _) × (out : _) × (effect (setup_of w.config n) w.bag s doing ≡ Does (Some r) memory out)) × (log ≡ read_log s ++ r ∷ []))

-- what a crash within an event may leave: one shard has its step's record, the others what a crash between events leaves
abbrev pub MayLeaveWithin : World → ℕ → Doing → ℕ → List ShardNow → List (List Record) → Type 0
MayLeaveWithin w n doing zero (s ∷ ss) (l ∷ ls) = MayHaveLogged w s n doing l × MayLeaveLogs ss ls
MayLeaveWithin w n doing (suc i) (s ∷ ss) (l ∷ ls) = MayLeaveLog s l × MayLeaveWithin w n doing i ss ls
MayLeaveWithin w n doing _ _ _ = ⊥

-- the logs that a crash may leave at the moment after some events, or within a next one that may happen
abbrev pub MayBeLeft : Config → List Event → List (List Record) → Type 0
MayBeLeft config es logs =
    MayLeaveLogs (run config es).shards logs
    ⊎ ((e : Event) × (n : ℕ) × (doing : Doing) × IsTrue (lawful config (es ++ e ∷ []))
    × (doing_of (run config es) e.act ≡ Some (n, doing))
    × MayLeaveWithin (run config es) n doing n (run config es).shards logs)

-- the headline
abbrev pub ExternalConsistency : Type 0
ExternalConsistency =
    (config : Config) (es : List Event) (logs : List (List Record)) → IsTrue (lawful config es) → MayBeLeft config es logs →
    IsExternallyConsistent config logs (run config es).lines
