-- What a rebuild leaves in the end.
use Rattle.std.proofs.Common.{List, Option, Some, None, ap, subst, ◌∙◌}
use Rattle.std.proofs.Props.{props}
use Rattle.units.specs.LockLaws.{IsLawfulTable}
use Rattle.units.specs.declared.setup.Setup.{Setup}
use Rattle.record.specs.declared.record.Record.{Record}
use Rattle.frames.specs.Placed.{Placed}
use Rattle.protocol.specs.Rows.{claims, rebuilt}
use Rattle.protocol.specs.Sound.{IsSound}
use Rattle.memory.specs.Kept.{Kept}
use Rattle.recovery.specs.Recovered.{IsRebuilt, items}
use Rattle.recovery.specs.Rebuilding.{Goes}
use Rattle.recovery.proofs.Soundness.{recovered_sound}

pub rebuilt-prop : (setup : Setup) (log : List Record) (o : Option Kept) → IsProp (IsRebuilt setup log o)
rebuilt-prop setup log None = hlevel props
rebuilt-prop setup log (Some k) = hlevel props

pub left_by : (setup : Setup) (ts : List Placed) (state : Option Kept) → Goes setup ts state → IsRebuilt setup (items ts) state
left_by setup ts None goes = ap items goes.begun
left_by setup ts (Some k) goes = (goes.state_of.0, goes.stands.known, goes.state_of.1.memory ∙ ap rebuilt goes.stands.known)

pub soundly : (setup : Setup) (ts : List Placed) (k : Kept) → IsLawfulTable (claims k.memory.rows) → Goes setup ts (Some k)
    → IsSound setup.shard k.facts k.memory
soundly setup ts k laws goes =
    subst (λ (s : Setup). IsSound s.shard k.facts k.memory) goes.state_of.0 (recovered_sound k.setup.shard k goes.state_of.1 laws)
