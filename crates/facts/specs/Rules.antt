-- Which record may follow, told from the facts alone.
use Rattle.std.specs.Prelude.{ℕ, ◌+◌, Bool, true, false, ◌&&◌, nat_eq, nat_lt, nat_le, Option, Some, None}
use Rattle.units.specs.Lists.{head, when}
use Rattle.units.specs.Ids.{Id}
use Rattle.record.specs.Accepted.{is_kept, rises}
use Rattle.record.specs.Facts.{Facts, recorded}
use Rattle.record.specs.Records.{Status, StandsPrepared, StandsDecided}
use Rattle.record.specs.declared.record.Record.{Record}
use Rattle.record.specs.declared.record.Record.TheVariants.{Opened, Ceiling, Prepare, Commit, Abort, Outcome, Horizon, Base, Version, Settled, Closed, Retired}
pub use Rattle.record.specs.Accepted.{is_unrecorded}

-- there is no promise, decision or abort of the id, and it is not retired
abbrev pub is_free : Facts → Id → Bool
is_free facts t = is_unrecorded (recorded facts t) && is_kept facts.retired t

-- an outcome follows a promise or a decision that stands and allows it
abbrev pub allows : Status → Option ℕ → Bool
allows (StandsPrepared p) (Some s) = nat_le p.at s
allows (StandsPrepared p) None = true
allows (StandsDecided c) (Some s) = nat_eq c.at s
allows _ _ = false

-- the rules of one id; the kinds of a renewed log's head have their own
abbrev pub id_follows : ℕ → Facts → Record → Bool
id_follows shard facts (Opened epoch) = true
id_follows shard facts (Ceiling at) = true
id_follows shard facts (Retired least) = rises facts.retired least
id_follows shard facts (Horizon at) = nat_lt facts.horizon at && nat_le at facts.floor
id_follows shard facts (Prepare p) = nat_lt 0 p.at && is_free facts p.txn && nat_lt p.coordinator shard
id_follows shard facts (Commit c) = nat_lt 0 c.at && is_free facts c.txn && when (nat_eq shard) (head c.parts)
id_follows shard facts (Abort t) = is_free facts t
id_follows shard facts (Outcome t outcome) = allows (recorded facts t) outcome
id_follows shard facts (Base epoch floor horizon) = false
id_follows shard facts (Version install) = false
id_follows shard facts (Settled t at parts) = false
id_follows shard facts (Closed t coordinator outcome) = false

-- the rules of the openings, the first of which comes before all else, and of one id
unfoldable pub follows_facts : ℕ → Facts → Record → Bool
follows_facts shard facts (Opened epoch) = nat_eq epoch (facts.epoch + 1)
follows_facts shard facts (Ceiling at) = nat_lt 0 facts.epoch && id_follows shard facts (Ceiling at)
follows_facts shard facts (Retired least) = nat_lt 0 facts.epoch && id_follows shard facts (Retired least)
follows_facts shard facts (Horizon at) = nat_lt 0 facts.epoch && id_follows shard facts (Horizon at)
follows_facts shard facts (Prepare p) = nat_lt 0 facts.epoch && id_follows shard facts (Prepare p)
follows_facts shard facts (Commit c) = nat_lt 0 facts.epoch && id_follows shard facts (Commit c)
follows_facts shard facts (Abort t) = nat_lt 0 facts.epoch && id_follows shard facts (Abort t)
follows_facts shard facts (Outcome t outcome) = nat_lt 0 facts.epoch && id_follows shard facts (Outcome t outcome)
follows_facts shard facts (Base epoch floor horizon) = false
follows_facts shard facts (Version install) = false
follows_facts shard facts (Settled t at parts) = false
follows_facts shard facts (Closed t coordinator outcome) = false
