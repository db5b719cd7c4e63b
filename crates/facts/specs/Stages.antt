-- Which record of a renewed log's head may follow, told from the facts, and from where in the log one is.
use Rattle.std.specs.Prelude.{ℕ, Bool, true, false, not, ◌&&◌, ◌||◌, nat_eq, nat_le, nat_lt, List, [], ◌∷◌}
use Rattle.units.specs.Lists.{head, when}
use Rattle.units.specs.Versions.{version_before}
use Rattle.units.specs.declared.writes.Install.{Install}
use Rattle.record.specs.Accepted.{is_timed}
use Rattle.record.specs.Facts.{Facts}
use Rattle.record.specs.declared.record.Record.{Record}
use Rattle.record.specs.declared.record.Record.TheVariants.{Opened, Ceiling, Prepare, Commit, Abort, Outcome, Horizon, Base, Version, Settled, Closed, Retired}
use Rattle.facts.specs.Rules.{is_free, follows_facts}
use Rattle.facts.specs.declared.stage.Stage.{Stage}
use Rattle.facts.specs.declared.stage.Stage.TheVariants.{Head, Early, Open}

-- behind a record that is none of the head's and no opening
abbrev pub past_head : Stage → Stage
past_head Head = Early
past_head Early = Early
past_head Open = Open

-- behind one more record; a base is the first, so nothing changes
abbrev pub stage_after : Stage → Record → Stage
stage_after stage (Opened epoch) = Open
stage_after stage (Ceiling at) = past_head stage
stage_after stage (Retired least) = past_head stage
stage_after stage (Horizon at) = past_head stage
stage_after stage (Prepare p) = past_head stage
stage_after stage (Commit c) = past_head stage
stage_after stage (Abort t) = past_head stage
stage_after stage (Outcome t outcome) = past_head stage
stage_after stage (Base epoch floor horizon) = stage
stage_after stage (Version install) = stage
stage_after stage (Settled t at parts) = past_head stage
stage_after stage (Closed t coordinator outcome) = past_head stage

-- behind some more records
abbrev pub stage_from : Stage → List Record → Stage
stage_from stage [] = stage
stage_from stage (r ∷ rs) = stage_from (stage_after stage r) rs

-- where in a log one is behind its records
unfoldable pub stage_of : List Record → Stage
stage_of log = stage_from Head log

-- a version may come, as far as the stage tells
abbrev pub is_head : Stage → Bool
is_head Head = true
is_head Early = false
is_head Open = false

-- an opening came
abbrev pub is_open : Stage → Bool
is_open Head = false
is_open Early = false
is_open Open = true

-- the last of some versions, where there is one, is before one more
abbrev pub comes_behind : List Install → Install → Bool
comes_behind [] install = true
comes_behind (last ∷ []) install = version_before last install
comes_behind (first ∷ second ∷ rest) install = comes_behind (second ∷ rest) install

-- the rules of the kinds of a head; no other kind is one of those
unfoldable pub follows_head : ℕ → Stage → Facts → Record → Bool
follows_head shard stage facts (Opened epoch) = false
follows_head shard stage facts (Ceiling at) = false
follows_head shard stage facts (Retired least) = false
follows_head shard stage facts (Horizon at) = false
follows_head shard stage facts (Prepare p) = false
follows_head shard stage facts (Commit c) = false
follows_head shard stage facts (Abort t) = false
follows_head shard stage facts (Outcome t outcome) = false
follows_head shard stage facts (Base epoch floor horizon) = nat_eq facts.epoch 0 && nat_lt 0 epoch && nat_le horizon floor
follows_head shard stage facts (Version install) = (nat_lt 0 facts.epoch && is_head stage) && comes_behind facts.installs install
follows_head shard stage facts (Settled t at parts) =
    (nat_lt 0 facts.epoch && not (is_open stage)) && nat_lt 0 at && is_free facts t && when (nat_eq shard) (head parts)
follows_head shard stage facts (Closed t coordinator outcome) =
    (nat_lt 0 facts.epoch && not (is_open stage)) && is_timed outcome && is_free facts t && nat_lt coordinator shard

-- the record may come next: by the rules of the kinds that steps log, or by those of a head
unfoldable pub follows_next : ℕ → Stage → Facts → Record → Bool
follows_next shard stage facts r = follows_facts shard facts r || follows_head shard stage facts r
