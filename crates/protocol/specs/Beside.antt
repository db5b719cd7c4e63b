-- Whether a record has its place beside what stands, told from the facts.
use Rattle.std.specs.List.{list_all, list_any}
use Rattle.std.specs.Prelude.{ℕ, Bool, true, not, ◌&&◌, nat_lt, List, map, length, Some, None}
use Rattle.units.specs.Ids.{older}
use Rattle.units.specs.Limits.{most_rows}
use Rattle.units.specs.Lists.{gather}
use Rattle.units.specs.Keys.{Bytes}
use Rattle.units.specs.Locks.{clash, locks_of}
use Rattle.units.specs.Versions.{above_versions}
use Rattle.units.specs.declared.writes.Write.{Write}
use Rattle.record.specs.Facts.{Facts, recorded}
use Rattle.record.specs.declared.record.Record.{Record}
use Rattle.protocol.specs.Rows.{Row, held_stamp, standing_row}
use Rattle.protocol.specs.Sound.{writes_standing}

-- the rows that some facts hold
abbrev pub standing_rows : Facts → List Row
standing_rows facts = gather standing_row facts.entries

-- a promise or a decision has its place: room for its row, its locks in nobody's way, above the horizon, and above the versions of
-- what it writes
abbrev pub stands_in : Facts → ℕ → List Bytes → List Write → Bool
stands_in facts at reads writes =
    nat_lt (length (standing_rows facts)) most_rows
    && not (list_any (clash (locks_of reads writes)) (map (λ r. r.held) (standing_rows facts)))
    && nat_lt facts.horizon at
    && above_versions facts.installs at writes

-- a record has its place beside what stands; a horizon is below all of it
abbrev pub fits_facts : Facts → Record → Bool
fits_facts facts (Record.Opened epoch) = true
fits_facts facts (Record.Ceiling at) = true
fits_facts facts (Record.Horizon at) = list_all (nat_lt at) (gather (λ r. held_stamp r.phase) (standing_rows facts))
fits_facts facts (Record.Prepare p) = stands_in facts p.at p.reads p.writes
fits_facts facts (Record.Commit c) = stands_in facts c.at c.reads c.writes
fits_facts facts (Record.Abort t) = true
fits_facts facts (Record.Outcome t None) = true
fits_facts facts (Record.Outcome t (Some at)) = above_versions facts.installs at (writes_standing (recorded facts t))
fits_facts facts (Record.Base epoch floor horizon) = true
fits_facts facts (Record.Version install) = true
fits_facts facts (Record.Settled t at parts) = true
fits_facts facts (Record.Closed t coordinator outcome) = true
fits_facts facts (Record.Retired below) = list_all (λ r. not (older r.txn below)) (standing_rows facts)
