-- Records counted one by one.
use Rattle.std.specs.Prelude.{ℕ, ◌+◌, List, fold}
use Rattle.record.specs.declared.record.Record.{Record}
use Rattle.record.specs.declared.record.Record.TheVariants.{Opened, Ceiling, Prepare, Commit, Abort, Outcome, Horizon, Base, Version, Settled, Closed, Retired}
use Rattle.showing.specs.declared.kinds.Kinds.{Kinds}

-- no record
abbrev pub no_kinds : Kinds
no_kinds = record {
  opened = 0;
  ceilings = 0;
  prepares = 0;
  commits = 0;
  aborts = 0;
  outcomes = 0;
  horizons = 0;
  bases = 0;
  versions = 0;
  settled = 0;
  closed = 0;
  retired = 0;
}

-- one record more
abbrev pub with_kind : Kinds → Record → Kinds
with_kind kinds (Opened epoch) = record kinds { opened = kinds.opened + 1 }
with_kind kinds (Ceiling at) = record kinds { ceilings = kinds.ceilings + 1 }
with_kind kinds (Prepare p) = record kinds { prepares = kinds.prepares + 1 }
with_kind kinds (Commit c) = record kinds { commits = kinds.commits + 1 }
with_kind kinds (Abort t) = record kinds { aborts = kinds.aborts + 1 }
with_kind kinds (Outcome t outcome) = record kinds { outcomes = kinds.outcomes + 1 }
with_kind kinds (Horizon at) = record kinds { horizons = kinds.horizons + 1 }
with_kind kinds (Base epoch floor horizon) = record kinds { bases = kinds.bases + 1 }
with_kind kinds (Version install) = record kinds { versions = kinds.versions + 1 }
with_kind kinds (Settled t at parts) = record kinds { settled = kinds.settled + 1 }
with_kind kinds (Closed t coordinator outcome) = record kinds { closed = kinds.closed + 1 }
with_kind kinds (Retired below) = record kinds { retired = kinds.retired + 1 }

-- how many records there are of each kind
abbrev pub kinds_of : List Record → Kinds
kinds_of records = fold with_kind no_kinds records

-- how many there are of all kinds
abbrev pub all_kinds : Kinds → ℕ
all_kinds kinds =
    kinds.opened + kinds.ceilings + kinds.prepares + kinds.commits + kinds.aborts + kinds.outcomes + kinds.horizons
    + kinds.bases + kinds.versions + kinds.settled + kinds.closed + kinds.retired
