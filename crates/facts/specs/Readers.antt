-- What a status still says of the records of its id.
use Rattle.std.specs.Prelude.{ℕ, Bool, true, false, List, [], Option, Some, None}
use Rattle.units.specs.declared.writes.Write.{Write}
use Rattle.record.specs.declared.record.Committed.{Committed}
use Rattle.record.specs.declared.record.Prepared.{Prepared}
use Rattle.record.specs.Records.{Status, StandsPrepared, StandsDecided, HasAborted, HasSettled, HasClosed}

-- the promise, while it stands
abbrev pub standing_promise : Status → Option Prepared
standing_promise (StandsPrepared p) = Some p
standing_promise _ = None

-- the decision, while it stands
abbrev pub standing_decision : Status → Option Committed
standing_decision (StandsDecided c) = Some c
standing_decision _ = None

-- there is an abort decision
abbrev pub has_abort : Status → Bool
has_abort HasAborted = true
has_abort _ = false

-- the outcome, where there is one
abbrev pub outcome_in : Status → Option (Option ℕ)
outcome_in (HasSettled at parts) = Some (Some at)
outcome_in (HasClosed coordinator outcome) = Some outcome
outcome_in _ = None

-- the writes of a promise or a decision that stands
abbrev pub writes_standing : Status → List Write
writes_standing (StandsPrepared p) = p.writes
writes_standing (StandsDecided c) = c.writes
writes_standing _ = []
