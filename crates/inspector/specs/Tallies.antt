-- The decisions of a transaction that logs hold, counted one by one.
use Rattle.std.specs.List.{list_all}
use Rattle.std.specs.Prelude.{ℕ, Bool, true, false, not, cond, ◌&&◌, List, [], ◌∷◌, map, filter, nat_eq, nat_le, Option, Some, None, option_map}
use Rattle.units.specs.Ids.{Id, same_id}
use Rattle.units.specs.Lists.{follow, gather, head, when}
use Rattle.record.specs.History.{by_shard}
use Rattle.record.specs.Records.{as_committed, as_ended}
use Rattle.record.specs.Whole.{Decision, fits_decision, parts_exist}
use Rattle.record.specs.declared.record.Record.{Record}
use Rattle.record.specs.declared.record.Record.TheVariants.{Prepare, Abort, Outcome, Settled, Closed}
use Rattle.inspector.specs.declared.whole.Stand.{Stand}
use Rattle.inspector.specs.declared.whole.Stand.TheVariants.{Nothing, Otherwise, Promised}
use Rattle.inspector.specs.declared.whole.Tally.{Tally}
use Rattle.inspector.specs.declared.whole.Tally.TheVariants.{Never, Once, Again}

-- the decisions of an id in the log of a shard
abbrev pub decisions_here : Id → ℕ → List Record → List Decision
decisions_here t shard log = map (λ c. record { shard = shard; commit = c }) (filter (λ c. same_id t c.txn) (gather as_committed log))

-- every log fits the decision, and it stands in its least part's log
abbrev pub fits_all : List (List Record) → Id → Decision → Bool
fits_all logs t d = when (nat_eq d.shard) (head d.commit.parts) && parts_exist logs d && list_all (fits_decision t d) (by_shard logs)

-- one more decision is found
abbrev pub with_decision : (Decision → Bool) → Tally → Decision → Tally
with_decision fits Never d = Once (fits d)
with_decision fits (Once b) d = Again
with_decision fits Again d = Again

-- some more decisions are found
abbrev pub after : (Decision → Bool) → Tally → List Decision → Tally
after fits found [] = found
after fits found (d ∷ ds) = after fits (with_decision fits found d) ds

-- what the tally comes to, where a transaction without a decision is judged apart
abbrev pub settled_tally : Bool → Tally → Bool
settled_tally never Never = never
settled_tally never (Once b) = b
settled_tally never Again = false

-- a log turns the decision down where this holds
abbrev pub turned_down : Bool → Stand
turned_down b = cond b Otherwise Nothing

-- how a promise of a transaction stands to a decision of an id
abbrev pub promised_as : Id → Decision → Id → ℕ → ℕ → Stand
promised_as t d u coordinator at =
    cond (same_id u t) (Promised (nat_eq coordinator d.shard && nat_le at d.commit.at)) Nothing

-- how a record stands to a decision of an id
abbrev pub stand_of : Id → Decision → Record → Stand
stand_of t d (Prepare p) = promised_as t d p.txn p.coordinator p.at
stand_of t d (Abort u) = turned_down (same_id t u)
stand_of t d (Outcome u None) = turned_down (same_id u t)
stand_of t d (Outcome u (Some s)) = turned_down (same_id t u && not (nat_eq d.commit.at s))
stand_of t d (Settled u s parts) = turned_down (same_id t u && not (nat_eq d.commit.at s))
stand_of t d (Closed u coordinator None) = turned_down (same_id u t)
stand_of t d (Closed u coordinator (Some s)) =
    cond (same_id t u && not (nat_eq d.commit.at s)) Otherwise (promised_as t d u coordinator s)
stand_of t d _ = Nothing

-- the transaction that a record ends at a timestamp
abbrev pub ended_at_a_time : Record → Option Id
ended_at_a_time r = follow (as_ended r) (λ e. option_map (λ s. e.txn) e.outcome)

-- what stands in a log fits a decision, in the coordinator's log, in that of a part, or in another, where a promise was found before or not
abbrev pub all_fit : Bool → Bool → Bool → List Stand → Bool
all_fit is_own is_part found [] = cond is_own true (cond is_part found true)
all_fit is_own is_part found (Nothing ∷ xs) = all_fit is_own is_part found xs
all_fit is_own is_part found (Otherwise ∷ xs) = false
all_fit is_own is_part found (Promised fits ∷ xs) =
    cond is_own (all_fit is_own is_part found xs) (cond (is_part && not found && fits) (all_fit is_own is_part true xs) false)
