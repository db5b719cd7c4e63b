-- A plan puts rows and logs records whose writes ascend by key.
use Rattle.std.proofs.Common.{refl, ap, subst, ◌∙◌}
use Rattle.std.specs.Prelude.{ℕ, ◌≡◌, Bool, true, false, not, ◌&&◌, cond, List, [], ◌∷◌, Option, Some, Ok, filter}
use Rattle.std.proofs.lemmas.Bool.{and_parts, and_from}
use Rattle.std.specs.List.{list_all}
use Rattle.units.specs.Lists.{ascends}
use Rattle.units.specs.Ids.{Id, same_id, older}
use Rattle.units.specs.Keys.{Bytes, write_before}
use Rattle.units.specs.declared.setup.Setup.{Setup}
use Rattle.units.specs.declared.writes.Write.{Write}
use Rattle.truetime.specs.Interval.{Interval}
use Rattle.record.specs.Facts.{TxnStatus, Facts, recorded, learn, with_status, after_outcome}
use Rattle.record.specs.Records.{Status, StandsPrepared, StandsDecided, HasAborted, HasSettled, HasClosed}
use Rattle.record.specs.declared.record.Record.{Record}
use Rattle.message.specs.declared.message.Input.{Input}
use Rattle.message.specs.declared.message.Message.{Message}
use Rattle.protocol.specs.Sound.{writes_standing}
use Rattle.protocol.specs.Showable.{IsShowable, WritesAscend, writes_in, record_ascends}
use Rattle.protocol.specs.Rows.{Memory, Row, Phase}
use Rattle.protocol.specs.Plan.{Plan, start_of_step, carried}
use Rattle.protocol.specs.Step.{plan_input, facts_after}
use Rattle.protocol.proofs.Each.{told_plan}
use Rattle.protocol.proofs.Contents.{Brings, Fits, change_told, logged_told, rows-carried, walked}

-- the writes ascend
abbrev pub in_order : List Bytes → List Write → Bool
in_order reads writes = ascends write_before writes

-- those that a row waits or collects with
abbrev pub ascends_in : Phase → Bool
ascends_in phase = ascends write_before (writes_in phase)

-- so of each row
abbrev pub all_ascend : List Row → Bool
all_ascend rows = list_all (λ r. ascends_in r.phase) rows

pub ascending_fits : Fits in_order ascends_in record_ascends
ascending_fits = record {
  idle = refl;
  reading = λ k. refl;
  preparing = λ c rs ws. refl;
  committing = λ l ps rs ws. refl;
  collecting = λ l ps rs ws votes. refl;
  prepared = λ c p. refl;
  decided = λ s ps. refl;
  promised = λ t c p rs ws. refl;
  decides = λ t s ps rs ws. refl;
  aborted = λ t. refl;
  outcomes = λ t outcome. refl;
  ceilings = λ at. refl;
  horizons = λ at. refl;
  retirements = λ below. refl;
}

brought : (m : Message) → WritesAscend (Input.Deliver m) → Brings in_order m
brought (Message.Prepare p) e = e
brought (Message.Commit c) e = e
brought _ e = tt

-- ---- the records after a step

abbrev ascends_by : Status → Bool
ascends_by status = ascends write_before (writes_standing status)

abbrev pub each_ascends : List TxnStatus → Bool
each_ascends es = list_all (λ e. ascends write_before (writes_standing e.status)) es

with_one : (es : List TxnStatus) (e : TxnStatus) → ascends_by e.status ≡ true → each_ascends es ≡ true → each_ascends (e ∷ es) ≡ true
with_one es e one rest = ap (λ b. b && each_ascends es) one ∙ rest

ascends-with_status : (es : List TxnStatus) (t : Id) (status : Status) → ascends_by status ≡ true → each_ascends es ≡ true → each_ascends
    (with_status es t status) ≡ true
ascends-with_status [] t status one all = with_one [] (record { txn = t; status = status }) one refl
ascends-with_status (e ∷ es) t status one all = by_tests (same_id e.txn t) (older e.txn t) (ascends-with_status es t status one (and_parts _ _ all).1)
  where
    by_tests : (same before : Bool) → each_ascends (with_status es t status) ≡ true
        → each_ascends (cond same (record { txn = t; status = status } ∷ es)
        (cond before (e ∷ with_status es t status) (record { txn = t; status = status } ∷ e ∷ es))) ≡ true
    by_tests true before rest = with_one es (record { txn = t; status = status }) one (and_parts _ _ all).1
    by_tests false true rest = with_one (with_status es t status) e (and_parts _ _ all).0 rest
    by_tests false false rest = with_one (e ∷ es) (record { txn = t; status = status }) one all

after_outcome_ascends : (s : Status) (outcome : Option ℕ) → ascends_by s ≡ true → ascends_by (after_outcome s outcome) ≡ true
after_outcome_ascends (StandsPrepared p) outcome h = refl
after_outcome_ascends _ outcome h = refl

pub entries_after : (facts : Facts) (logged : Option Record) → ((t : Id) → ascends_by (recorded facts t) ≡ true)
    → logged_told in_order ascends_in record_ascends ascending_fits logged ≡ true → each_ascends facts.entries ≡ true
    → each_ascends (facts_after facts logged).entries ≡ true
unfolding learn
entries_after facts (Some (Record.Settled t at parts)) known up all = ascends-with_status facts.entries t (HasSettled at parts) refl all
entries_after facts (Some (Record.Closed t coordinator outcome)) known up all =
    ascends-with_status facts.entries t (HasClosed coordinator outcome) refl all
entries_after facts (Some (Record.Prepare p)) known up all = ascends-with_status facts.entries p.txn (StandsPrepared p) up all
entries_after facts (Some (Record.Commit c)) known up all = ascends-with_status facts.entries c.txn (StandsDecided c) up all
entries_after facts (Some (Record.Abort t)) known up all = ascends-with_status facts.entries t HasAborted refl all
entries_after facts (Some (Record.Outcome t outcome)) known up all =
    ascends-with_status facts.entries t (after_outcome (recorded facts t) outcome) (after_outcome_ascends (recorded facts t) outcome (known t)) all
entries_after facts (Some (Record.Retired below)) known up all = kept_ascend facts.entries all
  where
    kept_ascend : (es : List TxnStatus) → each_ascends es ≡ true → each_ascends (filter (λ e. not (older e.txn below)) es) ≡ true
    kept_ascend [] all = refl
    kept_ascend (e ∷ es) all = by_test (older e.txn below) (kept_ascend es (and_parts _ _ all).1)
      where
        by_test : (b : Bool) → each_ascends (filter (λ x. not (older x.txn below)) es) ≡ true
            → each_ascends (cond (not b) (e ∷ filter (λ x. not (older x.txn below)) es) (filter (λ x. not (older x.txn below)) es)) ≡ true
        by_test true rest = rest
        by_test false rest = and_from _ _ (and_parts _ _ all).0 rest
entries_after facts _ known up all = all

module _ (setup : Setup) (rows : ℕ) (facts : Facts) (memory : Memory) (now : Interval) (i : Input) (p : Plan) (orderly : IsShowable facts memory)
    (input : WritesAscend i)
    (e : plan_input setup (start_of_step rows setup facts memory) now i ≡ Ok p) where
  ordered : (change_told in_order ascends_in record_ascends ascending_fits p.change ≡ true)
      × (logged_told in_order ascends_in record_ascends ascending_fits p.logged ≡ true)
  ordered =
      told_plan (walked in_order ascends_in record_ascends ascending_fits setup (start_of_step rows setup facts memory) now i orderly.rows
      (λ m same h. brought m (subst WritesAscend same input))) e

  pub rows_kept : all_ascend (carried p memory).rows ≡ true
  rows_kept = rows-carried in_order ascends_in record_ascends ascending_fits p memory ordered.0 orderly.rows

  pub entries_kept : ((t : Id) → ascends write_before (writes_standing (recorded facts t)) ≡ true) → each_ascends (facts_after facts p.logged).entries ≡ true
  entries_kept known = entries_after facts p.logged known ordered.1 orderly.entries
