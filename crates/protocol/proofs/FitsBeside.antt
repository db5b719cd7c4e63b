-- What a step logs fits beside what the log holds: after it the log's rows are a lawful table still, and no more than the
-- rows in memory.
use Rattle.std.proofs.Common.{◌≡◌, ℕ, suc, ◌<◌, ◌≤◌, ◌-◌, Bool, true, false, not, nat_le, nat_lt, List, [], ◌∷◌, map, length, Option, Some, None, refl, sym, ap}
use Rattle.std.proofs.Common.{subst, ◌∙◌, arith}
use Rattle.std.specs.Prelude.{IsTrue, Ok, Err, cond}
use Rattle.std.specs.List.{AllByRecursion, list_all, list_any}
use Rattle.std.proofs.lemmas.Bool.{false≢true, and_from, and_parts, lt-ltb, not_from_false}
use Rattle.units.specs.Limits.{most_rows}
use Rattle.units.specs.Lists.{follow, gather}
use Rattle.units.specs.Ids.{Id, same_id, older}
use Rattle.units.specs.ById.{find_member}
use Rattle.units.specs.Keys.{Bytes}
use Rattle.units.specs.Locks.{clash, locks_of}
use Rattle.units.specs.Versions.{above_versions}
use Rattle.units.specs.declared.fault.Fault.TheVariants.{Future, NotYet}
use Rattle.units.specs.declared.lock.Lock.{Lock}
use Rattle.units.specs.declared.setup.Setup.{Setup}
use Rattle.units.specs.declared.writes.Install.{Install}
use Rattle.units.specs.declared.writes.Write.{Write}
use Rattle.units.proofs.ByIdLaws.{first_none, found_all, found_has, found_is, has-without_other}
use Rattle.units.proofs.IdLaws.{same_id_comm, same_id-is}
use Rattle.units.proofs.ListLaws.{all_gives}
use Rattle.truetime.specs.Interval.{Interval}
use Rattle.record.specs.Accepted.{fits_beside, may_stand, locks_standing, stamps_standing, standing_locks, standing_stamp, standing_id, ids_standing, rises}
use Rattle.record.specs.Facts.{TxnStatus, Facts, facts_of, kept_entries, learn, or_unrecorded, recorded, with_status}
use Rattle.record.specs.Installs.{installs_of, writes_by}
use Rattle.record.specs.Records.{Ended, Status, Unrecorded, StandsPrepared, StandsDecided, HasAborted, HasSettled, HasClosed, status_by, status_of, status_written, retired_of, is_below}
use Rattle.record.specs.Records.{horizon_of, ids_of, is_aborted, committed_of, prepared_of, ended_of}
use Rattle.record.specs.declared.record.Committed.{Committed}
use Rattle.record.specs.declared.record.Prepared.{Prepared}
use Rattle.record.specs.declared.record.Record.{Record}
use Rattle.record.proofs.Statuses.{recorded_is}
use Rattle.facts.specs.Rules.{allows, follows_facts, is_unrecorded}
use Rattle.message.specs.declared.message.Input.{Input}
use Rattle.protocol.specs.FitsBeside.{LoggedFitsBeside}
use Rattle.protocol.specs.Rows.{Memory, Phase, Row, IsPrepared, IsDecided, find_row, held_stamp, safe, standing_row, without_row}
use Rattle.protocol.specs.Plan.{Before, Keeps, Plan, Planned, Retires, start_of_step, carried}
use Rattle.protocol.specs.Cells.{plan_advance, plan_forget, plan_retire}
use Rattle.protocol.specs.Step.{plan_input, facts_after, IsInLimit}
use Rattle.protocol.specs.Sound.{Agrees, IsSound, StandsBy, writes_standing}
use Rattle.protocol.proofs.AboveVersions.{rows_apart}
use Rattle.protocol.proofs.Follows.{logged_follows}
use Rattle.protocol.proofs.InstallsAbove.{installs_above}
use Rattle.protocol.proofs.KeptAgreement.{each_false}
use Rattle.protocol.proofs.OpenedRows.{find-gather}
use Rattle.protocol.proofs.OpeningSound.{Backed, entries_own, opened_backed, opened_lawful, opened_over, opened_up, row_over}
use Rattle.protocol.proofs.PlanShapes.{shape_of}
use Rattle.protocol.proofs.RowChanges.{by_id-claims, find_each}
use Rattle.protocol.proofs.RowCounts.{has_row, no_more, shorter-without_row}
use Rattle.protocol.proofs.Serves.{AllOver, Over}
use Rattle.protocol.proofs.Shapes.{Shape, Answers, IsEnd, IsAbort, IsClose, IsSettle, IsLock, IsWait, IsPromise, IsDecision, ShapeOf, Acts, IsAdvance, IsForget, IsRetire}
use Rattle.protocol.proofs.StatusChanges.{entry_other, entry_same, status_same}
use Rattle.protocol.proofs.StepSound.{step_keeps_sound}
use Rattle.protocol.proofs.WithinLimit.{stays_within}

-- ---- the locks that stand are those of the log's rows

gather-map : {A B C : Type 0} (f : B → Option C) (g : A → B) (xs : List A) → gather (λ x. f (g x)) xs ≡ gather f (map g xs)
gather-map f g [] = refl
gather-map {C = C} f g (x ∷ xs) = by_value (f (g x)) (gather-map f g xs)
  where
    by_value : (o : Option C) → gather (λ x. f (g x)) xs ≡ gather f (map g xs) →
        (elim o as (λ q. List C) [ None ↦ gather (λ x. f (g x)) xs | Some y ↦ y ∷ gather (λ x. f (g x)) xs ])
        ≡ (elim o as (λ q. List C) [ None ↦ gather f (map g xs) | Some y ↦ y ∷ gather f (map g xs) ])
    by_value None e = e
    by_value (Some y) e = ap (λ l. y ∷ l) e

-- the rows that some facts hold
abbrev pub log_rows : Facts → List Row
log_rows f = gather standing_row f.entries

locks_of_rows : (es : List TxnStatus) → gather (λ e. standing_locks e.status) es ≡ map (λ r. r.held) (gather standing_row es)
locks_of_rows [] = refl
locks_of_rows (e ∷ es) = by_status e.status (locks_of_rows es)
  where
    by_status : (s : Status) → gather (λ e. standing_locks e.status) es ≡ map (λ r. r.held) (gather standing_row es)
        → gather (λ e. standing_locks e.status) (record { txn = e.txn; status = s } ∷ es) ≡
        map (λ r. r.held) (gather standing_row (record { txn = e.txn; status = s } ∷ es))
    by_status (StandsPrepared p) k = ap (λ l. locks_of p.reads p.writes ∷ l) k
    by_status (StandsDecided c) k = ap (λ l. locks_of c.reads c.writes ∷ l) k
    by_status _ k = k

-- what is told of a status is told of the entries that are kept
gather_kept : {C : Type 0} (f : Status → Option C) (log : List Record) (ids : List Id) → f Unrecorded ≡ None
    → gather (λ t. f (status_of log t)) ids
    ≡ gather (λ (e : TxnStatus). f e.status) (kept_entries (retired_of log) (map (λ t. record { txn = t; status = status_written log t }) ids))
unfolding status_of
gather_kept f log [] none = refl
gather_kept {C = C} f log (t ∷ ts) none = by_test (is_below (retired_of log) t) (gather_kept f log ts none)
  where
    entry : TxnStatus
    entry = record { txn = t; status = status_written log t }

    more : List C
    more = gather (λ u. f (cond (is_below (retired_of log) u) Unrecorded (status_written log u))) ts

    rest : List TxnStatus
    rest = kept_entries (retired_of log) (map (λ u. record { txn = u; status = status_written log u }) ts)

    put : (o : Option C) → List C → List C
    put o l = elim o as (λ q. List C) [ None ↦ l | Some y ↦ y ∷ l ]

    by_test : (b : Bool) → more ≡ gather (λ (e : TxnStatus). f e.status) rest
        → (elim (f (cond b Unrecorded (status_written log t))) as (λ q. List C) [ None ↦ more | Some y ↦ y ∷ more ])
        ≡ gather (λ (e : TxnStatus). f e.status) (cond (not b) (entry ∷ rest) rest)
    by_test true e = ap (λ (o : Option C). elim o as (λ q. List C) [ None ↦ more | Some y ↦ y ∷ more ]) none ∙ e
    by_test false e = by_value (f (status_written log t))
      where
        by_value : (o : Option C) → (elim o as (λ q. List C) [ None ↦ more | Some y ↦ y ∷ more ])
            ≡ (elim o as (λ q. List C) [ None ↦ gather (λ (x : TxnStatus). f x.status) rest | Some y ↦ y ∷ gather (λ (x : TxnStatus). f x.status) rest ])
        by_value None = e
        by_value (Some y) = ap (λ l. y ∷ l) e

pub standing_is : (log : List Record) → locks_standing log ≡ map (λ r. r.held) (log_rows (facts_of log))
unfolding facts_of
standing_is log = gather_kept standing_locks log (ids_of log) refl ∙ locks_of_rows (facts_of log).entries

ids_of_rows : (es : List TxnStatus) → gather (λ e. standing_id e.status) es ≡ map (λ r. r.txn) (gather standing_row es)
ids_of_rows [] = refl
ids_of_rows (e ∷ es) = by_status e.status (ids_of_rows es)
  where
    by_status : (s : Status) → gather (λ e. standing_id e.status) es ≡ map (λ r. r.txn) (gather standing_row es)
        → gather (λ e. standing_id e.status) (record { txn = e.txn; status = s } ∷ es) ≡
        map (λ r. r.txn) (gather standing_row (record { txn = e.txn; status = s } ∷ es))
    by_status (StandsPrepared p) k = ap (λ l. p.txn ∷ l) k
    by_status (StandsDecided c) k = ap (λ l. c.txn ∷ l) k
    by_status _ k = k

pub ids_are : (log : List Record) → ids_standing log ≡ map (λ r. r.txn) (log_rows (facts_of log))
unfolding facts_of
ids_are log = gather_kept standing_id log (ids_of log) refl ∙ ids_of_rows (facts_of log).entries

pub length-held : (rows : List Row) → length (map (λ (r : Row). r.held) rows) ≡ length rows
length-held [] = refl
length-held (r ∷ rs) = ap suc (length-held rs)

none_clashes : (ls : List Lock) (rows : List Row) → AllByRecursion (λ r. clash ls r.held ≡ false) rows → list_any (clash ls) (map (λ r. r.held) rows) ≡ false
none_clashes ls [] free = refl
none_clashes ls (r ∷ rs) free = rw free.0 (none_clashes ls rs free.1)

-- no more rows than in memory
pub few_opened : (shard : ℕ) (f : Facts) (m : Memory) → IsSound shard f m → length (log_rows f) ≤ length m.rows
few_opened shard f m sound =
    no_more (log_rows f) m.rows (opened_up shard f m sound)
    (all_gives (Backed m) (λ x. has_row m.rows x.txn ≡ true) (λ r x. found_has (λ (q : Row). q.txn) m.rows r.txn x.row x.found) (log_rows f)
    (opened_backed shard f m sound))

-- ---- one more record that stands

module _ (shard : ℕ) (f after : Facts) (m later : Memory) (t : Id) (s : Status) (new : Row) (sound : IsSound shard f m) (next : IsSound shard after later)
    (put : after.entries ≡ with_status f.entries t s) (may_stand : standing_row (record { txn = t; status = s }) ≡ Some new)
    (fresh : recorded f t ≡ Unrecorded) where
  -- the log had no row of the id
  none_before : find_row (log_rows f) t ≡ None
  none_before = find-gather f.entries t sound.entries (entries_own shard f m sound) ∙ by_entry (find_member (λ (e : TxnStatus). e.txn) f.entries t) fresh
    where
      by_status : (e : TxnStatus) (q : Status) → q ≡ Unrecorded → follow (Some (record { txn = e.txn; status = q })) standing_row ≡ None
      by_status e Unrecorded k = refl
      by_status e HasAborted k = refl
      by_status e (HasSettled at ps) k = refl
      by_status e (HasClosed c o) k = refl
      by_status e (StandsPrepared p) k = cc
      by_status e (StandsDecided c) k = cc

      by_entry : (o : Option TxnStatus) → or_unrecorded o ≡ Unrecorded → follow o standing_row ≡ None
      by_entry None k = refl
      by_entry (Some e) k = by_status e e.status k

  differ : AllByRecursion (λ (r : Row). same_id r.txn t ≡ false) (log_rows f)
  differ = first_none (λ (r : Row). same_id r.txn t) (log_rows f) none_before

  found_new : find_row (log_rows after) t ≡ Some new
  found_new =
      find-gather after.entries t next.entries (entries_own shard after later next)
      ∙ ap (λ es. follow (find_member (λ (e : TxnStatus). e.txn) es t) standing_row) put
      ∙ ap (λ o. follow o standing_row) (entry_same f.entries t s)
      ∙ may_stand

  found_old : (r : Row) → find_row (log_rows f) r.txn ≡ Some r → same_id r.txn t ≡ false → find_row (log_rows after) r.txn ≡ Some r
  found_old r found apart =
      find-gather after.entries r.txn next.entries (entries_own shard after later next)
      ∙ ap (λ es. follow (find_member (λ (e : TxnStatus). e.txn) es r.txn) standing_row) put
      ∙ ap (λ o. follow o standing_row) (entry_other f.entries t r.txn s (same_id_comm t r.txn ∙ apart))
      ∙ sym (find-gather f.entries r.txn sound.entries (entries_own shard f m sound))
      ∙ found

  -- each row of the log before is there, and is another's
  Old : Row → Type 0
  Old r = (find_row (log_rows after) r.txn ≡ Some r) × (same_id r.txn t ≡ false)

  all_old : AllByRecursion Old (log_rows f)
  unfolding Old
  all_old = both (log_rows f) (find_each (log_rows f) (opened_up shard f m sound)) differ
    where
      both : (rows : List Row) → AllByRecursion (λ (r : Row). find_row (log_rows f) r.txn ≡ Some r) rows →
          AllByRecursion (λ (r : Row). same_id r.txn t ≡ false) rows
          → AllByRecursion Old rows
      both [] found apart = tt
      both (r ∷ rs) found apart = ((found_old r found.0 apart.0, apart.0), both rs found.1 apart.1)

  clear : AllByRecursion (λ (r : Row). clash new.held r.held ≡ false) (log_rows f)
  unfolding Old
  clear =
      all_gives Old (λ (r : Row). clash new.held r.held ≡ false)
      (λ r o. rows_apart (log_rows after) t r.txn new r (opened_lawful shard after later next) found_new o.0 o.1) (log_rows f) all_old

  few : length later.rows ≤ most_rows → length (log_rows f) < most_rows
  unfolding Old
  few room =
      let others : length (log_rows f) ≤ length (without_row (log_rows after) t) =
      no_more (log_rows f) (without_row (log_rows after) t) (opened_up shard f m sound)
      (all_gives Old (λ (r : Row). has_row (without_row (log_rows after) t) r.txn ≡ true)
      (λ r o. has-without_other (λ (q : Row). q.txn) (log_rows after) r.txn t (same_id_comm t r.txn ∙ o.1)
      ∙ found_has (λ (q : Row). q.txn) (log_rows after) r.txn r o.0) (log_rows f) all_old) in
      let fewer : length (without_row (log_rows after) t) < length (log_rows after) =
      shorter-without_row (log_rows after) t (found_has (λ (q : Row). q.txn) (log_rows after) t new found_new) in
      let all : length (log_rows after) ≤ length later.rows = few_opened shard after later next in
      omega (arith, others, fewer, all, room)

pub installs_are : (log : List Record) → (facts_of log).installs ≡ installs_of log
unfolding facts_of
installs_are log = refl

pub horizon_is : (log : List Record) → (facts_of log).horizon ≡ horizon_of log
unfolding facts_of
horizon_is log = refl

-- so it stands beside what the log holds
stands_beside : (shard : ℕ) (log : List Record) (after : Facts) (m later : Memory) (t : Id) (s : Status) (at : ℕ) (rs : List Bytes) (ws : List Write)
    (new : Row)
    → IsSound shard (facts_of log) m → IsSound shard after later → length later.rows ≤ most_rows
    → after.entries ≡ with_status (facts_of log).entries t s → standing_row (record { txn = t; status = s }) ≡ Some new → new.held ≡ locks_of rs ws
    → recorded (facts_of log) t ≡ Unrecorded → (facts_of log).horizon < at → IsTrue (above_versions (facts_of log).installs at ws)
    → may_stand log at rs ws ≡ true
stands_beside shard log after m later t s at rs ws new sound next room put held locks fresh high above =
    let small : length (log_rows (facts_of log)) < most_rows = few shard (facts_of log) after m later t s new sound next put held fresh room in
    let count : length (locks_standing log) ≡ length (log_rows (facts_of log)) = ap length (standing_is log) ∙ length-held (log_rows (facts_of log)) in
    let free : list_any (clash (locks_of rs ws)) (locks_standing log) ≡ false =
    ap (list_any (clash (locks_of rs ws))) (standing_is log)
    ∙ none_clashes (locks_of rs ws) (log_rows (facts_of log))
    (subst (λ ls. AllByRecursion (λ (r : Row). clash ls r.held ≡ false) (log_rows (facts_of log))) locks
    (clear shard (facts_of log) after m later t s new sound next put held fresh)) in
    and_from _ _ (and_from _ _ (and_from _ _ (ap (λ n. nat_lt n most_rows) count ∙ lt-ltb _ _ small) (not_from_false _ free))
    (ap (λ n. nat_lt n at) (sym (horizon_is log)) ∙ lt-ltb _ _ high))
    (subst (λ is. IsTrue (above_versions is at ws)) (installs_are log) above)

-- ---- the records

pub unrecorded_is : (s : Status) → is_unrecorded s ≡ true → s ≡ Unrecorded
unrecorded_is Unrecorded e = refl
unrecorded_is _ e = absurd (false≢true e)

-- what stands is above the versions of what it writes
above_promise : (installs : List Install) (last : ℕ) (p : Prepared) (o : Option Row) → Agrees installs last (StandsPrepared p) o →
    IsTrue (above_versions installs p.at p.writes)
above_promise installs last p (Some r) a = a.above
above_promise installs last p None a = absurd a

above_decision : (installs : List Install) (last : ℕ) (c : Committed) (o : Option Row) → Agrees installs last (StandsDecided c) o →
    IsTrue (above_versions installs c.at c.writes)
above_decision installs last c (Some r) a = a.above
above_decision installs last c None a = absurd a

-- what stands is above each time that is served
above_served : (installs : List Install) (h : ℕ) (m : Memory) (t u : Id) (r : Row) (phase : Phase) (at : ℕ) (rs : List Bytes) (ws : List Write)
    → h ≤ safe m → find_row m.rows t ≡ Some r → StandsBy installs m.last r phase u at rs ws → held_stamp phase ≡ Some at → h < at
above_served installs h m t u r phase at rs ws low found a stamp =
    let over : safe m ≤ at - 1 = subst (Over (safe m)) stamp (row_over m t r phase found a.phase) in omega (arith, low, over, a.above_zero)

promise_above : (installs : List Install) (h : ℕ) (m : Memory) (t : Id) (p : Prepared) (o : Option Row) → h ≤ safe m → find_row m.rows t ≡ o →
    Agrees installs m.last (StandsPrepared p) o → h < p.at
promise_above installs h m t p (Some r) low found a = above_served installs h m t p.txn r _ p.at p.reads p.writes low found a refl
promise_above installs h m t p None low found a = absurd a

decision_above : (installs : List Install) (h : ℕ) (m : Memory) (t : Id) (c : Committed) (o : Option Row) → h ≤ safe m → find_row m.rows t ≡ o →
    Agrees installs m.last (StandsDecided c) o → h < c.at
decision_above installs h m t c (Some r) low found a = above_served installs h m t c.txn r _ c.at c.reads c.writes low found a refl
decision_above installs h m t c None low found a = absurd a

fits_prepare : (shard : ℕ) (log : List Record) (m later : Memory) (p : Prepared) → IsSound shard (facts_of log) m →
    IsSound shard (learn (facts_of log) (Record.Prepare p)) later
    → length later.rows ≤ most_rows → follows_facts shard (facts_of log) (Record.Prepare p) ≡ true → fits_beside log (Record.Prepare p) ≡ true
unfolding fits_beside follows_facts learn
fits_prepare shard log m later p sound next room follows =
    let fresh : recorded (facts_of log) p.txn ≡ Unrecorded =
    unrecorded_is (recorded (facts_of log) p.txn) (and_parts _ _ (and_parts _ _ (and_parts _ _ (and_parts _ _ follows).1).0).1).0 in
    stands_beside shard log (learn (facts_of log) (Record.Prepare p)) m later p.txn (StandsPrepared p) p.at p.reads p.writes
    (record { txn = p.txn; held = locks_of p.reads p.writes; phase = IsPrepared p.coordinator p.at }) sound next room refl refl refl fresh
    (promise_above (facts_of log).installs (facts_of log).horizon later p.txn p (find_row later.rows p.txn) next.horizon refl agrees)
    (above_promise (facts_of log).installs later.last p (find_row later.rows p.txn) agrees)
  where
    agrees : Agrees (facts_of log).installs later.last (StandsPrepared p) (find_row later.rows p.txn)
    agrees =
        subst (λ s. Agrees (facts_of log).installs later.last s (find_row later.rows p.txn))
        (status_same (facts_of log).entries p.txn (StandsPrepared p)) (next.agrees p.txn)

fits_commit : (shard : ℕ) (log : List Record) (m later : Memory) (c : Committed) → IsSound shard (facts_of log) m →
    IsSound shard (learn (facts_of log) (Record.Commit c)) later
    → length later.rows ≤ most_rows → follows_facts shard (facts_of log) (Record.Commit c) ≡ true → fits_beside log (Record.Commit c) ≡ true
unfolding fits_beside follows_facts learn
fits_commit shard log m later c sound next room follows =
    let fresh : recorded (facts_of log) c.txn ≡ Unrecorded =
    unrecorded_is (recorded (facts_of log) c.txn) (and_parts _ _ (and_parts _ _ (and_parts _ _ (and_parts _ _ follows).1).0).1).0 in
    stands_beside shard log (learn (facts_of log) (Record.Commit c)) m later c.txn (StandsDecided c) c.at c.reads c.writes
    (record { txn = c.txn; held = locks_of c.reads c.writes; phase = IsDecided c.at c.parts }) sound next room refl refl refl fresh
    (decision_above (facts_of log).installs (facts_of log).horizon later c.txn c (find_row later.rows c.txn) next.horizon refl agrees)
    (above_decision (facts_of log).installs later.last c (find_row later.rows c.txn) agrees)
  where
    agrees : Agrees (facts_of log).installs later.last (StandsDecided c) (find_row later.rows c.txn)
    agrees =
        subst (λ s. Agrees (facts_of log).installs later.last s (find_row later.rows c.txn))
        (status_same (facts_of log).entries c.txn (StandsDecided c)) (next.agrees c.txn)

-- ---- a horizon

-- the timestamps that stand are those of the log's rows
stamps_of_rows : (es : List TxnStatus) → gather (λ e. standing_stamp e.status) es ≡ gather (λ r. held_stamp r.phase) (gather standing_row es)
stamps_of_rows [] = refl
stamps_of_rows (e ∷ es) = by_status e.status (stamps_of_rows es)
  where
    by_status : (s : Status) → gather (λ e. standing_stamp e.status) es ≡ gather (λ r. held_stamp r.phase) (gather standing_row es)
        → gather (λ e. standing_stamp e.status) (record { txn = e.txn; status = s } ∷ es) ≡
        gather (λ r. held_stamp r.phase) (gather standing_row (record { txn = e.txn; status = s } ∷ es))
    by_status (StandsPrepared p) k = ap (λ l. p.at ∷ l) k
    by_status (StandsDecided c) k = ap (λ l. c.at ∷ l) k
    by_status _ k = k

pub stamps_are : (log : List Record) → stamps_standing log ≡ gather (λ r. held_stamp r.phase) (log_rows (facts_of log))
unfolding facts_of
stamps_are log = gather_kept standing_stamp log (ids_of log) refl ∙ stamps_of_rows (facts_of log).entries

all_above : (at : ℕ) (rows : List Row) → 0 < at → AllOver at rows → list_all (nat_lt at) (gather (λ r. held_stamp r.phase) rows) ≡ true
all_above at [] up over = refl
all_above at (r ∷ rs) up over = by_phase (held_stamp r.phase) over.0 (all_above at rs up over.1)
  where
    by_phase : (o : Option ℕ) → Over at o → list_all (nat_lt at) (gather (λ q. held_stamp q.phase) rs) ≡ true
        → list_all (nat_lt at) (elim o [ None ↦ gather (λ q. held_stamp q.phase) rs | Some y ↦ y ∷ gather (λ q. held_stamp q.phase) rs ]) ≡ true
    by_phase None one rest = rest
    by_phase (Some s) one rest = (let a : at ≤ s - 1 = one in and_from _ _ (lt-ltb at s (omega (arith, a, up))) rest)

fits_horizon : (shard : ℕ) (log : List Record) (m : Memory) (at : ℕ) → IsSound shard (facts_of log) m → at ≤ safe m → (facts_of log).horizon < at →
    fits_beside log (Record.Horizon at) ≡ true
unfolding fits_beside
fits_horizon shard log m at sound low high =
    ap (list_all (nat_lt at)) (stamps_are log)
    ∙ all_above at (log_rows (facts_of log)) (omega (arith, high)) (opened_over shard (facts_of log) m sound at low)

-- nobody stands whose id is below one with which no row is in the way
fits_retired : (shard : ℕ) (log : List Record) (m : Memory) (below : Id) → IsSound shard (facts_of log) m → list_any (λ r. older r.txn below) m.rows ≡ false →
    fits_beside log (Record.Retired below) ≡ true
unfolding fits_beside
fits_retired shard log m below sound none =
    ap (list_all (λ t. not (older t below))) (ids_are log)
    ∙ above_all (log_rows (facts_of log)) (opened_backed shard (facts_of log) m sound)
  where
    above_all : (rows : List Row) → AllByRecursion (Backed m) rows → list_all (λ t. not (older t below)) (map (λ r. r.txn) rows) ≡ true
    above_all [] backed = refl
    above_all (r ∷ rs) backed =
        let x = backed.0 in
        let own : x.row.txn ≡ r.txn = same_id-is x.row.txn r.txn (found_is (λ (q : Row). q.txn) m.rows r.txn x.row x.found) in
        let apart : older x.row.txn below ≡ false =
        found_all (λ (q : Row). older q.txn below ≡ false) (λ (q : Row). q.txn) m.rows r.txn x.row (each_false (λ (q : Row). older q.txn below) m.rows none)
        x.found in
        and_from _ _ (ap not (ap (λ (t : Id). older t below) (sym own) ∙ apart)) (above_all rs backed.1)

-- a horizon that is logged was served, and is above the former one
abbrev Forgets : Before → Option Record → Type 0
Forgets b None = Unit {0}
Forgets b (Some (Record.Horizon at)) = (at ≤ safe b.memory) × (b.facts.horizon < at)
Forgets b (Some (Record.Ceiling at)) = Unit {0}
Forgets b (Some (Record.Retired below)) = list_any (λ r. older r.txn below) b.memory.rows ≡ false
Forgets b (Some (Record.Opened epoch)) = Unit {0}
Forgets b (Some (Record.Prepare p)) = Unit {0}
Forgets b (Some (Record.Commit c)) = Unit {0}
Forgets b (Some (Record.Abort t)) = Unit {0}
Forgets b (Some (Record.Outcome t outcome)) = Unit {0}
Forgets b (Some (Record.Base epoch floor horizon)) = Unit {0}
Forgets b (Some (Record.Version install)) = Unit {0}
Forgets b (Some (Record.Settled t at parts)) = Unit {0}
Forgets b (Some (Record.Closed t coordinator outcome)) = Unit {0}

ForgetsBy : Before → Plan → Type 0
ForgetsBy b p = Forgets b p.logged

forgets : (b : Before) (p : Plan) → Shape b p → ForgetsBy b p
unfolding ForgetsBy
forgets b p (Answers out e) = subst (ForgetsBy b) (sym e) tt
forgets b p (IsEnd t out s e) = subst (ForgetsBy b) (sym e) tt
forgets b p (IsAbort t out fresh e) = subst (ForgetsBy b) (sym e) tt
forgets b p (IsClose t n c at held outcome out found k e) = subst (ForgetsBy b) (sym e) tt
forgets b p (IsSettle t at ps held out found e) = subst (ForgetsBy b) (sym e) tt
forgets b p (IsLock t ended needs phase out l e) = subst (ForgetsBy b) (sym e) tt
forgets b p (IsWait t needs phase out w e) = subst (ForgetsBy b) (sym e) tt
forgets b p (IsPromise t ended c at rs ws out l e) = subst (ForgetsBy b) (sym e) tt
forgets b p (IsDecision t ended needs at ps rs ws out l e) = subst (ForgetsBy b) (sym e) tt

forgets_ceiling : (b : Before) (high : Bool) (n : ℕ) → Forgets b (cond high (Some (Record.Ceiling n)) None)
forgets_ceiling b true n = tt
forgets_ceiling b false n = tt

forgets_of : (b : Before) (i : Input) (p : Plan) → ShapeOf b i p → ForgetsBy b p
unfolding ForgetsBy
forgets_of b i p (Acts shape) = forgets b p shape
forgets_of b i p (IsAdvance stride at k e) = subst (ForgetsBy b) (sym e) (forgets_ceiling b (nat_lt b.facts.floor at) _)
forgets_of b i p (IsForget at k low high e) = subst (ForgetsBy b) (sym e) (low, high)
forgets_of b i p (IsRetire below k none up e) = subst (ForgetsBy b) (sym e) none

-- the writes of what an outcome ends
pub writes_are : (a : Bool) (c : Option Committed) (p : Option Prepared) (e : Option Ended) (s : ℕ) → allows (status_by a c p e) (Some s) ≡ true
    → writes_standing (status_by a c p e) ≡ writes_by c p
writes_are true c p e s k = absurd (false≢true k)
writes_are false (Some c) p None s k = refl
writes_are false (Some c) p (Some e) s k = absurd (false≢true k)
writes_are false None (Some p) None s k = refl
writes_are false None (Some p) (Some e) s k = absurd (false≢true k)
writes_are false None None e s k = absurd (false≢true k)

pub written_are : (log : List Record) (t : Id) (s : ℕ) → allows (recorded (facts_of log) t) (Some s) ≡ true
    → writes_standing (recorded (facts_of log) t) ≡ writes_by (committed_of log t) (prepared_of log t)
unfolding status_of status_written
written_are log t s allowed = by_test (is_below (retired_of log) t) refl
  where
    by_test : (b : Bool) → is_below (retired_of log) t ≡ b → writes_standing (recorded (facts_of log) t) ≡ writes_by (committed_of log t) (prepared_of log t)
    by_test true e =
        absurd (false≢true (ap (λ q. allows q (Some s)) (sym (recorded_is log t ∙ ap (λ b. cond b Unrecorded (status_written log t)) e)) ∙ allowed))
    by_test false e =
        let is = recorded_is log t ∙ ap (λ b. cond b Unrecorded (status_written log t)) e in
        ap writes_standing is
        ∙ writes_are (is_aborted log t) (committed_of log t) (prepared_of log t) (ended_of log t) s (sym (ap (λ q. allows q (Some s)) is) ∙ allowed)

fits_outcome : (shard : ℕ) (log : List Record) (t : Id) (s : ℕ) → follows_facts shard (facts_of log) (Record.Outcome t (Some s)) ≡ true
    → IsTrue (above_versions (facts_of log).installs s (writes_standing (recorded (facts_of log) t))) → fits_beside log (Record.Outcome t (Some s)) ≡ true
unfolding fits_beside follows_facts facts_of
fits_outcome shard log t s follows above =
    subst (λ ws. IsTrue (above_versions (installs_of log) s ws)) (written_are log t s (and_parts _ _ follows).1) above

-- ---- a step

-- the record is a ceiling, a horizon or a retirement
abbrev is_ceiling : Record → Bool
is_ceiling (Record.Ceiling at) = true
is_ceiling (Record.Horizon at) = true
is_ceiling (Record.Retired below) = true
is_ceiling (Record.Opened epoch) = false
is_ceiling (Record.Prepare p) = false
is_ceiling (Record.Commit c) = false
is_ceiling (Record.Abort t) = false
is_ceiling (Record.Outcome t outcome) = false
is_ceiling (Record.Base epoch floor horizon) = false
is_ceiling (Record.Version install) = false
is_ceiling (Record.Settled t at parts) = false
is_ceiling (Record.Closed t coordinator outcome) = false

-- the plan of an advance
abbrev advanced : Bool → Bool → (ceiling last : ℕ) → Planned
advanced late high n last =
    cond late (Err Future) (Ok (record { wounded = []; change = Keeps; logged = cond high (Some (Record.Ceiling n)) None; last = last; outbox = [] }))

advance_logs : (late high : Bool) (n last : ℕ) (p : Plan) (r : Record) → advanced late high n last ≡ Ok p → p.logged ≡ Some r → is_ceiling r ≡ true
advance_logs true high n last p r e logged = cc
advance_logs false true n last p r e logged =
    let is : record { wounded = []; change = Keeps; logged = Some (Record.Ceiling n); last = last; outbox = [] } ≡ p = cc in
    let same : Some (Record.Ceiling n) ≡ Some r = ap (λ (q : Plan). q.logged) is ∙ logged in
    let it : Record.Ceiling n ≡ r = cc in
    subst (λ q. is_ceiling q ≡ true) it refl
advance_logs false false n last p r e logged =
    let is : record { wounded = []; change = Keeps; logged = None; last = last; outbox = [] } ≡ p = cc in
    let same : None ≡ Some r = ap (λ (q : Plan). q.logged) is ∙ logged in
    cc

-- the plan of a horizon
abbrev forgotten : Bool → Bool → (at last : ℕ) → Planned
forgotten late known at last =
    cond late (Err NotYet) (cond known (Ok (record { wounded = []; change = Keeps; logged = None; last = last; outbox = [] }))
    (Ok (record { wounded = []; change = Keeps; logged = Some (Record.Horizon at); last = last; outbox = [] })))

forget_logs : (late known : Bool) (at last : ℕ) (p : Plan) (r : Record) → forgotten late known at last ≡ Ok p → p.logged ≡ Some r → is_ceiling r ≡ true
forget_logs true known at last p r e logged = cc
forget_logs false true at last p r e logged =
    let is : record { wounded = []; change = Keeps; logged = None; last = last; outbox = [] } ≡ p = cc in
    let same : None ≡ Some r = ap (λ (q : Plan). q.logged) is ∙ logged in
    cc
forget_logs false false at last p r e logged =
    let is : record { wounded = []; change = Keeps; logged = Some (Record.Horizon at); last = last; outbox = [] } ≡ p = cc in
    let same : Some (Record.Horizon at) ≡ Some r = ap (λ (q : Plan). q.logged) is ∙ logged in
    let it : Record.Horizon at ≡ r = cc in
    subst (λ q. is_ceiling q ≡ true) it refl

-- the plan of a retirement
abbrev retiring : Bool → Bool → (below : Id) → (last : ℕ) → Planned
retiring stand up below last =
    cond stand (Err NotYet) (cond up (Ok (record { wounded = []; change = Retires below; logged = Some (Record.Retired below); last = last; outbox = [] }))
    (Ok (record { wounded = []; change = Keeps; logged = None; last = last; outbox = [] })))

retire_logs : (stand up : Bool) (below : Id) (last : ℕ) (p : Plan) (r : Record) → retiring stand up below last ≡ Ok p → p.logged ≡ Some r → is_ceiling r ≡ true
retire_logs true up below last p r e logged = cc
retire_logs false false below last p r e logged =
    let is : record { wounded = []; change = Keeps; logged = None; last = last; outbox = [] } ≡ p = cc in
    let same : None ≡ Some r = ap (λ (q : Plan). q.logged) is ∙ logged in
    cc
retire_logs false true below last p r e logged =
    let is : record { wounded = []; change = Retires below; logged = Some (Record.Retired below); last = last; outbox = [] } ≡ p = cc in
    let same : Some (Record.Retired below) ≡ Some r = ap (λ (q : Plan). q.logged) is ∙ logged in
    let it : Record.Retired below ≡ r = cc in
    subst (λ q. is_ceiling q ≡ true) it refl

-- an input by which a step logs anything else names no timestamp
limit_of : (rows : ℕ) (setup : Setup) (f : Facts) (m : Memory) (now : Interval) (i : Input) (p : Plan) (r : Record) →
    plan_input setup (start_of_step rows setup f m) now i ≡ Ok p
    → p.logged ≡ Some r → is_ceiling r ≡ false → IsInLimit i
unfolding plan_input plan_advance plan_forget plan_retire
limit_of rows setup f m now (Input.Advance at) p r e logged k =
    absurd (false≢true (sym k ∙ advance_logs (nat_lt now.latest at) (nat_lt f.floor at) _ _ p r e logged))
limit_of rows setup f m now (Input.Forget at) p r e logged k =
    absurd (false≢true (sym k ∙ forget_logs (nat_lt (safe m) at) (nat_le at f.horizon) at m.last p r e logged))
limit_of rows setup f m now (Input.Retire below) p r e logged k =
    absurd (false≢true (sym k ∙ retire_logs (list_any (λ q. older q.txn below) m.rows) (rises f.retired below) below m.last p r e logged))
limit_of rows setup f m now _ p r e logged k = tt

pub logged_fits_beside : LoggedFitsBeside
unfolding fits_beside ForgetsBy
logged_fits_beside setup log memory now i p r sound few e logged = by_record r logged
  where
    b : Before
    b = start_of_step most_rows setup (facts_of log) memory

    served : (q : Record) → p.logged ≡ Some q → Forgets b (Some q)
    served q k =
        subst (Forgets b) k
        (forgets_of b i p (shape_of most_rows setup (facts_of log) memory now i p (by_id-claims memory.rows sound.table.order) e))

    room : length (carried p memory).rows ≤ most_rows
    room = stays_within most_rows setup (facts_of log) memory now i p (by_id-claims memory.rows sound.table.order) few e

    next : (q : Record) → p.logged ≡ Some q → is_ceiling q ≡ false → IsSound setup.shard (learn (facts_of log) q) (carried p memory)
    next q k c =
        subst (λ o. IsSound setup.shard (facts_after (facts_of log) o) (carried p memory)) k
        (step_keeps_sound most_rows setup (facts_of log) memory now i p (limit_of most_rows setup (facts_of log) memory now i p q e k c) sound e)

    follows : (q : Record) → p.logged ≡ Some q → follows_facts setup.shard (facts_of log) q ≡ true
    follows q k = logged_follows most_rows setup (facts_of log) memory now i p q sound e k

    by_record : (q : Record) → p.logged ≡ Some q → fits_beside log q ≡ true
    by_record (Record.Opened epoch) k = refl
    by_record (Record.Ceiling at) k = refl
    by_record (Record.Horizon at) k =
        let was = served (Record.Horizon at) k in fits_horizon setup.shard log memory at sound was.0 was.1
    by_record (Record.Retired below) k = fits_retired setup.shard log memory below sound (served (Record.Retired below) k)
    by_record (Record.Prepare x) k = fits_prepare setup.shard log memory (carried p memory) x sound (next (Record.Prepare x) k refl) room
        (follows (Record.Prepare x) k)
    by_record (Record.Commit c) k = fits_commit setup.shard log memory (carried p memory) c sound (next (Record.Commit c) k refl) room
        (follows (Record.Commit c) k)
    by_record (Record.Abort t) k = refl
    by_record (Record.Base epoch floor horizon) k = refl
    by_record (Record.Version install) k = refl
    by_record (Record.Settled t at parts) k = refl
    by_record (Record.Closed t coordinator outcome) k = refl
    by_record (Record.Outcome t None) k = refl
    by_record (Record.Outcome t (Some s)) k =
        fits_outcome setup.shard log t s (follows (Record.Outcome t (Some s)) k) (installs_above most_rows setup (facts_of log) memory now i p t s sound e k)
