-- What the records of a log leave is sound: each that has its place keeps the timestamps of what stands above the versions of
-- what it writes.
use Rattle.std.proofs.Common.{◌≡◌, ℕ, ◌+◌, ◌<◌, ◌≤◌, Bool, true, false, not, nat_le, nat_lt, max, List, [], ◌∷◌, ◌++◌, Option, Some, None, refl, sym}
use Rattle.std.proofs.Common.{ap, subst, ◌∙◌, arith}
use Rattle.std.specs.Prelude.{IsTrue}
use Rattle.std.specs.List.{AllByRecursion, list_all}
use Rattle.std.specs.Prelude.{nat_eq}
use Rattle.std.proofs.lemmas.Bool.{false≢true, and_from, and_parts, eqb-true, le-leb}
use Rattle.std.proofs.lemmas.Bool.Decides.{nat_tests}
use Rattle.units.specs.Lists.{ascends, follow, gather}
use Rattle.units.specs.Ids.{Id, older, same_id}
use Rattle.units.specs.ById.{IsById, find_member}
use Rattle.units.specs.Keys.{same_key}
use Rattle.units.specs.Locks.{clash, locks_of, shared, with_locks}
use Rattle.units.specs.LockLaws.{IsLawfulTable}
use Rattle.units.specs.Versions.{above_versions, versions}
use Rattle.units.specs.declared.writes.Install.{Install}
use Rattle.units.proofs.ByIdLaws.{found_all, found_is}
use Rattle.units.proofs.IdLaws.{same_id-is}
use Rattle.units.proofs.ListLaws.{all-keep, all_gives, each_of_all}
use Rattle.record.specs.Facts.{TxnStatus, Facts, kept_entries, after_outcome, installs_at, learn, or_floor, or_unrecorded, recorded, with_status}
use Rattle.record.specs.Records.{Status, Unrecorded, StandsPrepared, StandsDecided, HasAborted, HasSettled, HasClosed, stamp_in}
use Rattle.record.specs.declared.record.Record.{Record}
use Rattle.facts.specs.Rules.{allows, follows_facts}
use Rattle.facts.specs.Stages.{follows_head, is_head}
use Rattle.facts.specs.declared.stage.Stage.{Stage}
use Rattle.protocol.specs.Rows.{Row, IsPrepared, IsDecided, claims, find_row, held_stamp, rebuilt, standing_row}
use Rattle.protocol.specs.Sound.{Agrees, IsSound, fits, holds_writes}
use Rattle.protocol.proofs.AboveVersions.{above_more, each_append, rows_apart, writes_apart}
use Rattle.protocol.proofs.InWay.{holds_exclusive}
use Rattle.protocol.proofs.KeptFacts.{covered_later, covered_versions}
use Rattle.protocol.proofs.OpenedRows.{all-gather}
use Rattle.protocol.proofs.RecordLocks.{holds_reads}
use Rattle.protocol.proofs.RowChanges.{find_members}
use Rattle.protocol.proofs.Serves.{AllOver, Over, under_safe}
use Rattle.protocol.proofs.StatusChanges.{by_id-status, entry_other, entry_same}
use Rattle.memory.specs.Kept.{Kept}
use Rattle.protocol.specs.Beside.{fits_facts, standing_rows}
use Rattle.recovery.specs.Recovered.{MayStandNext, IsGood, IsGoodPart, IsOwn, IsRecovered, Part, head_is_bare, part_of}
use Rattle.recovery.proofs.Again.{id_rules}
use Rattle.recovery.proofs.StandingRows.{found}

-- ---- entries, where one is given anew

-- each entry of another id keeps what it had
all_status : (P Q : TxnStatus → Type 0) (es : List TxnStatus) (t : Id) (s : Status) → IsById (λ e. e.txn) es → Q (record { txn = t; status = s })
    → ((e : TxnStatus) → find_member (λ e. e.txn) es e.txn ≡ Some e → same_id t e.txn ≡ false → P e → Q e) → AllByRecursion P es →
    AllByRecursion Q (with_status es t s)
all_status P Q es t s up new keeps all =
    all_gives (λ (e : TxnStatus). find_member (λ (e : TxnStatus). e.txn) (with_status es t s) e.txn ≡ Some e) Q one (with_status es t s)
    (find_members (λ (e : TxnStatus). e.txn) (with_status es t s) (by_id-status es t s up))
  where
    one : (e : TxnStatus) → find_member (λ (e : TxnStatus). e.txn) (with_status es t s) e.txn ≡ Some e → Q e
    one e there = by_id (same_id t e.txn) refl
      where
        by_id : (b : Bool) → same_id t e.txn ≡ b → Q e
        by_id true k =
            let is : t ≡ e.txn = same_id-is t e.txn k in
            let here : find_member (λ (e : TxnStatus). e.txn) (with_status es t s) e.txn ≡ Some (record { txn = t; status = s }) =
            subst (λ u. find_member (λ (e : TxnStatus). e.txn) (with_status es t s) u ≡ Some (record { txn = t; status = s })) is (entry_same es t s) in
            let both : ◌≡◌ {A = Option TxnStatus} (Some (record { txn = t; status = s })) (Some e) = sym here ∙ there in
            let same : record { txn = t; status = s } ≡ e = cc in
            subst Q same new
        by_id false k =
            let old : find_member (λ (e : TxnStatus). e.txn) es e.txn ≡ Some e = sym (entry_other es t e.txn s k) ∙ there in
            keeps e old k (found_all P (λ (e : TxnStatus). e.txn) es e.txn e all old)

-- ---- a row of what stands

record HasRow (e : TxnStatus) (x : Part) : Type 0 where
  row : Row
  is : standing_row e ≡ Some row
  held : row.held ≡ locks_of x.reads x.writes

has_row : (e : TxnStatus) (x : Part) → part_of e.status ≡ Some x → HasRow e x
has_row e x k = by_status e.status k
  where
    by_status : (s : Status) → part_of s ≡ Some x → HasRow (record { txn = e.txn; status = s }) x
    by_status (StandsPrepared p) k =
        let same : record { at = p.at; reads = p.reads; writes = p.writes } ≡ x = cc in
        subst (HasRow (record { txn = e.txn; status = StandsPrepared p })) same
        (record { row = record { txn = p.txn; held = locks_of p.reads p.writes; phase = IsPrepared p.coordinator p.at }; is = refl; held = refl })
    by_status (StandsDecided c) k =
        let same : record { at = c.at; reads = c.reads; writes = c.writes } ≡ x = cc in
        subst (HasRow (record { txn = e.txn; status = StandsDecided c })) same
        (record { row = record { txn = c.txn; held = locks_of c.reads c.writes; phase = IsDecided c.at c.parts }; is = refl; held = refl })
    by_status Unrecorded k = cc
    by_status HasAborted k = cc
    by_status (HasSettled at ps) k = cc
    by_status (HasClosed c o) k = cc

-- what two of them write are different keys
parts_apart : (f : Facts) (e d : TxnStatus) (x y : Part) → IsById (λ e. e.txn) f.entries → AllByRecursion IsOwn f.entries
    → IsLawfulTable (claims (standing_rows f))
    → find_member (λ e. e.txn) f.entries e.txn ≡ Some e → find_member (λ e. e.txn) f.entries d.txn ≡ Some d → same_id d.txn e.txn ≡ false
    → part_of e.status ≡ Some x → part_of d.status ≡ Some y
    → list_all (λ w. list_all (λ v. not (same_key v.key w.key)) y.writes) x.writes ≡ true
parts_apart f e d x y up own lawful here there differ k j =
    let r = has_row e x k in
    let q = has_row d y j in
    let free : clash r.row.held q.row.held ≡ false =
    rows_apart (standing_rows f) e.txn d.txn r.row q.row lawful
    (found f.entries e.txn up own ∙ ap (λ o. follow o standing_row) here ∙ r.is)
    (found f.entries d.txn up own ∙ ap (λ o. follow o standing_row) there ∙ q.is) differ in
    writes_apart r.row.held q.row.held x.writes y.writes free
    (ap (λ ls. holds_writes ls x.writes) r.held ∙ holds_exclusive x.writes (with_locks [] (shared x.reads)))
    (ap (λ ls. holds_writes ls y.writes) q.held ∙ holds_exclusive y.writes (with_locks [] (shared y.reads)))

-- ---- what stands is due

due_later : (f g : Facts) (x : Part) → f.horizon ≡ g.horizon → f.floor ≤ g.floor → f.installs ≡ g.installs → MayStandNext f x → MayStandNext g x
due_later f g x horizon low same due = record {
  above_zero = due.above_zero;
  above_horizon = omega (arith, horizon, due.above_horizon);
  assigned = omega (arith, due.assigned, low);
  above = subst (λ is. IsTrue (above_versions is x.at x.writes)) same due.above;
}

good_by : (f g : Facts) (e : TxnStatus) → ((x : Part) → part_of e.status ≡ Some x → MayStandNext f x → MayStandNext g x) → IsGood f e → IsGood g e
good_by f g e h good = by_part (part_of e.status) refl good
  where
    by_part : (o : Option Part) → part_of e.status ≡ o → IsGoodPart f o → IsGoodPart g o
    by_part None k good = tt
    by_part (Some x) k good = h x k good

good_later : (f g : Facts) (e : TxnStatus) → f.horizon ≡ g.horizon → f.floor ≤ g.floor → f.installs ≡ g.installs → IsGood f e → IsGood g e
good_later f g e horizon low same = good_by f g e (λ x k. due_later f g x horizon low same)

up_left : (a b : ℕ) → a ≤ max a b
up_left a b = omega arith

up_right : (a b : ℕ) → b ≤ max a b
up_right a b = omega arith

floor_later : (f : Facts) (r : Record) → f.floor ≤ (learn f r).floor
unfolding learn
floor_later f r = by_stamp (stamp_in r)
  where
    by_stamp : (o : Option ℕ) → f.floor ≤ or_floor f.floor o
    by_stamp None = omega arith
    by_stamp (Some at) = up_left f.floor at

-- a record that changes no version, and no status
raised_good : (f g : Facts) → f.entries ≡ g.entries → f.installs ≡ g.installs → f.horizon ≡ g.horizon → f.floor ≤ g.floor
    → AllByRecursion (IsGood f) f.entries → AllByRecursion (IsGood g) g.entries
raised_good f g same installs horizon low good =
    subst (λ es. AllByRecursion (IsGood g) es) same (all_gives (IsGood f) (IsGood g) (λ e h. good_later f g e horizon low installs h) f.entries good)

-- a record of one id that changes no version
noted_good : (f g : Facts) (t : Id) (s : Status) → IsById (λ e. e.txn) f.entries → g.entries ≡ with_status f.entries t s → f.installs ≡ g.installs →
    f.horizon ≡ g.horizon → f.floor ≤ g.floor
    → IsGoodPart g (part_of s) → AllByRecursion (IsGood f) f.entries → AllByRecursion (IsGood g) g.entries
noted_good f g t s up put installs horizon low new good =
    subst (λ es. AllByRecursion (IsGood g) es) (sym put)
    (all_status (IsGood f) (IsGood g) f.entries t s up new (λ e here differ h. good_later f g e horizon low installs h) good)

-- an outcome of what stands: the others write other keys
installed_good : (f g : Facts) (t : Id) (s : Status) (y : Part) (at : ℕ) (d : TxnStatus) → IsById (λ e. e.txn) f.entries →
    AllByRecursion IsOwn f.entries → IsLawfulTable (claims (standing_rows f))
    → find_member (λ e. e.txn) f.entries t ≡ Some d → part_of d.status ≡ Some y → g.entries ≡ with_status f.entries t s → part_of s ≡ None
    → g.installs ≡ f.installs ++ versions y.writes at → f.horizon ≡ g.horizon → f.floor ≤ g.floor → AllByRecursion (IsGood f) f.entries →
    AllByRecursion (IsGood g) g.entries
installed_good f g t s y at d up own lawful there part put gone installs horizon low good =
    subst (λ es. AllByRecursion (IsGood g) es) (sym put)
    (all_status (IsGood f) (IsGood g) f.entries t s up (subst (IsGoodPart g) (sym gone) tt) keeps good)
  where
    mine : d.txn ≡ t
    mine = same_id-is d.txn t (found_is (λ (e : TxnStatus). e.txn) f.entries t d there)

    at_own : find_member (λ e. e.txn) f.entries d.txn ≡ Some d
    at_own = ap (find_member (λ (e : TxnStatus). e.txn) f.entries) mine ∙ there

    keeps : (e : TxnStatus) → find_member (λ e. e.txn) f.entries e.txn ≡ Some e → same_id t e.txn ≡ false → IsGood f e → IsGood g e
    keeps e here differ =
        good_by f g e
        (λ x k due. record {
          above_zero = due.above_zero;
          above_horizon = omega (arith, horizon, due.above_horizon);
          assigned = omega (arith, due.assigned, low);
          above =
              subst (λ is. IsTrue (above_versions is x.at x.writes)) (sym installs)
              (above_more f.installs x.at at x.writes y.writes (parts_apart f e d x y up own lawful here at_own
              (ap (λ u. same_id u e.txn) mine ∙ differ) k part) due.above);
        })

-- ---- each record keeps it

-- what holds of the facts of a log that was taken
pub record IsTaken (f : Facts) : Type 0 where
  pub opened : 0 < f.epoch
  pub good : AllByRecursion (IsGood f) f.entries
  pub covered : IsTrue (list_all (λ i. nat_le i.at f.floor) f.installs)
  pub horizon : f.horizon ≤ f.floor

fresh_due : (f g : Facts) (x : Part) → 0 < x.at → f.horizon ≡ g.horizon → nat_lt f.horizon x.at ≡ true → f.installs ≡ g.installs → g.floor ≡ max f.floor x.at →
    above_versions f.installs x.at x.writes ≡ true → MayStandNext g x
fresh_due f g x some horizon late same floor above = record {
  above_zero = some;
  above_horizon = (let l : f.horizon < x.at = grind (arith, nat_tests) in omega (arith, horizon, l));
  assigned = omega (arith, floor, up_right f.floor x.at);
  above = subst (λ is. IsTrue (above_versions is x.at x.writes)) same above;
}

lt-of : (n : ℕ) → nat_lt 0 n ≡ true → 0 < n
lt-of n h = grind (arith, nat_tests)

-- what stands under the id of an outcome, and what the outcome makes of it
record Outcomes (f : Facts) (t : Id) : Type 0 where
  entry : TxnStatus
  part : Part
  there : find_member (λ e. e.txn) f.entries t ≡ Some entry
  is : part_of entry.status ≡ Some part
  gone : (o : Option ℕ) → part_of (after_outcome (recorded f t) o) ≡ None
  installs : (s : ℕ) → installs_at (recorded f t) (Some s) ≡ versions part.writes s
  none : installs_at (recorded f t) None ≡ []

standing_entry : (f : Facts) (t : Id) (o : Option ℕ) → allows (recorded f t) o ≡ true → Outcomes f t
standing_entry f t o allowed = by_entry (find_member (λ (e : TxnStatus). e.txn) f.entries t) refl allowed
  where
    by_status : (d : TxnStatus) (s : Status) → d.status ≡ s → find_member (λ (e : TxnStatus). e.txn) f.entries t ≡ Some d → allows s o ≡ true → Outcomes f t
    by_status d (StandsPrepared p) k found h = record {
      entry = d;
      part = record { at = p.at; reads = p.reads; writes = p.writes };
      there = found;
      is = ap part_of k;
      gone = λ q. ap (λ r. part_of (after_outcome r q)) (ap or_unrecorded found ∙ k);
      installs = λ s. ap (λ r. installs_at r (Some s)) (ap or_unrecorded found ∙ k);
      none = ap (λ r. installs_at r None) (ap or_unrecorded found ∙ k);
    }
    by_status d (StandsDecided c) k found h = record {
      entry = d;
      part = record { at = c.at; reads = c.reads; writes = c.writes };
      there = found;
      is = ap part_of k;
      gone = λ q. ap (λ r. part_of (after_outcome r q)) (ap or_unrecorded found ∙ k);
      installs = λ s. ap (λ r. installs_at r (Some s)) (ap or_unrecorded found ∙ k);
      none = ap (λ r. installs_at r None) (ap or_unrecorded found ∙ k);
    }
    by_status d _ k found h = absurd (false≢true h)

    by_entry : (e : Option TxnStatus) → find_member (λ (e : TxnStatus). e.txn) f.entries t ≡ e → allows (or_unrecorded e) o ≡ true → Outcomes f t
    by_entry None k h = absurd (false≢true h)
    by_entry (Some d) k h = by_status d d.status refl k h

more_nil : (is : List Install) → is ++ [] ≡ is
more_nil [] = refl
more_nil (i ∷ is) = ap (λ js. i ∷ js) (more_nil is)

under_later : (h floor at : ℕ) → h ≤ floor → h ≤ max floor at
under_later h floor at low = omega (arith, low)

-- a horizon below all that stands
forgotten_good : (f : Facts) (at : ℕ) → list_all (nat_lt at) (gather (λ r. held_stamp r.phase) (standing_rows f)) ≡ true
    → AllByRecursion (IsGood f) f.entries → AllByRecursion (IsGood (learn f (Record.Horizon at))) f.entries
unfolding learn
forgotten_good f at below good = each f.entries below good
  where
    after : Facts
    after = learn f (Record.Horizon at)

    one : (x : Part) → nat_lt at x.at ≡ true → MayStandNext f x → MayStandNext after x
    one x late due = record {
      above_zero = due.above_zero;
      above_horizon = (let l : at < x.at = grind (arith, nat_tests) in omega (arith, l, due.above_horizon));
      assigned = due.assigned;
      above = due.above;
    }

    each : (es : List TxnStatus) → list_all (nat_lt at) (gather (λ r. held_stamp r.phase) (gather standing_row es)) ≡ true
        → AllByRecursion (IsGood f) es → AllByRecursion (IsGood after) es
    each [] h all = tt
    each (e ∷ es) h all = by_status e.status h all.0 (each es)
      where
        by_status : (s : Status)
            → list_all (nat_lt at) (gather (λ r. held_stamp r.phase) (gather standing_row (record { txn = e.txn; status = s } ∷ es))) ≡ true
            → IsGoodPart f (part_of s)
            → (list_all (nat_lt at) (gather (λ r. held_stamp r.phase) (gather standing_row es)) ≡ true → AllByRecursion (IsGood f) es
            → AllByRecursion (IsGood after) es)
            → IsGoodPart after (part_of s) × AllByRecursion (IsGood after) es
        by_status (StandsPrepared p) k due rest = (one _ (and_parts _ _ k).0 due, rest (and_parts _ _ k).1 all.1)
        by_status (StandsDecided c) k due rest = (one _ (and_parts _ _ k).0 due, rest (and_parts _ _ k).1 all.1)
        by_status _ k due rest = (tt, rest k all.1)

pub taken_more : (shard : ℕ) (f : Facts) (r : Record) → IsById (λ e. e.txn) f.entries → AllByRecursion IsOwn f.entries →
    IsLawfulTable (claims (standing_rows f))
    → follows_facts shard f r ≡ true → fits_facts f r ≡ true → IsTaken f → IsTaken (learn f r)
unfolding learn follows_facts
taken_more shard f (Record.Opened epoch) up own lawful follows fit taken = record {
  opened = (let next : epoch ≡ f.epoch + 1 = grind (arith, nat_tests) in omega (arith, next));
  good = raised_good f (learn f (Record.Opened epoch)) refl refl refl (omega arith) taken.good;
  covered = taken.covered;
  horizon = taken.horizon;
}
taken_more shard f (Record.Ceiling at) up own lawful follows fit taken = record {
  opened = taken.opened;
  good = raised_good f (learn f (Record.Ceiling at)) refl refl refl (up_left f.floor at) taken.good;
  covered = covered_later f.floor (max f.floor at) f.installs (up_left f.floor at) taken.covered;
  horizon = under_later f.horizon f.floor at taken.horizon;
}
taken_more shard f (Record.Prepare p) up own lawful follows fit taken = record {
  opened = taken.opened;
  good = noted_good f (learn f (Record.Prepare p)) p.txn (StandsPrepared p) up refl refl refl (up_left f.floor p.at)
      (fresh_due f (learn f (Record.Prepare p)) (record { at = p.at; reads = p.reads; writes = p.writes })
      (lt-of p.at (and_parts _ _ (and_parts _ _ (id_rules shard f (Record.Prepare p) follows)).0).0) refl
      (and_parts _ _ (and_parts _ _ fit).0).1 refl refl (and_parts _ _ fit).1)
      taken.good;
  covered = covered_later f.floor (max f.floor p.at) f.installs (up_left f.floor p.at) taken.covered;
  horizon = under_later f.horizon f.floor p.at taken.horizon;
}
taken_more shard f (Record.Commit c) up own lawful follows fit taken = record {
  opened = taken.opened;
  good = noted_good f (learn f (Record.Commit c)) c.txn (StandsDecided c) up refl refl refl (up_left f.floor c.at)
      (fresh_due f (learn f (Record.Commit c)) (record { at = c.at; reads = c.reads; writes = c.writes })
      (lt-of c.at (and_parts _ _ (and_parts _ _ (id_rules shard f (Record.Commit c) follows)).0).0) refl
      (and_parts _ _ (and_parts _ _ fit).0).1 refl refl (and_parts _ _ fit).1)
      taken.good;
  covered = covered_later f.floor (max f.floor c.at) f.installs (up_left f.floor c.at) taken.covered;
  horizon = under_later f.horizon f.floor c.at taken.horizon;
}
taken_more shard f (Record.Abort t) up own lawful follows fit taken = record {
  opened = taken.opened;
  good = noted_good f (learn f (Record.Abort t)) t HasAborted up refl refl refl (omega arith) tt taken.good;
  covered = taken.covered;
  horizon = taken.horizon;
}
taken_more shard f (Record.Outcome t None) up own lawful follows fit taken =
    let x = standing_entry f t None (id_rules shard f (Record.Outcome t None) follows) in
    let same : f.installs ≡ f.installs ++ installs_at (recorded f t) None = sym (ap (λ is. f.installs ++ is) x.none ∙ more_nil f.installs) in
    record {
      opened = taken.opened;
      good = noted_good f (learn f (Record.Outcome t None)) t (after_outcome (recorded f t) None) up refl same refl (omega arith)
          (subst (IsGoodPart (learn f (Record.Outcome t None))) (sym (x.gone None)) tt) taken.good;
      covered = subst (λ is. IsTrue (list_all (λ i. nat_le i.at f.floor) is)) same taken.covered;
      horizon = taken.horizon;
    }
taken_more shard f (Record.Outcome t (Some s)) up own lawful follows fit taken =
    let x = standing_entry f t (Some s) (id_rules shard f (Record.Outcome t (Some s)) follows) in
    record {
      opened = taken.opened;
      good = installed_good f (learn f (Record.Outcome t (Some s))) t (after_outcome (recorded f t) (Some s)) x.part s x.entry up own lawful x.there
          x.is refl (x.gone (Some s))
          (ap (λ is. f.installs ++ is) (x.installs s)) refl (up_left f.floor s) taken.good;
      covered =
          each_append (λ (i : Install). nat_le i.at (max f.floor s)) f.installs (installs_at (recorded f t) (Some s))
          (covered_later f.floor (max f.floor s) f.installs (up_left f.floor s) taken.covered)
          (subst (λ is. list_all (λ (i : Install). nat_le i.at (max f.floor s)) is ≡ true) (sym (x.installs s))
          (covered_versions x.part.writes s (max f.floor s) (up_right f.floor s)));
      horizon = under_later f.horizon f.floor s taken.horizon;
    }
taken_more shard f (Record.Horizon at) up own lawful follows fit taken = record {
  opened = taken.opened;
  good = forgotten_good f at fit taken.good;
  covered = taken.covered;
  horizon =
      let low : nat_le at f.floor ≡ true = (and_parts _ _ (and_parts _ _ follows).1).1 in
      let before : f.horizon ≤ f.floor = taken.horizon in
      (let l : at ≤ f.floor = grind (arith, nat_tests) in omega (arith, l, before));
}
taken_more shard f (Record.Retired below) up own lawful follows fit taken = record {
  opened = taken.opened;
  good = all_gives (IsGood f) (IsGood (learn f (Record.Retired below))) (λ e h. good_later f (learn f (Record.Retired below)) e refl (omega arith) refl h)
      (kept_entries (Some below) f.entries) (all-keep (IsGood f) (λ e. not (older e.txn below)) f.entries taken.good);
  covered = taken.covered;
  horizon = taken.horizon;
}
taken_more shard f _ up own lawful follows fit taken = absurd (false≢true follows)

-- ---- a record of a head

-- where a version may come no transaction has a record
pub bare_none : (s : Stage) (es : List TxnStatus) → is_head s ≡ true → head_is_bare s es ≡ true → es ≡ []
bare_none s [] heads bare = refl
bare_none s (e ∷ es) heads bare = absurd (false≢true (sym (ap not heads) ∙ bare))

base_first : (n : ℕ) → 0 < n → nat_eq n 0 ≡ true → ⊥
base_first n above none = omega (arith, above, eqb-true n 0 none)

pub headed_more : (shard : ℕ) (s : Stage) (f : Facts) (r : Record) → IsById (λ e. e.txn) f.entries → head_is_bare s f.entries ≡ true
    → follows_head shard s f r ≡ true → IsTaken f → IsTaken (learn f r)
unfolding learn follows_head
headed_more shard s f (Record.Base e floor n) up bare follows taken =
    absurd (base_first f.epoch taken.opened ((and_parts _ _ ((and_parts _ _ follows).0)).0))
headed_more shard s f (Record.Version i) up bare follows taken =
    let heads : is_head s ≡ true = (and_parts _ _ ((and_parts _ _ follows).0)).1 in
    record {
      opened = taken.opened;
      good = subst (AllByRecursion (IsGood (learn f (Record.Version i)))) (sym (bare_none s f.entries heads bare)) tt;
      covered =
          each_append (λ (j : Install). nat_le j.at (max f.floor i.at)) f.installs (i ∷ [])
          (covered_later f.floor (max f.floor i.at) f.installs (up_left f.floor i.at) taken.covered)
          (and_from _ _ (le-leb i.at (max f.floor i.at) (up_right f.floor i.at)) refl);
      horizon = under_later f.horizon f.floor i.at taken.horizon;
    }
headed_more shard s f (Record.Settled t at parts) up bare follows taken = record {
  opened = taken.opened;
  good = noted_good f (learn f (Record.Settled t at parts)) t (HasSettled at parts) up refl refl refl (up_left f.floor at) tt taken.good;
  covered = covered_later f.floor (max f.floor at) f.installs (up_left f.floor at) taken.covered;
  horizon = under_later f.horizon f.floor at taken.horizon;
}
headed_more shard s f (Record.Closed t c None) up bare follows taken = record {
  opened = taken.opened;
  good = noted_good f (learn f (Record.Closed t c None)) t (HasClosed c None) up refl refl refl (omega arith) tt taken.good;
  covered = taken.covered;
  horizon = taken.horizon;
}
headed_more shard s f (Record.Closed t c (Some at)) up bare follows taken = record {
  opened = taken.opened;
  good = noted_good f (learn f (Record.Closed t c (Some at))) t (HasClosed c (Some at)) up refl refl refl (up_left f.floor at) tt taken.good;
  covered = covered_later f.floor (max f.floor at) f.installs (up_left f.floor at) taken.covered;
  horizon = under_later f.horizon f.floor at taken.horizon;
}
headed_more shard s f _ up bare follows taken = absurd (false≢true follows)

-- ---- so it is sound

rows_is : (k : Kept) → IsRecovered k → k.memory.rows ≡ standing_rows k.facts
unfolding rebuilt
rows_is k recovered = ap (λ m. m.rows) recovered.memory

last_is : (k : Kept) → IsRecovered k → k.memory.last ≡ k.facts.floor
unfolding rebuilt
last_is k recovered = ap (λ m. m.last) recovered.memory

ended_is : (k : Kept) → IsRecovered k → k.memory.ended ≡ []
unfolding rebuilt
ended_is k recovered = ap (λ m. m.ended) recovered.memory

-- a row that a log holds neither waits nor collects
row_fits : (shard : ℕ) (e : TxnStatus) (r : Row) → standing_row e ≡ Some r → Unit {0} → fits shard r ≡ true
row_fits shard e r k u = by_status e.status k
  where
    some_fits : (q : Row) → Some q ≡ Some r → fits shard q ≡ true → fits shard r ≡ true
    some_fits q k h = let same : q ≡ r = cc in subst (λ z. fits shard z ≡ true) same h

    by_status : (s : Status) → standing_row (record { txn = e.txn; status = s }) ≡ Some r → fits shard r ≡ true
    by_status (StandsPrepared p) k = some_fits _ k refl
    by_status (StandsDecided c) k = some_fits _ k refl
    by_status Unrecorded k = cc
    by_status HasAborted k = cc
    by_status (HasSettled at ps) k = cc
    by_status (HasClosed c o) k = cc

all_unit : (es : List TxnStatus) → AllByRecursion (λ e. Unit {0}) es
all_unit [] = tt
all_unit (e ∷ es) = (tt, all_unit es)

-- a record and its row agree
entry_agrees : (f : Facts) (o : Option TxnStatus) → ((e : TxnStatus) → o ≡ Some e → IsGood f e)
    → Agrees f.installs f.floor (or_unrecorded o) (follow o standing_row)
entry_agrees f None good = tt
entry_agrees f (Some e) good = by_status e.status (good e refl)
  where
    by_status : (s : Status) → IsGoodPart f (part_of s) → Agrees f.installs f.floor s (standing_row (record { txn = e.txn; status = s }))
    by_status (StandsPrepared p) due = record {
      phase = refl;
      own = refl;
      above_zero = due.above_zero;
      assigned = due.assigned;
      read = holds_reads p.reads p.writes;
      held = holds_exclusive p.writes (with_locks [] (shared p.reads));
      above = due.above;
    }
    by_status (StandsDecided c) due = record {
      phase = refl;
      own = refl;
      above_zero = due.above_zero;
      assigned = due.assigned;
      read = holds_reads c.reads c.writes;
      held = holds_exclusive c.writes (with_locks [] (shared c.reads));
      above = due.above;
    }
    by_status Unrecorded due = tt
    by_status HasAborted due = tt
    by_status (HasSettled at ps) due = tt
    by_status (HasClosed c o) due = tt

-- what stands is above the horizon
good_over : (f : Facts) (e : TxnStatus) (r : Row) → standing_row e ≡ Some r → IsGood f e → Over f.horizon (held_stamp r.phase)
good_over f e r k good = by_status e.status k good
  where
    some_over : (q : Row) → Some q ≡ Some r → Over f.horizon (held_stamp q.phase) → Over f.horizon (held_stamp r.phase)
    some_over q k h = let same : q ≡ r = cc in subst (λ z. Over f.horizon (held_stamp z.phase)) same h

    by_status : (s : Status) → standing_row (record { txn = e.txn; status = s }) ≡ Some r → IsGoodPart f (part_of s) → Over f.horizon (held_stamp r.phase)
    by_status (StandsPrepared p) k due = some_over _ k (omega (arith, due.above_horizon))
    by_status (StandsDecided c) k due = some_over _ k (omega (arith, due.above_horizon))
    by_status Unrecorded k due = cc
    by_status HasAborted k due = cc
    by_status (HasSettled at ps) k due = cc
    by_status (HasClosed c o) k due = cc

pub recovered_sound : (shard : ℕ) (k : Kept) → IsRecovered k → IsLawfulTable (claims k.memory.rows) → IsSound shard k.facts k.memory
recovered_sound shard k recovered lawful = record {
  opened = recovered.opened;
  table = lawful;
  entries = recovered.order;
  ended = ap (ascends older) (ended_is k recovered);
  under = omega (arith, last_is k recovered);
  installed = ap (λ n. list_all (λ (i : Install). nat_le i.at n) k.facts.installs) (last_is k recovered) ∙ recovered.covered;
  fit = ap (list_all (fits shard)) (rows_is k recovered)
      ∙ each_of_all (fits shard) (standing_rows k.facts) (all-gather (λ e. Unit {0}) (λ r. fits shard r ≡ true) (row_fits shard) k.facts.entries
      (all_unit k.facts.entries));
  agrees = λ t.
      subst (λ rows. Agrees k.facts.installs k.memory.last (recorded k.facts t) (find_row rows t)) (sym (rows_is k recovered))
      (subst (λ n. Agrees k.facts.installs n (recorded k.facts t) (find_row (standing_rows k.facts) t)) (sym (last_is k recovered))
      (subst (Agrees k.facts.installs k.facts.floor (recorded k.facts t)) (sym (found k.facts.entries t recovered.order recovered.own))
      (entry_agrees k.facts (find_member (λ (e : TxnStatus). e.txn) k.facts.entries t)
      (λ e there. found_all (IsGood k.facts) (λ (e : TxnStatus). e.txn) k.facts.entries t e recovered.good there))));
  horizon = under_safe k.facts.horizon k.memory (omega (arith, recovered.horizon, last_is k recovered))
      (subst (AllOver k.facts.horizon) (sym (rows_is k recovered))
      (all-gather (IsGood k.facts) (λ r. Over k.facts.horizon (held_stamp r.phase)) (good_over k.facts) k.facts.entries recovered.good));
}
