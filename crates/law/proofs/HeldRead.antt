-- A value that was told stands while its lock is held: nobody installs the key until the reader is logged or ended.
use Rattle.std.proofs.Common.{◌≡◌, inl, inr, ℕ, ◌+◌, ◌≤◌, max, min, Bool, true, false, cond, ◌||◌, nat_lt, not, List, [], ◌∷◌, ◌++◌, filter, Option, Some, None}
use Rattle.std.proofs.Common.{refl, sym, ap, subst, ◌∙◌}
use Rattle.std.proofs.lemmas.List.Elements.{filter-append}
use Rattle.std.specs.Prelude.{Ok}
use Rattle.std.specs.List.{AllByRecursion, list_any}
use Rattle.std.proofs.lemmas.Bool.{or_left, or_right}
use Rattle.std.proofs.lemmas.List.{append-nil}
use Rattle.units.specs.Limits.{most_rows}
use Rattle.units.specs.Ids.{Id, same_id, older, has_id, with_id}
use Rattle.protocol.specs.Outputs.{promise, decision}
use Rattle.protocol.specs.Cells.{raised}
use Rattle.units.specs.Keys.{Bytes, same_key}
use Rattle.units.specs.Lists.{follow}
use Rattle.units.specs.Locks.{exclusive, holds, with_locks}
use Rattle.units.specs.Versions.{latest, newest, of_key, versions}
use Rattle.units.specs.declared.lock.Lock.{Lock}
use Rattle.units.specs.declared.setup.Setup.{Setup}
use Rattle.units.specs.declared.writes.Install.{Install}
use Rattle.units.specs.declared.writes.Write.{Write}
use Rattle.units.proofs.IdLaws.{same_id-is, same_id-refl, same_id_comm}
use Rattle.units.proofs.ByIdLaws.{found_all, found_is}
use Rattle.units.proofs.KeyLaws.{same_key-is}
use Rattle.truetime.specs.Interval.{Interval}
use Rattle.record.specs.Facts.{Facts, learn, recorded, installs_at, after_outcome}
use Rattle.record.specs.Records.{Status, Unrecorded, StandsPrepared, StandsDecided, HasAborted, is_below}
use Rattle.record.specs.Accepted.{rises}
use Rattle.record.proofs.Statuses.{first_kept}
use Rattle.record.specs.declared.record.Committed.{Committed}
use Rattle.record.specs.declared.record.Prepared.{Prepared}
use Rattle.record.specs.declared.record.Record.{Record}
use Rattle.message.specs.declared.message.Input.{Input}
use Rattle.protocol.specs.Rows.{Memory, Row, Phase, IsPrepared, IsDecided, WasEnded, find_row}
use Rattle.protocol.specs.Rows.{standing_by, without_row, with_row, is_firm, held_by, held_in, without_rows}
use Rattle.protocol.specs.Plan.{time_limit, Plan, Before, start_of_step, carried, after_change, ended_by, in_way, stands, with_ids}
use Rattle.protocol.specs.Sound.{IsSound, holds_alone, is_open}
use Rattle.protocol.specs.Step.{plan_input, facts_after}
use Rattle.protocol.proofs.AboveVersions.{rows_apart}
use Rattle.protocol.proofs.Agreement.{Sound, unrecorded, promise_of, decision_of}
use Rattle.protocol.proofs.Choices.{holds_later, others_gone, undecided_of_loose}
use Rattle.protocol.proofs.KeptAgreement.{each_false}
use Rattle.protocol.proofs.PlanShapes.{shape_of}
use Rattle.protocol.proofs.RowChanges.{row_as, find-with_row_same, find-with_row_other, find-without_row_same, find-without_row_other}
use Rattle.protocol.proofs.RowChanges.{find-without_rows, find-without_rows_other, by_id-claims}
use Rattle.protocol.proofs.Shapes.{Shape, Answers, IsEnd, IsAbort, IsClose, IsSettle, IsLock, IsWait, IsPromise, IsDecision, IsLooseOther, not_retired}
use Rattle.protocol.proofs.Shapes.{stands_kept}
use Rattle.protocol.proofs.Shapes.{is_undecided, ShapeOf, Acts, IsAdvance, IsForget, IsRetire}
use Rattle.protocol.proofs.StatusChanges.{Closing, closing, settling, installs_by, status_same, status_other}
use Rattle.law.specs.Among.{IsAmong}
use Rattle.law.proofs.Members.{all_among}
use Rattle.law.proofs.Accepts.{each_at}
use Rattle.law.proofs.Fair.{PlanFair, reads_of}
use Rattle.law.proofs.Picked.{some_same}
use Rattle.law.proofs.ReadBefore.{Claims, reader_clashes}
use Rattle.law.proofs.Retired.{below_more}

-- ---- ended ids

has_same : (us : List Id) (t : Id) → has_id (with_id us t) t ≡ true
has_same [] t = ap (λ b. b || false) (same_id-refl t)
has_same (u ∷ us) t = by_tests (same_id u t) (older u t) refl (has_same us t)
  where
    by_tests : (a b : Bool) → same_id u t ≡ a → has_id (with_id us t) t ≡ true → has_id (cond a (u ∷ us) (cond b (u ∷ with_id us t) (t ∷ u ∷ us))) t ≡ true
    by_tests true b e rest = or_left (same_id t u) _ (same_id_comm t u ∙ e)
    by_tests false true e rest = or_right (same_id t u) _ rest
    by_tests false false e rest = or_left (same_id t t) _ (same_id-refl t)

has_more : (us : List Id) (v t : Id) → has_id us t ≡ true → has_id (with_id us v) t ≡ true
has_more [] v t e = cc
has_more (u ∷ us) v t e = by_tests (same_id u v) (older u v) (same_id t u) refl e (λ k. has_more us v t k)
  where
    by_tests : (a b c : Bool) → same_id t u ≡ c → (c || has_id us t) ≡ true → (has_id us t ≡ true → has_id (with_id us v) t ≡ true) →
        has_id (cond a (u ∷ us) (cond b (u ∷ with_id us v) (v ∷ u ∷ us))) t ≡ true
    by_tests true b true is h rest = or_left (same_id t u) _ is
    by_tests true b false is h rest = or_right (same_id t u) _ h
    by_tests false true true is h rest = or_left (same_id t u) _ is
    by_tests false true false is h rest = or_right (same_id t u) _ (rest h)
    by_tests false false true is h rest = or_right (same_id t v) _ (or_left (same_id t u) _ is)
    by_tests false false false is h rest = or_right (same_id t v) _ (or_right (same_id t u) _ h)

has_all_more : (us vs : List Id) (t : Id) → has_id us t ≡ true → has_id (with_ids us vs) t ≡ true
has_all_more us [] t e = e
has_all_more us (v ∷ vs) t e = has_all_more (with_id us v) vs t (has_more us v t e)

has_among : (us vs : List Id) (t : Id) → IsAmong vs t → has_id (with_ids us vs) t ≡ true
has_among us [] t h = absurd h
has_among us (v ∷ vs) t (inl same) = has_all_more (with_id us v) vs t (subst (λ z. has_id (with_id us v) z ≡ true) same (has_same us v))
has_among us (v ∷ vs) t (inr later) = has_among (with_id us v) vs t later

-- those below an id are dropped
has_kept : (below : Id) (us : List Id) (t : Id) → older t below ≡ false → has_id us t ≡ true → has_id (filter (λ u. not (older u below)) us) t ≡ true
has_kept below [] t apart e = cc
has_kept below (u ∷ us) t apart e = by_tests (older u below) (same_id t u) refl refl e (λ k. has_kept below us t apart k)
  where
    rest : List Id
    rest = filter (λ v. not (older v below)) us

    by_tests : (a b : Bool) → older u below ≡ a → same_id t u ≡ b → (b || has_id us t) ≡ true → (has_id us t ≡ true → has_id rest t ≡ true) →
        has_id (cond (not a) (u ∷ rest) rest) t ≡ true
    by_tests true true under same h more =
        let z : false ≡ true = sym apart ∙ ap (λ (v : Id). older v below) (same_id-is t u same) ∙ under in cc
    by_tests true false under same h more = more h
    by_tests false true under same h more = or_left (same_id t u) _ same
    by_tests false false under same h more = or_right (same_id t u) _ (more h)

-- ---- installs of other keys

none_of_key : (ws : List Write) (s : ℕ) (k : Bytes) → ((w : Write) → IsAmong ws w → w.key ≡ k → ⊥) → of_key (versions ws s) k ≡ []
none_of_key [] s k none = refl
none_of_key (w ∷ ws) s k none = by_test (same_key w.key k) refl (none_of_key ws s k (λ v h. none v (inr h)))
  where
    by_test : (b : Bool) → same_key w.key k ≡ b → of_key (versions ws s) k ≡ [] →
        cond b (record { key = w.key; at = s; value = w.value } ∷ of_key (versions ws s) k) (of_key (versions ws s) k) ≡ []
    by_test true e rest = absurd (none w (inl refl) (same_key-is w.key k e))
    by_test false e rest = rest

latest_other : (is : List Install) (ws : List Write) (o : Option ℕ) (k : Bytes) → ((w : Write) → IsAmong ws w → w.key ≡ k → ⊥) →
    latest (is ++ installs_by ws o) k ≡ latest is k
unfolding latest
latest_other is ws None k none = ap (λ l. follow (newest (of_key l k)) (λ i. i.value)) (append-nil is)
latest_other is ws (Some s) k none =
    ap (λ l. follow (newest l) (λ i. i.value)) (filter-append (λ (i : Install). same_key i.key k) is (versions ws s)
    ∙ ap (λ l. of_key is k ++ l) (none_of_key ws s k none) ∙ append-nil (of_key is k))

-- ---- a value that was told

module _ (t : Id) (k : Bytes) (e : ℕ) (x : Option Bytes) where
  -- in its epoch the reader holds the key, whose latest value it is; or it is logged; or it is gone for good; or it is retired
  pub data HeldIs (f : Facts) (m : Memory) : Type 0 where
    Reads : (row : Row) → find_row m.rows t ≡ Some row → is_open row.phase ≡ true → holds row.held k ≡ true → latest f.installs k ≡ x → HeldIs f m
    IsLogged : (recorded f t ≡ Unrecorded → ⊥) → HeldIs f m
    WasGone : find_row m.rows t ≡ None → has_id m.ended t ≡ true → HeldIs f m
    IsPast : find_row m.rows t ≡ None → is_below f.retired t ≡ true → HeldIs f m

  pub record Held (f : Facts) (m : Memory) : Type 0 where
    pub late : e ≤ f.epoch
    -- a row that waits or collects with the key was asked for in its epoch
    pub asked : (row : Row) → find_row m.rows t ≡ Some row → IsAmong (reads_of row.phase) k → f.epoch ≡ e
    pub held : f.epoch ≡ e → HeldIs f m

  -- what becomes of the reader
  data Fate (b : Before) (f : Facts) (m : Memory) : Type 0 where
    Stays : find_row m.rows t ≡ find_row b.memory.rows t → (has_id b.memory.ended t ≡ true → has_id m.ended t ≡ true) → recorded f t ≡ recorded b.facts t
        → ((row : Row) → find_row b.memory.rows t ≡ Some row → holds row.held k ≡ true → is_open row.phase ≡ true →
        latest f.installs k ≡ latest b.facts.installs k) → Fate b f m
    Goes : find_row m.rows t ≡ None → has_id m.ended t ≡ true → Fate b f m
    Ends : (recorded f t ≡ Unrecorded → ⊥) → ((row : Row) → find_row m.rows t ≡ Some row → reads_of row.phase ≡ []) → Fate b f m
    Grows : (row : Row) → find_row m.rows t ≡ Some row → is_open row.phase ≡ true → (holds (held_in b.memory.rows t) k ≡ true →
        holds row.held k ≡ true) → recorded b.facts t ≡ Unrecorded → is_below b.facts.retired t ≡ false
        → (stands b t ≡ WasEnded → ⊥) → (IsAmong (reads_of row.phase) k → b.facts.epoch ≡ e) → latest f.installs k ≡ latest b.facts.installs k → Fate b f m

  no_row : (r : Row) → None ≡ Some r → ⊥
  no_row r q = cc

  -- who is neither recorded nor retired, has no row and is among the ended ids counts as ended
  ended_stands : (b : Before) → is_below b.facts.retired t ≡ false → recorded b.facts t ≡ Unrecorded → find_row b.memory.rows t ≡ None →
      has_id b.memory.ended t ≡ true → stands b t ≡ WasEnded
  ended_stands b kept status none gone =
      stands_kept b t kept ∙ ap (λ o. standing_by o (recorded b.facts t) (has_id b.memory.ended t)) none
      ∙ ap (λ s. standing_by None s (has_id b.memory.ended t)) status ∙ ap (λ z. standing_by None Unrecorded z) gone

  -- who is retired stays so
  abbrev StaysPast : Before → Facts → Type 0
  StaysPast b f = is_below b.facts.retired t ≡ true → is_below f.retired t ≡ true

  held_by_fate : (b : Before) (f : Facts) (m : Memory) → f.epoch ≡ b.facts.epoch → StaysPast b f → Held b.facts b.memory → Fate b f m → Held f m
  held_by_fate b f m same past h (Stays row ended status values) = record {
    late = subst (λ n. e ≤ n) (sym same) h.late;
    asked = λ r found there. same ∙ h.asked r (sym row ∙ found) there;
    held = λ now. by_held (h.held (sym same ∙ now));
  }
    where
      by_held : HeldIs b.facts b.memory → HeldIs f m
      by_held (Reads r found opened there value) = Reads r (row ∙ found) opened there (values r found there opened ∙ value)
      by_held (IsLogged logged) = IsLogged (λ q. logged (sym status ∙ q))
      by_held (WasGone none gone) = WasGone (row ∙ none) (ended gone)
      by_held (IsPast none gone) = IsPast (row ∙ none) (past gone)
  held_by_fate b f m same past h (Goes none gone) = record {
    late = subst (λ n. e ≤ n) (sym same) h.late;
    asked = λ r found there. absurd (no_row r (sym none ∙ found));
    held = λ now. WasGone none gone;
  }
  held_by_fate b f m same past h (Ends logged quiet) = record {
    late = subst (λ n. e ≤ n) (sym same) h.late;
    asked = λ r found there. absurd (subst (λ l. IsAmong l k) (quiet r found) there);
    held = λ now. IsLogged logged;
  }
  held_by_fate b f m same past h (Grows row found opened grows status kept alive asked value) = record {
    late = subst (λ n. e ≤ n) (sym same) h.late;
    asked = λ r there in_it. same ∙ asked (subst (λ (z : Row). IsAmong (reads_of z.phase) k) (some_same r row (sym there ∙ found)) in_it);
    held = λ now. by_held (h.held (sym same ∙ now));
  }
    where
      by_held : HeldIs b.facts b.memory → HeldIs f m
      by_held (Reads r before_it opened_before there is) = Reads row found opened (grows (ap (λ o. holds (held_by o) k) before_it ∙ there)) (value ∙ is)
      by_held (IsLogged logged) = absurd (logged status)
      by_held (WasGone none gone) = absurd (alive (ended_stands b kept status none gone))
      by_held (IsPast none gone) = let z : true ≡ false = sym gone ∙ kept in cc

  -- ---- by the shapes of a step

  unfoldable HeldNext : Before → Plan → Type 0
  HeldNext b p = PlanFair t k e b p → Held b.facts b.memory → Held (facts_after b.facts p.logged) (carried p b.memory)

  not_unrecorded_aborted : HasAborted ≡ Unrecorded → ⊥
  not_unrecorded_aborted q = cc

  ended_fate : (b : Before) (u : Id) (last : ℕ) → Fate b b.facts (record { last = last; rows = without_row b.memory.rows u; ended = with_id b.memory.ended u })
  ended_fate b u last = by_test (same_id u t) refl
    where
      by_test : (c : Bool) → same_id u t ≡ c → Fate b b.facts (record { last = last; rows = without_row b.memory.rows u; ended = with_id b.memory.ended u })
      by_test true same =
          let is : u ≡ t = same_id-is u t same in
          Goes (subst (λ z. find_row (without_row b.memory.rows u) z ≡ None) is (find-without_row_same b.memory.rows u))
          (subst (λ z. has_id (with_id b.memory.ended u) z ≡ true) is (has_same b.memory.ended u))
      by_test false differ = Stays (find-without_row_other b.memory.rows t u differ) (has_more b.memory.ended u t) refl (λ r found there opened. refl)

  dropped_fate : (b : Before) (u : Id) (f : Facts) (s : Status) (last : ℕ) → recorded f u ≡ s → (s ≡ Unrecorded → ⊥) →
      (same_id u t ≡ false → recorded f t ≡ recorded b.facts t) →
      ((row : Row) → same_id u t ≡ false → find_row b.memory.rows t ≡ Some row → holds row.held k ≡ true → is_open row.phase ≡ true →
      latest f.installs k ≡ latest b.facts.installs k) →
      Fate b f (record { last = last; rows = without_row b.memory.rows u; ended = b.memory.ended })
  dropped_fate b u f s last is some others values = by_test (same_id u t) refl
    where
      by_test : (c : Bool) → same_id u t ≡ c → Fate b f (record { last = last; rows = without_row b.memory.rows u; ended = b.memory.ended })
      by_test true same =
          let one : u ≡ t = same_id-is u t same in
          Ends (λ q. some (sym is ∙ ap (recorded f) one ∙ q))
          (λ r found. absurd (no_row r (sym (subst (λ z. find_row (without_row b.memory.rows u) z ≡ None) one
          (find-without_row_same b.memory.rows u)) ∙ found)))
      by_test false differ = Stays (find-without_row_other b.memory.rows t u differ) (λ g. g) (others differ)
          (λ r found there opened. values r differ found there opened)

  -- what another closes is of other keys
  closed_values : (b : Before) (u : Id) (outcome : Option ℕ) → Sound b → Closing b u outcome → (row : Row) → same_id u t ≡ false →
      find_row b.memory.rows t ≡ Some row → holds row.held k ≡ true →
      latest (b.facts.installs ++ installs_at (recorded b.facts u) outcome) k ≡ latest b.facts.installs k
  closed_values b u outcome sound c row differ found there =
      ap (λ l. latest (b.facts.installs ++ l) k) c.installs
      ∙ latest_other b.facts.installs c.writes outcome k (λ w h key. apart w h key)
    where
      apart : (w : Write) → IsAmong c.writes w → w.key ≡ k → ⊥
      apart w h key =
          true_false (reader_clashes row.held c.row.held k there (subst (λ z. holds_alone c.row.held z ≡ true) key
          (each_at (λ (v : Write). holds_alone c.row.held v.key) c.writes w c.held h)))
          (rows_apart b.memory.rows t u row c.row sound.table found c.found differ)
        where
          true_false : {z : Bool} → z ≡ true → z ≡ false → ⊥
          true_false p q = let r : true ≡ false = sym p ∙ q in cc

  -- a row that is put for another, or for this one
  others_fate : (b : Before) (u : Id) (ended : List Id) (row : Row) (f : Facts) (last : ℕ) → row.txn ≡ u → same_id u t ≡ false →
      recorded f t ≡ recorded b.facts t → latest f.installs k ≡ latest b.facts.installs k →
      Fate b f (record { last = last; rows = with_row (without_rows b.memory.rows ended) row; ended = with_ids b.memory.ended ended })
  others_fate b u ended row f last named differ status values =
      elim (find-without_rows (λ z. IsAmong ended z) b.memory.rows ended t (all_among (λ z. IsAmong ended z) ended (λ z h. h))) [
        | inl same ↦ Stays (other ∙ same) (has_all_more b.memory.ended ended t) status (λ r found there opened. values)
        | inr gone ↦ Goes (other ∙ gone.0) (has_among b.memory.ended ended t gone.1)
      ]
    where
      other : find_row (with_row (without_rows b.memory.rows ended) row) t ≡ find_row (without_rows b.memory.rows ended) t
      other = find-with_row_other (without_rows b.memory.rows ended) row t (subst (λ z. same_id z t ≡ false) (sym named) differ)

  put_found : (b : Before) (u : Id) (ended : List Id) (row : Row) → row.txn ≡ u → u ≡ t →
      find_row (with_row (without_rows b.memory.rows ended) row) t ≡ Some row
  put_found b u ended row named same = subst (λ z. find_row (with_row (without_rows b.memory.rows ended) row) z ≡ Some row) (named ∙ same)
      (find-with_row_same (without_rows b.memory.rows ended) row)

  -- a row without a record
  open_fate : (b : Before) (u : Id) (ended : List Id) (needs : List Lock) (phase : Phase) (last : ℕ) → Sound b →
      AllByRecursion (IsLooseOther b.memory.rows u) ended → is_open phase ≡ true → is_undecided (stands b u) ≡ true →
      (u ≡ t → stands b t ≡ WasEnded → ⊥) → (u ≡ t → IsAmong (reads_of phase) k → b.facts.epoch ≡ e) →
      Fate b b.facts (record {
        last = last;
        rows = with_row (without_rows b.memory.rows ended)
            (row_as u (with_locks (held_in (without_rows b.memory.rows ended) u) needs) phase);
        ended = with_ids b.memory.ended ended;
      })
  open_fate b u ended needs phase last sound gone opened undecided alive asked = by_test (same_id u t) refl
    where
      row : Row
      row = row_as u (with_locks (held_in (without_rows b.memory.rows ended) u) needs) phase

      by_test : (c : Bool) → same_id u t ≡ c → Fate b b.facts
          (record {
            last = last;
            rows = with_row (without_rows b.memory.rows ended) (row_as u
                (with_locks (held_in (without_rows b.memory.rows ended) u) needs) phase);
            ended = with_ids b.memory.ended ended;
          })
      by_test true same =
          let is : u ≡ t = same_id-is u t same in
          Grows (row_as u (with_locks (held_in (without_rows b.memory.rows ended) u) needs) phase)
          (put_found b u ended (row_as u (with_locks (held_in (without_rows b.memory.rows ended) u) needs) phase) refl is) opened
          (λ h. holds_later needs (held_in (without_rows b.memory.rows ended) u) k (ap (λ o. holds (held_by o) k)
          (find-without_rows_other b.memory.rows ended u (others_gone b.memory.rows u ended gone))
          ∙ subst (λ z. holds (held_in b.memory.rows z) k ≡ true) (sym is) h))
          (subst (λ z. recorded b.facts z ≡ Unrecorded) is (unrecorded b u sound undecided))
          (subst (λ (z : Id). is_below b.facts.retired z ≡ false) is (not_retired b u undecided)) (alive is) (asked is) refl
      by_test false differ = others_fate b u ended (row_as u (with_locks (held_in (without_rows b.memory.rows ended) u) needs) phase) b.facts last
          refl differ refl refl

  -- a row with its record
  logged_fate : (b : Before) (u : Id) (ended : List Id) (held : List Lock) (phase : Phase) (f : Facts) (s : Status) (last : ℕ) →
      reads_of phase ≡ [] → recorded f u ≡ s → (s ≡ Unrecorded → ⊥) →
      (same_id u t ≡ false → recorded f t ≡ recorded b.facts t) → latest f.installs k ≡ latest b.facts.installs k →
      Fate b f (record { last = last; rows = with_row (without_rows b.memory.rows ended) (row_as u held phase); ended = with_ids b.memory.ended ended })
  logged_fate b u ended held phase f s last quiet is some others values = by_test (same_id u t) refl
    where
      by_test : (c : Bool) → same_id u t ≡ c → Fate b f (record {
        last = last;
        rows = with_row (without_rows b.memory.rows ended)
            (row_as u held phase);
        ended = with_ids b.memory.ended ended;
      })
      by_test true same =
          let one : u ≡ t = same_id-is u t same in
          Ends (λ q. some (sym is ∙ ap (recorded f) one ∙ q))
          (λ r found. ap (λ (z : Row). reads_of z.phase) (some_same r (row_as u held phase)
          (sym found ∙ put_found b u ended (row_as u held phase) refl one)) ∙ quiet)
      by_test false differ = others_fate b u ended (row_as u held phase) f last refl differ (others differ) values

  slack_open : (phase : Phase) → is_firm phase ≡ false → is_open phase ≡ true
  slack_open (IsPrepared c p) q = cc
  slack_open (IsDecided s ps) q = cc
  slack_open _ q = refl

  closed_some : (p : Prepared) (o : Option ℕ) → after_outcome (StandsPrepared p) o ≡ Unrecorded → ⊥
  closed_some p o q = cc

  settled_some : (c : Committed) (o : Option ℕ) → after_outcome (StandsDecided c) o ≡ Unrecorded → ⊥
  settled_some c o q = cc

  next : (b : Before) (p : Plan) → Sound b → Shape b p → HeldNext b p
  unfolding HeldNext carried after_change ended_by learn
  next b p sound (Answers out is) = subst (HeldNext b) (sym is) (λ fair h. held_by_fate b b.facts _ refl (λ g. g) h
      (Stays refl (λ g. g) refl (λ r found there opened. refl)))
  next b p sound (IsEnd u out fresh is) = subst (HeldNext b) (sym is) (λ fair h. held_by_fate b b.facts _ refl (λ g. g) h (ended_fate b u b.memory.last))
  next b p sound (IsAbort u out fresh is) = subst (HeldNext b) (sym is) (λ fair h. held_by_fate b _ _ refl (λ g. g) h
      (dropped_fate b u (facts_after b.facts (Some (Record.Abort u))) HasAborted b.memory.last (status_same b.facts.entries u HasAborted) not_unrecorded_aborted
      (λ differ. status_other b.facts.entries u t HasAborted differ) (λ r differ found there opened. refl)))
  next b p sound (IsClose u n c at held outcome out found allowed is) = subst (HeldNext b) (sym is) (λ fair h. held_by_fate b _ _ refl (λ g. g) h
      (dropped_fate b u (facts_after b.facts (Some (Record.Outcome u outcome))) (after_outcome (recorded b.facts u) outcome)
      (raised b.memory.last outcome) (status_same b.facts.entries u (after_outcome (recorded b.facts u) outcome))
      (λ q. closed_some (promise_of b u held c at sound found).promise outcome (ap (λ s. after_outcome s outcome)
      (sym (promise_of b u held c at sound found).is) ∙ q))
      (λ differ. status_other b.facts.entries u t (after_outcome (recorded b.facts u) outcome) differ)
      (λ r differ mine there opened. closed_values b u outcome sound (closing b u c at held outcome sound found) r differ mine there)))
  next b p sound (IsSettle u at ps held out found is) = subst (HeldNext b) (sym is) (λ fair h. held_by_fate b _ _ refl (λ g. g) h
      (dropped_fate b u (facts_after b.facts (Some (Record.Outcome u (Some at)))) (after_outcome (recorded b.facts u) (Some at)) b.memory.last
      (status_same b.facts.entries u (after_outcome (recorded b.facts u) (Some at)))
      (λ q. settled_some (decision_of b u held at ps sound found).decision (Some at) (ap (λ s. after_outcome s (Some at))
      (sym (decision_of b u held at ps sound found).is) ∙ q))
      (λ differ. status_other b.facts.entries u t (after_outcome (recorded b.facts u) (Some at)) differ)
      (λ r differ mine there opened. closed_values b u (Some at) sound (settling b u at ps held sound found) r differ mine there)))
  next b p sound (IsLock u ended needs phase out l is) = subst (HeldNext b) (sym is) (λ fair h. held_by_fate b b.facts _ refl (λ g. g) h
      (open_fate b u ended needs phase b.memory.last sound l.cleared.gone l.opened l.undecided fair.change.0.0 fair.change.1))
  next b p sound (IsWait u needs phase out w is) = subst (HeldNext b) (sym is) (λ fair h. held_by_fate b b.facts _ refl (λ g. g) h
      (open_fate b u (in_way b u needs) [] phase b.memory.last sound w.gone (slack_open phase w.slack)
      (undecided_of_loose (stands b u) w.loose) fair.change.0.0 fair.change.1))
  next b p sound (IsPromise u ended c at rs ws out l is) = subst (HeldNext b) (sym is) (λ fair h. held_by_fate b _ _ refl (λ g. g) h
      (logged_fate b u ended (with_locks (held_in (without_rows b.memory.rows ended) u) (exclusive ws)) (IsPrepared c at)
      (facts_after b.facts (Some (promise u c at rs ws)))
      (StandsPrepared (record { txn = u; coordinator = c; at = at; reads = rs; writes = ws })) (max b.memory.last at) refl
      (status_same b.facts.entries u (StandsPrepared (record { txn = u; coordinator = c; at = at; reads = rs; writes = ws }))) (λ q. cc)
      (λ differ. status_other b.facts.entries u t (StandsPrepared (record { txn = u; coordinator = c; at = at; reads = rs; writes = ws })) differ) refl))
  next b p sound (IsDecision u ended needs at ps rs ws out l is) = subst (HeldNext b) (sym is) (λ fair h. held_by_fate b _ _ refl (λ g. g) h
      (logged_fate b u ended (with_locks (held_in (without_rows b.memory.rows ended) u) needs) (IsDecided at ps)
      (facts_after b.facts (Some (decision u at ps rs ws))) (StandsDecided (record { txn = u; at = at; parts = ps; reads = rs; writes = ws }))
      (max b.memory.last at) refl
      (status_same b.facts.entries u (StandsDecided (record { txn = u; at = at; parts = ps; reads = rs; writes = ws }))) (λ q. cc)
      (λ differ. status_other b.facts.entries u t (StandsDecided (record { txn = u; at = at; parts = ps; reads = rs; writes = ws })) differ) refl))

  -- all ids below one are retired
  retired_next : (b : Before) (below : Id) → list_any (λ r. older r.txn below) b.memory.rows ≡ false → rises b.facts.retired below ≡ true →
      Held b.facts b.memory →
      Held (facts_after b.facts (Some (Record.Retired below)))
      (record { last = b.memory.last; rows = b.memory.rows; ended = filter (λ u. not (older u below)) b.memory.ended })
  unfolding learn
  retired_next b below none up h = by_test (older t below) refl
    where
      gone_row : older t below ≡ true → find_row b.memory.rows t ≡ None
      gone_row under = by_row (find_row b.memory.rows t) refl
        where
          by_row : (o : Option Row) → find_row b.memory.rows t ≡ o → o ≡ None
          by_row None found = refl
          by_row (Some r) found =
              let apart : older r.txn below ≡ false = found_all (λ (q : Row). older q.txn below ≡ false) (λ (q : Row). q.txn) b.memory.rows t r
              (each_false (λ (q : Row). older q.txn below) b.memory.rows none) found in
              let own : r.txn ≡ t = same_id-is r.txn t (found_is (λ (q : Row). q.txn) b.memory.rows t r found) in
              let z : true ≡ false = sym under ∙ ap (λ (v : Id). older v below) (sym own) ∙ apart in cc

      by_test : (c : Bool) → older t below ≡ c → Held (facts_after b.facts (Some (Record.Retired below)))
          (record { last = b.memory.last; rows = b.memory.rows; ended = filter (λ u. not (older u below)) b.memory.ended })
      by_test true gone = record { late = h.late; asked = h.asked; held = λ now. IsPast (gone_row gone) gone }
      by_test false apart = held_by_fate b _ _ refl (below_more b.facts.retired below t up) h (Stays refl (has_kept below b.memory.ended t apart)
          (first_kept (λ u. not (older u below)) t b.facts.entries ∙ ap (λ c. cond (not c) (recorded b.facts t) Unrecorded) apart)
          (λ r found there opened. refl))

  next_of : (b : Before) (i : Input) (p : Plan) → Sound b → ShapeOf b i p → HeldNext b p
  unfolding HeldNext carried after_change ended_by learn
  next_of b i p sound (Acts shape) = next b p sound shape
  next_of b i p sound (IsForget at k2 served higher is) =
      subst (HeldNext b) (sym is) (λ fair h. held_by_fate b _ _ refl (λ g. g) h (Stays refl (λ g. g) refl (λ r found there opened. refl)))
  next_of b i p sound (IsRetire below k2 none up is) = subst (HeldNext b) (sym is) (λ fair h. retired_next b below none up h)
  next_of b i p sound (IsAdvance stride at k2 is) = subst (HeldNext b) (sym is) (λ fair h. by_test (nat_lt b.facts.floor at) h)
    where
      by_test : (c : Bool) → Held b.facts b.memory → Held (facts_after b.facts (cond c (Some (Record.Ceiling (min (at + stride) time_limit))) None))
          (record { last = max b.memory.last at; rows = b.memory.rows; ended = b.memory.ended })
      by_test true h = held_by_fate b _ _ refl (λ g. g) h (Stays refl (λ g. g) refl (λ r found there opened. refl))
      by_test false h = held_by_fate b b.facts _ refl (λ g. g) h (Stays refl (λ g. g) refl (λ r found there opened. refl))

  -- a step keeps it
  pub held_keeps : (setup : Setup) (f : Facts) (m : Memory) (now : Interval) (i : Input) (p : Plan) → IsSound setup.shard f m →
      plan_input setup (start_of_step most_rows setup f m) now i ≡ Ok p →
      PlanFair t k e (start_of_step most_rows setup f m) p → Held f m → Held (facts_after f p.logged) (carried p m)
  unfolding HeldNext
  held_keeps setup f m now i p sound is fair h =
      next_of (start_of_step most_rows setup f m) i p sound (shape_of most_rows setup f m now i p (by_id-claims m.rows sound.table.order) is) fair h

  -- ---- what is logged

  unfoldable ReadsRight : Before → Plan → Type 0
  ReadsRight b p = PlanFair t k e b p → Held b.facts b.memory → (r : Record) (at : ℕ) (ks : List Bytes) (ws : List Write) → p.logged ≡ Some r →
      Claims r t at ks ws → IsAmong ks k → latest b.facts.installs k ≡ x

  -- who is logged was neither logged nor ended before
  told_latest : (b : Before) (u : Id) (rs : List Bytes) → Sound b → is_undecided (stands b u) ≡ true → (u ≡ t → stands b t ≡ WasEnded → ⊥) →
      (u ≡ t → IsAmong rs k → b.facts.epoch ≡ e) → u ≡ t → IsAmong rs k → Held b.facts b.memory → latest b.facts.installs k ≡ x
  told_latest b u rs sound undecided alive asked is there h = by_held (h.held (asked is there))
    where
      status : recorded b.facts t ≡ Unrecorded
      status = subst (λ z. recorded b.facts z ≡ Unrecorded) is (unrecorded b u sound undecided)

      kept : is_below b.facts.retired t ≡ false
      kept = subst (λ (z : Id). is_below b.facts.retired z ≡ false) is (not_retired b u undecided)

      by_held : HeldIs b.facts b.memory → latest b.facts.installs k ≡ x
      by_held (Reads r found opened holds_it value) = value
      by_held (IsLogged logged) = absurd (logged status)
      by_held (WasGone none gone) = absurd (alive is (ended_stands b kept status none gone))
      by_held (IsPast none gone) = let z : true ≡ false = sym gone ∙ kept in cc

  right : (b : Before) (p : Plan) → Sound b → Shape b p → ReadsRight b p
  unfolding ReadsRight
  right b p sound (Answers out is) = subst (ReadsRight b) (sym is) (λ fair h r at ks ws logged claims there. cc)
  right b p sound (IsEnd u out fresh is) = subst (ReadsRight b) (sym is) (λ fair h r at ks ws logged claims there. cc)
  right b p sound (IsAbort u out fresh is) = subst (ReadsRight b) (sym is) (λ fair h r at ks ws logged claims there. absurd
      (subst (λ z. Claims z t at ks ws) (sym (some_same (Record.Abort u) r logged)) claims))
  right b p sound (IsClose u n c s held outcome out found allowed is) = subst (ReadsRight b) (sym is)
      (λ fair h r at ks ws logged claims there. absurd (subst (λ z. Claims z t at ks ws) (sym (some_same (Record.Outcome u outcome) r logged)) claims))
  right b p sound (IsSettle u s ps held out found is) = subst (ReadsRight b) (sym is) (λ fair h r at ks ws logged claims there. absurd
      (subst (λ z. Claims z t at ks ws) (sym (some_same (Record.Outcome u (Some s)) r logged)) claims))
  right b p sound (IsLock u ended needs phase out l is) = subst (ReadsRight b) (sym is) (λ fair h r at ks ws logged claims there. cc)
  right b p sound (IsWait u needs phase out w is) = subst (ReadsRight b) (sym is) (λ fair h r at ks ws logged claims there. cc)
  right b p sound (IsPromise u ended c s rs vs out l is) = subst (ReadsRight b) (sym is) (λ fair h r at ks ws logged claims there.
      let mine = subst (λ z. Claims z t at ks ws) (sym (some_same (promise u c s rs vs) r logged)) claims in
      told_latest b u rs sound l.undecided fair.change.0.0 fair.logged mine.0 (subst (λ l. IsAmong l k) (sym mine.2) there) h)
  right b p sound (IsDecision u ended needs s ps rs vs out l is) = subst (ReadsRight b) (sym is) (λ fair h r at ks ws logged claims there.
      let mine = subst (λ z. Claims z t at ks ws) (sym (some_same (decision u s ps rs vs) r logged)) claims in
      told_latest b u rs sound l.undecided fair.change.0.0 fair.logged mine.0 (subst (λ l. IsAmong l k) (sym mine.2) there) h)

  right_of : (b : Before) (i : Input) (p : Plan) → Sound b → ShapeOf b i p → ReadsRight b p
  unfolding ReadsRight
  right_of b i p sound (Acts shape) = right b p sound shape
  right_of b i p sound (IsForget up k2 served higher is) = subst (ReadsRight b) (sym is) (λ fair h r at ks ws logged claims there. absurd
      (subst (λ z. Claims z t at ks ws) (sym (some_same (Record.Horizon up) r logged)) claims))
  right_of b i p sound (IsRetire below k2 none up is) = subst (ReadsRight b) (sym is) (λ fair h r at ks ws logged claims there. absurd
      (subst (λ z. Claims z t at ks ws) (sym (some_same (Record.Retired below) r logged)) claims))
  right_of b i p sound (IsAdvance stride up k2 is) = subst (ReadsRight b) (sym is) (λ fair h r at ks ws logged claims there. by_test
      (nat_lt b.facts.floor up) r at ks ws logged claims)
    where
      by_test : (c : Bool) (r : Record) (at : ℕ) (ks : List Bytes) (ws : List Write) → cond c
          (Some (Record.Ceiling (min (up + stride) time_limit))) None ≡ Some r → Claims r t at ks ws → latest b.facts.installs k ≡ x
      by_test true r at ks ws logged claims = absurd (subst (λ z. Claims z t at ks ws) (sym (some_same _ r logged)) claims)
      by_test false r at ks ws logged claims = cc

  -- a reader's promise or decision is logged while the value that it was told is the latest
  pub held_logs : (setup : Setup) (f : Facts) (m : Memory) (now : Interval) (i : Input) (p : Plan) → IsSound setup.shard f m →
      plan_input setup (start_of_step most_rows setup f m) now i ≡ Ok p →
      PlanFair t k e (start_of_step most_rows setup f m) p → Held f m → (r : Record) (at : ℕ) (ks : List Bytes) (ws : List Write) → p.logged ≡ Some r →
      Claims r t at ks ws → IsAmong ks k → latest f.installs k ≡ x
  unfolding ReadsRight
  held_logs setup f m now i p sound is fair h =
      right_of (start_of_step most_rows setup f m) i p sound (shape_of most_rows setup f m now i p (by_id-claims m.rows sound.table.order) is) fair h
