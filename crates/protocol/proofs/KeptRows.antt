-- The rows stay a lawful lock table after a step, and each still fits the shard.
use Rattle.std.proofs.Common.{◌≡◌, Bool, true, false, not, ◌||◌, List, [], ◌∷◌, Some, refl, sym, ap, subst, ◌∙◌}
use Rattle.std.specs.Prelude.{IsTrue}
use Rattle.std.specs.List.{AllByRecursion, list_all}
use Rattle.std.proofs.lemmas.Bool.{false≢true, not-true, or_right}
use Rattle.units.specs.Ids.{Id, same_id}
use Rattle.units.specs.Locks.{Claim, exclusive, is_free, with_locks, wounded}
use Rattle.units.specs.LockLaws.{IsLawfulTable}
use Rattle.units.specs.declared.lock.Lock.{Lock}
use Rattle.units.proofs.ByIdLaws.{all-with}
use Rattle.units.proofs.ListLaws.{all_of_each, each_of_all, all-keep}
use Rattle.locks.specs.Table.{without_claims}
use Rattle.locks.specs.Ways.{gives_way, is_wounding, stands_in_way, is_blocked}
use Rattle.locks.proofs.Clashes.{ascends-with_locks}
use Rattle.locks.proofs.Release.{release_makes_way}
use Rattle.locks.proofs.TableLaws.{all_fail, lawful-without}
use Rattle.locks.proofs.WayLaws.{is_free-is, none_wounded}
use Rattle.message.specs.declared.message.Input.{Input}
use Rattle.protocol.specs.Rows.{Row, Phase, HasRow, IsPrepared, IsDecided, claim_of, claims, find_row, is_firm, needs_of, with_row, without_row, without_rows, held_in}
use Rattle.protocol.specs.Plan.{Plan, Before, carried, after_change, in_way, stands}
use Rattle.protocol.specs.Sound.{fits}
use Rattle.protocol.proofs.Agreement.{Sound}
use Rattle.protocol.proofs.ClaimsBeside.{IsBeside, OwnApart, Firms, all_both, lawful_put, own_of, keys_of, grant_beside, wait_beside}
use Rattle.protocol.proofs.InWay.{stands_at}
use Rattle.protocol.proofs.RowChanges.{row_as, find-without_rows_other}
use Rattle.protocol.proofs.RowTable.{with_row-is, claims-with_row, claims-without_row}
use Rattle.protocol.proofs.Shapes.{Shape, Answers, IsEnd, IsAbort, IsClose, IsSettle, IsLock, IsWait, IsPromise, IsDecision, ShapeOf, Acts, IsAdvance, IsForget, IsRetire}
use Rattle.protocol.proofs.Shapes.{IsLooseOther, IsCleared, is_loose, not_retired}
use Rattle.protocol.proofs.Choices.{others_gone, undecided}

-- ---- the lock table

claims-without_rows : (rows : List Row) (us : List Id) → claims (without_rows rows us) ≡ without_claims (claims rows) us
claims-without_rows rows [] = refl
claims-without_rows rows (u ∷ us) = claims-without_rows (without_row rows u) us ∙ ap (λ t. without_claims t us) (claims-without_row rows u)

lawful-without_row : (rows : List Row) (t : Id) → IsLawfulTable (claims rows) → IsLawfulTable (claims (without_row rows t))
lawful-without_row rows t lawful = subst IsLawfulTable (sym (claims-without_row rows t)) (lawful-without (claims rows) t lawful)

lawful-without_rows : (rows : List Row) (us : List Id) → IsLawfulTable (claims rows) → IsLawfulTable (claims (without_rows rows us))
lawful-without_rows rows [] lawful = lawful
lawful-without_rows rows (u ∷ us) lawful = lawful-without_rows (without_row rows u) us (lawful-without_row rows u lawful)

-- a row that is granted some locks
lawful-grant : (rows : List Row) (t : Id) (needs : List Lock) (phase : Phase) → IsLawfulTable (claims rows) → is_free (claims rows) t needs ≡ true
    → needs_of phase ≡ [] → Firms rows t (is_firm phase) → IsLawfulTable (claims (with_row rows (row_as t (with_locks (held_in rows t) needs) phase)))
lawful-grant rows t needs phase lawful free quiet firms =
    let r : Row = row_as t (with_locks (held_in rows t) needs) phase in
    let open_way : is_blocked t needs (claims rows) ≡ false = not-true _ (sym (is_free-is (claims rows) t needs) ∙ free) in
    subst IsLawfulTable (sym (claims-with_row rows r))
    (lawful_put (claims rows) (claim_of r) lawful (ascends-with_locks (held_in rows t) needs (keys_of rows t (find_row rows t) lawful refl))
    (all_both (OwnApart t (held_in rows t) (is_firm phase)) (λ a. stands_in_way t needs a ≡ false) (IsBeside (claim_of r))
    (λ a before stays. grant_beside t (held_in rows t) needs (claim_of r) a refl refl quiet before stays) (claims rows)
    (own_of rows t (is_firm phase) (find_row rows t) lawful refl firms) (all_fail (stands_in_way t needs) (claims rows) open_way)))

-- a row that waits, where it would end nobody
lawful-wait : (rows : List Row) (t : Id) (needs : List Lock) (phase : Phase) → IsLawfulTable (claims rows) → is_wounding t needs (claims rows) ≡ false
    → needs_of phase ≡ needs → Firms rows t (is_firm phase) → IsLawfulTable (claims (with_row rows (row_as t (held_in rows t) phase)))
lawful-wait rows t needs phase lawful quiet wants firms =
    let r : Row = row_as t (held_in rows t) phase in
    subst IsLawfulTable (sym (claims-with_row rows r))
    (lawful_put (claims rows) (claim_of r) lawful (keys_of rows t (find_row rows t) lawful refl)
    (all_both (OwnApart t (held_in rows t) (is_firm phase)) (λ a. gives_way t needs a ≡ false) (IsBeside (claim_of r))
    (λ a before stays. wait_beside t (held_in rows t) needs (claim_of r) a refl refl wants before stays) (claims rows)
    (own_of rows t (is_firm phase) (find_row rows t) lawful refl firms) (all_fail (gives_way t needs) (claims rows) quiet)))

-- once those in the way are gone, the request ends nobody
ends_nobody : (b : Before) (t : Id) (needs : List Lock) → is_wounding t needs (claims (without_rows b.memory.rows (in_way b t needs))) ≡ false
ends_nobody b t needs = by_test (is_wounding t needs left) refl
  where
    left : List Claim
    left = claims (without_rows b.memory.rows (in_way b t needs))

    none : wounded left t needs ≡ []
    none = ap (λ table. wounded table t needs) (claims-without_rows b.memory.rows (in_way b t needs)) ∙ (release_makes_way (claims b.memory.rows) t needs).quiet

    by_test : (c : Bool) → is_wounding t needs left ≡ c → c ≡ false
    by_test false e = refl
    by_test true e = absurd (false≢true (none_wounded left t needs none e))

-- a row becomes firm, or may be ended
firms_of : (b : Before) (t : Id) (ended : List Id) (firm : Bool) → AllByRecursion (IsLooseOther b.memory.rows t) ended → (firm || is_loose (stands b t)) ≡ true
    → Firms (without_rows b.memory.rows ended) t firm
firms_of b t ended firm gone e r found =
    let there : find_row b.memory.rows t ≡ Some r = sym (find-without_rows_other b.memory.rows ended t (others_gone b.memory.rows t ended gone)) ∙ found in
    by_test firm e there
  where
    by_test : (c : Bool) → (c || is_loose (stands b t)) ≡ true → find_row b.memory.rows t ≡ Some r → (c || is_loose (HasRow r.held r.phase)) ≡ true
    by_test true e there = refl
    by_test false e there =
        ap is_loose (sym (stands_at b t r (not_retired b t (undecided b t e)) there)) ∙ e

unfoldable pub KeepsTable : Before → Plan → Type 0
KeepsTable b p = IsLawfulTable (claims (carried p b.memory).rows)

grant_of : (b : Before) (t : Id) (ended : List Id) (needs : List Lock) (phase : Phase) → Sound b → IsCleared b.memory.rows t ended needs → needs_of phase ≡ []
    → (is_firm phase || is_loose (stands b t)) ≡ true
    → IsLawfulTable (claims (with_row (without_rows b.memory.rows ended) (row_as t (with_locks (held_in (without_rows b.memory.rows ended) t) needs) phase)))
grant_of b t ended needs phase sound clear quiet e =
    lawful-grant (without_rows b.memory.rows ended) t needs phase (lawful-without_rows b.memory.rows ended sound.table) clear.free quiet
    (firms_of b t ended (is_firm phase) clear.gone e)

pub kept_table : (b : Before) (p : Plan) → Sound b → Shape b p → KeepsTable b p
unfolding KeepsTable carried after_change
kept_table b p sound (Answers out e) = subst (KeepsTable b) (sym e) sound.table
kept_table b p sound (IsEnd t out fresh e) = subst (KeepsTable b) (sym e) (lawful-without_row b.memory.rows t sound.table)
kept_table b p sound (IsAbort t out fresh e) = subst (KeepsTable b) (sym e) (lawful-without_row b.memory.rows t sound.table)
kept_table b p sound (IsClose t n c at held outcome out found k e) = subst (KeepsTable b) (sym e) (lawful-without_row b.memory.rows t sound.table)
kept_table b p sound (IsSettle t at ps held out found e) = subst (KeepsTable b) (sym e) (lawful-without_row b.memory.rows t sound.table)
kept_table b p sound (IsLock t ended needs phase out l e) = subst (KeepsTable b) (sym e) (grant_of b t ended needs phase sound l.cleared l.quiet l.firmer)
kept_table b p sound (IsWait t needs phase out w e) =
    subst (KeepsTable b) (sym e)
    (lawful-wait (without_rows b.memory.rows (in_way b t needs)) t needs phase (lawful-without_rows b.memory.rows (in_way b t needs) sound.table)
    (ends_nobody b t needs) w.wants
    (firms_of b t (in_way b t needs) (is_firm phase) w.gone (or_right (is_firm phase) (is_loose (stands b t)) w.loose)))
kept_table b p sound (IsPromise t ended c at rs ws out l e) =
    subst (KeepsTable b) (sym e) (grant_of b t ended (exclusive ws) (IsPrepared c at) sound l.cleared refl refl)
kept_table b p sound (IsDecision t ended needs at ps rs ws out l e) =
    subst (KeepsTable b) (sym e) (grant_of b t ended needs (IsDecided at ps) sound l.cleared refl refl)

pub kept_table_of : (b : Before) (i : Input) (p : Plan) → Sound b → ShapeOf b i p → KeepsTable b p
unfolding KeepsTable carried after_change
kept_table_of b i p sound (Acts shape) = kept_table b p sound shape
kept_table_of b i p sound (IsAdvance stride at k e) = subst (KeepsTable b) (sym e) sound.table
kept_table_of b i p sound (IsForget at k low high e) = subst (KeepsTable b) (sym e) sound.table
kept_table_of b i p sound (IsRetire below k none up e) = subst (KeepsTable b) (sym e) sound.table

-- ---- rows that fit the shard

-- each row fits
abbrev AllFit : Before → List Row → Type 0
AllFit b rows = IsTrue (list_all (fits b.shard) rows)

unfoldable pub KeepsFit : Before → Plan → Type 0
KeepsFit b p = AllFit b (carried p b.memory).rows

fit-without_row : (b : Before) (rows : List Row) (t : Id) → AllFit b rows → AllFit b (without_row rows t)
fit-without_row b rows t fit =
    each_of_all (fits b.shard) (without_row rows t)
    (all-keep (λ (r : Row). fits b.shard r ≡ true) (λ (r : Row). not (same_id r.txn t)) rows (all_of_each (fits b.shard) rows fit))

fit-without_rows : (b : Before) (rows : List Row) (us : List Id) → AllFit b rows → AllFit b (without_rows rows us)
fit-without_rows b rows [] fit = fit
fit-without_rows b rows (u ∷ us) fit = fit-without_rows b (without_row rows u) us (fit-without_row b rows u fit)

fit-with_row : (b : Before) (rows : List Row) (r : Row) → fits b.shard r ≡ true → AllFit b rows → AllFit b (with_row rows r)
fit-with_row b rows r own fit =
    subst (AllFit b) (sym (with_row-is rows r))
    (each_of_all (fits b.shard) _ (all-with (λ (q : Row). fits b.shard q ≡ true) (λ (q : Row). q.txn) rows r own (all_of_each (fits b.shard) rows fit)))

fit_put : (b : Before) (ended : List Id) (r : Row) → Sound b → fits b.shard r ≡ true → AllFit b (with_row (without_rows b.memory.rows ended) r)
fit_put b ended r sound own = fit-with_row b (without_rows b.memory.rows ended) r own (fit-without_rows b b.memory.rows ended sound.fit)

kept_fit : (b : Before) (p : Plan) → Sound b → Shape b p → KeepsFit b p
unfolding KeepsFit carried after_change
kept_fit b p sound (Answers out e) = subst (KeepsFit b) (sym e) sound.fit
kept_fit b p sound (IsEnd t out fresh e) = subst (KeepsFit b) (sym e) (fit-without_row b b.memory.rows t sound.fit)
kept_fit b p sound (IsAbort t out fresh e) = subst (KeepsFit b) (sym e) (fit-without_row b b.memory.rows t sound.fit)
kept_fit b p sound (IsClose t n c at held outcome out found k e) = subst (KeepsFit b) (sym e) (fit-without_row b b.memory.rows t sound.fit)
kept_fit b p sound (IsSettle t at ps held out found e) = subst (KeepsFit b) (sym e) (fit-without_row b b.memory.rows t sound.fit)
kept_fit b p sound (IsLock t ended needs phase out l e) = subst (KeepsFit b) (sym e) (fit_put b ended _ sound (l.fit sound.fit))
kept_fit b p sound (IsWait t needs phase out w e) = subst (KeepsFit b) (sym e) (fit_put b (in_way b t needs) _ sound w.fit)
kept_fit b p sound (IsPromise t ended c at rs ws out l e) = subst (KeepsFit b) (sym e) (fit_put b ended _ sound refl)
kept_fit b p sound (IsDecision t ended needs at ps rs ws out l e) = subst (KeepsFit b) (sym e) (fit_put b ended _ sound refl)

pub kept_fit_of : (b : Before) (i : Input) (p : Plan) → Sound b → ShapeOf b i p → KeepsFit b p
unfolding KeepsFit carried after_change
kept_fit_of b i p sound (Acts shape) = kept_fit b p sound shape
kept_fit_of b i p sound (IsAdvance stride at k e) = subst (KeepsFit b) (sym e) sound.fit
kept_fit_of b i p sound (IsForget at k low high e) = subst (KeepsFit b) (sym e) sound.fit
kept_fit_of b i p sound (IsRetire below k none up e) = subst (KeepsFit b) (sym e) sound.fit
