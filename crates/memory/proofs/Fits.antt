-- Who may ask for locks, and what the one that is ready may do.
use Rattle.std.specs.List.{list_any}
use Rattle.std.proofs.Common.{◌≡◌, ℕ, nat_le, nat_lt, Bool, true, false, ◌&&◌, not, List, [], ◌∷◌, length, Option, Some, None, IfSome, refl, sym, ap}
use Rattle.std.proofs.Common.{subst, ◌∙◌, arith, option_map}
use Rattle.std.proofs.lemmas.Bool.{false≢true}
use Rattle.std.proofs.lemmas.Bool.Decides.{nat_tests}
use Rattle.units.specs.Limits.{most_rows}
use Rattle.units.specs.Ids.{Id, same_id}
use Rattle.units.specs.ById.{IsById, find_member}
use Rattle.units.specs.Locks.{Claim, is_free, is_waiting, wounded, blockers, ready}
use Rattle.units.specs.LockLaws.{IsOldestReady}
use Rattle.units.specs.declared.lock.Lock.{Lock}
use Rattle.rows.proofs.Oldest.{ready_is_oldest}
use Rattle.protocol.specs.Rows.{Row, Phase, Collecting, IsPrepared, IsDecided, claim_of, claims, find_row, needs_of}
use Rattle.protocol.specs.Plan.{Before, is_crowded}
use Rattle.protocol.proofs.RowTable.{claims-by_id, claims-find_row}
use Rattle.protocol.proofs.InWay.{free_when_ready}
use Rattle.rows.specs.CodeRows.{is_reading}
use Rattle.rows.specs.RowTable.{needs_in}
use Rattle.memory.specs.Carry.{Asks, may_ask, may_end}
use Rattle.memory.proofs.States.{any-first}

-- ---- room for one more

roomy : (capacity count : ℕ) → (nat_le capacity count && not false) ≡ false → nat_lt count capacity ≡ true
roomy capacity count e = grind (arith, nat_tests)

below : (capacity count : ℕ) → nat_le capacity count ≡ false → nat_lt count capacity ≡ true
below capacity count e = grind (arith, nat_tests)

-- who may be ended may ask, where there is room
pub may_ask_roomy : (b : Before) (t : Id) → b.capacity ≡ most_rows → is_crowded b t ≡ false → may_end b.memory.rows t ≡ true → may_ask b.memory.rows t ≡ true
may_ask_roomy b t limit room may = by_row (find_row b.memory.rows t) refl may
  where
    rows : List Row
    rows = b.memory.rows

    by_row : (o : Option Row) → find_row rows t ≡ o → elim o as (λ _. Bool) [ None ↦ true | Some r ↦ is_reading r.phase ] ≡ true
        → elim o as (λ _. Bool) [ None ↦ nat_lt (length rows) most_rows | Some r ↦ is_reading r.phase ] ≡ true
    by_row None e m =
        let absent : list_any (λ r. same_id r.txn t) rows ≡ false =
        any-first (λ r. same_id r.txn t) rows ∙ ap (λ (o : Option Row). elim o as (λ _. Bool) [ None ↦ false | Some r ↦ true ]) e in
        let counted : (nat_le b.capacity (length rows) && not false) ≡ false = ap (λ a. nat_le b.capacity (length rows) && not a) (sym absent) ∙ room in
        subst (λ n. nat_lt (length rows) n ≡ true) limit (roomy b.capacity (length rows) counted)
    by_row (Some r) e m = m

-- where the rows are fewer than the limit
pub may_ask_below : (rows : List Row) (t : Id) → nat_le most_rows (length rows) ≡ false → may_end rows t ≡ true → may_ask rows t ≡ true
may_ask_below rows t few may = by_row (find_row rows t) may
  where
    by_row : (o : Option Row) → elim o as (λ _. Bool) [ None ↦ true | Some r ↦ is_reading r.phase ] ≡ true
        → elim o as (λ _. Bool) [ None ↦ nat_lt (length rows) most_rows | Some r ↦ is_reading r.phase ] ≡ true
    by_row None m = below most_rows (length rows) few
    by_row (Some r) m = m

-- ---- the one that is ready

-- nobody is in the way of a request that is free
none_there : (cs : List Claim) (more : Bool) → (not (list_any (λ (c : Claim). true) cs) && more) ≡ true → cs ≡ []
none_there [] more e = refl
none_there (c ∷ cs) more e = absurd (false≢true e)

pub nobody_wounded : (table : List Claim) (t : Id) (needs : List Lock) → is_free table t needs ≡ true → wounded table t needs ≡ []
unfolding is_free wounded
nobody_wounded table t needs e = rw (none_there (blockers table t needs) _ e) refl

-- who waits reads
waits_reading : (phase : Phase) → list_any (λ (l : Lock). true) (needs_of phase) ≡ true → is_reading phase ≡ true
waits_reading (Collecting l ps rs ws votes) e = absurd (false≢true e)
waits_reading (IsPrepared c p) e = absurd (false≢true e)
waits_reading (IsDecided s ps) e = absurd (false≢true e)
waits_reading _ e = refl

-- its row
waiting_row : (rows : List Row) (t : Id) (c : Claim) → find_member (λ (d : Claim). d.txn) (claims rows) t ≡ Some c → is_waiting c ≡ true
    → (r : Row) × (find_row rows t ≡ Some r) × (is_reading r.phase ≡ true)
waiting_row rows t c there waits = by_row (find_row rows t) refl
  where
    some_is : (d : Claim) → Some c ≡ Some d → c ≡ d
    some_is d e = cc

    by_row : (o : Option Row) → find_row rows t ≡ o → (r : Row) × (o ≡ Some r) × (is_reading r.phase ≡ true)
    by_row None e =
        let gone : Some c ≡ None = sym there ∙ claims-find_row rows t ∙ ap (option_map claim_of) e in
        cc
    by_row (Some r) e =
        let same : c ≡ claim_of r = some_is (claim_of r) (sym there ∙ claims-find_row rows t ∙ ap (option_map claim_of) e) in
        (r, refl, waits_reading r.phase (subst (λ (d : Claim). is_waiting d ≡ true) same waits))

-- it may go on, and nobody is ended for it
pub ready_asks : (rows : List Row) (o : Option Id) → IsById (λ r. r.txn) rows → ready (claims rows) ≡ o
    → IfSome o (λ t. Asks rows t [] (needs_in rows t) true)
ready_asks rows None up e = tt
ready_asks rows (Some t) up e =
    let oldest : IsOldestReady (claims rows) (Some t) = subst (IsOldestReady (claims rows)) e (ready_is_oldest (claims rows) (claims-by_id rows up)) in
    let row = waiting_row rows t oldest.0 oldest.1 oldest.2.0 in
    let free : is_free (claims rows) t (needs_of (row.0).phase) ≡ true = free_when_ready rows t row.0 up e row.1 in
    let needs : needs_in rows t ≡ needs_of (row.0).phase = rw row.1 refl in (
      ap (λ (o : Option Row). elim o as (λ _. Bool) [ None ↦ nat_lt (length rows) most_rows | Some r ↦ is_reading r.phase ]) row.1 ∙ row.2,
      sym (nobody_wounded (claims rows) t (needs_in rows t) (subst (λ ns. is_free (claims rows) t ns ≡ true) (sym needs) free)),
      subst (λ ns. is_free (claims rows) t ns ≡ true) (sym needs) free,
    )
