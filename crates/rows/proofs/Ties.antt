-- The rows of the code and the claims of their lock table, place by place, make the rows that a contract sees.
use Rattle.std.proofs.Common.{◌≡◌, Bool, true, false, not, cond, List, [], ◌∷◌, map, Option, Some, None, refl, sym, ap, subst, ◌∙◌, filter, option_map}
use Rattle.units.specs.Lists.{head, tail, when}
use Rattle.units.specs.Ids.{Id, same_id, older}
use Rattle.units.specs.ById.{IsById, without_member, with_member}
use Rattle.units.specs.Locks.{Claim}
use Rattle.units.specs.declared.lock.Lock.{Lock}
use Rattle.units.proofs.IdLaws.{same_id-is, same_id_comm, older_not_same, older_not_younger, older_total, older-trans, older-along}
use Rattle.units.proofs.ByIdLaws.{AllYounger, later_are_younger, by_id-cons, by_id-map, found_is, found_has, found_none, without-map, with-map}
use Rattle.units.proofs.ByIdLaws.{without_none, later_differ}
use Rattle.units.proofs.ListLaws.{all_gives}
use Rattle.protocol.specs.Rows.{Row, Phase, Idle, claim_of, claims, find_row, with_row, without_row, held_by, held_in}
use Rattle.protocol.proofs.RowTable.{with_row-is, claims-find_row, claims-without_row, claims-with_row, claims-changed_row}
use Rattle.locks.specs.Table.{has_claim, with_claim, without_claim, change_claim, entrant, held_in_table, held_by_claim}
use Rattle.rows.specs.CodeRows.{txn_of, phase_of, row_of, has_txn, passes, put_in, without_txn}
use Rattle.rows.specs.RowTable.{RowTable, table_of, paired, held_first, put_row, has_phase}
use Rattle.rows.specs.declared.row.Row.{Row as CodeRow}

-- what a row of the code says without its claim, and the same of a row that a contract sees
abbrev pub face_of : CodeRow → Id × Phase
face_of r = (txn_of r, phase_of r)

abbrev pub face : Row → Id × Phase
face q = (q.txn, q.phase)

pub faces-paired : (rows : List CodeRow) (table : List Claim) → map face (paired rows table) ≡ map face_of rows
faces-paired [] table = refl
faces-paired (r ∷ rs) table = ap (λ l. face_of r ∷ l) (faces-paired rs (tail table))

-- rows are what they are paired to where they say the same and their claims are the table
paired_with_claims : (rows : List CodeRow) (qs : List Row) → map face_of rows ≡ map face qs → paired rows (claims qs) ≡ qs
paired_with_claims [] [] e = refl
paired_with_claims [] (q ∷ qs) e = cc
paired_with_claims (r ∷ rs) [] e = cc
paired_with_claims (r ∷ rs) (q ∷ qs) e =
    let first : face_of r ≡ face q = cc in
    let rest : map face_of rs ≡ map face qs = cc in
    ap (λ (f : Id × Phase). record { txn = f.0; held = q.held; phase = f.1 } ∷ paired rs (claims qs)) first ∙ ap (λ l. q ∷ l) (paired_with_claims rs qs rest)

pub paired_is : (rows : List CodeRow) (table : List Claim) (qs : List Row) → map face_of rows ≡ map face qs → claims qs ≡ table → paired rows table ≡ qs
paired_is rows table qs e tied = ap (paired rows) (sym tied) ∙ paired_with_claims rows qs e

-- the rows that a contract sees ascend by id where the code's do
by_id-unmap : {A B : Type 0} (id : A → Id) (of : B → Id) (g : A → B) → ((x : A) → of (g x) ≡ id x) → (xs : List A) → IsById of (map g xs) → IsById id xs
by_id-unmap id of g same [] up = tt
by_id-unmap {A = A} id of g same (x ∷ xs) up = by_id-cons id x xs (young xs (later_are_younger of (g x) (map g xs) up)) (by_id-unmap id of g same xs up.1)
  where
    young : (ys : List A) → AllYounger of (of (g x)) (map g ys) → AllYounger id (id x) ys
    young [] all = tt
    young (y ∷ ys) all = (sym (ap (λ i. older i (of (g y))) (same x) ∙ ap (older (id x)) (same y)) ∙ all.0, young ys all.1)

pub by_id-paired : (rows : List CodeRow) (table : List Claim) → IsById txn_of rows → IsById (λ q. q.txn) (paired rows table)
by_id-paired rows table up =
    by_id-unmap (λ (q : Row). q.txn) (λ (f : Id × Phase). f.0) face (λ q. refl) (paired rows table)
    (subst (IsById (λ (f : Id × Phase). f.0)) (sym (faces-paired rows table)) (by_id-map txn_of (λ (f : Id × Phase). f.0) face_of (λ r. refl) rows up))

-- the row that is found
pub found_row : (rows : List CodeRow) (table : List Claim) (t : Id) (y : CodeRow) → row_of rows t ≡ Some y
    → find_row (paired rows table) t ≡ Some (record { txn = t; held = held_in (paired rows table) t; phase = phase_of y })
found_row [] table t y e = cc
found_row (r ∷ rs) table t y e = by_test (same_id (txn_of r) t) refl (λ k. found_row rs (tail table) t y k) e
  where
    first : Row
    first = record { txn = txn_of r; held = held_first table; phase = phase_of r }

    rest : List Row
    rest = paired rs (tail table)

    by_test : (b : Bool) → same_id (txn_of r) t ≡ b
        → (row_of rs t ≡ Some y → find_row rest t ≡ Some (record { txn = t; held = held_in rest t; phase = phase_of y }))
        → head (cond b (r ∷ filter (λ x. same_id (txn_of x) t) rs) (filter (λ x. same_id (txn_of x) t) rs)) ≡ Some y
        → find_row (first ∷ rest) t ≡ Some (record { txn = t; held = held_in (first ∷ rest) t; phase = phase_of y })
    by_test true s further k =
        let is : r ≡ y = cc in
        rw s (ap (λ (i : Id). Some (record { txn = i; held = held_first table; phase = phase_of r })) (same_id-is (txn_of r) t s)
        ∙ ap (λ (x : CodeRow). Some (record { txn = t; held = held_first table; phase = phase_of x })) is)
    by_test false s further k = rw s (further k)

-- none is found where the code finds none
pub found_no_row : (rows : List CodeRow) (table : List Claim) (t : Id) → row_of rows t ≡ None → find_row (paired rows table) t ≡ None
found_no_row [] table t e = refl
found_no_row (r ∷ rs) table t e = by_test (same_id (txn_of r) t) refl (λ k. found_no_row rs (tail table) t k) e
  where
    by_test : (b : Bool) → same_id (txn_of r) t ≡ b → (row_of rs t ≡ None → find_row (paired rs (tail table)) t ≡ None)
        → head (cond b (r ∷ filter (λ x. same_id (txn_of x) t) rs) (filter (λ x. same_id (txn_of x) t) rs)) ≡ None
        → find_row (paired (r ∷ rs) table) t ≡ None
    by_test true s further k = cc
    by_test false s further k = rw s (further k)

-- a test of the row that a contract sees is one of the code's row
pub has_phase-is : (test : Phase → Bool) (rows : List CodeRow) (table : List Claim) (t : Id) → has_phase test (paired rows table) t ≡ passes test rows t
has_phase-is test rows table t = by_row (row_of rows t) refl
  where
    tested : Option Row → Bool
    tested o = when (λ (r : Row). test r.phase) o

    by_row : (o : Option CodeRow) → row_of rows t ≡ o → has_phase test (paired rows table) t ≡ when (λ (r : CodeRow). test (phase_of r)) o
    by_row None e = ap tested (found_no_row rows table t e)
    by_row (Some y) e = ap tested (found_row rows table t y e)

-- so one that a contract sees to pass a test passes it
pub passes_seen : {seen : RowTable} (test : Phase → Bool) (rows : List CodeRow) (table : List Claim) (t : Id)
    → table_of rows table ≡ seen → has_phase test seen.rows t ≡ true → passes test rows t ≡ true
passes_seen test rows table t view h = sym (has_phase-is test rows table t) ∙ ap (λ (s : RowTable). has_phase test s.rows t) view ∙ h

-- a transaction whose row passes a test has a row
pub passes_there : (test : Phase → Bool) (rows : List CodeRow) (t : Id) → passes test rows t ≡ true → has_txn rows t ≡ true
passes_there test rows t h = by_test (has_txn rows t) refl
  where
    by_test : (b : Bool) → has_txn rows t ≡ b → b ≡ true
    by_test true e = refl
    by_test false e = ap (when (λ (r : CodeRow). test (phase_of r))) (sym (found_none txn_of rows t e)) ∙ h

-- a row that is found passes the test that its transaction passes
pub found_passes : (test : Phase → Bool) (rows : List CodeRow) (t : Id) (y : CodeRow) → row_of rows t ≡ Some y → passes test rows t ≡ true →
    test (phase_of y) ≡ true
found_passes test rows t y e h = sym (ap (when (λ (r : CodeRow). test (phase_of r))) e) ∙ h

-- what the table says that a transaction holds
pub held_is : (rows : List CodeRow) (table : List Claim) (t : Id) → claims (paired rows table) ≡ table → held_in_table table t ≡ held_in (paired rows table) t
held_is rows table t tied =
    ap (λ s. held_in_table s t) (sym tied) ∙ ap held_by_claim (claims-find_row (paired rows table) t) ∙ by_row (find_row (paired rows table) t)
  where
    by_row : (o : Option Row) → held_by_claim (option_map claim_of o) ≡ held_by o
    by_row None = refl
    by_row (Some q) = refl

-- the table has a claim of each row's id
pub claim_there : (rows : List CodeRow) (table : List Claim) (t : Id) (y : CodeRow) → claims (paired rows table) ≡ table → row_of rows t ≡ Some y →
    has_claim table t ≡ true
claim_there rows table t y tied e =
    subst (λ s. has_claim s t ≡ true) tied
    (found_has (λ (c : Claim). c.txn) (claims (paired rows table)) t _ (claims-find_row (paired rows table) t
    ∙ ap (option_map claim_of) (found_row rows table t y e)))

-- the row that is found is of the id
pub found_txn : (rows : List CodeRow) (t : Id) (y : CodeRow) → row_of rows t ≡ Some y → txn_of y ≡ t
found_txn rows t y e = same_id-is (txn_of y) t (found_is txn_of rows t y e)

-- a member that is older than the others stands in front
with-in_front : {A : Type 0} (id : A → Id) (ys : List A) (y : A) → AllYounger id (id y) ys → with_member id ys y ≡ y ∷ ys
with-in_front id [] y all = refl
with-in_front id (z ∷ ys) y all =
    let other : same_id (id z) (id y) ≡ false = same_id_comm (id z) (id y) ∙ older_not_same (id y) (id z) all.0 in
    let behind : older (id z) (id y) ≡ false = older_not_younger (id y) (id z) all.0 in
    rw (other, behind) refl

-- what is put in where it was taken out is given anew
with-without : {A : Type 0} (id : A → Id) (xs : List A) (y : A) → IsById id xs → with_member id (without_member id xs (id y)) y ≡ with_member id xs y
with-without id [] y up = refl
with-without {A = A} id (x ∷ xs) y up = by_test (same_id (id x) (id y)) refl (with-without id xs y up.1)
  where
    young : AllYounger id (id x) xs
    young = later_are_younger id x xs up

    by_age : (b : Bool) → older (id x) (id y) ≡ b → same_id (id x) (id y) ≡ false → with_member id (without_member id xs (id y)) y ≡ with_member id xs y
        → cond b (x ∷ with_member id (without_member id xs (id y)) y) (y ∷ x ∷ without_member id xs (id y)) ≡ cond b (x ∷ with_member id xs y) (y ∷ x ∷ xs)
    by_age true o s rest = ap (λ l. x ∷ l) rest
    by_age false o s rest =
        let first : older (id y) (id x) ≡ true = older_total (id x) (id y) s o in
        ap (λ l. y ∷ x ∷ l) (without_none id xs (id y)
        (all_gives (λ z. older (id x) (id z) ≡ true) (λ z. same_id (id z) (id y) ≡ false)
        (λ z k. same_id_comm (id z) (id y) ∙ older_not_same (id y) (id z) (older-trans (id y) (id x) (id z) first k)) xs young))

    by_test : (b : Bool) → same_id (id x) (id y) ≡ b → with_member id (without_member id xs (id y)) y ≡ with_member id xs y
        → with_member id (cond (not b) (x ∷ without_member id xs (id y)) (without_member id xs (id y))) y
        ≡ cond b (y ∷ xs) (cond (older (id x) (id y)) (x ∷ with_member id xs y) (y ∷ x ∷ xs))
    by_test true s rest =
        ap (λ l. with_member id l y) (without_none id xs (id y) (later_differ id (id y) x xs s young))
        ∙ with-in_front id xs y (all_gives (λ z. older (id x) (id z) ≡ true) (λ z. older (id y) (id z) ≡ true)
        (λ z k. sym (older-along (id x) (id y) (id z) s) ∙ k) xs young)
    by_test false s rest = rw s (by_age (older (id x) (id y)) refl s rest)

-- what a method leaves: the claims are those of the rows, and a contract sees these rows
pub record IsMoved (rows : List CodeRow) (table : List Claim) (seen : List Row) : Type 0 where
  pub tied : claims (paired rows table) ≡ table
  pub rows_are : paired rows table ≡ seen

moved_to : (rows : List CodeRow) (table : List Claim) (seen : List Row) → map face_of rows ≡ map face seen → claims seen ≡ table → IsMoved rows table seen
moved_to rows table seen faces tied = let is = paired_is rows table seen faces tied in record { tied = ap claims is ∙ tied; rows_are = is }

-- a row is put in
put_seen : (rows new : List CodeRow) (table next : List Claim) (z : CodeRow) (x : Row) → new ≡ put_in rows z → face_of z ≡ face x
    → claims (with_row (paired rows table) x) ≡ next → IsMoved new next (with_row (paired rows table) x)
put_seen rows new table next z x is same tied =
    let first : Id × Phase → Id = λ (f : Id × Phase). f.0 in
    let seen : List Row = paired rows table in
    moved_to new next (with_row seen x)
    (ap (map face_of) is ∙ sym (with-map txn_of first face_of (λ r. refl) rows z)
    ∙ ap (λ l. with_member first l (face_of z)) (sym (faces-paired rows table)) ∙ ap (with_member first (map face seen)) same
    ∙ with-map (λ (q : Row). q.txn) first face (λ q. refl) seen x ∙ ap (map face) (sym (with_row-is seen x))) tied

-- a row is given anew, and its claim is changed
pub changed : (rows new : List CodeRow) (table next : List Claim) (t : Id) (y z : CodeRow) (held : List Lock) (f : Claim → Claim)
    → IsById txn_of rows → claims (paired rows table) ≡ table → row_of rows t ≡ Some y → txn_of z ≡ t
    → new ≡ put_in (without_txn rows t) z → next ≡ change_claim table t f
    → claim_of (record { txn = t; held = held; phase = phase_of z }) ≡
    f (claim_of (record { txn = t; held = held_in (paired rows table) t; phase = phase_of y }))
    → IsMoved new next (put_row (paired rows table) t held (phase_of z))
changed rows new table next t y z held f up tied found same is next_is claim =
    let seen : List Row = paired rows table in
    let x : Row = record { txn = t; held = held; phase = phase_of z } in
    let old : Row = record { txn = t; held = held_in seen t; phase = phase_of y } in
    put_seen rows new table next z x
    (is ∙ ap (λ i. put_in (without_txn rows i) z) (sym same) ∙ with-without txn_of rows z up)
    (ap (λ (i : Id). (i, phase_of z)) same)
    (claims-changed_row seen old x f (by_id-paired rows table up) (found_row rows table t y found) refl claim
    ∙ ap (λ s. change_claim s t f) tied ∙ sym next_is)

-- a row is put in for a transaction that has entered
pub admitted : (rows new : List CodeRow) (table next : List Claim) (t : Id) (z : CodeRow)
    → claims (paired rows table) ≡ table → txn_of z ≡ t → phase_of z ≡ Idle → new ≡ put_in rows z → next ≡ with_claim table (entrant t)
    → IsMoved new next (put_row (paired rows table) t [] Idle)
admitted rows new table next t z tied same idle is next_is =
    let seen : List Row = paired rows table in
    let x : Row = record { txn = t; held = []; phase = Idle } in
    put_seen rows new table next z x is (ap (λ (i : Id). (i, phase_of z)) same ∙ ap (λ (p : Phase). (t, p)) idle)
    (claims-with_row seen x ∙ ap (λ s. with_claim s (entrant t)) tied ∙ sym next_is)

-- a row goes, with its claim
pub gone : (rows new : List CodeRow) (table next : List Claim) (t : Id)
    → claims (paired rows table) ≡ table → new ≡ without_txn rows t → next ≡ without_claim table t → IsMoved new next (without_row (paired rows table) t)
gone rows new table next t tied is next_is =
    let first : Id × Phase → Id = λ (f : Id × Phase). f.0 in
    let seen : List Row = paired rows table in
    moved_to new next (without_row seen t)
    (ap (map face_of) is ∙ sym (without-map txn_of first face_of (λ r. refl) rows t)
    ∙ ap (λ l. without_member first l t) (sym (faces-paired rows table))
    ∙ without-map (λ (q : Row). q.txn) first face (λ q. refl) seen t)
    (claims-without_row seen t ∙ ap (λ s. without_claim s t) tied ∙ sym next_is)
