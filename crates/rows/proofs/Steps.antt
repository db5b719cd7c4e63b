-- What each step does to the rows: one row is taken out, and another put in its place or none.
use Rattle.std.proofs.Common.{◌≡◌, suc, ◌<◌, Bool, true, false, ◌||◌, not, cond, List, [], ◌∷◌, length, map, Option, Some, None, Bor, refl, sym, ap}
use Rattle.std.proofs.Common.{subst, ◌∙◌, arith, option_map}
use Rattle.std.proofs.lemmas.Bool.{false≢true}
use Rattle.std.specs.List.{AllByRecursion, find, list_any}
use Rattle.std.specs.Option.{option_copied, MatchOption}
use Rattle.units.specs.Limits.{most_rows}
use Rattle.units.specs.Lists.{tail, when}
use Rattle.units.specs.Ids.{Id, older, same_id}
use Rattle.units.specs.ById.{has_member, without_member}
use Rattle.units.specs.Locks.{Claim}
use Rattle.units.specs.declared.lock.Lock.{Lock}
use Rattle.units.proofs.ByIdLaws.{all-without, found_has, without-map}
use Rattle.units.proofs.ListLaws.{find-is}
use Rattle.units.proofs.Folds.{there_first}
use Rattle.record.specs.declared.record.Record.{Record}
use Rattle.protocol.specs.Rows.{Row, Phase, Idle, claim_of}
use Rattle.protocol.specs.Rows.{claims, find_row, without_row, needs_of, is_firm, held_in, without_rows}
use Rattle.protocol.proofs.RowTable.{claims-find_row, claims-without_row}
use Rattle.locks.specs.Table.{Token, has_claim, without_claim, without_claims, change_claim, made_firm}
use Rattle.rows.specs.States.{is_prepare_of, is_commit_of, prepared_by, decided_by}
use Rattle.rows.specs.CodeRows.{token_of, txn_of, phase_of, row_of, has_txn, passes, put_in, without_txn, is_reading, is_idle, IsOut}
use Rattle.rows.specs.RowTable.{RowTable, table_of, paired, has_phase, put_row, without_token, phase_by}
use Rattle.rows.specs.declared.row.Row.{Row as CodeRow}
use Rattle.rows.specs.declared.row.Row.TheVariants.{Prepared, Decided}
use Rattle.rows.proofs.Lists.{length-keep}
use Rattle.rows.proofs.Ties.{IsMoved, changed, gone, found_txn, found_row, found_no_row, has_phase-is, claim_there}

-- no member is left of the id that was taken out
gone_of : {A : Type 0} (id : A → Id) (t : Id) (xs : List A) → AllByRecursion (λ y. same_id (id y) t ≡ false) xs → has_member id xs t ≡ false
gone_of id t [] all = refl
gone_of id t (x ∷ xs) all = ap (λ b. b || has_member id xs t) all.0 ∙ gone_of id t xs all.1

-- one member fewer
fewer : {A : Type 0} (id : A → Id) (t : Id) (xs : List A) → has_member id xs t ≡ true → length (without_member id xs t) < length xs
fewer id t [] h = absurd (false≢true h)
fewer id t (x ∷ xs) h = by_test (same_id (id x) t) h (λ k. fewer id t xs k)
  where
    by_test : (b : Bool) → (b || has_member id xs t) ≡ true → (has_member id xs t ≡ true → length (without_member id xs t) < length xs)
        → length (cond (not b) (x ∷ without_member id xs t) (without_member id xs t)) < length (x ∷ xs)
    by_test true k rest = omega (arith, length-keep (λ y. not (same_id (id y) t)) xs)
    by_test false k rest = omega (arith, rest k)

-- a row that was taken out is absent, and leaves space
pub record IsTaken (rows : List CodeRow) (t : Id) : Type 0 where
  pub absent : has_txn rows t ≡ false
  pub space : length rows < most_rows

pub taken : {rows mid : List CodeRow} {t : Id} {y : CodeRow} → IsOut rows mid t y → IsTaken mid t
taken {rows = rows} {t = t} {y = y} out = record {
  absent = ap (λ l. has_txn l t) out.rest ∙ gone_of txn_of t (without_txn rows t) (all-without txn_of rows t);
  space = subst (λ (l : List CodeRow). length l < most_rows) (sym out.rest)
      (omega (arith, fewer txn_of t rows (found_has txn_of rows t y out.row), out.laws.few));
}

-- it is the transaction's, which is absent then also by the name that the row gives it
pub out_txn : {rows mid : List CodeRow} {t : Id} {y : CodeRow} → IsOut rows mid t y → txn_of y ≡ t
out_txn {rows = rows} {t = t} {y = y} out = found_txn rows t y out.row

pub absent_out : {rows mid : List CodeRow} {t : Id} {y : CodeRow} (i : Id) → IsOut rows mid t y → i ≡ txn_of y → has_txn mid i ≡ false
absent_out {mid = mid} i out same = ap (has_txn mid) (same ∙ out_txn out) ∙ (taken out).absent

-- what is asked of the lock table and of the row's transaction is asked of what a contract sees
pub asked : {rows mid : List CodeRow} {t : Id} {y : CodeRow} {seen : RowTable} {A : Type 0} (f : List Claim → Id → A) (table : List Claim)
    → IsOut rows mid t y → claims (paired rows table) ≡ table → table_of rows table ≡ seen → f table (txn_of y) ≡ f (claims seen.rows) t
asked {t = t} f table out tied view =
    ap (f table) (out_txn out) ∙ ap (λ (s : List Claim). f s t) (sym tied) ∙ ap (λ (s : RowTable). f (claims s.rows) t) view

-- the row of a transaction is taken out and another put in, and its claim is changed
pub stepped : {rows mid : List CodeRow} {t : Id} {y : CodeRow} (new : List CodeRow) (table next : List Claim) (z : CodeRow) (held : List Lock)
    (f : Claim → Claim) → IsOut rows mid t y → claims (paired rows table) ≡ table
    → new ≡ put_in mid z → txn_of z ≡ txn_of y → next ≡ change_claim table (txn_of y) f
    → claim_of (record { txn = t; held = held; phase = phase_of z }) ≡
    f (claim_of (record { txn = t; held = held_in (paired rows table) t; phase = phase_of y }))
    → IsMoved new next (put_row (paired rows table) t held (phase_of z))
stepped {rows = rows} {t = t} {y = y} new table next z held f out tied new_is same next_is claim =
    changed rows new table next t y z held f out.laws.order tied out.row (same ∙ out_txn out)
    (new_is ∙ ap (λ l. put_in l z) out.rest)
    (next_is ∙ ap (λ i. change_claim table i f) (out_txn out)) claim

-- where its claim stays, as the table does
pub kept : {rows mid : List CodeRow} {t : Id} {y : CodeRow} (new : List CodeRow) (table : List Claim) (z : CodeRow)
    → IsOut rows mid t y → claims (paired rows table) ≡ table
    → new ≡ put_in mid z → txn_of z ≡ txn_of y → needs_of (phase_of z) ≡ needs_of (phase_of y) → is_firm (phase_of z) ≡ is_firm (phase_of y)
    → IsMoved new table (put_row (paired rows table) t (held_in (paired rows table) t) (phase_of z))
kept {rows = rows} {t = t} {y = y} new table z out tied new_is same needs firm =
    stepped new table table z (held_in (paired rows table) t) (λ c. c) out tied new_is same
    (sym (unchanged table))
    (ap (λ (n : List Lock). record { txn = t; held = held_in (paired rows table) t; needs = n; firm = is_firm (phase_of z) }) needs
    ∙ ap (λ (b : Bool). record { txn = t; held = held_in (paired rows table) t; needs = needs_of (phase_of y); firm = b }) firm)
  where
    unchanged : (cs : List Claim) → change_claim cs (txn_of y) (λ c. c) ≡ cs
    unchanged [] = refl
    unchanged (c ∷ cs) = by_test (same_id c.txn (txn_of y)) (unchanged cs)
      where
        by_test : (b : Bool) → change_claim cs (txn_of y) (λ c. c) ≡ cs → cond b c c ∷ change_claim cs (txn_of y) (λ c. c) ≡ c ∷ cs
        by_test true e = ap (λ l. c ∷ l) e
        by_test false e = ap (λ l. c ∷ l) e

-- the row of a transaction is taken out, and its claim goes
pub left : {rows mid : List CodeRow} {t : Id} {y : CodeRow} {seen : RowTable} (table next : List Claim)
    → IsOut rows mid t y → claims (paired rows table) ≡ table → table_of rows table ≡ seen → next ≡ without_claim table (txn_of y)
    → IsMoved mid next (without_row seen.rows t)
left {rows = rows} {mid = mid} {t = t} table next out tied view next_is =
    let moved = gone rows mid table next t tied out.rest (next_is ∙ ap (without_claim table) (out_txn out)) in
    record { tied = moved.tied; rows_are = moved.rows_are ∙ ap (λ (s : RowTable). without_row s.rows t) view }

-- the table has a claim of the token of the row that was taken out
pub has_its_claim : {rows mid : List CodeRow} {t : Id} {y : CodeRow} (table : List Claim) → IsOut rows mid t y → claims (paired rows table) ≡ table
    → has_claim table (txn_of y) ≡ true
has_its_claim {rows = rows} {t = t} {y = y} table out tied = ap (has_claim table) (out_txn out) ∙ claim_there rows table t y tied out.row

-- an idle row needs nothing
pub idle_is : (p : Phase) → is_idle p ≡ true → p ≡ Idle
idle_is Idle e = refl
idle_is _ e = absurd (false≢true e)

-- a transaction whose row passes a test passes a weaker one
pub passes_more : (p q : Phase → Bool) → ((x : Phase) → p x ≡ true → q x ≡ true) → (rows : List CodeRow) (t : Id) → passes p rows t ≡ true →
    passes q rows t ≡ true
passes_more p q weaker rows t h = by_row (row_of rows t) h
  where
    by_row : (o : Option CodeRow) → when (λ r. p (phase_of r)) o ≡ true → when (λ r. q (phase_of r)) o ≡ true
    by_row None k = k
    by_row (Some r) k = weaker (phase_of r) k

-- one that is idle reads
pub idle_reads : (rows : List CodeRow) (t : Id) → passes is_idle rows t ≡ true → passes is_reading rows t ≡ true
idle_reads rows t h = passes_more is_idle is_reading (λ p e. ap is_reading (idle_is p e)) rows t h

-- one that becomes firm has the claim made firm
pub firm_claim : (t : Id) (held : List Lock) (p q : Phase) → p ≡ Idle → needs_of q ≡ [] → is_firm q ≡ true
    → claim_of (record { txn = t; held = held; phase = q }) ≡ made_firm (claim_of (record { txn = t; held = held; phase = p }))
firm_claim t held p q idle needs firm =
    ap (λ (n : List Lock). record { txn = t; held = held; needs = n; firm = is_firm q }) (needs ∙ sym (ap needs_of idle))
    ∙ ap (λ (b : Bool). record { txn = t; held = held; needs = needs_of p; firm = b }) firm

-- the states after a promise and a decision
pub prepared_token : (k : Token) (r : Record) → (prepared_by k r).token ≡ k
prepared_token k (Record.Prepare p) = refl
prepared_token k _ = refl

pub prepared_phase : (t : Id) (k : Token) (r : Record) → is_prepare_of t r ≡ true → phase_of (Prepared (prepared_by k r)) ≡ phase_by r
prepared_phase t k (Record.Prepare p) e = refl
prepared_phase t k _ e = absurd (false≢true e)

pub decided_token : (k : Token) (r : Record) → (decided_by k r).token ≡ k
decided_token k (Record.Prepare p) = refl
decided_token k _ = refl

pub decided_phase : (t : Id) (k : Token) (r : Record) → is_commit_of t r ≡ true → phase_of (Decided (decided_by k r)) ≡ phase_by r
decided_phase t k (Record.Commit c) e = refl
decided_phase t k _ e = absurd (false≢true e)

-- as many rows are seen as the code has
pub length-paired : (rows : List CodeRow) (table : List Claim) → length (paired rows table) ≡ length rows
length-paired [] table = refl
length-paired (r ∷ rs) table = ap suc (length-paired rs (tail table))

-- a row of a lower id is one of the code's
pub any-paired : (below : Id) (rows : List CodeRow) (table : List Claim)
    → list_any (λ r. older (txn_of r) below) rows ≡ list_any (λ r. older r.txn below) (paired rows table)
any-paired below [] table = refl
any-paired below (r ∷ rs) table = ap (λ b. older (txn_of r) below || b) (any-paired below rs (tail table))

-- the row that is found, as a reference
pub matched : (o : Option (Bor CodeRow)) (rows : List CodeRow) (table : List Claim) (t : Id) → option_copied o ≡ find (λ r. same_id (txn_of r) t) rows
    → MatchOption o (find_row (paired rows table) t ≡ None)
    (λ r. find_row (paired rows table) t ≡ Some (record { txn = t; held = held_in (paired rows table) t; phase = phase_of r.now }))
matched None rows table t e = found_no_row rows table t (sym (e ∙ find-is (λ r. same_id (txn_of r) t) rows))
matched (Some r) rows table t e = found_row rows table t r.now (sym (e ∙ find-is (λ r. same_id (txn_of r) t) rows))

-- a test of it is one of the row that a contract sees
pub tested : (test : Phase → Bool) (o : Option CodeRow) (rows : List CodeRow) (table : List Claim) (t : Id) → o ≡ find (λ r. same_id (txn_of r) t) rows
    → when (λ r. test (phase_of r)) o ≡ has_phase test (paired rows table) t
tested test o rows table t e =
    ap (when (λ (r : CodeRow). test (phase_of r))) (e ∙ find-is (λ r. same_id (txn_of r) t) rows) ∙ sym (has_phase-is test rows table t)

-- a transaction without a row has none of the code's, and no claim
pub absent_row : (rows : List CodeRow) (table : List Claim) (t : Id) → find_row (paired rows table) t ≡ None → has_txn rows t ≡ false
absent_row rows table t none =
    sym (there_first (λ (r : CodeRow). same_id (txn_of r) t) rows) ∙ sym (has_phase-is (λ (p : Phase). true) rows table t) ∙ ap (when (λ (r : Row). true)) none

pub absent_claim : (rows : List CodeRow) (table : List Claim) (t : Id) → claims (paired rows table) ≡ table → find_row (paired rows table) t ≡ None →
    has_claim table t ≡ false
absent_claim rows table t tied none =
    ap (λ (s : List Claim). has_claim s t) (sym tied)
    ∙ sym (there_first (λ (c : Claim). same_id c.txn t) (claims (paired rows table)))
    ∙ ap (when (λ (c : Claim). true)) (claims-find_row (paired rows table) t ∙ ap (option_map claim_of) none)

-- what a lock table says of a request, once the rows are gone that it wounds
pub claims-without_rows : (rows : List Row) (ts : List Id) → claims (without_rows rows ts) ≡ without_claims (claims rows) ts
claims-without_rows rows [] = refl
claims-without_rows rows (t ∷ ts) = claims-without_rows (without_row rows t) ts ∙ ap (λ s. without_claims s ts) (claims-without_row rows t)

-- the tokens without that of a row that went
pub tokens-without : (rows : List CodeRow) (t : Id) → map token_of (without_txn rows t) ≡ without_token (map token_of rows) t
tokens-without rows t = sym (without-map txn_of (λ (k : Token). k.txn) token_of (λ r. refl) rows t)
