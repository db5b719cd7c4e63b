-- Those whom a request ends may be ended one by one, and the requester stays as it is.
use Rattle.std.proofs.Common.{◌≡◌, ◌+◌, ◌≤◌, ℕ, length, Option, Bool, true, false, ◌&&◌, cond, List, [], ◌∷◌, map, refl, sym, ap, subst, ◌∙◌, filter}
use Rattle.std.proofs.lemmas.Bool.{false≢true}
use Rattle.std.specs.List.{AllByRecursion}
use Rattle.units.specs.Lists.{when}
use Rattle.units.specs.Ids.{Id, same_id}
use Rattle.units.specs.ById.{IsById, find_member}
use Rattle.units.specs.Locks.{Claim, wounded}
use Rattle.units.specs.declared.lock.Lock.{Lock}
use Rattle.units.proofs.IdLaws.{same_id-refl, older_not_same}
use Rattle.units.proofs.ByIdLaws.{AllYounger, later_are_younger, later_differ, without_none, find-without_other}
use Rattle.protocol.specs.Rows.{Row, Phase, claim_of, claims, find_row, without_row, without_rows, held_by, held_in}
use Rattle.locks.specs.Table.{Token, without_claims}
use Rattle.locks.specs.Ways.{gives_way}
use Rattle.locks.proofs.WayLaws.{wounded-is}
use Rattle.locks.proofs.Release.{wounded_differ, release_makes_way}
use Rattle.rows.specs.CodeRows.{is_reading}
use Rattle.rows.specs.RowTable.{RowTable, has_phase, room, room_by, put_row, without_token, without_tokens, MayEnd}
use Rattle.rows.proofs.Steps.{claims-without_rows}

-- a row of another id in front changes nothing
may_end_behind : (q : Row) (ts : List Id) (rows : List Row) → AllByRecursion (λ t. same_id q.txn t ≡ false) ts → MayEnd rows ts → MayEnd (q ∷ rows) ts
may_end_behind q [] rows differ may = tt
may_end_behind q (t ∷ ts) rows differ may = rw differ.0 (may.0, may_end_behind q ts (without_row rows t) differ.1 may.1)

-- the ids of younger rows are others
ids_differ : (p : Row → Bool) (q : Row) (rows : List Row) → AllYounger (λ (r : Row). r.txn) q.txn rows
    → AllByRecursion (λ t. same_id q.txn t ≡ false) (map (λ r. r.txn) (filter p rows))
ids_differ p q [] young = tt
ids_differ p q (r ∷ rows) young = by_test (p r) (ids_differ p q rows young.1)
  where
    by_test : (b : Bool) → AllByRecursion (λ t. same_id q.txn t ≡ false) (map (λ r. r.txn) (filter p rows))
        → AllByRecursion (λ t. same_id q.txn t ≡ false) (map (λ r. r.txn) (cond b (r ∷ filter p rows) (filter p rows)))
    by_test true rest = (older_not_same q.txn r.txn young.0, rest)
    by_test false rest = rest

-- rows that pass a test may be ended one by one, where those that pass it read
may_end_kept : (p : Row → Bool) → ((q : Row) → p q ≡ true → is_reading q.phase ≡ true) → (rows : List Row) → IsById (λ q. q.txn) rows
    → MayEnd rows (map (λ q. q.txn) (filter p rows))
may_end_kept p reads [] up = tt
may_end_kept p reads (q ∷ rows) up = by_test (p q) refl (may_end_kept p reads rows up.1)
  where
    young : AllYounger (λ (r : Row). r.txn) q.txn rows
    young = later_are_younger (λ (r : Row). r.txn) q rows up

    left : without_row (q ∷ rows) q.txn ≡ rows
    left = rw (same_id-refl q.txn) (without_none (λ (r : Row). r.txn) rows q.txn (later_differ (λ (r : Row). r.txn) q.txn q rows (same_id-refl q.txn) young))

    there : p q ≡ true → has_phase is_reading (q ∷ rows) q.txn ≡ true
    there e = rw (same_id-refl q.txn) (reads q e)

    by_test : (b : Bool) → p q ≡ b → MayEnd rows (map (λ r. r.txn) (filter p rows))
        → MayEnd (q ∷ rows) (map (λ r. r.txn) (cond b (q ∷ filter p rows) (filter p rows)))
    by_test true e rest = (there e, subst (λ l. MayEnd l (map (λ r. r.txn) (filter p rows))) (sym left) rest)
    by_test false e rest = may_end_behind q (map (λ r. r.txn) (filter p rows)) rows (ids_differ p q rows young) rest

-- the ids of claims that pass a test
ids-map : (p : Claim → Bool) (rows : List Row) → map (λ c. c.txn) (filter p (claims rows)) ≡ map (λ q. q.txn) (filter (λ q. p (claim_of q)) rows)
ids-map p [] = refl
ids-map p (q ∷ rows) = by_test (p (claim_of q)) (ids-map p rows)
  where
    by_test : (b : Bool) → map (λ c. c.txn) (filter p (claims rows)) ≡ map (λ q. q.txn) (filter (λ q. p (claim_of q)) rows)
        → map (λ c. c.txn) (cond b (claim_of q ∷ filter p (claims rows)) (filter p (claims rows))) ≡
        map (λ r. r.txn) (cond b (q ∷ filter (λ r. p (claim_of r)) rows) (filter (λ r. p (claim_of r)) rows))
    by_test true e = ap (λ l. q.txn ∷ l) e
    by_test false e = e

wounded-rows : (rows : List Row) (t : Id) (needs : List Lock) → wounded (claims rows) t needs ≡
    map (λ q. q.txn) (filter (λ q. gives_way t needs (claim_of q)) rows)
wounded-rows rows t needs = wounded-is (claims rows) t needs ∙ ids-map (gives_way t needs) rows

middle_of : (a b c : Bool) → (a && (b && c)) ≡ true → b ≡ true
middle_of true true c e = refl
middle_of true false c e = e
middle_of false b c e = absurd (false≢true e)

pub may_end_wounded : (rows : List Row) (t : Id) (needs : List Lock) (ts : List Id) → IsById (λ q. q.txn) rows → ts ≡ wounded (claims rows) t needs →
    MayEnd rows ts
may_end_wounded rows t needs ts up is =
    subst (MayEnd rows) (sym (is ∙ wounded-rows rows t needs))
    (may_end_kept (λ q. gives_way t needs (claim_of q)) (λ q e. middle_of _ _ _ e) rows up)

-- the requester is not among the wounded
pub others_end : (rows : List Row) (t : Id) (needs : List Lock) (ts : List Id) → ts ≡ wounded (claims rows) t needs →
    AllByRecursion (λ u. same_id u t ≡ false) ts
others_end rows t needs ts is = subst (AllByRecursion (λ u. same_id u t ≡ false)) (sym (is ∙ wounded-is (claims rows) t needs))
    (wounded_differ t needs (claims rows))

-- so its row stays
pub row_stays : (rows : List Row) (t : Id) (ts : List Id) → AllByRecursion (λ u. same_id u t ≡ false) ts → find_row (without_rows rows ts) t ≡ find_row rows t
row_stays rows t [] differ = refl
row_stays rows t (u ∷ ts) differ = row_stays (without_row rows u) t ts differ.1 ∙ find-without_other (λ (q : Row). q.txn) rows t u differ.0

-- and its token
pub token_stays : (tokens : List Token) (t : Id) (ts : List Id) → AllByRecursion (λ u. same_id u t ≡ false) ts
    → find_member (λ k. k.txn) (without_tokens tokens ts) t ≡ find_member (λ k. k.txn) tokens t
token_stays tokens t [] differ = refl
token_stays tokens t (u ∷ ts) differ = token_stays (without_token tokens u) t ts differ.1 ∙ find-without_other (λ (k : Token). k.txn) tokens t u differ.0

-- the same request then ends nobody
pub then_quiet : (rows : List Row) (t : Id) (needs : List Lock) (ts : List Id) → ts ≡ wounded (claims rows) t needs →
    wounded (claims (without_rows rows ts)) t needs ≡ []
then_quiet rows t needs ts is =
    ap (λ s. wounded s t needs) (claims-without_rows rows ts ∙ ap (without_claims (claims rows)) is) ∙ (release_makes_way (claims rows) t needs).quiet

-- once those are gone whom a request ends, the requester reads as before, with the same room, and is given anew in the rows that are left
pub record HasMadeWay (old new : RowTable) (t : Id) (ts : List Id) : Type 0 where
  pub reading : has_phase is_reading old.rows t ≡ true → has_phase is_reading new.rows t ≡ true
  pub fits : (n : ℕ) → length (held_in old.rows t) + n ≤ room old t → length (held_in new.rows t) + n ≤ room new t
  pub given : (f : List Lock → List Lock) (p : Phase) → put_row new.rows t (f (held_in new.rows t)) p ≡
      put_row (without_rows old.rows ts) t (f (held_in old.rows t)) p

pub made_way : (old new : RowTable) (t : Id) (needs : List Lock) (ts : List Id) → ts ≡ wounded (claims old.rows) t needs
    → new.rows ≡ without_rows old.rows ts → new.tokens ≡ without_tokens old.tokens ts → HasMadeWay old new t ts
made_way old new t needs ts are rows_are tokens_are = record {
  reading = λ h. ap (when (λ (r : Row). is_reading r.phase)) same ∙ h;
  fits = λ n h. subst (λ (r : ℕ). length (held_in new.rows t) + n ≤ r) (sym spare)
      (subst (λ (m : ℕ). m + n ≤ room old t) (sym (ap (λ (o : Option Row). length (held_by o)) same)) h);
  given = λ f p. ap (λ (o : Option Row). put_row new.rows t (f (held_by o)) p) same ∙ ap (λ (l : List Row). put_row l t (f (held_in old.rows t)) p) rows_are;
}
  where
    differ : AllByRecursion (λ u. same_id u t ≡ false) ts
    differ = others_end old.rows t needs ts are

    same : find_row new.rows t ≡ find_row old.rows t
    same = ap (λ (l : List Row). find_row l t) rows_are ∙ row_stays old.rows t ts differ

    spare : room new t ≡ room old t
    spare = ap room_by (ap (λ (l : List Token). find_member (λ k. k.txn) l t) tokens_are ∙ token_stays old.tokens t ts differ)
