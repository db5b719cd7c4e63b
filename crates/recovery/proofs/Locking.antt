-- A promise or a decision beside rows that all stand firm: nobody is ended, and it goes where nobody has its locks.
use Rattle.std.proofs.Common.{◌≡◌, Bool, true, false, not, cond, ◌&&◌, ◌||◌, List, [], ◌∷◌, ◌++◌, map, Some, None, refl, sym, ap, subst, ◌∙◌, arith, filter}
use Rattle.std.specs.List.{AllByRecursion, list_any}
use Rattle.std.proofs.lemmas.Bool.{false≢true, or_parts}
use Rattle.std.proofs.lemmas.Bool.Decides.{nat_tests}
use Rattle.units.specs.Ids.{Id, same_id, older}
use Rattle.units.specs.Keys.{Bytes}
use Rattle.units.specs.Locks.{Claim, blockers, clash, exclusive, is_free, locks_of, may_wound, others, shared, waits_before, with_lock, with_locks, wounded}
use Rattle.units.specs.declared.lock.Lock.{Lock}
use Rattle.units.specs.declared.writes.Write.{Write}
use Rattle.units.proofs.ByIdLaws.{first_none}
use Rattle.units.proofs.ListLaws.{all-keep, all_gives}
use Rattle.memory.proofs.Clashes.{clash-with_locks, clash_comm}
use Rattle.record.specs.Facts.{TxnStatus, Facts}
use Rattle.record.specs.Records.{Status, Unrecorded, StandsPrepared, StandsDecided, HasAborted, HasSettled, HasClosed}
use Rattle.protocol.specs.Rows.{Row, claim_of, claims, find_row, is_firm, needs_of, standing_row}
use Rattle.protocol.proofs.InWay.{holds_exclusive}
use Rattle.protocol.proofs.OpenedRows.{all-gather}
use Rattle.protocol.proofs.RecordLocks.{holds_reads, reads_free, writes_free}
use Rattle.protocol.specs.Beside.{standing_rows}

-- ---- the locks of a record

pub with_locks-append : (hs a b : List Lock) → with_locks hs (a ++ b) ≡ with_locks (with_locks hs a) b
with_locks-append hs [] b = refl
with_locks-append hs (l ∷ ls) b = with_locks-append (with_lock hs l) ls b

clash-append : (a b ms : List Lock) → clash (a ++ b) ms ≡ (clash a ms || clash b ms)
clash-append [] b ms = refl
clash-append (l ∷ ls) b ms = grind (arith, nat_tests, clash-append ls b ms)

-- what was read and written, as a list, clashes with just what the locks of the record clash with
pub needs_clash : (rs : List Bytes) (ws : List Write) (ms : List Lock) → clash (shared rs ++ exclusive ws) ms ≡ clash (locks_of rs ws) ms
needs_clash rs ws ms = by_tests (clash (shared rs ++ exclusive ws) ms) (clash (locks_of rs ws) ms) refl refl
  where
    both_free : clash (shared rs ++ exclusive ws) ms ≡ false → clash (locks_of rs ws) ms ≡ false
    both_free free =
        let p = or_parts (clash (shared rs) ms) (clash (exclusive ws) ms) (sym (clash-append (shared rs) (exclusive ws) ms) ∙ free) in
        clash-with_locks (with_locks [] (shared rs)) (exclusive ws) ms p.1 (clash-with_locks [] (shared rs) ms p.0 refl)

    all_free : clash (locks_of rs ws) ms ≡ false → clash (shared rs ++ exclusive ws) ms ≡ false
    all_free free =
        let reads : clash (shared rs) ms ≡ false = reads_free rs (locks_of rs ws) ms (holds_reads rs ws) free in
        let writes : clash (exclusive ws) ms ≡ false = writes_free ws (locks_of rs ws) ms (holds_exclusive ws (with_locks [] (shared rs))) free in
        clash-append (shared rs) (exclusive ws) ms ∙ ap (λ b. b || clash (exclusive ws) ms) reads ∙ writes

    by_tests : (a b : Bool) → clash (shared rs ++ exclusive ws) ms ≡ a → clash (locks_of rs ws) ms ≡ b →
        clash (shared rs ++ exclusive ws) ms ≡ clash (locks_of rs ws) ms
    by_tests true true j k = j ∙ sym k
    by_tests false b j k = j ∙ sym (both_free j)
    by_tests true false j k = absurd (false≢true (sym (all_free k) ∙ j))

-- ---- the rows that a log holds

-- nobody may end the row, and it waits for nothing
abbrev pub IsStill : Row → Type 0
IsStill r = (is_firm r.phase ≡ true) × (needs_of r.phase ≡ [])

still_row : (e : TxnStatus) (r : Row) → standing_row e ≡ Some r → Unit {0} → IsStill r
still_row e r k u = by_status e.status k
  where
    by_status : (s : Status) → standing_row (record { txn = e.txn; status = s }) ≡ Some r → IsStill r
    by_status (StandsPrepared p) k = some_still _ k (refl, refl)
      where
        some_still : (q : Row) → Some q ≡ Some r → IsStill q → IsStill r
        some_still q k h = let same : q ≡ r = cc in subst IsStill same h
    by_status (StandsDecided c) k = some_still _ k (refl, refl)
      where
        some_still : (q : Row) → Some q ≡ Some r → IsStill q → IsStill r
        some_still q k h = let same : q ≡ r = cc in subst IsStill same h
    by_status Unrecorded k = cc
    by_status HasAborted k = cc
    by_status (HasSettled at ps) k = cc
    by_status (HasClosed c o) k = cc

all_unit : (es : List TxnStatus) → AllByRecursion (λ e. Unit {0}) es
all_unit [] = tt
all_unit (e ∷ es) = (tt, all_unit es)

pub all_still : (facts : Facts) → AllByRecursion IsStill (standing_rows facts)
all_still facts = all-gather (λ e. Unit {0}) IsStill still_row facts.entries (all_unit facts.entries)

-- ---- a request beside them

none_kept : {A : Type 0} (p : A → Bool) (xs : List A) → AllByRecursion (λ x. p x ≡ false) xs → filter p xs ≡ []
none_kept p [] all = refl
none_kept p (x ∷ xs) all = rw (all.0) (none_kept p xs all.1)

all_firm : (rows : List Row) → AllByRecursion IsStill rows → AllByRecursion (λ (c : Claim). c.firm ≡ true) (claims rows)
all_firm [] all = tt
all_firm (r ∷ rs) all = (all.0.0, all_firm rs all.1)

-- nobody is ended
pub none_wounded : (rows : List Row) (t : Id) (needs : List Lock) → AllByRecursion IsStill rows → wounded (claims rows) t needs ≡ []
unfolding wounded
none_wounded rows t needs still =
    ap (map (λ (c : Claim). c.txn))
    (none_kept (may_wound t) (blockers (claims rows) t needs)
    (all_gives (λ (c : Claim). c.firm ≡ true) (λ c. may_wound t c ≡ false) (λ c firm. unmoved (older t c.txn) c.firm firm) (blockers (claims rows) t needs)
    (all-keep (λ (c : Claim). c.firm ≡ true) (λ c. clash c.held needs) (others (claims rows) t)
    (all-keep (λ (c : Claim). c.firm ≡ true) (λ c. not (same_id c.txn t)) (claims rows) (all_firm rows still)))))
  where
    unmoved : (a b : Bool) → b ≡ true → (a && not b) ≡ false
    unmoved true true k = refl
    unmoved false true k = refl
    unmoved a false k = absurd (false≢true k)

-- beside rows of others that wait for nothing, a request goes where it clashes with nothing that is held
pub free_is : (rows : List Row) (t : Id) (needs : List Lock) → AllByRecursion IsStill rows → AllByRecursion (λ r. same_id r.txn t ≡ false) rows
    → is_free (claims rows) t needs ≡ not (list_any (clash needs) (map (λ r. r.held) rows))
unfolding is_free
free_is rows t needs still apart =
    ap (λ b. not b && not (list_any (λ c. true) (waits_before (claims rows) t needs))) (held_in_way rows apart)
    ∙ ap (λ cs. not (list_any (clash needs) (map (λ (r : Row). r.held) rows)) && not (list_any (λ c. true) cs)) (none_wait rows still apart)
    ∙ and_not (list_any (clash needs) (map (λ (r : Row). r.held) rows))
  where
    and_not : (b : Bool) → (not b && true) ≡ not b
    and_not true = refl
    and_not false = refl

    held_in_way : (rs : List Row) → AllByRecursion (λ r. same_id r.txn t ≡ false) rs → list_any (λ c. true) (blockers (claims rs) t needs) ≡
        list_any (clash needs) (map (λ r. r.held) rs)
    held_in_way [] all = refl
    held_in_way (r ∷ rs) all = rw (all.0) (by_test (clash r.held needs) refl (held_in_way rs all.1))
      where
        by_test : (b : Bool) → clash r.held needs ≡ b → list_any (λ c. true) (blockers (claims rs) t needs) ≡ list_any (clash needs) (map (λ r. r.held) rs)
            → list_any (λ c. true) (cond b (claim_of r ∷ blockers (claims rs) t needs) (blockers (claims rs) t needs)) ≡
            (clash needs r.held || list_any (clash needs) (map (λ r. r.held) rs))
        by_test true k rest = sym (ap (λ b. b || list_any (clash needs) (map (λ (r : Row). r.held) rs)) (clash_comm needs r.held ∙ k))
        by_test false k rest = rest ∙ sym (ap (λ b. b || list_any (clash needs) (map (λ (r : Row). r.held) rs)) (clash_comm needs r.held ∙ k))

    none_wait : (rs : List Row) → AllByRecursion IsStill rs → AllByRecursion (λ r. same_id r.txn t ≡ false) rs → waits_before (claims rs) t needs ≡ []
    none_wait [] still all = refl
    none_wait (r ∷ rs) still all = rw (all.0) (rw (quiet (older r.txn t) (needs_of r.phase) still.0.1) (none_wait rs still.1 all.1))
      where
        quiet : (a : Bool) (ls : List Lock) → ls ≡ [] → (a && clash ls needs) ≡ false
        quiet true ls k = ap (λ ls. clash ls needs) k
        quiet false ls k = refl

any-alike_in : (p q : List Lock → Bool) → ((ms : List Lock) → p ms ≡ q ms) → (xs : List (List Lock)) → list_any p xs ≡ list_any q xs
any-alike_in p q same [] = refl
any-alike_in p q same (x ∷ xs) = ap (λ b. b || list_any p xs) (same x) ∙ ap (λ b. q x || b) (any-alike_in p q same xs)

-- so a record's locks are asked for
pub locks_free : (facts : Facts) (t : Id) (rs : List Bytes) (ws : List Write) → find_row (standing_rows facts) t ≡ None
    → is_free (claims (standing_rows facts)) t (shared rs ++ exclusive ws) ≡ not (list_any (clash (locks_of rs ws)) (map (λ r. r.held) (standing_rows facts)))
locks_free facts t rs ws absent =
    free_is (standing_rows facts) t (shared rs ++ exclusive ws) (all_still facts) (first_none (λ (r : Row). same_id r.txn t) (standing_rows facts) absent)
    ∙ ap not (any-alike_in (clash (shared rs ++ exclusive ws)) (clash (locks_of rs ws)) (needs_clash rs ws) (map (λ (r : Row). r.held) (standing_rows facts)))
