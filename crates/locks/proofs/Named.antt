-- Where the numbers of locks say that none clashes but a requester's own and those of one that is named, that one alone tells who is
-- in the way.
use Rattle.std.proofs.Common.{◌≡◌, ℕ, ◌+◌, ◌<◌, ◌≤◌, Bool, true, false, ◌&&◌, ◌||◌, not, cond, List, [], ◌∷◌, map, Option, Some, None}
use Rattle.std.proofs.Common.{refl, sym, ap, subst, ◌∙◌, arith, filter}
use Rattle.std.specs.List.{list_any, sum_by}
use Rattle.std.proofs.lemmas.Bool.{false≢true}
use Rattle.std.proofs.lemmas.List.Sums.{sum_by-cons}
use Rattle.std.proofs.lemmas.Bool.Decides.{nat_tests}
use Rattle.units.specs.Ids.{Id, same_id, older}
use Rattle.units.specs.ById.{IsById, find_member, with_member}
use Rattle.units.specs.Locks.{Claim, clash}
use Rattle.units.specs.declared.lock.Lock.{Lock}
use Rattle.units.proofs.IdLaws.{same_id-is, same_id-refl, same_id_comm, older_not_same}
use Rattle.units.proofs.ListLaws.{keep-alike}
use Rattle.units.proofs.ByIdLaws.{AllYounger, later_are_younger, found_is}
use Rattle.units.proofs.ByIdTwice.{with-before}
use Rattle.locks.specs.Tally.{Count, Numbers, IsTally, held_against, asked_against, tallied, claim_in, weighed, own_in, is_own, seems_alone, seems_paired}
use Rattle.locks.specs.Ways.{is_of, gives_way, is_wounding, ids_in_way, keeps_out, is_kept_out}
use Rattle.locks.proofs.Clashes.{clash_nil}
use Rattle.locks.proofs.Clear.{none_clashes, no_clash_more, by_number, parts}
use Rattle.locks.proofs.Each.{and_nothing, gives_parts}
use Rattle.locks.proofs.Firsts.{passed_younger}
use Rattle.locks.proofs.Sole.{found_by, own_alone, sole}
use Rattle.locks.proofs.WayLaws.{no_ids, any_ids}

-- ---- numbers and tests

pub none_are_own : (n own : ℕ) → n ≡ 0 → is_own n own ≡ true
none_are_own n own none = grind (arith, nat_tests)

-- ---- tests that claims without locks that clash fail, and the requester's own

no_clash_one : (n : Lock) (c : Claim) → claim_in (held_against n) c ≡ 0 → clash c.held (n ∷ []) ≡ false
no_clash_one n c none = no_clash_more n [] c.held (none_clashes (held_against n) c.held none) (clash_nil c.held)

no_wait_one : (n : Lock) (c : Claim) → claim_in (asked_against n) c ≡ 0 → clash c.needs (n ∷ []) ≡ false
no_wait_one n c none = no_clash_more n [] c.needs (none_clashes (asked_against n) c.needs none) (clash_nil c.needs)

gives_light : (t : Id) (n : Lock) (c : Claim) → claim_in (held_against n) c ≡ 0 → gives_way t (n ∷ []) c ≡ false
gives_light t n c none =
    ap (λ b. older t c.txn && (not c.firm && b)) (no_clash_one n c none) ∙ and_nothing (older t c.txn) (not c.firm)

gives_mine : (t : Id) (needs : List Lock) (c : Claim) → is_of t c ≡ true → gives_way t needs c ≡ false
gives_mine t needs c is = by_age (older t c.txn) refl
  where
    by_age : (o : Bool) → older t c.txn ≡ o → (o && (not c.firm && clash c.held needs)) ≡ false
    by_age true o = absurd (false≢true (sym (same_id_comm c.txn t ∙ older_not_same t c.txn o) ∙ is))
    by_age false o = refl

keeps_light : (t : Id) (n : Lock) (c : Claim) → claim_in (held_against n) c + claim_in (asked_against n) c ≡ 0 → keeps_out t (n ∷ []) c ≡ false
keeps_light t n c none =
    let held = no_clash_one n c (omega (arith, none)) in
    let asked = no_wait_one n c (omega (arith, none)) in
    grind (arith, nat_tests, held, asked)

keeps_mine : (t : Id) (needs : List Lock) (c : Claim) → is_of t c ≡ true → keeps_out t needs c ≡ false
keeps_mine t needs c is = ap (λ b. (not b && (clash c.held needs || (older c.txn t && clash c.needs needs))) && not (gives_way t needs c)) is

-- ---- where nobody passes a test, and where one does

none_listed : (p : Claim → Bool) (table : List Claim) → map (λ c. c.txn) (filter p table) ≡ [] → list_any p table ≡ false
none_listed p table none = by_test (list_any p table) refl
  where
    by_test : (b : Bool) → list_any p table ≡ b → b ≡ false
    by_test true some = absurd (false≢true (any_ids p table some none))
    by_test false some = refl

one_listed : (p : Claim → Bool) (table : List Claim) (o : Id) → map (λ c. c.txn) (filter p table) ≡ o ∷ [] → list_any p table ≡ true
one_listed p table o one = by_test (list_any p table) refl
  where
    by_test : (b : Bool) → list_any p table ≡ b → b ≡ true
    by_test true some = refl
    by_test false none = let clash : ◌≡◌ {A = List Id} [] (o ∷ []) = sym (no_ids p table none) ∙ one in cc

pub quiet_for : (t : Id) (needs : List Lock) (table : List Claim) → ids_in_way t needs table ≡ [] → is_wounding t needs table ≡ false
quiet_for t needs table none = none_listed (gives_way t needs) table none

pub wounds_one : (t o : Id) (needs : List Lock) (table : List Claim) → ids_in_way t needs table ≡ o ∷ [] → is_wounding t needs table ≡ true
wounds_one t o needs table one = one_listed (gives_way t needs) table o one

-- ---- whom a request for one lock ends

pub ends_nobody : (counts : Numbers) (table : List Claim) (t : Id) (n : Lock) → IsTally counts table
    → is_own (tallied counts (held_against n)) (own_in (held_against n) table t) ≡ true → ids_in_way t (n ∷ []) table ≡ []
ends_nobody counts table t n right few =
    let held = held_against n in
    ap (map (λ (c : Claim). c.txn)) (own_alone (claim_in held) (gives_way t (n ∷ [])) (gives_light t n) t (gives_mine t (n ∷ [])) table
    (by_number (tallied counts held) (own_in held table t) (sum_by (claim_in held) table) few (right held)))

-- where no lock of another clashes, it ends nobody
pub alone_ends : (counts : Numbers) (table : List Claim) (t : Id) (n : Lock) → IsTally counts table → seems_alone counts table t n ≡ true
    → ids_in_way t (n ∷ []) table ≡ []
alone_ends counts table t n right seems =
    ends_nobody counts table t n right
    (parts (is_own (tallied counts (held_against n)) (own_in (held_against n) table t))
    (is_own (tallied counts (asked_against n)) (own_in (asked_against n) table t)) seems).0

pub ends_one : (table : List Claim) (t o : Id) (n : Lock) (y : Claim) (count mine theirs : ℕ) → same_id o t ≡ false
    → find_member (λ c. c.txn) table o ≡ Some y → (count < 4294967295 → count ≡ sum_by (claim_in (held_against n)) table)
    → mine ≡ own_in (held_against n) table t → theirs ≡ claim_in (held_against n) y → is_own count (mine + theirs) ≡ true
    → ids_in_way t (n ∷ []) table ≡ cond (gives_way t (n ∷ []) y) (o ∷ []) []
ends_one table t o n y count mine theirs apart found right of_mine of_theirs seems =
    let held = held_against n in
    let all = sum_by (claim_in held) table in
    let few = by_number count (mine + theirs) all seems right in
    let two : all ≤ own_in held table t + claim_in held y = omega (arith, few, of_mine, of_theirs) in
    ap (map (λ (c : Claim). c.txn)) (sole (claim_in held) (gives_way t (n ∷ [])) (gives_light t n) t o apart (gives_mine t (n ∷ [])) table
    (subst (λ m. all ≤ own_in held table t + weighed (claim_in held) m) (sym found) two))
    ∙ ap (λ m. map (λ (c : Claim). c.txn) (found_by (gives_way t (n ∷ [])) m)) found ∙ by_test (gives_way t (n ∷ []) y)
  where
    by_test : (b : Bool) → ◌≡◌ {A = List Id} (map (λ (c : Claim). c.txn) (cond b (y ∷ []) [])) (cond b (o ∷ []) [])
    by_test true = ap (λ u. u ∷ []) (same_id-is y.txn o (found_is (λ (c : Claim). c.txn) table o y found))
    by_test false = refl

-- ---- whom a request ends with one lock more

ids_or_none : (f g : Claim → Bool) (cs : List Claim) → map (λ c. c.txn) (filter f cs) ≡ []
    → map (λ c. c.txn) (filter (λ c. f c || g c) cs) ≡ map (λ c. c.txn) (filter g cs)
ids_or_none f g [] none = refl
ids_or_none f g (c ∷ cs) none = by_test (f c) none (ids_or_none f g cs)
  where
    by_more : (b : Bool) → map (λ (d : Claim). d.txn) (filter (λ d. f d || g d) cs) ≡ map (λ (d : Claim). d.txn) (filter g cs)
        → map (λ (d : Claim). d.txn) (cond b (c ∷ filter (λ d. f d || g d) cs) (filter (λ d. f d || g d) cs))
        ≡ map (λ (d : Claim). d.txn) (cond b (c ∷ filter g cs) (filter g cs))
    by_more true same = ap (λ l. c.txn ∷ l) same
    by_more false same = same

    by_test : (b : Bool) → map (λ (d : Claim). d.txn) (cond b (c ∷ filter f cs) (filter f cs)) ≡ []
        → (map (λ (d : Claim). d.txn) (filter f cs) ≡ [] → map (λ (d : Claim). d.txn) (filter (λ d. f d || g d) cs) ≡ map (λ (d : Claim). d.txn) (filter g cs))
        → map (λ (d : Claim). d.txn) (cond (b || g c) (c ∷ filter (λ d. f d || g d) cs) (filter (λ d. f d || g d) cs))
        ≡ map (λ (d : Claim). d.txn) (cond (g c) (c ∷ filter g cs) (filter g cs))
    by_test true none rest = cc
    by_test false none rest = by_more (g c) (rest none)

ids_or_one : (f g : Claim → Bool) (o : Id) (cs : List Claim) → IsById (λ c. c.txn) cs → map (λ c. c.txn) (filter f cs) ≡ o ∷ []
    → map (λ c. c.txn) (filter (λ c. f c || g c) cs) ≡ with_member (λ i. i) (map (λ c. c.txn) (filter g cs)) o
ids_or_one f g o [] up one = let clash : ◌≡◌ {A = List Id} [] (o ∷ []) = one in cc
ids_or_one f g o (c ∷ cs) up one = by_test (f c) one (ids_or_one f g o cs up.1)
  where
    -- the one that is added is the first, which the other test may have too
    first : c.txn ≡ o → (b : Bool) → map (λ (d : Claim). d.txn) (filter (λ d. f d || g d) cs) ≡ map (λ (d : Claim). d.txn) (filter g cs)
        → c.txn ∷ map (λ (d : Claim). d.txn) (filter (λ d. f d || g d) cs)
        ≡ with_member (λ (i : Id). i) (map (λ (d : Claim). d.txn) (cond b (c ∷ filter g cs) (filter g cs))) o
    first is true same = rw (ap (λ u. same_id u o) is ∙ same_id-refl o)
        (ap (λ u. u ∷ map (λ (d : Claim). d.txn) (filter (λ d. f d || g d) cs)) is ∙ ap (λ l. o ∷ l) same)
    first is false same =
        ap (λ u. u ∷ map (λ (d : Claim). d.txn) (filter (λ d. f d || g d) cs)) is ∙ ap (λ l. o ∷ l) same
        ∙ sym (with-before (λ (i : Id). i) (map (λ (d : Claim). d.txn) (filter g cs)) o
        (subst (λ u. AllYounger (λ (i : Id). i) u (map (λ (d : Claim). d.txn) (filter g cs))) is
        (passed_younger g c.txn cs (later_are_younger (λ (d : Claim). d.txn) c cs up))))

    -- it comes behind the first
    behind : older c.txn o ≡ true → (b : Bool)
        → map (λ (d : Claim). d.txn) (filter (λ d. f d || g d) cs) ≡ with_member (λ (i : Id). i) (map (λ (d : Claim). d.txn) (filter g cs)) o
        → map (λ (d : Claim). d.txn) (cond b (c ∷ filter (λ d. f d || g d) cs) (filter (λ d. f d || g d) cs))
        ≡ with_member (λ (i : Id). i) (map (λ (d : Claim). d.txn) (cond b (c ∷ filter g cs) (filter g cs))) o
    behind before true same = rw (older_not_same c.txn o before, before) (ap (λ l. c.txn ∷ l) same)
    behind before false same = same

    by_test : (b : Bool) → map (λ (d : Claim). d.txn) (cond b (c ∷ filter f cs) (filter f cs)) ≡ o ∷ []
        → (map (λ (d : Claim). d.txn) (filter f cs) ≡ o ∷ []
        → map (λ (d : Claim). d.txn) (filter (λ d. f d || g d) cs) ≡ with_member (λ (i : Id). i) (map (λ (d : Claim). d.txn) (filter g cs)) o)
        → map (λ (d : Claim). d.txn) (cond (b || g c) (c ∷ filter (λ d. f d || g d) cs) (filter (λ d. f d || g d) cs))
        ≡ with_member (λ (i : Id). i) (map (λ (d : Claim). d.txn) (cond (g c) (c ∷ filter g cs) (filter g cs))) o
    by_test true one rest =
        let is : c.txn ≡ o = cc in
        let none : ◌≡◌ {A = List Id} (map (λ (d : Claim). d.txn) (filter f cs)) [] = cc in
        first is (g c) (ids_or_none f g cs none)
    by_test false one rest =
        let young = subst (AllYounger (λ (i : Id). i) c.txn) one (passed_younger f c.txn cs (later_are_younger (λ (d : Claim). d.txn) c cs up)) in
        behind young.0 (g c) (rest one)

module _ (t : Id) (n : Lock) (ns : List Lock) (table : List Claim) where
  either : ids_in_way t (n ∷ ns) table ≡ map (λ c. c.txn) (filter (λ c. gives_way t (n ∷ []) c || gives_way t ns c) table)
  either = ap (map (λ (c : Claim). c.txn)) (keep-alike (gives_way t (n ∷ ns)) (λ c. gives_way t (n ∷ []) c || gives_way t ns c) (gives_parts t n ns) table)

  pub ids_passed : ids_in_way t (n ∷ []) table ≡ [] → ids_in_way t (n ∷ ns) table ≡ ids_in_way t ns table
  ids_passed none = either ∙ ids_or_none (gives_way t (n ∷ [])) (gives_way t ns) table none

  pub ids_added : (o : Id) → IsById (λ c. c.txn) table → ids_in_way t (n ∷ []) table ≡ o ∷ []
      → ids_in_way t (n ∷ ns) table ≡ with_member (λ i. i) (ids_in_way t ns table) o
  ids_added o up one = either ∙ ids_or_one (gives_way t (n ∷ [])) (gives_way t ns) o table up one

-- ---- who keeps a request for one lock out

sum_parts : (v w : Claim → ℕ) (cs : List Claim) → sum_by (λ c. v c + w c) cs ≡ sum_by v cs + sum_by w cs
sum_parts v w [] = refl
sum_parts v w (c ∷ cs) =
    let all = sum_by-cons (λ (d : Claim). v d + w d) c cs in
    let left = sum_by-cons v c cs in
    let right = sum_by-cons w c cs in
    omega (arith, all, left, right, sum_parts v w cs)

own_parts : (v w : Claim → ℕ) (m : Option Claim) → weighed (λ c. v c + w c) m ≡ weighed v m + weighed w m
own_parts v w None = refl
own_parts v w (Some c) = refl

pub alone_kept : (counts : Numbers) (table : List Claim) (t : Id) (n : Lock) → IsTally counts table → seems_alone counts table t n ≡ true
    → is_kept_out t (n ∷ []) table ≡ false
alone_kept counts table t n right seems =
    none_listed (keeps_out t (n ∷ [])) table (ap (map (λ (c : Claim). c.txn))
    (own_alone (λ c. claim_in held c + claim_in asked c) (keeps_out t (n ∷ [])) (keeps_light t n) t (keeps_mine t (n ∷ [])) table few))
  where
    held : Count
    held = held_against n

    asked : Count
    asked = asked_against n

    few : sum_by (λ c. claim_in held c + claim_in asked c) table ≤ weighed (λ c. claim_in held c + claim_in asked c) (find_member (λ c. c.txn) table t)
    few =
        let two = parts (is_own (tallied counts held) (own_in held table t)) (is_own (tallied counts asked) (own_in asked table t)) seems in
        let sums = sum_parts (claim_in held) (claim_in asked) table in
        let owns = own_parts (claim_in held) (claim_in asked) (find_member (λ (c : Claim). c.txn) table t) in
        let few_held = by_number (tallied counts held) (own_in held table t) (sum_by (claim_in held) table) two.0 (right held) in
        let few_asked = by_number (tallied counts asked) (own_in asked table t) (sum_by (claim_in asked) table) two.1 (right asked) in
        omega (arith, sums, owns, few_held, few_asked)

pub kept_by_none : (counts : Numbers) (table : List Claim) (t o : Id) (n : Lock) (y : Claim) → IsTally counts table → same_id o t ≡ false
    → find_member (λ c. c.txn) table o ≡ Some y → keeps_out t (n ∷ []) y ≡ false → seems_paired counts table t y n ≡ true
    → is_kept_out t (n ∷ []) table ≡ false
kept_by_none counts table t o n y right apart found lets seems =
    none_listed (keeps_out t (n ∷ [])) table (ap (map (λ (c : Claim). c.txn)) (
    sole (λ c. claim_in held c + claim_in asked c) (keeps_out t (n ∷ [])) (keeps_light t n) t o apart (keeps_mine t (n ∷ [])) table few
    ∙ ap (found_by (keeps_out t (n ∷ []))) found ∙ ap (λ b. cond b (y ∷ []) []) lets
    ))
  where
    held : Count
    held = held_against n

    asked : Count
    asked = asked_against n

    two : (is_own (tallied counts held) (own_in held table t + claim_in held y) ≡ true)
        × (is_own (tallied counts asked) (own_in asked table t + claim_in asked y) ≡ true)
    two = parts (is_own (tallied counts held) (own_in held table t + claim_in held y))
        (is_own (tallied counts asked) (own_in asked table t + claim_in asked y)) seems

    few : sum_by (λ c. claim_in held c + claim_in asked c) table
        ≤ weighed (λ c. claim_in held c + claim_in asked c) (find_member (λ c. c.txn) table t)
        + weighed (λ c. claim_in held c + claim_in asked c) (find_member (λ c. c.txn) table o)
    few =
        let sums = sum_parts (claim_in held) (claim_in asked) table in
        let owns = own_parts (claim_in held) (claim_in asked) (find_member (λ (c : Claim). c.txn) table t) in
        let others = ap (weighed (λ c. claim_in held c + claim_in asked c)) found in
        let few_held = by_number (tallied counts held) (own_in held table t + claim_in held y) (sum_by (claim_in held) table) two.0 (right held) in
        let few_asked = by_number (tallied counts asked) (own_in asked table t + claim_in asked y) (sum_by (claim_in asked) table) two.1 (right asked) in
        omega (arith, sums, owns, others, few_held, few_asked)
