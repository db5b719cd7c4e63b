-- Lists that ascend by the ids of their members.
use Rattle.std.proofs.Common.{◌≡◌, ◌∙◌, ℕ, ◌-◌, Bool, true, false, not, ◌&&◌, List, drop, filter, is_lt, length, nat_cmp, sym, take, ap, subst, arith}
use Rattle.std.proofs.lemmas.Bool.Decides.{nat_tests}
use Rattle.std.specs.Cmp.{IsStrictWeakOrder}
use Rattle.std.specs.List.Sorted.{IsPartitionedBy, IsSortedBy, IsStableBy, ties}
use Rattle.std.specs.Ordering.{ordering_then}
use Rattle.std.proofs.lemmas.List.{take_rest}
use Rattle.units.specs.Fronts.{front}
use Rattle.units.specs.Ids.{Id, same_id, older}
use Rattle.inspector.specs.Ascending.{AscendsBy}
use Rattle.inspector.proofs.Sorting.{ascends_drop, ascends_from_sorted, before_partitioned, not_after_partitioned, ties_run}

one_way : (a b : Id) → older a b ≡ true → older b a ≡ false
one_way a b h = grind (arith, nat_tests)

chain : (a b c : Id) → older a b ≡ false → older b c ≡ false → older a c ≡ false
chain a b c h k = grind (arith, nat_tests)

tie_is_same : (a b : Id) → (not (older a b) && not (older b a)) ≡ same_id a b
tie_is_same a b = grind (arith, nat_tests)

-- one has an older id
abbrev pub has_older : {A : Type 0} → (A → Id) → A → A → Bool
has_older id a b = older (id a) (id b)

-- and so as a sort has it
abbrev pub is_less : {A : Type 0} → (A → Id) → A → A → Bool
is_less id a b = is_lt (ordering_then (nat_cmp (id a).run (id b).run) (nat_cmp (id a).number (id b).number))

pub older_order : {A : Type 0} (id : A → Id) → IsStrictWeakOrder (has_older id)
older_order id = record { one_way = λ a b. one_way (id a) (id b); chain = λ a b c. chain (id a) (id b) (id c) }

less_is : (a b : Id) → is_lt (ordering_then (nat_cmp a.run b.run) (nat_cmp a.number b.number)) ≡ older a b
less_is a b = grind (arith, nat_tests)

same_order : {A : Type 0} (id : A → Id) → is_less id ≡ has_older id
same_order id i a b = less_is (id a) (id b) i

-- what was sorted ascends
pub sorted_ascends : {A : Type 0} (id : A → Id) (xs : List A) → IsSortedBy (is_less id) xs → AscendsBy (has_older id) xs
sorted_ascends id xs sorted = ascends_from_sorted (has_older id) (older_order id) xs (subst (λ less. IsSortedBy less xs) (same_order id) sorted)

-- those that tie with one
ties_are : {A : Type 0} (id : A → Id) (x : A) (xs : List A) → filter (ties (has_older id) x) xs ≡ filter (λ y. same_id (id x) (id y)) xs
ties_are id x xs = ap (λ test. filter test xs) (λ i y. tie_is_same (id x) (id y) i)

ties_by_less : {A : Type 0} (id : A → Id) (x : A) (xs : List A) → filter (ties (is_less id) x) xs ≡ filter (λ y. same_id (id x) (id y)) xs
ties_by_less id x xs = ap (λ less. filter (ties less x) xs) (same_order id) ∙ ties_are id x xs

-- those of one id stand as they stood
pub stable_by_id : {A : Type 0} (id : A → Id) (x : A) (xs ys : List A) → IsStableBy (is_less id) xs ys
    → filter (λ y. same_id (id x) (id y)) ys ≡ filter (λ y. same_id (id x) (id y)) xs
stable_by_id id x xs ys stable = sym (ties_by_less id x ys) ∙ stable x ∙ ties_by_less id x xs

-- what two searches by halves find: those of one id
pub run_is : {A : Type 0} (id : A → Id) (x : A) (xs : List A) → AscendsBy (has_older id) xs → (p q : ℕ) → p ≡ front (λ y. older (id y) (id x)) xs
    → q ≡ front (λ y. not (older (id x) (id y))) (take (length xs - p) (drop p xs))
    → take q (take (length xs - p) (drop p xs)) ≡ filter (λ y. same_id (id x) (id y)) xs
run_is {A = A} id x xs up p q first count =
    ap (λ n. take n (take (length xs - p) (drop p xs))) count
    ∙ ap (λ (ys : List A). take (front (λ y. not (older (id x) (id y))) ys) ys) (take_rest xs p)
    ∙ ap (λ n. take (front (λ y. not (older (id x) (id y))) (drop n xs)) (drop n xs)) first
    ∙ ties_run (has_older id) (older_order id) x xs up
    ∙ ties_are id x xs

pub older_first : {A : Type 0} (id : A → Id) (x : A) (xs : List A) → AscendsBy (has_older id) xs → IsPartitionedBy (λ y. older (id y) (id x)) xs
older_first id x xs up = before_partitioned (has_older id) (older_order id) x xs up

pub run_first : {A : Type 0} (id : A → Id) (x : A) (xs : List A) (p : ℕ) → AscendsBy (has_older id) xs
    → IsPartitionedBy (λ y. not (older (id x) (id y))) (take (length xs - p) (drop p xs))
run_first id x xs p up =
    not_after_partitioned (has_older id) (older_order id) x _ (subst (AscendsBy (has_older id)) (sym (take_rest xs p)) (ascends_drop (has_older id) p xs up))
