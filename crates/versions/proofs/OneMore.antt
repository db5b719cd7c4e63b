-- One more version, above its key's others, is the newest wherever it stands.
use Rattle.std.specs.List.{list_all}
use Rattle.std.proofs.Common.{◌≡◌, ℕ, ◌<◌, Bool, true, false, ◌&&◌, cond, nat_lt, nat_le, List, [], ◌∷◌, ◌++◌, Option, Some, None, refl, sym, ap}
use Rattle.std.proofs.Common.{subst, ◌∙◌, arith, filter}
use Rattle.std.proofs.lemmas.Bool.Decides.{nat_tests}
use Rattle.units.specs.Lists.{follow}
use Rattle.units.specs.Keys.{same_key}
use Rattle.units.specs.Versions.{of_key, newest, latest}
use Rattle.units.proofs.KeyLaws.{same_key-is}
use Rattle.units.specs.declared.writes.Install.{Install}
use Rattle.versions.specs.Ordered.{is_by, is_not_after, installed, is_above}
use Rattle.versions.specs.Places.{PlaceDoesNotMatter, PlaceDoesNotMatterFrom}
use Rattle.versions.proofs.Newest.{newer, at_time_is}
use Rattle.versions.proofs.Pruned.{all_from_the_beginning, all_from_any_time}

-- each is below the timestamp
abbrev below : ℕ → List Install → Bool
below n t = list_all (λ x. nat_lt x.at n) t

-- what was found is below the timestamp
abbrev IsFoundBelow : ℕ → Option Install → Type 0
IsFoundBelow n None = Unit {0}
IsFoundBelow n (Some x) = x.at < n

newest-below : (n : ℕ) (t : List Install) → below n t ≡ true → IsFoundBelow n (newest t)
newest-below n [] h = tt
newest-below n (x ∷ t) h = by_found (newest t) (newest-below n t (grind (arith, nat_tests))) (grind (arith, nat_tests))
  where
    by_found : (found : Option Install) → IsFoundBelow n found → x.at < n → IsFoundBelow n (newer x found)
    by_found None b lt = lt
    by_found (Some y) b lt = by_test (nat_lt x.at y.at)
      where
        by_test : (c : Bool) → IsFoundBelow n (cond {A = Option Install} c (Some y) (Some x))
        by_test true = b
        by_test false = lt

-- before those below it a version is the newest
newest-first : (i : Install) (t : List Install) → below i.at t ≡ true → newest (i ∷ t) ≡ Some i
newest-first i t h = by_found (newest t) (newest-below i.at t h)
  where
    by_found : (found : Option Install) → IsFoundBelow i.at found → newer i found ≡ Some i
    by_found None b = refl
    by_found (Some y) b = by_test (nat_lt i.at y.at) refl
      where
        by_test : (c : Bool) → nat_lt i.at y.at ≡ c → cond {A = Option Install} c (Some y) (Some i) ≡ Some i
        by_test true k = absurd (grind (arith, nat_tests))
        by_test false k = refl

-- and it stays the newest behind one that is below it
newer-below : (x i : Install) → x.at < i.at → newer x (Some i) ≡ Some i
newer-below x i lt = by_test (nat_lt x.at i.at) refl
  where
    by_test : (c : Bool) → nat_lt x.at i.at ≡ c → cond {A = Option Install} c (Some i) (Some x) ≡ Some i
    by_test true k = refl
    by_test false k = absurd (grind (arith, nat_tests))

-- put in at its place, a version that passes the test is the newest of those that pass
pub newest-installed : (test : Install → Bool) (i : Install) (t : List Install) → test i ≡ true → below i.at (filter test t) ≡ true →
    newest (filter test (installed t i)) ≡ Some i
newest-installed test i [] is h = rw is refl
newest-installed test i (x ∷ t) is h = by_tests (is_not_after i.key i.at x) (test x) refl h (newest-installed test i t is)
  where
    by_tests : (p q : Bool) → test x ≡ q → below i.at (cond q (x ∷ filter test t) (filter test t)) ≡ true →
        (below i.at (filter test t) ≡ true → newest (filter test (installed t i)) ≡ Some i)
        → newest (filter test (cond p (x ∷ installed t i) (i ∷ x ∷ t))) ≡ Some i
    by_tests true true k h rest = rw k (ap (newer x) (rest (grind (arith, nat_tests))) ∙ newer-below x i (grind (arith, nat_tests)))
    by_tests true false k h rest = rw k (rest h)
    by_tests false true k h rest = rw (is, k) (newest-first i (x ∷ filter test t) h)
    by_tests false false k h rest = rw (is, k) (newest-first i (filter test t) h)

-- and so it is at the end of the log
pub newest-last : (test : Install → Bool) (i : Install) (t : List Install) → test i ≡ true → below i.at (filter test t) ≡ true →
    newest (filter test (t ++ i ∷ [])) ≡ Some i
newest-last test i [] is h = rw is refl
newest-last test i (x ∷ t) is h = by_test (test x) refl h (newest-last test i t is)
  where
    by_test : (q : Bool) → test x ≡ q → below i.at (cond q (x ∷ filter test t) (filter test t)) ≡ true →
        (below i.at (filter test t) ≡ true → newest (filter test (t ++ i ∷ [])) ≡ Some i)
        → newest (cond q (x ∷ filter test (t ++ i ∷ [])) (filter test (t ++ i ∷ []))) ≡ Some i
    by_test true k h rest = ap (newer x) (rest (grind (arith, nat_tests))) ∙ newer-below x i (grind (arith, nat_tests))
    by_test false k h rest = rest h

-- a version that does not pass changes nothing
pub keep-installed : (test : Install → Bool) (i : Install) (t : List Install) → test i ≡ false → filter test (installed t i) ≡ filter test t
keep-installed test i [] other = rw other refl
keep-installed test i (x ∷ t) other = by_place (is_not_after i.key i.at x) (keep-installed test i t other)
  where
    by_place : (p : Bool) → filter test (installed t i) ≡ filter test t → filter test (cond p (x ∷ installed t i) (i ∷ x ∷ t)) ≡ filter test (x ∷ t)
    by_place true rest = ap (λ r. cond (test x) (x ∷ r) r) rest
    by_place false rest = rw other refl

pub keep-last : (test : Install → Bool) (i : Install) (t : List Install) → test i ≡ false → filter test (t ++ i ∷ []) ≡ filter test t
keep-last test i [] other = rw other refl
keep-last test i (x ∷ t) other = ap (λ r. cond (test x) (x ∷ r) r) (keep-last test i t other)

-- of those that pass one test each passes another: so it is, with one more version, in either order
each-kept : (test pass : Install → Bool) (i : Install) (ordered log : List Install) → list_all test (filter pass ordered) ≡ list_all test (filter pass log)
    → list_all test (filter pass (installed ordered i)) ≡ list_all test (filter pass (log ++ i ∷ []))
each-kept test pass i ordered log same =
    each_as-installed ordered ∙ ap (λ r. cond (pass i) (test i && r) r) same ∙ sym (each_as-last log)
  where
    swap : (a b : Bool) (c : Bool) → (a && (b && c)) ≡ (b && (a && c))
    swap true true c = refl
    swap true false c = refl
    swap false true c = refl
    swap false false c = refl

    with_first : (q b : Bool) (x : Install) (r : List Install) (s : Bool) → list_all test r ≡ cond q (test i && s) s
        → list_all test (cond b (x ∷ r) r) ≡ cond q (test i && cond b (test x && s) s) (cond b (test x && s) s)
    with_first true true x r s h = ap (λ z. test x && z) h ∙ swap (test x) (test i) s
    with_first false true x r s h = ap (λ z. test x && z) h
    with_first q false x r s h = h

    as_cond : (b : Bool) (x : Install) (r : List Install) → list_all test (cond b (x ∷ r) r) ≡ cond b (test x && list_all test r) (list_all test r)
    as_cond true x r = refl
    as_cond false x r = refl

    next : (x : Install) (t : List Install) (r : List Install) → list_all test r ≡ cond (pass i) (test i && list_all test (filter pass t))
        (list_all test (filter pass t))
        → list_all test (cond (pass x) (x ∷ r) r) ≡ cond (pass i) (test i && list_all test (filter pass (x ∷ t))) (list_all test (filter pass (x ∷ t)))
    next x t r h =
        with_first (pass i) (pass x) x r (list_all test (filter pass t)) h ∙ ap (λ z. cond (pass i) (test i && z) z) (sym (as_cond (pass x) x (filter pass t)))

    each_as-installed : (t : List Install) → list_all test (filter pass (installed t i)) ≡
        cond (pass i) (test i && list_all test (filter pass t)) (list_all test (filter pass t))
    each_as-installed [] = as_cond (pass i) i []
    each_as-installed (x ∷ t) = by_place (is_not_after i.key i.at x) (each_as-installed t)
      where
        by_place : (p : Bool) → list_all test (filter pass (installed t i)) ≡ cond (pass i) (test i && list_all test (filter pass t))
            (list_all test (filter pass t))
            → list_all test (filter pass (cond p (x ∷ installed t i) (i ∷ x ∷ t))) ≡ cond (pass i) (test i && list_all test (filter pass (x ∷ t)))
            (list_all test (filter pass (x ∷ t)))
        by_place true h = next x t (filter pass (installed t i)) h
        by_place false h = as_cond (pass i) i (filter pass (x ∷ t))

    each_as-last : (t : List Install) → list_all test (filter pass (t ++ i ∷ [])) ≡ cond (pass i) (test i && list_all test (filter pass t))
        (list_all test (filter pass t))
    each_as-last [] = as_cond (pass i) i []
    each_as-last (x ∷ t) = next x t (filter pass (t ++ i ∷ [])) (each_as-last t)

-- those of the key that are below the timestamp are so at each time
below_by : (key : List ℕ) (at n : ℕ) (t : List Install) → below n (of_key t key) ≡ true → below n (filter (is_by key at) t) ≡ true
below_by key at n [] h = refl
below_by key at n (x ∷ t) h = by_tests (same_key x.key key) (nat_le x.at at) h (below_by key at n t)
  where
    by_tests : (a b : Bool) → below n (cond a (x ∷ of_key t key) (of_key t key)) ≡ true →
        (below n (of_key t key) ≡ true → below n (filter (is_by key at) t) ≡ true)
        → below n (cond (a && b) (x ∷ filter (is_by key at) t) (filter (is_by key at) t)) ≡ true
    by_tests true true h rest = let r : below n (filter (is_by key at) t) ≡ true = rest (grind (arith, nat_tests)) in grind (arith, nat_tests)
    by_tests true false h rest = rest (grind (arith, nat_tests))
    by_tests false b h rest = rest h

-- a test that a version of the key passes gives the same values of both lists
abbrev value_by : (Install → Bool) → List Install → Option (List ℕ)
value_by test t = follow (newest (filter test t)) (λ i. i.value)

same_by : (test : Install → Bool) (i : Install) (ordered log : List Install)
    → (test i ≡ true → (below i.at (filter test ordered) ≡ true) × (below i.at (filter test log) ≡ true))
    → value_by test ordered ≡ value_by test log → value_by test (installed ordered i) ≡ value_by test (log ++ i ∷ [])
same_by test i ordered log h same = by_test (test i) refl
  where
    by_test : (b : Bool) → test i ≡ b → value_by test (installed ordered i) ≡ value_by test (log ++ i ∷ [])
    by_test true k =
        ap (λ found. follow found (λ i. i.value)) (newest-installed test i ordered k (h k).0 ∙ sym (newest-last test i log k (h k).1))
    by_test false k =
        ap (λ r. follow (newest r) (λ i. i.value)) (keep-installed test i ordered k) ∙ same
        ∙ sym (ap (λ r. follow (newest r) (λ i. i.value)) (keep-last test i log k))

pub place_does_not_matter_from : PlaceDoesNotMatterFrom
unfolding latest
place_does_not_matter_from h i ordered log above same = record {
  now = λ key. same_by (λ x. same_key x.key key) i ordered log (λ k. (along ordered key k above_ordered, along log key k above)) (same.now key);
  at = λ key t le.
      at_time_is key t (installed ordered i)
      ∙ same_by (is_by key t) i ordered log (λ k. (
        below_by key t i.at ordered (along ordered key (of_the_key key t k) above_ordered),
        below_by key t i.at log (along log key (of_the_key key t k) above),
      ))
      (sym (at_time_is key t ordered) ∙ same.at key t le ∙ at_time_is key t log)
      ∙ sym (at_time_is key t (log ++ i ∷ []));
  above = λ key t. each-kept (λ x. nat_lt x.at t) (λ x. same_key x.key key) i ordered log (same.above key t);
}
  where
    above_ordered : is_above ordered i.key i.at ≡ true
    above_ordered = same.above i.key i.at ∙ above

    of_the_key : (key : List ℕ) (t : ℕ) → is_by key t i ≡ true → same_key i.key key ≡ true
    of_the_key key t k = grind (arith, nat_tests)

    along : (s : List Install) (key : List ℕ) → same_key i.key key ≡ true → is_above s i.key i.at ≡ true → is_above s key i.at ≡ true
    along s key k h = subst (λ z. is_above s z i.at ≡ true) (same_key-is i.key key k) h

pub place_does_not_matter : PlaceDoesNotMatter
place_does_not_matter i ordered log above same =
    all_from_the_beginning (installed ordered i) (log ++ i ∷ [])
    (place_does_not_matter_from 0 i ordered log above (all_from_any_time 0 ordered log same))
