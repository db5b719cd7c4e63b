-- Installs stay in order.
use Rattle.std.proofs.Common.{◌≡◌, ℕ, ◌<◌, ◌≤◌, Bool, true, false, cond, nat_lt, nat_le, List, [], ◌∷◌, refl, ap, arith}
use Rattle.std.specs.List.{AllByRecursion, list_all}
use Rattle.std.proofs.lemmas.Bool.{false≢true}
use Rattle.std.proofs.lemmas.Bool.Decides.{nat_tests}
use Rattle.units.specs.Keys.{same_key, key_before}
use Rattle.units.proofs.KeyLaws.{same_key-is, same_key_comm, key_before-trans, key_before-total}
use Rattle.units.specs.declared.writes.Install.{Install}
use Rattle.units.specs.Versions.{of_key}
use Rattle.versions.specs.Ordered.{is_not_after, version_before, installed, is_above, AscendsByVersion, IsInOrder}

along : (a b c : List ℕ) → same_key a b ≡ true → key_before a c ≡ key_before b c
along a b c h = ap (λ z. key_before z c) (same_key-is a b h)

along_right : (a b c : List ℕ) → same_key b c ≡ true → key_before a b ≡ key_before a c
along_right a b c h = ap (key_before a) (same_key-is b c h)

same_same : (a b c : List ℕ) → same_key a b ≡ true → same_key a c ≡ same_key b c
same_same a b c h = ap (λ z. same_key z c) (same_key-is a b h)

comes_before-trans : (x y z : Install) → version_before x y ≡ true → version_before y z ≡ true → version_before x z ≡ true
comes_before-trans x y z h k =
    grind (arith, nat_tests, key_before-trans x.key y.key z.key, along x.key y.key z.key, along_right x.key y.key z.key, same_same x.key y.key z.key)

-- one that is not after the new one is before it, as the new one is above its key's others
goes_before : (i x : Install) → is_not_after i.key i.at x ≡ true → (same_key x.key i.key ≡ true → x.at < i.at) → version_before x i ≡ true
goes_before i x passes above = by_test (same_key x.key i.key) refl
  where
    by_test : (b : Bool) → same_key x.key i.key ≡ b → version_before x i ≡ true
    by_test true k = let lt : x.at < i.at = above k in grind (arith, nat_tests)
    by_test false k = grind (arith, nat_tests)

-- and one that is after it is behind it
goes_behind : (i x : Install) → is_not_after i.key i.at x ≡ false → version_before i x ≡ true
goes_behind i x fails = grind (arith, nat_tests, key_before-total x.key i.key, same_key_comm x.key i.key)

each-installed : (P : Install → Type 0) (i : Install) (t : List Install) → P i → AllByRecursion P t → AllByRecursion P (installed t i)
each-installed P i [] e all = (e, tt)
each-installed P i (x ∷ t) e all = by_test (is_not_after i.key i.at x) (each-installed P i t e all.1)
  where
    by_test : (b : Bool) → AllByRecursion P (installed t i) → AllByRecursion P (cond b (x ∷ installed t i) (i ∷ x ∷ t))
    by_test true rest = (all.0, rest)
    by_test false rest = (e, all)

each_gives : (P Q : Install → Type 0) → ((x : Install) → P x → Q x) → (t : List Install) → AllByRecursion P t → AllByRecursion Q t
each_gives P Q h [] all = tt
each_gives P Q h (x ∷ t) all = (h x all.0, each_gives P Q h t all.1)

above_first : (key : List ℕ) (n : ℕ) (x : Install) (t : List Install) → is_above (x ∷ t) key n ≡ true → same_key x.key key ≡ true → x.at < n
above_first key n x t above k = by_test (same_key x.key key) k above
  where
    by_test : (b : Bool) → b ≡ true → list_all (λ i. nat_lt i.at n) (cond b (x ∷ of_key t key) (of_key t key)) ≡ true → x.at < n
    by_test true k all = grind (arith, nat_tests)
    by_test false k all = absurd (false≢true k)

above_rest : (key : List ℕ) (n : ℕ) (x : Install) (t : List Install) → is_above (x ∷ t) key n ≡ true → is_above t key n ≡ true
above_rest key n x t above = by_test (same_key x.key key) above
  where
    by_test : (b : Bool) → list_all (λ i. nat_lt i.at n) (cond b (x ∷ of_key t key) (of_key t key)) ≡ true → is_above t key n ≡ true
    by_test true all = grind (arith, nat_tests)
    by_test false all = all

ascending-installed : (i : Install) (t : List Install) → is_above t i.key i.at ≡ true → AscendsByVersion t → AscendsByVersion (installed t i)
ascending-installed i [] above up = (tt, tt)
ascending-installed i (x ∷ t) above up =
    by_test (is_not_after i.key i.at x) refl (ascending-installed i t (above_rest i.key i.at x t above) up.1)
  where
    by_test : (b : Bool) → is_not_after i.key i.at x ≡ b → AscendsByVersion (installed t i) → AscendsByVersion (cond b (x ∷ installed t i) (i ∷ x ∷ t))
    by_test true k rest = (each-installed (λ next. version_before x next ≡ true) i t (goes_before i x k (above_first i.key i.at x t above)) up.0, rest)
    by_test false k rest =
        let behind = goes_behind i x k in (
          (
            behind,
            each_gives (λ next. version_before x next ≡ true) (λ next. version_before i next ≡ true)
                (λ next h. comes_before-trans i x next behind h) t up.0,
          ),
          up,
        )

-- one more version, above its key's others and in time, is kept in order
pub kept-installed : (greatest : ℕ) (i : Install) (t : List Install) → is_above t i.key i.at ≡ true → i.at ≤ greatest → IsInOrder greatest t →
    IsInOrder greatest (installed t i)
kept-installed greatest i t above le kept = record {
  order = ascending-installed i t above kept.order;
  in_time = each-installed (λ x. nat_le x.at greatest ≡ true) i t (grind (arith, nat_tests)) kept.in_time;
}
