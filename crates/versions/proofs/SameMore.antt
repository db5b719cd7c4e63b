-- One version more, in order in one list and behind the other, leaves the newest versions the same.
use Rattle.std.specs.List.{list_all}
use Rattle.std.proofs.Common.{◌≡◌, ℕ, Bool, true, false, cond, nat_lt, List, [], ◌∷◌, ◌++◌, filter, refl, sym, ap, subst, ◌∙◌}
use Rattle.std.proofs.lemmas.Bool.{and_parts, and_from}
use Rattle.units.specs.Keys.{Bytes, same_key}
use Rattle.units.specs.Versions.{newest}
use Rattle.units.specs.declared.writes.Install.{Install}
use Rattle.units.proofs.KeyLaws.{same_key-is}
use Rattle.versions.specs.Ordered.{is_by, is_above, installed}
use Rattle.versions.specs.Places.{SameVersions}
use Rattle.versions.proofs.OneMore.{newest-installed, newest-last, keep-installed, keep-last}
use Rattle.versions.proofs.Same.{same-from}

-- what holds of each of more holds of each of fewer
each-fewer : (p q r : Install → Bool) → ((x : Install) → r x ≡ true → q x ≡ true) → (a : List Install) → list_all p (filter q a) ≡ true
    → list_all p (filter r a) ≡ true
each-fewer p q r more [] h = refl
each-fewer p q r more (x ∷ a) h = by_tests (q x) (r x) refl refl h (each-fewer p q r more a)
  where
    by_tests : (c d : Bool) → q x ≡ c → r x ≡ d → list_all p (cond c (x ∷ filter q a) (filter q a)) ≡ true
        → (list_all p (filter q a) ≡ true → list_all p (filter r a) ≡ true) → list_all p (cond d (x ∷ filter r a) (filter r a)) ≡ true
    by_tests true true k l h rest = and_from _ _ ((and_parts _ _ h).0) (rest ((and_parts _ _ h).1))
    by_tests true false k l h rest = rest ((and_parts _ _ h).1)
    by_tests false true k l h rest = let clash : false ≡ true = sym k ∙ more x l in cc
    by_tests false false k l h rest = rest h

-- the versions of its key are below one that is above them, whatever else is asked of them
below-test : (x : Install) (k : Bytes) (test : Install → Bool) (a : List Install) → ((y : Install) → test y ≡ true → same_key y.key k ≡ true)
    → is_above a x.key x.at ≡ true → test x ≡ true → list_all (λ z. nat_lt z.at x.at) (filter test a) ≡ true
below-test x k test a only above is =
    let here : x.key ≡ k = same_key-is x.key k (only x is) in
    each-fewer (λ z. nat_lt z.at x.at) (λ z. same_key z.key x.key) test
    (λ y e. subst (λ (j : Bytes). same_key y.key j ≡ true) (sym here) (only y e)) a above

-- one version more, above those of its key, at its place in one list and at the end of the other
same-test : (x : Install) (k : Bytes) (test : Install → Bool) (a b : List Install) → ((y : Install) → test y ≡ true → same_key y.key k ≡ true)
    → is_above a x.key x.at ≡ true → is_above b x.key x.at ≡ true → newest (filter test a) ≡ newest (filter test b)
    → newest (filter test (installed a x)) ≡ newest (filter test (b ++ x ∷ []))
same-test x k test a b only over_a over_b same = by_test (test x) refl
  where
    by_test : (c : Bool) → test x ≡ c → newest (filter test (installed a x)) ≡ newest (filter test (b ++ x ∷ []))
    by_test true e =
        newest-installed test x a e (below-test x k test a only over_a e) ∙ sym (newest-last test x b e (below-test x k test b only over_b e))
    by_test false e = ap newest (keep-installed test x a e) ∙ same ∙ sym (ap newest (keep-last test x b e))

-- what is above the versions of a key in the one list is so in the other
pub above-same : (h : ℕ) (x : Install) (a b : List Install) → is_above b x.key x.at ≡ true → SameVersions h a b → is_above a x.key x.at ≡ true
above-same h x a b over same =
    (same-from h a b same).above x.key x.at ∙ over

pub same-one : (h : ℕ) (x : Install) (a b : List Install) → is_above b x.key x.at ≡ true → SameVersions h a b
    → SameVersions h (installed a x) (b ++ x ∷ [])
same-one h x a b over same =
    let over_a : is_above a x.key x.at ≡ true = above-same h x a b over same in
    record {
      now = λ k. same-test x k (λ y. same_key y.key k) a b (λ y e. e) over_a over (same.now k);
      at = λ k t le. same-test x k (is_by k t) a b (λ y e. (and_parts _ _ e).0) over_a over (same.at k t le);
    }
