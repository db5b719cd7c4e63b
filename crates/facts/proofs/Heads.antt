-- Versions in order by key and timestamp: one that comes behind the last is behind all, and above those of its key.
use Rattle.std.specs.List.{list_all}
use Rattle.std.proofs.Common.{◌≡◌, ◌∙◌, arith, ℕ, Bool, true, false, cond, List, [], ◌∷◌, ◌++◌, refl, sym, ap}
use Rattle.std.specs.Prelude.{nat_lt}
use Rattle.std.proofs.lemmas.Bool.{and_from, and_parts}
use Rattle.std.proofs.lemmas.Bool.Decides.{nat_tests}
use Rattle.units.specs.Keys.{same_key, key_before}
use Rattle.units.specs.Lists.{ascends}
use Rattle.units.specs.Versions.{of_key, version_before}
use Rattle.units.specs.declared.writes.Install.{Install}
use Rattle.units.proofs.KeyLaws.{same_key-is, key_before-trans, key_before-irreflexive}
use Rattle.facts.specs.Stages.{comes_behind}

along : (a b c : List ℕ) → same_key a b ≡ true → key_before a c ≡ key_before b c
along a b c h = ap (λ z. key_before z c) (same_key-is a b h)

along_right : (a b c : List ℕ) → same_key b c ≡ true → key_before a b ≡ key_before a c
along_right a b c h = ap (key_before a) (same_key-is b c h)

same_same : (a b c : List ℕ) → same_key a b ≡ true → same_key a c ≡ same_key b c
same_same a b c h = ap (λ z. same_key z c) (same_key-is a b h)

pub before-trans : (x y z : Install) → version_before x y ≡ true → version_before y z ≡ true → version_before x z ≡ true
before-trans x y z h k =
    grind (arith, nat_tests, key_before-trans x.key y.key z.key, along x.key y.key z.key, along_right x.key y.key z.key, same_same x.key y.key z.key)

-- of two versions of one key, in order
pub earlier : (x y : Install) → version_before x y ≡ true → same_key x.key y.key ≡ true → nat_lt x.at y.at ≡ true
earlier x y before same =
    let level : key_before x.key y.key ≡ false = ap (key_before x.key) (sym (same_key-is x.key y.key same)) ∙ key_before-irreflexive x.key in
    grind (arith, nat_tests)

-- each is before one that comes behind the last
pub each_before : (xs : List Install) (i : Install) → ascends version_before xs ≡ true → comes_behind xs i ≡ true →
    list_all (λ x. version_before x i) xs ≡ true
each_before [] i up behind = refl
each_before (x ∷ []) i up behind = and_from _ _ behind refl
each_before (x ∷ y ∷ rest) i up behind =
    let p = and_parts _ _ up in
    let later = each_before (y ∷ rest) i p.1 behind in
    and_from _ _ (before-trans x y i p.0 ((and_parts _ _ later).0)) later

above_by : (xs : List Install) (i : Install) → list_all (λ x. version_before x i) xs ≡ true → list_all (λ j. nat_lt j.at i.at) (of_key xs i.key) ≡ true
above_by [] i all = refl
above_by (x ∷ xs) i all = by_test (same_key x.key i.key) refl (above_by xs i ((and_parts _ _ all).1))
  where
    by_test : (b : Bool) → same_key x.key i.key ≡ b → list_all (λ j. nat_lt j.at i.at) (of_key xs i.key) ≡ true →
        list_all (λ j. nat_lt j.at i.at) (cond b (x ∷ of_key xs i.key) (of_key xs i.key)) ≡ true
    by_test true same rest = and_from _ _ (earlier x i ((and_parts _ _ all).0) same) rest
    by_test false same rest = rest

-- so its timestamp is above those of its key
pub behind_above : (xs : List Install) (i : Install) → ascends version_before xs ≡ true → comes_behind xs i ≡ true →
    list_all (λ j. nat_lt j.at i.at) (of_key xs i.key) ≡ true
behind_above xs i up behind = above_by xs i (each_before xs i up behind)

-- and with it they are still in order
pub ascends_more : (xs : List Install) (w : Install) → ascends version_before xs ≡ true → comes_behind xs w ≡ true →
    ascends version_before (xs ++ w ∷ []) ≡ true
ascends_more [] w up behind = refl
ascends_more (x ∷ []) w up behind = and_from _ _ behind refl
ascends_more (x ∷ y ∷ rest) w up behind = and_from _ _ ((and_parts _ _ up).0) (ascends_more (y ∷ rest) w ((and_parts _ _ up).1) behind)
