-- A version that comes after all others in order.
use Rattle.std.proofs.Common.{◌≡◌, ℕ, zero, suc, ◌+◌, ◌<◌, ◌≤◌, Bool, true, false, cond, nat_lt, List, [], ◌∷◌, ◌++◌, length, take, get_or, refl, sym, ap, ◌∙◌, arith}
use Rattle.std.specs.List.{AllByRecursion, list_all}
use Rattle.std.proofs.lemmas.Bool.Decides.{nat_tests}
use Rattle.std.proofs.lemmas.Bool.{and_from}
use Rattle.units.specs.Keys.{same_key}
use Rattle.units.specs.Versions.{of_key}
use Rattle.units.specs.declared.writes.Install.{Install}
use Rattle.versions.specs.Arranged.{arranged, AreWithin}
use Rattle.versions.proofs.Arranged.{arranged_at, length_arranged}
use Rattle.versions.proofs.Passed.{earlier}
use Rattle.versions.specs.Ordered.{is_not_after, version_before, installed, is_above, AscendsByVersion}

holds_last : (P : Install → Type 0) (t : List Install) (x : Install) → AllByRecursion P (t ++ x ∷ []) → P x
holds_last P [] x all = all.0
holds_last P (y ∷ t) x all = holds_last P t x all.1

passes : (y x : Install) → version_before y x ≡ true → is_not_after x.key x.at y ≡ true
passes y x before = grind (arith, nat_tests)

-- it is put in at their end
pub installed_last : (t : List Install) (x : Install) → AscendsByVersion (t ++ x ∷ []) → installed t x ≡ t ++ x ∷ []
installed_last [] x up = refl
installed_last (y ∷ t) x up =
    let here : is_not_after x.key x.at y ≡ true = passes y x (holds_last (λ next. version_before y next ≡ true) t x up.0) in
    rw here (ap (λ r. y ∷ r) (installed_last t x up.1))

-- and it is above its key's others
pub above_last : (t : List Install) (x : Install) → AscendsByVersion (t ++ x ∷ []) → is_above t x.key x.at ≡ true
above_last [] x up = refl
above_last (y ∷ t) x up = by_test (same_key y.key x.key) refl (above_last t x up.1)
  where
    before : version_before y x ≡ true
    before = holds_last (λ next. version_before y next ≡ true) t x up.0

    by_test : (c : Bool) → same_key y.key x.key ≡ c → is_above t x.key x.at ≡ true
        → list_all (λ i. nat_lt i.at x.at) (cond c (y ∷ of_key t x.key) (of_key t x.key)) ≡ true
    by_test true is rest = let lower : y.at < x.at = earlier y x before is in and_from _ _ (grind (arith, nat_tests)) rest
    by_test false is rest = rest

all_taken : (P : Install → Type 0) (n : ℕ) (t : List Install) → AllByRecursion P t → AllByRecursion P (take n t)
all_taken P zero t all = tt
all_taken P (suc n) [] all = tt
all_taken P (suc n) (x ∷ t) all = (all.0, all_taken P n t all.1)

-- the first of versions in order are in order
pub ascends_taken : (n : ℕ) (t : List Install) → AscendsByVersion t → AscendsByVersion (take n t)
ascends_taken zero t up = tt
ascends_taken (suc n) [] up = tt
ascends_taken (suc n) (x ∷ t) up = (all_taken (λ next. version_before x next ≡ true) n t up.0, ascends_taken n t up.1)

one_taken : (n : ℕ) (t : List Install) (d : Install) → n < length t → take (suc n) t ≡ take n t ++ get_or t n d ∷ []
one_taken n [] d lt = absurd (omega (arith, lt))
one_taken zero (x ∷ t) d lt = refl
one_taken (suc n) (x ∷ t) d lt = ap (λ r. x ∷ r) (one_taken n t d (omega (arith, lt)))

-- one more of those that are read in order
pub next_taken : (installs : List Install) (places : List ℕ) (k : ℕ) (x : Install) → AreWithin places (length installs) → k < length places
    → x ≡ get_or installs (get_or places k 0) x → take k (arranged installs places) ++ x ∷ [] ≡ take (k + 1) (arranged installs places)
next_taken installs places k x within lt is =
    let t = arranged installs places in
    let here : get_or t k x ≡ x = arranged_at installs places k x x within lt is in
    let next : suc k ≡ k + 1 = omega arith in
    ap (λ y. take k t ++ y ∷ []) (sym here) ∙ (sym (one_taken k t x (omega (arith, lt, length_arranged installs places))) ∙ ap (λ n. take n t) next)

-- all of them
pub all_taken_are_all : (t : List Install) (n : ℕ) → length t ≤ n → take n t ≡ t
all_taken_are_all [] zero le = refl
all_taken_are_all [] (suc n) le = refl
all_taken_are_all (x ∷ t) zero le = absurd (omega (arith, le))
all_taken_are_all (x ∷ t) (suc n) le = ap (λ r. x ∷ r) (all_taken_are_all t n (omega (arith, le)))
