-- A search by halves among installs in order.
use Rattle.std.proofs.Common.{◌≡◌, ℕ, zero, suc, ◌+◌, ◌*◌, ◌^◌, ◌<◌, ◌≤◌, Bool, true, false, nat_lt, List, [], ◌∷◌, length, get_or, refl, sym, ap, ◌∙◌, arith}
use Rattle.std.specs.List.{AllByRecursion, insert}
use Rattle.std.proofs.lemmas.Bool.Decides.{nat_tests}
use Rattle.units.specs.Keys.{same_key, key_before}
use Rattle.std.proofs.lemmas.Bool.{false≢true, false_from_ne_true}
use Rattle.units.proofs.KeyLaws.{same_key-is, key_before-trans}
use Rattle.units.specs.declared.writes.Install.{Install}
use Rattle.versions.specs.Arranged.{no_install}
use Rattle.versions.specs.Halves.{AllUpTo, AllAfter}
use Rattle.versions.specs.Ordered.{is_not_after, count_not_after, version_before, installed, AscendsByVersion}

-- where the first places pass and the others do not, the count is the number of places
pub count_at : (key : List ℕ) (at : ℕ) (t : List Install) (p : ℕ) → p ≤ length t → AllUpTo key at t p → AllAfter key at t p → p ≡ count_not_after key at t
count_at key at [] p le below above = omega arith
count_at key at (x ∷ t) zero le below above =
    let rest : zero ≡ count_not_after key at t = count_at key at t zero (omega arith) (λ k d lt. absurd (omega arith))
    (λ k d le lt. above (suc k) d (omega arith) (omega arith)) in
    rw (above zero x (omega arith) (omega arith)) rest
count_at key at (x ∷ t) (suc p) le below above =
    let rest : p ≡ count_not_after key at t = count_at key at t p (omega arith) (λ k d lt. below (suc k) d (omega arith))
    (λ k d le lt. above (suc k) d (omega arith) (omega arith)) in
    rw (below zero x (omega arith)) (ap suc rest)

-- a place up to which none is after the key and timestamp is not behind one from which on all are
pub up_to_after : (key : List ℕ) (at : ℕ) (t : List Install) (low high : ℕ) → low ≤ length t → AllUpTo key at t low → AllAfter key at t high → low ≤ high
up_to_after key at t low high le before after = by_test (nat_lt high low) refl
  where
    by_test : (b : Bool) → nat_lt high low ≡ b → low ≤ high
    by_test true e =
        let less : high < low = grind (arith, nat_tests) in
        absurd (false≢true (sym (after high no_install (omega arith) (omega (arith, less, le))) ∙ before high no_install less))
    by_test false e = let more : low ≤ high = grind (arith, nat_tests) in more

-- for each number of digits that is enough for them all, what is left to search fits the digits that are left
abbrev pub LeftFits : ℕ → ℕ → ℕ → Type 0
LeftFits all size probes = (digits : ℕ) → all < 2 ^ digits → (left : ℕ) × (probes + left ≡ digits) × (size < 2 ^ left)

half_left : (left size half : ℕ) → size < 2 ^ left → 1 ≤ size → 2 * half ≤ size → (less : ℕ) × (left ≡ less + 1) × (half < 2 ^ less)
half_left zero size half lt some twice = absurd (omega arith)
half_left (suc less) size half lt some twice = (less, omega arith, omega arith)

-- half of what was left fits the digits but one
pub half_fits : (all size probes half : ℕ) → LeftFits all size probes → 1 ≤ size → 2 * half ≤ size → LeftFits all half (probes + 1)
half_fits all size probes half fits some twice = λ digits lt.
    let now = fits digits lt in
    let less = half_left now.0 size half now.2 some twice in
    (less.0, omega (arith, now.1, less.1), less.2)

-- for each number of digits that they all need, what is left to search needs the digits that are left
abbrev pub LeftNeeds : ℕ → ℕ → ℕ → Type 0
LeftNeeds all size probes = (digits : ℕ) → 2 ^ digits ≤ all + 1 → (left : ℕ) × (digits ≤ probes + left) × (2 ^ left ≤ size + 1)

half_needed : (left size half : ℕ) → 2 ^ left ≤ size + 1 → size ≤ 2 * half + 2 → (less : ℕ) × (left ≤ less + 1) × (2 ^ less ≤ half + 1)
half_needed zero size half le twice = (zero, omega arith, omega arith)
half_needed (suc less) size half le twice = (less, omega arith, omega arith)

-- half of what was left needs the digits but one
pub half_needs : (all size probes half : ℕ) → LeftNeeds all size probes → size ≤ 2 * half + 2 → LeftNeeds all half (probes + 1)
half_needs all size probes half needed twice = λ digits le.
    let now = needed digits le in
    let less = half_needed now.0 size half now.2 twice in
    (less.0, omega (arith, now.1, less.1), less.2)

-- nothing is left to search, and so no digit
pub none_left : (left probes digits : ℕ) → digits ≤ probes + left → 2 ^ left ≤ 1 → digits ≤ probes
none_left zero probes digits le few = omega arith
none_left (suc left) probes digits le few = absurd (omega (arith, pow_some left))
  where
    pow_some : (n : ℕ) → 1 ≤ 2 ^ n
    pow_some zero = omega arith
    pow_some (suc n) = omega (arith, pow_some n)

along_same : (a b c : List ℕ) → same_key a b ≡ true → key_before a c ≡ key_before b c
along_same a b c h = ap (λ z. key_before z c) (same_key-is a b h)

along_same_right : (a b c : List ℕ) → same_key b c ≡ true → key_before a b ≡ key_before a c
along_same_right a b c h = ap (key_before a) (same_key-is b c h)

same_same : (a b c : List ℕ) → same_key a b ≡ true → same_key a c ≡ same_key b c
same_same a b c h = ap (λ z. same_key z c) (same_key-is a b h)

-- what is not after one that is not after the key and stamp is not after them
not_after-trans : (key : List ℕ) (at : ℕ) (x y : Install) → version_before x y ≡ true → is_not_after key at y ≡ true → is_not_after key at x ≡ true
not_after-trans key at x y h k =
    grind (arith, nat_tests, key_before-trans x.key y.key key, along_same x.key y.key key, along_same_right x.key y.key key, same_same x.key y.key key)

pub each_at : (P : Install → Type 0) (t : List Install) (p : ℕ) (d : Install) → AllByRecursion P t → p < length t → P (get_or t p d)
each_at P [] p d all lt = absurd (omega arith)
each_at P (x ∷ t) zero d all lt = all.0
each_at P (x ∷ t) (suc p) d all lt = each_at P t p d all.1 (omega arith)

-- in order, each install before one that is not after the key and stamp is not after them
pub before_passes : (key : List ℕ) (at : ℕ) (t : List Install) (p : ℕ) → AscendsByVersion t → p < length t →
    ((d : Install) → is_not_after key at (get_or t p d) ≡ true) → AllUpTo key at t (p + 1)
before_passes key at [] p up lt here = absurd (omega arith)
before_passes key at (x ∷ t) zero up lt here = λ k d less. first k d less
  where
    first : (k : ℕ) (d : Install) → k < 1 → is_not_after key at (get_or (x ∷ t) k d) ≡ true
    first zero d less = here d
    first (suc k) d less = absurd (omega arith)
before_passes key at (x ∷ t) (suc p) up lt here = each (before_passes key at t p up.1 (omega arith) here)
  where
    each : AllUpTo key at t (p + 1) → AllUpTo key at (x ∷ t) (suc p + 1)
    each rest zero d less = not_after-trans key at x (get_or t p d) (each_at (λ next. version_before x next ≡ true) t p d up.0 (omega arith)) (here d)
    each rest (suc k) d less = rest k d (omega arith)

-- and each behind one that is after them is after them
pub after_passes : (key : List ℕ) (at : ℕ) (t : List Install) (p : ℕ) → AscendsByVersion t → p < length t →
    ((d : Install) → is_not_after key at (get_or t p d) ≡ false) → AllAfter key at t p
after_passes key at [] p up lt here = absurd (omega arith)
after_passes key at (x ∷ t) zero up lt here = each
  where
    each : AllAfter key at (x ∷ t) zero
    each zero d le less = here d
    each (suc k) d le less = false_from_ne_true (is_not_after key at (get_or t k d))
        (λ passes. false≢true (sym (here d) ∙ not_after-trans key at x (get_or t k d) (each_at (λ next. version_before x next ≡ true) t k d up.0
        (omega arith)) passes))
after_passes key at (x ∷ t) (suc p) up lt here = each (after_passes key at t p up.1 (omega arith) here)
  where
    each : AllAfter key at t p → AllAfter key at (x ∷ t) (suc p)
    each rest zero d le less = absurd (omega arith)
    each rest (suc k) d le less = rest k d (omega arith) (omega arith)

-- a version put in where its key and stamp fall is put in at its place
pub insert_is_installed : (install : Install) (t : List Install) (p : ℕ) → p ≤ length t → AllUpTo install.key install.at t p →
    AllAfter install.key install.at t p → insert t p install ≡ installed t install
insert_is_installed install [] zero le before after = refl
insert_is_installed install [] (suc p) le before after = absurd (omega arith)
insert_is_installed install (x ∷ t) zero le before after = rw (after 0 x (omega arith) (omega arith)) refl
insert_is_installed install (x ∷ t) (suc p) le before after =
    rw (before 0 x (omega arith)) (ap (λ r. x ∷ r) (insert_is_installed install t p (omega arith) (λ k d lt. before (suc k) d (omega arith))
    (λ k d le lt. after (suc k) d (omega arith) (omega arith))))
