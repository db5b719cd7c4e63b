-- Laws of the words on lists.
use Rattle.std.proofs.Common.{◌≡◌, Bool, true, false, ◌&&◌, ◌||◌, not, cond, List, [], ◌∷◌, Some, refl, ap, ◌∙◌, arith}
use Rattle.std.specs.List.{list_any, filter, find, AllByRecursion, list_all}
use Rattle.std.proofs.lemmas.Bool.Decides.{nat_tests}
use Rattle.units.specs.Lists.{head, first}

pub find-is : {A : Type 0} (p : A → Bool) (xs : List A) → find p xs ≡ first p xs
find-is p [] = refl
find-is p (x ∷ xs) = by_test (p x) (find-is p xs)
  where
    by_test : (b : Bool) → find p xs ≡ first p xs → cond b (Some x) (find p xs) ≡ head (cond b (x ∷ filter p xs) (filter p xs))
    by_test true e = refl
    by_test false e = e

-- a test that each member passes, as a fact of each
pub all_of_each : {A : Type 0} (p : A → Bool) (xs : List A) → list_all p xs ≡ true → AllByRecursion (λ x. p x ≡ true) xs
all_of_each p [] h = tt
all_of_each p (x ∷ xs) h = (grind (arith, nat_tests), all_of_each p xs (grind (arith, nat_tests)))

pub each_of_all : {A : Type 0} (p : A → Bool) (xs : List A) → AllByRecursion (λ x. p x ≡ true) xs → list_all p xs ≡ true
each_of_all p [] h = refl
each_of_all p (x ∷ xs) h = ap (λ b. b && list_all p xs) h.0 ∙ each_of_all p xs h.1

-- a fact of each member gives another
pub all_gives : {A : Type 0} (P Q : A → Type 0) → ((x : A) → P x → Q x) → (xs : List A) → AllByRecursion P xs → AllByRecursion Q xs
all_gives P Q h [] all = tt
all_gives P Q h (x ∷ xs) all = (h x all.0, all_gives P Q h xs all.1)

-- what each has, each has that is kept
pub all-keep : {A : Type 0} (P : A → Type 0) (keeps : A → Bool) (xs : List A) → AllByRecursion P xs → AllByRecursion P (filter keeps xs)
all-keep P keeps [] all = tt
all-keep P keeps (x ∷ xs) all = elim (keeps x) as (λ b. AllByRecursion P (cond b (x ∷ filter keeps xs) (filter keeps xs))) [
  | true ↦ (all.0, all-keep P keeps xs all.1)
  | false ↦ all-keep P keeps xs all.1
]

-- tests that agree
pub each-alike : {A : Type 0} (p q : A → Bool) → ((x : A) → p x ≡ q x) → (xs : List A) → list_all p xs ≡ list_all q xs
each-alike p q h [] = refl
each-alike p q h (x ∷ xs) = ap (λ b. b && list_all p xs) (h x) ∙ ap (λ b. q x && b) (each-alike p q h xs)

pub any-alike : {A : Type 0} (p q : A → Bool) → ((x : A) → p x ≡ q x) → (xs : List A) → list_any p xs ≡ list_any q xs
any-alike p q h [] = refl
any-alike p q h (x ∷ xs) = ap (λ b. b || list_any p xs) (h x) ∙ ap (λ b. q x || b) (any-alike p q h xs)

pub keep-alike : {A : Type 0} (p q : A → Bool) → ((x : A) → p x ≡ q x) → (xs : List A) → filter p xs ≡ filter q xs
keep-alike p q h [] = refl
keep-alike p q h (x ∷ xs) = ap (λ b. cond b (x ∷ filter p xs) (filter p xs)) (h x) ∙ ap (λ ys. cond (q x) (x ∷ ys) ys) (keep-alike p q h xs)

-- some member passes one of two tests
pub any_or : {A : Type 0} (p q : A → Bool) (xs : List A) → list_any (λ x. p x || q x) xs ≡ (list_any p xs || list_any q xs)
any_or p q [] = refl
any_or p q (x ∷ xs) = grind (arith, nat_tests, any_or p q xs)

-- no member passes, so each fails
pub not_any : {A : Type 0} (p : A → Bool) (xs : List A) → not (list_any p xs) ≡ list_all (λ x. not (p x)) xs
not_any p [] = refl
not_any p (x ∷ xs) = grind (arith, nat_tests, not_any p xs)

-- tests of those that were kept
pub keep-keep : {A : Type 0} (p q : A → Bool) (xs : List A) → filter p (filter q xs) ≡ filter (λ x. q x && p x) xs
keep-keep p q [] = refl
keep-keep p q (x ∷ xs) = by_test (q x) (keep-keep p q xs)
  where
    by_test : (b : Bool) → filter p (filter q xs) ≡ filter (λ x. q x && p x) xs
        → filter p (cond b (x ∷ filter q xs) (filter q xs)) ≡ cond (b && p x) (x ∷ filter (λ x. q x && p x) xs) (filter (λ x. q x && p x) xs)
    by_test true e = ap (λ ys. cond (p x) (x ∷ ys) ys) e
    by_test false e = e

pub any-keep : {A : Type 0} (p q : A → Bool) (xs : List A) → list_any p (filter q xs) ≡ list_any (λ x. q x && p x) xs
any-keep p q [] = refl
any-keep p q (x ∷ xs) = by_test (q x) (any-keep p q xs)
  where
    by_test : (b : Bool) → list_any p (filter q xs) ≡ list_any (λ x. q x && p x) xs
        → list_any p (cond b (x ∷ filter q xs) (filter q xs)) ≡ ((b && p x) || list_any (λ x. q x && p x) xs)
    by_test true e = ap (λ c. p x || c) e
    by_test false e = e

pub each-keep : {A : Type 0} (p q : A → Bool) (xs : List A) → list_all p (filter q xs) ≡ list_all (λ x. not (q x) || p x) xs
each-keep p q [] = refl
each-keep p q (x ∷ xs) = by_test (q x) (each-keep p q xs)
  where
    by_test : (b : Bool) → list_all p (filter q xs) ≡ list_all (λ x. not (q x) || p x) xs
        → list_all p (cond b (x ∷ filter q xs) (filter q xs)) ≡ ((not b || p x) && list_all (λ x. not (q x) || p x) xs)
    by_test true e = ap (λ c. p x && c) e
    by_test false e = e
