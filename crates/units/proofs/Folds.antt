-- The words on lists over one list after another.
use Rattle.std.specs.List.{list_any, list_all}
use Rattle.std.proofs.Common.{refl, sym, ◌∙◌, ap, arith}
use Rattle.std.specs.Prelude.{ℕ, ◌≡◌, Bool, true, false, cond, ◌||◌, max, List, [], ◌∷◌, ◌++◌, Option, Some, None, filter, flat_map}
use Rattle.std.proofs.lemmas.Bool.{and_parts}
use Rattle.units.specs.Lists.{gather, head, first, greatest, when}

-- the first value that is there
abbrev pub or_else : {A : Type 0} → Option A → Option A → Option A
or_else None o = o
or_else (Some x) o = Some x

-- there is a value
abbrev pub is_there : {A : Type 0} → Option A → Bool
is_there o = when (λ x. true) o

pub there_or_else : {A : Type 0} (a b : Option A) → is_there (or_else a b) ≡ (is_there a || is_there b)
there_or_else None b = refl
there_or_else (Some x) b = refl

append_again : {A : Type 0} (xs ys zs : List A) → (xs ++ ys) ++ zs ≡ xs ++ (ys ++ zs)
append_again [] ys zs = refl
append_again (x ∷ xs) ys zs = ap (λ l. x ∷ l) (append_again xs ys zs)

pub gather_append : {A B : Type 0} (f : A → Option B) (xs ys : List A) → gather f (xs ++ ys) ≡ gather f xs ++ gather f ys
gather_append f [] ys = refl
gather_append {B = B} f (x ∷ xs) ys = by_value (f x) (gather_append f xs ys)
  where
    by_value : (o : Option B) → gather f (xs ++ ys) ≡ gather f xs ++ gather f ys →
        (elim o as (λ q. List B) [ None ↦ gather f (xs ++ ys) | Some y ↦ y ∷ gather f (xs ++ ys) ])
        ≡ (elim o as (λ q. List B) [ None ↦ gather f xs | Some y ↦ y ∷ gather f xs ]) ++ gather f ys
    by_value None e = e
    by_value (Some y) e = ap (λ l. y ∷ l) e

pub greatest_append : (xs ys : List ℕ) → greatest (xs ++ ys) ≡ max (greatest xs) (greatest ys)
greatest_append [] ys = from_none (greatest ys)
  where
    from_none : (n : ℕ) → n ≡ max 0 n
    from_none n = omega arith
greatest_append (x ∷ xs) ys = ap (λ n. max x n) (greatest_append xs ys) ∙ turned x (greatest xs) (greatest ys)
  where
    turned : (a b c : ℕ) → max a (max b c) ≡ max (max a b) c
    turned a b c = omega arith

pub first_append : {A : Type 0} (test : A → Bool) (xs ys : List A) → first test (xs ++ ys) ≡ or_else (first test xs) (first test ys)
first_append test [] ys = refl
first_append {A} test (x ∷ xs) ys = by_test (test x) (first_append test xs ys)
  where
    by_test : (b : Bool) → head (filter test (xs ++ ys)) ≡ or_else (head (filter test xs)) (head (filter test ys)) →
        head (cond b (x ∷ filter test (xs ++ ys)) (filter test (xs ++ ys))) ≡ or_else (head (cond b (x ∷ filter test xs) (filter test xs)))
        (head (filter test ys))
    by_test true e = refl
    by_test false e = e

pub any_append : {A : Type 0} (test : A → Bool) (xs ys : List A) → list_any test (xs ++ ys) ≡ (list_any test xs || list_any test ys)
any_append test [] ys = refl
any_append test (x ∷ xs) ys = ap (λ b. test x || b) (any_append test xs ys) ∙ sym (turned (test x) (list_any test xs) (list_any test ys))
  where
    turned : (a b c : Bool) → ((a || b) || c) ≡ (a || (b || c))
    turned true b c = refl
    turned false b c = refl

-- a first one is there where some member passes
pub there_first : {A : Type 0} (test : A → Bool) (xs : List A) → is_there (first test xs) ≡ list_any test xs
there_first test [] = refl
there_first test (x ∷ xs) = by_test (test x) (there_first test xs)
  where
    by_test : (b : Bool) → is_there (head (filter test xs)) ≡ list_any test xs → is_there (head (cond b (x ∷ filter test xs) (filter test xs))) ≡
        (b || list_any test xs)
    by_test true e = refl
    by_test false e = e

-- a list of results goes by its members alone
pub join_same : {A B : Type 0} (f g : A → List B) (test : A → Bool) → ((x : A) → test x ≡ true → f x ≡ g x) →
    (xs : List A) → list_all test xs ≡ true → flat_map f xs ≡ flat_map g xs
join_same f g test same [] h = refl
join_same f g test same (x ∷ xs) h =
    ap (λ l. l ++ flat_map f xs) (same x ((and_parts _ _ h).0)) ∙ ap (λ l. g x ++ l) (join_same f g test same xs ((and_parts _ _ h).1))
