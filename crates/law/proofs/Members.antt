-- Members of a list.
use Rattle.std.proofs.Common.{◌≡◌, ◌⊎◌, inl, inr, Bool, true, false, ◌||◌, List, [], ◌∷◌, ◌++◌, refl, subst}
use Rattle.std.specs.List.{AllByRecursion, list_any}
use Rattle.law.specs.Among.{IsAmong}

pub among_left : {A : Type 0} (xs ys : List A) (x : A) → IsAmong xs x → IsAmong (xs ++ ys) x
among_left [] ys x h = absurd h
among_left (z ∷ xs) ys x (inl h) = inl h
among_left (z ∷ xs) ys x (inr h) = inr (among_left xs ys x h)

pub among_right : {A : Type 0} (xs ys : List A) (x : A) → IsAmong ys x → IsAmong (xs ++ ys) x
among_right [] ys x h = h
among_right (z ∷ xs) ys x h = inr (among_right xs ys x h)

pub among_last : {A : Type 0} (xs : List A) (x : A) → IsAmong (xs ++ x ∷ []) x
among_last xs x = among_right xs (x ∷ []) x (inl refl)

pub among_cases : {A : Type 0} (xs ys : List A) (x : A) → IsAmong (xs ++ ys) x → IsAmong xs x ⊎ IsAmong ys x
among_cases [] ys x h = inr h
among_cases (z ∷ xs) ys x (inl h) = inl (inl h)
among_cases (z ∷ xs) ys x (inr h) = elim (among_cases xs ys x h) [ inl a ↦ inl (inr a) | inr b ↦ inr b ]

-- a fact of each member, and of one
pub all_at : {A : Type 0} (P : A → Type 0) (xs : List A) (x : A) → AllByRecursion P xs → IsAmong xs x → P x
all_at P [] x all h = absurd h
all_at P (z ∷ xs) x all (inl h) = subst P h all.0
all_at P (z ∷ xs) x all (inr h) = all_at P xs x all.1 h

pub all_among : {A : Type 0} (P : A → Type 0) (xs : List A) → ((x : A) → IsAmong xs x → P x) → AllByRecursion P xs
all_among P [] h = tt
all_among P (x ∷ xs) h = (h x (inl refl), all_among P xs (λ y k. h y (inr k)))

pub all_append : {A : Type 0} (P : A → Type 0) (xs ys : List A) → AllByRecursion P xs → AllByRecursion P ys → AllByRecursion P (xs ++ ys)
all_append P [] ys h k = k
all_append P (x ∷ xs) ys h k = (h.0, all_append P xs ys h.1 k)

-- a member that passes a test
pub record Passes {A : Type 0} (xs : List A) (test : A → Bool) : Type 0 where
  pub member : A
  pub among : IsAmong xs member
  pub passes : test member ≡ true

pub some_passes : {A : Type 0} (xs : List A) (test : A → Bool) → list_any test xs ≡ true → Passes xs test
some_passes [] test e = cc
some_passes {A} (x ∷ xs) test e = by_test (test x) refl e (λ k. some_passes xs test k)
  where
    later : Passes xs test → Passes (x ∷ xs) test
    later p = record { member = p.member; among = inr p.among; passes = p.passes }

    by_test : (b : Bool) → test x ≡ b → (b || list_any test xs) ≡ true → (list_any test xs ≡ true → Passes xs test) → Passes (x ∷ xs) test
    by_test true h k rest = record { member = x; among = inl refl; passes = h }
    by_test false h k rest = later (rest k)
