-- What a loop over a list knows at the member where it stands.
use Rattle.std.proofs.Common.{◌≡◌, ℕ, ◌+◌, ◌<◌, ◌≤◌, Bool, true, false, ◌||◌, cond, filter, List, [], ◌∷◌, ◌++◌, length, map, take, drop, get_or}
use Rattle.std.proofs.Common.{append_assoc, ap, sym, ◌∙◌}
use Rattle.std.specs.List.{list_any}
use Rattle.std.proofs.lemmas.List.{map-append, take_more, drop_more, at_drop_all}

-- it, and the members behind it
pub rest_is : {A : Type 0} (xs : List A) (i : ℕ) (x : A) → i < length xs → x ≡ get_or xs i x → drop i xs ≡ x ∷ drop (i + 1) xs
rest_is xs i x here is = drop_more xs i x here ∙ ap (λ y. y ∷ drop (i + 1) xs) (sym is)

-- the test fails on it, holds of it, or no member is left
pub any_passed : {A : Type 0} (p : A → Bool) (xs : List A) (i : ℕ) (x : A) → i < length xs → x ≡ get_or xs i x → p x ≡ false
    → list_any p (drop i xs) ≡ list_any p xs → list_any p (drop (i + 1) xs) ≡ list_any p xs
any_passed p xs i x here is fails so_far =
    sym (ap (list_any p) (rest_is xs i x here is) ∙ ap (λ b. b || list_any p (drop (i + 1) xs)) fails) ∙ so_far

pub any_found : {A : Type 0} (p : A → Bool) (xs : List A) (i : ℕ) (x : A) → i < length xs → x ≡ get_or xs i x → p x ≡ true
    → list_any p (drop i xs) ≡ list_any p xs → true ≡ list_any p xs
any_found p xs i x here is holds so_far =
    sym (ap (list_any p) (rest_is xs i x here is) ∙ ap (λ b. b || list_any p (drop (i + 1) xs)) holds) ∙ so_far

pub any_ended : {A : Type 0} (p : A → Bool) (xs : List A) (i : ℕ) → length xs ≤ i → list_any p (drop i xs) ≡ list_any p xs → false ≡ list_any p xs
any_ended p xs i end so_far = sym (at_drop_all (list_any p) xs i end) ∙ so_far

-- those of which a test holds are pushed, this one with them or not
pub kept : {A : Type 0} (p : A → Bool) (xs : List A) (i : ℕ) (x : A) (ys zs all : List A) → i < length xs → x ≡ get_or xs i x → p x ≡ true
    → ys ++ filter p (drop i xs) ≡ all → zs ≡ ys ++ x ∷ [] → zs ++ filter p (drop (i + 1) xs) ≡ all
kept p xs i x ys zs all here is holds so_far more =
    let rest = filter p (drop (i + 1) xs) in
    ap (λ l. l ++ rest) more ∙ append_assoc ys (x ∷ []) rest
    ∙ ap (λ l. ys ++ l) (sym (ap (filter p) (rest_is xs i x here is) ∙ ap (λ b. cond b (x ∷ rest) rest) holds)) ∙ so_far

pub left : {A : Type 0} (p : A → Bool) (xs : List A) (i : ℕ) (x : A) (ys all : List A) → i < length xs → x ≡ get_or xs i x → p x ≡ false
    → ys ++ filter p (drop i xs) ≡ all → ys ++ filter p (drop (i + 1) xs) ≡ all
left p xs i x ys all here is fails so_far =
    let rest = filter p (drop (i + 1) xs) in
    ap (λ l. ys ++ l) (sym (ap (filter p) (rest_is xs i x here is) ∙ ap (λ b. cond b (x ∷ rest) rest) fails)) ∙ so_far

-- it is pushed, or what is made of it
pub next : {A : Type 0} (xs : List A) (i : ℕ) (x : A) → i < length xs → x ≡ get_or xs i x → take (i + 1) xs ≡ take i xs ++ x ∷ []
next xs i x here is = take_more xs i x here ∙ ap (λ y. take i xs ++ y ∷ []) (sym is)

pub pushed : {A B : Type 0} (f : A → B) (xs : List A) (i : ℕ) (x : A) (start ys zs : List B) → i < length xs → x ≡ get_or xs i x
    → ys ≡ start ++ map f (take i xs) → zs ≡ ys ++ f x ∷ [] → zs ≡ start ++ map f (take (i + 1) xs)
pushed f xs i x start ys zs here is so_far more =
    more ∙ ap (λ l. l ++ f x ∷ []) so_far ∙ append_assoc start (map f (take i xs)) (f x ∷ [])
    ∙ ap (λ l. start ++ l) (sym (ap (map f) (next xs i x here is) ∙ map-append f (take i xs) (x ∷ [])))
