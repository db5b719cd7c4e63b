-- Loops that add one for each member.
use Rattle.std.proofs.Common.{◌≡◌, ℕ, ◌+◌, ◌<◌, List, [], ◌∷◌, ◌++◌, length, map, take, get_or, append_assoc, ap, sym, ◌∙◌}
use Rattle.std.proofs.lemmas.List.{map-append, take_more}

next : {A : Type 0} (xs : List A) (i : ℕ) (x : A) → i < length xs → x ≡ get_or xs i x → take (i + 1) xs ≡ take i xs ++ x ∷ []
next xs i x here is = take_more xs i x here ∙ ap (λ y. take i xs ++ y ∷ []) (sym is)

-- with one more
pub added : {A : Type 0} (xs : List A) (i : ℕ) (x : A) (start ys zs : List A) → i < length xs → x ≡ get_or xs i x
    → ys ≡ start ++ take i xs → zs ≡ ys ++ x ∷ [] → zs ≡ start ++ take (i + 1) xs
added xs i x start ys zs here is so_far more =
    more ∙ ap (λ l. l ++ x ∷ []) so_far ∙ append_assoc start (take i xs) (x ∷ []) ∙ ap (λ l. start ++ l) (sym (next xs i x here is))

-- with what one more has
pub added_of : {A B : Type 0} (f : A → B) (xs : List A) (i : ℕ) (x : A) (start ys zs : List B) → i < length xs → x ≡ get_or xs i x
    → ys ≡ start ++ map f (take i xs) → zs ≡ ys ++ f x ∷ [] → zs ≡ start ++ map f (take (i + 1) xs)
added_of f xs i x start ys zs here is so_far more =
    more ∙ ap (λ l. l ++ f x ∷ []) so_far ∙ append_assoc start (map f (take i xs)) (f x ∷ [])
    ∙ ap (λ l. start ++ l) (sym (ap (map f) (next xs i x here is) ∙ map-append f (take i xs) (x ∷ [])))
