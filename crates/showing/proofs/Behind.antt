-- Loops that put what one more member has behind the others.
use Rattle.std.proofs.Common.{◌≡◌, ◌∙◌, ◌++◌, ◌∷◌, ◌+◌, ◌<◌, [], ℕ, List, length, map, take, get_or, append-nil, ap, sym, flat_map}
use Rattle.std.proofs.lemmas.Grind.{flat_map-append}
use Rattle.std.proofs.lemmas.List.{map-append, take_more}

next : {A : Type 0} (xs : List A) (i : ℕ) (x : A) → i < length xs → x ≡ get_or xs i x → take (i + 1) xs ≡ take i xs ++ x ∷ []
next xs i x here is = take_more xs i x here ∙ ap (λ y. take i xs ++ y ∷ []) (sym is)

last : {B C : Type 0} (f : B → List C) (ys : List B) (y : B) → flat_map f (ys ++ y ∷ []) ≡ flat_map f ys ++ f y
last f ys y = flat_map-append f ys (y ∷ []) ∙ ap (λ b. flat_map f ys ++ b) (append-nil (f y))

pub one_behind : {A C : Type 0} (f : A → List C) (xs : List A) (i : ℕ) (x : A) (before after : List C) → i < length xs → x ≡ get_or xs i x
    → before ≡ flat_map f (take i xs) → after ≡ before ++ f x → after ≡ flat_map f (take (i + 1) xs)
one_behind f xs i x before after here is so_far more =
    more ∙ ap (λ l. l ++ f x) so_far ∙ sym (ap (flat_map f) (next xs i x here is) ∙ last f (take i xs) x)

-- of what is seen of the members
pub seen_behind : {A B C : Type 0} (g : A → B) (f : B → List C) (xs : List A) (i : ℕ) (x : A) (before after : List C) → i < length xs
    → x ≡ get_or xs i x → before ≡ flat_map f (map g (take i xs)) → after ≡ before ++ f (g x) → after ≡ flat_map f (map g (take (i + 1) xs))
seen_behind g f xs i x before after here is so_far more =
    more ∙ ap (λ l. l ++ f (g x)) so_far
    ∙ sym (ap (λ l. flat_map f (map g l)) (next xs i x here is) ∙ ap (flat_map f) (map-append g (take i xs) (x ∷ [])) ∙ last f (map g (take i xs)) (g x))
