-- Loops that add some for each member.
use Rattle.std.proofs.Common.{◌≡◌, ℕ, ◌+◌, ◌<◌, List, [], ◌∷◌, ◌++◌, length, take, get_or, flat_map, ap, sym, ◌∙◌}
use Rattle.std.proofs.lemmas.List.{flat_map_more}
use Rattle.std.proofs.lemmas.Grind.{take_at_read}

-- with those of one more
pub added : {A B : Type 0} (f : A → List B) (xs : List A) (i : ℕ) (x : A) (start ys zs : List B) → i < length xs → x ≡ get_or xs i x
    → ys ≡ start ++ flat_map f (take i xs) → zs ≡ ys ++ f x → zs ≡ start ++ flat_map f (take (i + 1) xs)
added f xs i x start ys zs here is so_far more =
    more ∙ ap (λ l. l ++ f x) so_far ∙ flat_map_more f start (take i xs) x
    ∙ ap (λ l. start ++ flat_map f l) (sym ((take_at_read xs i x here).1 ∙ ap (λ y. take i xs ++ y ∷ []) (sym is)))
