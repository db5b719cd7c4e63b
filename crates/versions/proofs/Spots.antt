-- Parts of a list of places with heads, after one more.
use Rattle.std.proofs.Common.{◌≡◌, ℕ, zero, suc, List, [], ◌∷◌, map, refl, ap}
use Rattle.std.specs.List.{insert}

pub map-insert : {A B : Type 0} (f : A → B) (l : List A) (at : ℕ) (x : A) → map f (insert l at x) ≡ insert (map f l) at (f x)
map-insert f l zero x = refl
map-insert f [] (suc at) x = refl
map-insert f (y ∷ l) (suc at) x = ap (λ m. f y ∷ m) (map-insert f l at x)
