-- Ids of transactions and their order: the age of a transaction, smaller is older.
use Rattle.std.specs.List.{list_any}
use Rattle.std.specs.Prelude.{ℕ, Bool, ◌&&◌, ◌||◌, nat_eq, nat_lt, List, [], ◌∷◌, cond}

-- the run that made it, and its number in that run
pub record Id : Type 0 where
  pub run : ℕ
  pub number : ℕ

-- the two ids are one
abbrev pub same_id : Id → Id → Bool
same_id a b = nat_eq a.run b.run && nat_eq a.number b.number

-- the first id is older: its run is smaller, or its number in the same run
abbrev pub older : Id → Id → Bool
older a b = nat_lt a.run b.run || (nat_eq a.run b.run && nat_lt a.number b.number)

-- the id is in the list
abbrev pub has_id : List Id → Id → Bool
has_id ids t = list_any (same_id t) ids

-- the ids with one more in its place, where it is not there; they ascend
abbrev pub with_id : List Id → Id → List Id
with_id [] t = t ∷ []
with_id (u ∷ us) t = cond (same_id u t) (u ∷ us) (cond (older u t) (u ∷ with_id us t) (t ∷ u ∷ us))

-- each id once, in ascending order
abbrev pub ids_once : List Id → List Id
ids_once [] = []
ids_once (t ∷ ts) = with_id (ids_once ts) t
