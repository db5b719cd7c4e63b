-- Lists whose members have an id each, in ascending order of these. The id is a function of the member.
use Rattle.std.specs.List.{list_any, list_all}
use Rattle.std.specs.Prelude.{IsTrue, Bool, not, cond, List, [], ◌∷◌, map, Option, filter}
use Rattle.units.specs.Lists.{first}
use Rattle.units.specs.Ids.{Id, same_id, older}

-- each member is older than those behind it, so each id stands once
abbrev pub IsById : {A : Type 0} → (A → Id) → List A → Type 0
IsById id [] = Unit {0}
IsById id (x ∷ xs) = IsTrue (list_all (λ y. older (id x) (id y)) xs) × IsById id xs

-- some member has the id
abbrev pub has_member : {A : Type 0} → (A → Id) → List A → Id → Bool
has_member id xs t = list_any (λ x. same_id (id x) t) xs

-- the member of an id
abbrev pub find_member : {A : Type 0} → (A → Id) → List A → Id → Option A
find_member id xs t = first (λ x. same_id (id x) t) xs

-- the members without that of an id
abbrev pub without_member : {A : Type 0} → (A → Id) → List A → Id → List A
without_member id xs t = filter (λ x. not (same_id (id x) t)) xs

-- the members with one given anew, in its place
abbrev pub with_member : {A : Type 0} → (A → Id) → List A → A → List A
with_member id [] y = y ∷ []
with_member id (x ∷ xs) y =
    cond (same_id (id x) (id y)) (y ∷ xs)
    (cond (older (id x) (id y)) (x ∷ with_member id xs y) (y ∷ x ∷ xs))

-- the members with that of an id changed
abbrev pub change_member : {A : Type 0} → (A → Id) → List A → Id → (A → A) → List A
change_member id xs t f = map (λ x. cond (same_id (id x) t) (f x) x) xs
