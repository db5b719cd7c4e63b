-- A member of a list that ascends by id is looked up, put in, taken out or changed.
use Rattle.std.proofs.Common.{◌≡◌, ℕ, zero, suc, ◌<◌, Bool, true, false, ◌||◌, not, cond, List, [], ◌∷◌, map, length, get_or, set, Option, Some, None}
use Rattle.std.proofs.Common.{refl, sym, ap, subst, ◌∙◌, arith, filter, option_map}
use Rattle.std.specs.List.{insert, remove, position_or_len, AllByRecursion}
use Rattle.std.proofs.lemmas.Bool.{false≢true}
use Rattle.std.proofs.lemmas.Bool.Decides.{nat_tests}
use Rattle.units.specs.Lists.{head, first}
use Rattle.units.specs.Ids.{Id, same_id, older}
use Rattle.units.specs.ById.{IsById, has_member, find_member, without_member, with_member, change_member}
use Rattle.units.proofs.IdLaws.{same_id-is, same_id-refl, same_id_comm, same_id-along, older_not_same, older_not_younger, older_total, older-trans, older-along}
use Rattle.units.proofs.ListLaws.{all_of_each, each_of_all, all_gives, all-keep}

-- each of these is younger than an id
abbrev pub AllYounger : {A : Type 0} → (A → Id) → Id → List A → Type 0
AllYounger id t xs = AllByRecursion (λ y. older t (id y) ≡ true) xs

-- those behind a member are younger
pub later_are_younger : {A : Type 0} (id : A → Id) (x : A) (xs : List A) → IsById id (x ∷ xs) → AllYounger id (id x) xs
later_are_younger id x xs up = all_of_each (λ y. older (id x) (id y)) xs up.0

-- a member before younger ones
pub by_id-cons : {A : Type 0} (id : A → Id) (x : A) (xs : List A) → AllYounger id (id x) xs → IsById id xs → IsById id (x ∷ xs)
by_id-cons id x xs young up = (each_of_all (λ y. older (id x) (id y)) xs young, up)

-- no member behind one has its id
pub later_differ : {A : Type 0} (id : A → Id) (t : Id) (x : A) (xs : List A) → same_id (id x) t ≡ true → AllYounger id (id x) xs
    → AllByRecursion (λ y. same_id (id y) t ≡ false) xs
later_differ id t x xs same young =
    all_gives (λ y. older (id x) (id y) ≡ true) (λ y. same_id (id y) t ≡ false)
    (λ y o. same_id_comm (id y) t ∙ sym (same_id-along (id x) t (id y) same) ∙ older_not_same (id x) (id y) o) xs young

-- the order is kept where members are taken out
pub by_id-keep : {A : Type 0} (id : A → Id) (keeps : A → Bool) (xs : List A) → IsById id xs → IsById id (filter keeps xs)
by_id-keep id keeps [] up = tt
by_id-keep id keeps (x ∷ xs) up = elim (keeps x) as (λ b. IsById id (cond b (x ∷ filter keeps xs) (filter keeps xs))) [
  | true ↦ by_id-cons id x (filter keeps xs) (all-keep (λ y. older (id x) (id y) ≡ true) keeps xs (later_are_younger id x xs up)) (by_id-keep id keeps xs up.1)
  | false ↦ by_id-keep id keeps xs up.1
]

-- and where each member is given anew with its id
pub by_id-map : {A B : Type 0} (id : A → Id) (of : B → Id) (g : A → B) → ((x : A) → of (g x) ≡ id x) → (xs : List A) → IsById id xs → IsById of (map g xs)
by_id-map id of g same [] up = tt
by_id-map {A = A} id of g same (x ∷ xs) up = by_id-cons of (g x) (map g xs) (young xs (later_are_younger id x xs up)) (by_id-map id of g same xs up.1)
  where
    young : (ys : List A) → AllYounger id (id x) ys → AllYounger of (of (g x)) (map g ys)
    young [] all = tt
    young (y ∷ ys) all = (ap (λ i. older i (of (g y))) (same x) ∙ ap (older (id x)) (same y) ∙ all.0, young ys all.1)

-- a change leaves the ids
change_keeps : {A : Type 0} (id : A → Id) (t : Id) (f : A → A) → ((x : A) → id (f x) ≡ id x) → (x : A) → id (cond (same_id (id x) t) (f x) x) ≡ id x
change_keeps id t f same x = elim (same_id (id x) t) as (λ b. id (cond b (f x) x) ≡ id x) [ true ↦ same x | false ↦ refl ]

pub by_id-change : {A : Type 0} (id : A → Id) (xs : List A) (t : Id) (f : A → A) → ((x : A) → id (f x) ≡ id x) → IsById id xs →
    IsById id (change_member id xs t f)
by_id-change id xs t f same up = by_id-map id id (λ x. cond (same_id (id x) t) (f x) x) (change_keeps id t f same) xs up

-- what each has and the new one, each has of the members with the new one
pub all-with : {A : Type 0} (P : A → Type 0) (id : A → Id) (xs : List A) (y : A) → P y → AllByRecursion P xs → AllByRecursion P (with_member id xs y)
all-with P id [] y e all = (e, tt)
all-with P id (x ∷ xs) y e all = by_tests (same_id (id x) (id y)) (older (id x) (id y)) (all-with P id xs y e all.1)
  where
    by_tests : (a b : Bool) → AllByRecursion P (with_member id xs y) → AllByRecursion P (cond a (y ∷ xs) (cond b (x ∷ with_member id xs y) (y ∷ x ∷ xs)))
    by_tests true b rest = (e, all.1)
    by_tests false true rest = (all.0, rest)
    by_tests false false rest = (e, all)

-- and where one is put in its place
pub by_id-with : {A : Type 0} (id : A → Id) (xs : List A) (y : A) → IsById id xs → IsById id (with_member id xs y)
by_id-with id [] y up = by_id-cons id y [] tt tt
by_id-with {A = A} id (x ∷ xs) y up = by_tests (same_id (id x) (id y)) (older (id x) (id y)) refl refl (by_id-with id xs y up.1)
  where
    young : AllYounger id (id x) xs
    young = later_are_younger id x xs up

    by_tests : (a b : Bool) → same_id (id x) (id y) ≡ a → older (id x) (id y) ≡ b → IsById id (with_member id xs y)
        → IsById id (cond a (y ∷ xs) (cond b (x ∷ with_member id xs y) (y ∷ x ∷ xs)))
    by_tests true b s o rest =
        by_id-cons id y xs (all_gives (λ z. older (id x) (id z) ≡ true) (λ z. older (id y) (id z) ≡ true)
        (λ z k. sym (older-along (id x) (id y) (id z) s) ∙ k) xs young) up.1
    by_tests false true s o rest = by_id-cons id x (with_member id xs y) (all-with (λ z. older (id x) (id z) ≡ true) id xs y o young) rest
    by_tests false false s o rest =
        let first : older (id y) (id x) ≡ true = older_total (id x) (id y) s o in
        by_id-cons id y (x ∷ xs) (
          first,
          all_gives (λ z. older (id x) (id z) ≡ true) (λ z. older (id y) (id z) ≡ true)
              (λ z k. older-trans (id y) (id x) (id z) first k) xs young,
        ) up

-- where no member has the id, nothing is changed
pub change_none : {A : Type 0} (id : A → Id) (xs : List A) (t : Id) (f : A → A) → AllByRecursion (λ y. same_id (id y) t ≡ false) xs →
    change_member id xs t f ≡ xs
change_none id [] t f none = refl
change_none id (x ∷ xs) t f none = rw none.0 (ap (λ r. x ∷ r) (change_none id xs t f none.1))

-- and nothing is taken out
pub without_none : {A : Type 0} (id : A → Id) (xs : List A) (t : Id) → AllByRecursion (λ y. same_id (id y) t ≡ false) xs → without_member id xs t ≡ xs
without_none id [] t none = refl
without_none id (x ∷ xs) t none = rw none.0 (ap (λ r. x ∷ r) (without_none id xs t none.1))

-- a member that has the id has a place
pub place_within : {A : Type 0} (id : A → Id) (xs : List A) (t : Id) → has_member id xs t ≡ true → position_or_len (λ x. same_id (id x) t) xs < length xs
place_within id [] t h = cc
place_within id (x ∷ xs) t h = grind (arith, nat_tests, place_within id xs t)

-- what stands at the place is the member
pub find_at_place : {A : Type 0} (id : A → Id) (xs : List A) (t : Id) (p : ℕ) (y : A) → p ≡ position_or_len (λ x. same_id (id x) t) xs →
    p < length xs → y ≡ get_or xs p y
    → find_member id xs t ≡ Some y
find_at_place id [] t p y e lt at = absurd (omega arith)
find_at_place id (x ∷ xs) t zero y e lt at =
    let same : same_id (id x) t ≡ true = grind (arith, nat_tests) in rw same (ap (λ z. Some z) (sym at))
find_at_place id (x ∷ xs) t (suc p) y e lt at =
    let other : same_id (id x) t ≡ false = grind (arith, nat_tests) in rw other (find_at_place id xs t p y (grind (arith, nat_tests)) (omega arith) at)

-- writing over the place changes the member, and nothing else
pub set_is_change : {A : Type 0} (id : A → Id) (xs : List A) (t : Id) (f : A → A) → IsById id xs → (p : ℕ) (y z : A)
    → p ≡ position_or_len (λ x. same_id (id x) t) xs → p < length xs → y ≡ get_or xs p y → z ≡ f y → set xs p z ≡ change_member id xs t f
set_is_change id [] t f up p y z e lt at made = absurd (omega arith)
set_is_change id (x ∷ xs) t f up zero y z e lt at made =
    let same : same_id (id x) t ≡ true = grind (arith, nat_tests) in
    ap (λ w. w ∷ xs) (made ∙ ap f at) ∙ rw same (ap (λ r. f x ∷ r) (sym (change_none id xs t f (later_differ id t x xs same (later_are_younger id x xs up)))))
set_is_change id (x ∷ xs) t f up (suc p) y z e lt at made =
    let other : same_id (id x) t ≡ false = grind (arith, nat_tests) in
    rw other (ap (λ r. x ∷ r) (set_is_change id xs t f up.1 p y z (grind (arith, nat_tests)) (omega arith) at made))

-- putting a new member before the first younger one puts it in its place
pub insert_is_with : {A : Type 0} (id : A → Id) (xs : List A) (y : A) (p : ℕ) → has_member id xs (id y) ≡ false →
    p ≡ position_or_len (λ x. older (id y) (id x)) xs
    → insert xs p y ≡ with_member id xs y
insert_is_with id [] y zero new e = refl
insert_is_with id [] y (suc p) new e = absurd (omega arith)
insert_is_with id (x ∷ xs) y zero new e =
    let first : older (id y) (id x) ≡ true = grind (arith, nat_tests) in
    let other : same_id (id x) (id y) ≡ false = grind (arith, nat_tests) in
    let behind : older (id x) (id y) ≡ false = grind (arith, nat_tests) in
    rw (other, behind) refl
insert_is_with id (x ∷ xs) y (suc p) new e =
    let first : older (id y) (id x) ≡ false = grind (arith, nat_tests) in
    let other : same_id (id x) (id y) ≡ false = grind (arith, nat_tests) in
    let before : older (id x) (id y) ≡ true = older_total (id y) (id x) (same_id_comm (id y) (id x) ∙ other) first in
    rw (other, before) (ap (λ r. x ∷ r) (insert_is_with id xs y p (grind (arith, nat_tests)) (grind (arith, nat_tests))))

-- taking out what stands at the place takes the member out
pub remove_is_without : {A : Type 0} (id : A → Id) (xs : List A) (t : Id) (p : ℕ) → IsById id xs → p ≡ position_or_len (λ x. same_id (id x) t) xs →
    p < length xs
    → remove xs p ≡ without_member id xs t
remove_is_without id [] t p up e lt = absurd (omega arith)
remove_is_without id (x ∷ xs) t zero up e lt =
    let same : same_id (id x) t ≡ true = grind (arith, nat_tests) in
    rw same (sym (without_none id xs t (later_differ id t x xs same (later_are_younger id x xs up))))
remove_is_without id (x ∷ xs) t (suc p) up e lt =
    let other : same_id (id x) t ≡ false = grind (arith, nat_tests) in
    rw other (ap (λ r. x ∷ r) (remove_is_without id xs t p up.1 (grind (arith, nat_tests)) (omega arith)))

-- the member that is found has the id
pub found_is : {A : Type 0} (id : A → Id) (xs : List A) (t : Id) (y : A) → find_member id xs t ≡ Some y → same_id (id y) t ≡ true
found_is id [] t y e = cc
found_is id (x ∷ xs) t y e = by_test (same_id (id x) t) refl (λ k. found_is id xs t y k) e
  where
    by_test : (b : Bool) → same_id (id x) t ≡ b → (find_member id xs t ≡ Some y → same_id (id y) t ≡ true) →
        head (cond b (x ∷ filter (λ x. same_id (id x) t) xs) (filter (λ x. same_id (id x) t) xs)) ≡ Some y → same_id (id y) t ≡ true
    by_test true s rest k = let is : x ≡ y = cc in ap (λ z. same_id (id z) t) (sym is) ∙ s
    by_test false s rest k = rest k

-- a member is found where some member has the id
pub found_has : {A : Type 0} (id : A → Id) (xs : List A) (t : Id) (y : A) → find_member id xs t ≡ Some y → has_member id xs t ≡ true
found_has id [] t y e = cc
found_has id (x ∷ xs) t y e = by_test (same_id (id x) t) (λ k. found_has id xs t y k) e
  where
    by_test : (b : Bool) → (find_member id xs t ≡ Some y → has_member id xs t ≡ true) → head
        (cond b (x ∷ filter (λ x. same_id (id x) t) xs) (filter (λ x. same_id (id x) t) xs)) ≡ Some y → (b || has_member id xs t) ≡ true
    by_test true rest k = refl
    by_test false rest k = rest k

-- none is found where no member has the id
pub found_none : {A : Type 0} (id : A → Id) (xs : List A) (t : Id) → has_member id xs t ≡ false → find_member id xs t ≡ None
found_none id [] t h = refl
found_none id (x ∷ xs) t h =
    let other : same_id (id x) t ≡ false = grind (arith, nat_tests) in rw other (found_none id xs t (grind (arith, nat_tests)))

-- a fact of each, of the one that is found
pub found_all : {A : Type 0} (P : A → Type 0) (id : A → Id) (xs : List A) (t : Id) (y : A) → AllByRecursion P xs → find_member id xs t ≡ Some y → P y
found_all P id [] t y all e = cc
found_all P id (x ∷ xs) t y all e = by_test (same_id (id x) t) (λ k. found_all P id xs t y all.1 k) e
  where
    by_test : (b : Bool) → (find_member id xs t ≡ Some y → P y) →
        head (cond b (x ∷ filter (λ x. same_id (id x) t) xs) (filter (λ x. same_id (id x) t) xs)) ≡ Some y → P y
    by_test true rest k = let is : x ≡ y = cc in subst P is all.0
    by_test false rest k = rest k

-- where no member passes a test, none is the first
pub first_none : {A : Type 0} (p : A → Bool) (xs : List A) → first p xs ≡ None → AllByRecursion (λ x. p x ≡ false) xs
first_none p [] e = tt
first_none p (x ∷ xs) e = by_test (p x) refl (λ k. first_none p xs k) e
  where
    by_test : (b : Bool) → p x ≡ b → (first p xs ≡ None → AllByRecursion (λ x. p x ≡ false) xs) → head (cond b (x ∷ filter p xs) (filter p xs)) ≡ None
        → AllByRecursion (λ x. p x ≡ false) (x ∷ xs)
    by_test true s rest k = cc
    by_test false s rest k = (s, rest k)

-- the first that passes a test passes it
pub first_passes : {A : Type 0} (p : A → Bool) (xs : List A) (y : A) → first p xs ≡ Some y → p y ≡ true
first_passes p [] y e = cc
first_passes p (x ∷ xs) y e = by_test (p x) refl (λ k. first_passes p xs y k) e
  where
    by_test : (b : Bool) → p x ≡ b → (first p xs ≡ Some y → p y ≡ true) → head (cond b (x ∷ filter p xs) (filter p xs)) ≡ Some y → p y ≡ true
    by_test true s rest k = let is : x ≡ y = cc in ap p (sym is) ∙ s
    by_test false s rest k = rest k

-- it has what each has
pub first_all : {A : Type 0} (P : A → Type 0) (p : A → Bool) (xs : List A) (y : A) → AllByRecursion P xs → first p xs ≡ Some y → P y
first_all P p [] y all e = cc
first_all P p (x ∷ xs) y all e = by_test (p x) (λ k. first_all P p xs y all.1 k) e
  where
    by_test : (b : Bool) → (first p xs ≡ Some y → P y) → head (cond b (x ∷ filter p xs) (filter p xs)) ≡ Some y → P y
    by_test true rest k = let is : x ≡ y = cc in subst P is all.0
    by_test false rest k = rest k

-- it is the member of its id
pub find-first : {A : Type 0} (id : A → Id) (p : A → Bool) (xs : List A) (y : A) → IsById id xs → first p xs ≡ Some y → find_member id xs (id y) ≡ Some y
find-first id p [] y up e = cc
find-first id p (x ∷ xs) y up e = by_test (p x) (λ k. find-first id p xs y up.1 k) e
  where
    by_test : (b : Bool) → (first p xs ≡ Some y → find_member id xs (id y) ≡ Some y) → head (cond b (x ∷ filter p xs) (filter p xs)) ≡ Some y
        → head (cond (same_id (id x) (id y)) (x ∷ filter (λ z. same_id (id z) (id y)) xs) (filter (λ z. same_id (id z) (id y)) xs)) ≡ Some y
    by_test true rest k =
        let is : x ≡ y = cc in
        let same : same_id (id x) (id y) ≡ true = ap (λ z. same_id (id x) (id z)) (sym is) ∙ same_id-refl (id x) in
        rw same (ap (λ z. Some z) is)
    by_test false rest k =
        let other : same_id (id x) (id y) ≡ false = older_not_same (id x) (id y) (first_all (λ z. older (id x) (id z) ≡ true) p xs y
        (later_are_younger id x xs up) k) in
        rw other (rest k)

-- and no older member passes it
pub first_oldest : {A : Type 0} (id : A → Id) (p : A → Bool) (xs : List A) (y : A) → IsById id xs → first p xs ≡ Some y
    → AllByRecursion (λ z. older (id z) (id y) ≡ true → p z ≡ false) xs
first_oldest id p [] y up e = tt
first_oldest id p (x ∷ xs) y up e = by_test (p x) refl (λ k. first_oldest id p xs y up.1 k) e
  where
    by_test : (b : Bool) → p x ≡ b → (first p xs ≡ Some y → AllByRecursion (λ z. older (id z) (id y) ≡ true → p z ≡ false) xs)
        → head (cond b (x ∷ filter p xs) (filter p xs)) ≡ Some y → AllByRecursion (λ z. older (id z) (id y) ≡ true → p z ≡ false) (x ∷ xs)
    by_test true s rest k =
        let is : x ≡ y = cc in (
          λ o. absurd (false≢true (sym (older_not_same (id x) (id y) o) ∙ ap (λ z. same_id (id x) (id z)) (sym is) ∙ same_id-refl (id x))),
          all_gives (λ z. older (id x) (id z) ≡ true) (λ z. older (id z) (id y) ≡ true → p z ≡ false)
              (λ z young o. absurd (false≢true (sym (older_not_younger (id z) (id y) o) ∙ ap (λ w. older (id w) (id z)) (sym is) ∙ young))) xs
              (later_are_younger id x xs up),
        )
    by_test false s rest k = (λ o. s, rest k)

-- changing the member that is found gives it anew
pub change_is_with : {A : Type 0} (id : A → Id) (xs : List A) (t : Id) (f : A → A) (y : A) → IsById id xs → find_member id xs t ≡ Some y → id (f y) ≡ id y
    → change_member id xs t f ≡ with_member id xs (f y)
change_is_with id [] t f y up e same = cc
change_is_with id (x ∷ xs) t f y up e same = by_test (same_id (id x) t) refl (λ k. change_is_with id xs t f y up.1 k same) e
  where
    by_test : (b : Bool) → same_id (id x) t ≡ b → (find_member id xs t ≡ Some y → change_member id xs t f ≡ with_member id xs (f y))
        → head (cond b (x ∷ filter (λ x. same_id (id x) t) xs) (filter (λ x. same_id (id x) t) xs)) ≡ Some y
        → cond b (f x) x ∷ change_member id xs t f ≡ with_member id (x ∷ xs) (f y)
    by_test true s rest k =
        let is : x ≡ y = cc in
        let there : same_id (id x) (id (f y)) ≡ true = ap (same_id (id x)) same ∙ ap (λ z. same_id (id x) (id z)) (sym is) ∙ same_id-refl (id x) in
        rw there (ap (λ z. f z ∷ change_member id xs t f) is ∙ ap (λ r. f y ∷ r) (change_none id xs t f
        (later_differ id t x xs s (later_are_younger id x xs up))))
    by_test false s rest k =
        let t_is : same_id (id y) t ≡ true = found_is id xs t y k in
        let other : same_id (id x) (id (f y)) ≡ false =
        ap (same_id (id x)) same ∙ same_id_comm (id x) (id y) ∙ same_id-along (id y) t (id x) t_is ∙ same_id_comm t (id x) ∙ s in
        let before : older (id x) (id (f y)) ≡ true = ap (older (id x)) same ∙ found_all (λ z. older (id x) (id z) ≡ true) id xs t y
        (later_are_younger id x xs up) k in
        rw (other, before) (ap (λ r. x ∷ r) (rest k))

-- the member of another id, where one is taken out
pub find-without_other : {A : Type 0} (id : A → Id) (xs : List A) (t u : Id) → same_id u t ≡ false →
    find_member id (without_member id xs u) t ≡ find_member id xs t
find-without_other id [] t u differ = refl
find-without_other id (x ∷ xs) t u differ = by_tests (same_id (id x) t) (same_id (id x) u) refl refl (find-without_other id xs t u differ)
  where
    by_tests : (a b : Bool) → same_id (id x) t ≡ a → same_id (id x) u ≡ b → find_member id (without_member id xs u) t ≡ find_member id xs t
        → find_member id (cond (not b) (x ∷ without_member id xs u) (without_member id xs u)) t
        ≡ head (cond a (x ∷ filter (λ x. same_id (id x) t) xs) (filter (λ x. same_id (id x) t) xs))
    by_tests true true s v rest = absurd (false≢true (sym differ ∙ sym (same_id-along (id x) u t v) ∙ s))
    by_tests true false s v rest = rw s refl
    by_tests false true s v rest = rest
    by_tests false false s v rest = rw s rest

-- no member of an id is left where it is taken out
pub all-without : {A : Type 0} (id : A → Id) (xs : List A) (t : Id) → AllByRecursion (λ y. same_id (id y) t ≡ false) (without_member id xs t)
all-without id [] t = tt
all-without id (x ∷ xs) t = by_test (same_id (id x) t) refl (all-without id xs t)
  where
    by_test : (b : Bool) → same_id (id x) t ≡ b → AllByRecursion (λ y. same_id (id y) t ≡ false) (without_member id xs t)
        → AllByRecursion (λ y. same_id (id y) t ≡ false) (cond (not b) (x ∷ without_member id xs t) (without_member id xs t))
    by_test true s rest = rest
    by_test false s rest = (s, rest)

-- whether another id is there, where one is taken out
pub has-without_other : {A : Type 0} (id : A → Id) (xs : List A) (t u : Id) → same_id u t ≡ false →
    has_member id (without_member id xs u) t ≡ has_member id xs t
has-without_other id [] t u differ = refl
has-without_other id (x ∷ xs) t u differ = by_tests (same_id (id x) t) (same_id (id x) u) refl refl (has-without_other id xs t u differ)
  where
    by_tests : (a b : Bool) → same_id (id x) t ≡ a → same_id (id x) u ≡ b → has_member id (without_member id xs u) t ≡ has_member id xs t
        → has_member id (cond (not b) (x ∷ without_member id xs u) (without_member id xs u)) t ≡ (a || has_member id xs t)
    by_tests true true s v rest = absurd (false≢true (sym differ ∙ sym (same_id-along (id x) u t v) ∙ s))
    by_tests true false s v rest = rw s refl
    by_tests false true s v rest = rest
    by_tests false false s v rest = rw s rest

-- what is put in its place is found by its id
pub find-with_same : {A : Type 0} (id : A → Id) (xs : List A) (y : A) → find_member id (with_member id xs y) (id y) ≡ Some y
find-with_same id [] y = rw (same_id-refl (id y)) refl
find-with_same id (x ∷ xs) y = by_tests (same_id (id x) (id y)) (older (id x) (id y)) refl (find-with_same id xs y)
  where
    by_tests : (a b : Bool) → same_id (id x) (id y) ≡ a → find_member id (with_member id xs y) (id y) ≡ Some y
        → find_member id (cond a (y ∷ xs) (cond b (x ∷ with_member id xs y) (y ∷ x ∷ xs))) (id y) ≡ Some y
    by_tests true b s rest = rw (same_id-refl (id y)) refl
    by_tests false true s rest = rw s rest
    by_tests false false s rest = rw (same_id-refl (id y)) refl

-- the members of other ids stay
pub find-with_other : {A : Type 0} (id : A → Id) (xs : List A) (y : A) (t : Id) → same_id (id y) t ≡ false →
    find_member id (with_member id xs y) t ≡ find_member id xs t
find-with_other id [] y t differ = rw differ refl
find-with_other id (x ∷ xs) y t differ = by_tests (same_id (id x) (id y)) (older (id x) (id y)) refl (find-with_other id xs y t differ)
  where
    by_tests : (a b : Bool) → same_id (id x) (id y) ≡ a → find_member id (with_member id xs y) t ≡ find_member id xs t
        → find_member id (cond a (y ∷ xs) (cond b (x ∷ with_member id xs y) (y ∷ x ∷ xs))) t ≡ find_member id (x ∷ xs) t
    by_tests true b s rest =
        let other : same_id (id x) t ≡ false = same_id-along (id x) (id y) t s ∙ differ in rw (differ, other) refl
    by_tests false true s rest = elim (same_id (id x) t) as (λ c. head (cond c (x ∷ filter (λ z. same_id (id z) t) (with_member id xs y))
        (filter (λ z. same_id (id z) t) (with_member id xs y)))
        ≡ head (cond c (x ∷ filter (λ z. same_id (id z) t) xs) (filter (λ z. same_id (id z) t) xs))) [ true ↦ refl | false ↦ rest ]
    by_tests false false s rest = rw differ refl

-- a view of each member that has the member's id
pub find-map : {A B : Type 0} (id : A → Id) (of : B → Id) (g : A → B) → ((x : A) → of (g x) ≡ id x) → (xs : List A) (t : Id) →
    find_member of (map g xs) t ≡ option_map g (find_member id xs t)
find-map id of g same [] t = refl
find-map id of g same (x ∷ xs) t = rw (same x) (by_test (same_id (id x) t) (find-map id of g same xs t))
  where
    by_test : (b : Bool) → find_member of (map g xs) t ≡ option_map g (find_member id xs t)
        → head (cond b (g x ∷ filter (λ z. same_id (of z) t) (map g xs)) (filter (λ z. same_id (of z) t) (map g xs)))
        ≡ option_map g (head (cond b (x ∷ filter (λ z. same_id (id z) t) xs) (filter (λ z. same_id (id z) t) xs)))
    by_test true rest = refl
    by_test false rest = rest

pub without-map : {A B : Type 0} (id : A → Id) (of : B → Id) (g : A → B) → ((x : A) → of (g x) ≡ id x) → (xs : List A) (t : Id) →
    without_member of (map g xs) t ≡ map g (without_member id xs t)
without-map id of g same [] t = refl
without-map id of g same (x ∷ xs) t = rw (same x) (by_test (same_id (id x) t) (without-map id of g same xs t))
  where
    by_test : (b : Bool) → without_member of (map g xs) t ≡ map g (without_member id xs t)
        → cond (not b) (g x ∷ without_member of (map g xs) t) (without_member of (map g xs) t) ≡
        map g (cond (not b) (x ∷ without_member id xs t) (without_member id xs t))
    by_test true e = e
    by_test false e = ap (λ r. g x ∷ r) e

pub with-map : {A B : Type 0} (id : A → Id) (of : B → Id) (g : A → B) → ((x : A) → of (g x) ≡ id x) → (xs : List A) (y : A) →
    with_member of (map g xs) (g y) ≡ map g (with_member id xs y)
with-map id of g same [] y = refl
with-map id of g same (x ∷ xs) y = rw (same x, same y) (by_tests (same_id (id x) (id y)) (older (id x) (id y)) (with-map id of g same xs y))
  where
    by_tests : (a b : Bool) → with_member of (map g xs) (g y) ≡ map g (with_member id xs y)
        → cond a (g y ∷ map g xs) (cond b (g x ∷ with_member of (map g xs) (g y)) (g y ∷ g x ∷ map g xs))
        ≡ map g (cond a (y ∷ xs) (cond b (x ∷ with_member id xs y) (y ∷ x ∷ xs)))
    by_tests true b e = refl
    by_tests false true e = ap (λ r. g x ∷ r) e
    by_tests false false e = refl

-- an id that is older than each member's has no member
pub find_before : {A : Type 0} (id : A → Id) (xs : List A) (t : Id) → AllYounger id t xs → find_member id xs t ≡ None
find_before id [] t young = refl
find_before id (x ∷ xs) t young = rw (same_id_comm (id x) t ∙ older_not_same t (id x) young.0) (find_before id xs t young.1)

-- the first of two lists whose ids have the same members is not before that of the other
not_before : {A : Type 0} (id : A → Id) (x y : A) (xs ys : List A) → IsById id (y ∷ ys)
    → ((t : Id) → find_member id (x ∷ xs) t ≡ find_member id (y ∷ ys) t) → older (id x) (id y) ≡ false
not_before {A = A} id x y xs ys up same = by_test (older (id x) (id y)) refl
  where
    there : find_member id (x ∷ xs) (id x) ≡ Some x
    there = rw (same_id-refl (id x)) refl

    by_test : (b : Bool) → older (id x) (id y) ≡ b → b ≡ false
    by_test true o =
        let none : find_member id (y ∷ ys) (id x) ≡ None = find_before id (y ∷ ys) (id x) (
          o,
          all_gives (λ z. older (id y) (id z) ≡ true) (λ z. older (id x) (id z) ≡ true)
              (λ z k. older-trans (id x) (id y) (id z) o k) ys (later_are_younger id y ys up),
        ) in
        let clash : ◌≡◌ {A = Option A} (Some x) None = sym there ∙ same (id x) ∙ none in
        cc
    by_test false o = refl

-- behind a common first member two such lists have the same members too
same_behind : {A : Type 0} (id : A → Id) (x : A) (xs ys : List A) → IsById id (x ∷ xs) → IsById id (x ∷ ys)
    → ((t : Id) → find_member id (x ∷ xs) t ≡ find_member id (x ∷ ys) t) → (t : Id) → find_member id xs t ≡ find_member id ys t
same_behind id x xs ys up vp same t = by_test (same_id (id x) t) refl (same t)
  where
    by_test : (b : Bool) → same_id (id x) t ≡ b
        → head (cond b (x ∷ filter (λ z. same_id (id z) t) xs) (filter (λ z. same_id (id z) t) xs))
        ≡ head (cond b (x ∷ filter (λ z. same_id (id z) t) ys) (filter (λ z. same_id (id z) t) ys))
        → find_member id xs t ≡ find_member id ys t
    by_test true s k =
        subst (λ u. find_member id xs u ≡ find_member id ys u) (same_id-is (id x) t s)
        (find_before id xs (id x) (later_are_younger id x xs up) ∙ sym (find_before id ys (id x) (later_are_younger id x ys vp)))
    by_test false s k = k

-- lists by id whose ids have the same members are one
pub same_members : {A : Type 0} (id : A → Id) (xs ys : List A) → IsById id xs → IsById id ys
    → ((t : Id) → find_member id xs t ≡ find_member id ys t) → xs ≡ ys
same_members id [] [] up vp same = refl
same_members {A = A} id [] (y ∷ ys) up vp same =
    let there : find_member id (y ∷ ys) (id y) ≡ Some y = rw (same_id-refl (id y)) refl in
    let clash : ◌≡◌ {A = Option A} None (Some y) = same (id y) ∙ there in
    cc
same_members {A = A} id (x ∷ xs) [] up vp same =
    let there : find_member id (x ∷ xs) (id x) ≡ Some x = rw (same_id-refl (id x)) refl in
    let clash : ◌≡◌ {A = Option A} (Some x) None = sym there ∙ same (id x) in
    cc
same_members {A = A} id (x ∷ xs) (y ∷ ys) up vp same =
    let ids : same_id (id y) (id x) ≡ true =
    by_test (same_id (id y) (id x)) refl (not_before id x y xs ys vp same) (not_before id y x ys xs up (λ t. sym (same t))) in
    let mine : find_member id (x ∷ xs) (id x) ≡ Some x = rw (same_id-refl (id x)) refl in
    let theirs : find_member id (y ∷ ys) (id x) ≡ Some y = rw ids refl in
    let found : ◌≡◌ {A = Option A} (Some x) (Some y) = sym mine ∙ same (id x) ∙ theirs in
    let one : y ≡ x = cc in
    let behind : xs ≡ ys =
    same_members id xs ys up.1 vp.1 (same_behind id x xs ys up (subst (λ z. IsById id (z ∷ ys)) one vp)
    (subst (λ z. (t : Id) → find_member id (x ∷ xs) t ≡ find_member id (z ∷ ys) t) one same)) in
    ap (λ l. x ∷ l) behind ∙ ap (λ z. z ∷ ys) (sym one)
  where
    by_test : (b : Bool) → same_id (id y) (id x) ≡ b → older (id x) (id y) ≡ false → older (id y) (id x) ≡ false → b ≡ true
    by_test true s o p = refl
    by_test false s o p = absurd (false≢true (sym o ∙ older_total (id y) (id x) s p))
