-- The members of a list in ascending order: one list, whoever sorts them.
use Rattle.std.specs.List.{list_all}
use Rattle.std.specs.List.Sorted.{ties}
use Rattle.std.specs.Cmp.{IsStrictWeakOrder}
use Rattle.std.proofs.Common.{◌≡◌, ◌∙◌, Bool, true, false, not, ◌&&◌, cond, List, [], ◌∷◌, unwrap_or, filter, refl, sym, ap}
use Rattle.std.proofs.lemmas.Bool.{and_parts, and_from, false≢true}
use Rattle.units.specs.Lists.{head, insert, sorted, tail}
use Rattle.inspector.specs.Ascending.{AscendsBy}

is_false : (b : Bool) → not b ≡ true → b ≡ false
is_false true e = cc
is_false false e = refl

-- ---- a member put in its place

-- none comes before one that comes before x, nor before x
above_insert : {A : Type 0} (less : A → A → Bool) (y x : A) (zs : List A) → less x y ≡ false → list_all (λ z. not (less z y)) zs ≡ true
    → list_all (λ z. not (less z y)) (insert less x zs) ≡ true
above_insert less y x [] here all = and_from _ _ (ap not here) refl
above_insert less y x (z ∷ zs) here all = by_test (less z x) (and_parts _ _ all) (above_insert less y x zs here ((and_parts _ _ all).1))
  where
    by_test : (b : Bool) → (not (less z y) ≡ true) × (list_all (λ w. not (less w y)) zs ≡ true) → list_all (λ w. not (less w y)) (insert less x zs) ≡ true
        → list_all (λ w. not (less w y)) (cond b (z ∷ insert less x zs) (x ∷ z ∷ zs)) ≡ true
    by_test true p rest = and_from _ _ p.0 rest
    by_test false p rest = and_from _ _ (ap not here) (and_from _ _ p.0 p.1)

-- those that don't come before y don't come before x, which is not after y
above_also : {A : Type 0} (less : A → A → Bool) → IsStrictWeakOrder less → (x y : A) (zs : List A) → less y x ≡ false → list_all (λ z. not (less z y)) zs ≡ true
    → list_all (λ z. not (less z x)) zs ≡ true
above_also less order x y [] here all = refl
above_also less order x y (z ∷ zs) here all =
    and_from _ _ (ap not (order.chain z y x (is_false _ (and_parts _ _ all).0) here)) (above_also less order x y zs here (and_parts _ _ all).1)

ascends_insert : {A : Type 0} (less : A → A → Bool) → IsStrictWeakOrder less → (x : A) (ys : List A) → AscendsBy less ys → AscendsBy less (insert less x ys)
ascends_insert less order x [] up = (refl, tt)
ascends_insert less order x (y ∷ ys) up = by_test (less y x) refl (ascends_insert less order x ys up.1)
  where
    by_test : (b : Bool) → less y x ≡ b → AscendsBy less (insert less x ys) → AscendsBy less (cond b (y ∷ insert less x ys) (x ∷ y ∷ ys))
    by_test true is rest = (above_insert less y x ys (order.one_way y x is) up.0, rest)
    by_test false is rest = (and_from _ _ (ap not is) (above_also less order x y ys is up.0), up)

pub ascends_sorted : {A : Type 0} (less : A → A → Bool) → IsStrictWeakOrder less → (xs : List A) → AscendsBy less (sorted less xs)
ascends_sorted less order [] = tt
ascends_sorted less order (x ∷ xs) = ascends_insert less order x (sorted less xs) (ascends_sorted less order xs)

-- ---- those that tie stay in their order

stable_insert : {A : Type 0} (less : A → A → Bool) → IsStrictWeakOrder less → (q x : A) (ys : List A)
    → filter (ties less q) (insert less x ys) ≡ filter (ties less q) (x ∷ ys)
stable_insert less order q x [] = refl
stable_insert {A = A} less order q x (y ∷ ys) = by_test (less y x) refl (stable_insert less order q x ys)
  where
    turn : less y x ≡ true → (a b : Bool) → ties less q x ≡ a → ties less q y ≡ b
        → cond b (y ∷ cond a (x ∷ filter (ties less q) ys) (filter (ties less q) ys)) (cond a (x ∷ filter (ties less q) ys) (filter (ties less q) ys))
        ≡ cond a (x ∷ cond b (y ∷ filter (ties less q) ys) (filter (ties less q) ys)) (cond b (y ∷ filter (ties less q) ys) (filter (ties less q) ys))
    turn is true true tx ty =
        let not_qx : less q x ≡ false = is_false _ (and_parts _ _ tx).0 in
        let not_yq : less y q ≡ false = is_false _ (and_parts _ _ ty).1 in
        absurd (false≢true (sym (order.chain y q x not_yq not_qx) ∙ is))
    turn is true false tx ty = refl
    turn is false b tx ty = refl

    by_test : (b : Bool) → less y x ≡ b → filter (ties less q) (insert less x ys) ≡ filter (ties less q) (x ∷ ys)
        → filter (ties less q) (cond b (y ∷ insert less x ys) (x ∷ y ∷ ys)) ≡ filter (ties less q) (x ∷ y ∷ ys)
    by_test true is rest =
        ap (λ zs. cond (ties less q y) (y ∷ zs) zs) rest ∙ turn is (ties less q x) (ties less q y) refl refl
    by_test false is rest = refl

pub stable_sorted : {A : Type 0} (less : A → A → Bool) → IsStrictWeakOrder less → (q : A) (xs : List A)
    → filter (ties less q) (sorted less xs) ≡ filter (ties less q) xs
stable_sorted less order q [] = refl
stable_sorted less order q (x ∷ xs) =
    stable_insert less order q x (sorted less xs)
    ∙ ap (λ zs. cond (ties less q x) (x ∷ zs) zs) (stable_sorted less order q xs)

-- ---- such a list is one

not_itself : {A : Type 0} (less : A → A → Bool) → IsStrictWeakOrder less → (x : A) → less x x ≡ false
not_itself less order x = by_test (less x x) refl
  where
    by_test : (b : Bool) → less x x ≡ b → less x x ≡ false
    by_test true e = order.one_way x x e
    by_test false e = e

ties_itself : {A : Type 0} (less : A → A → Bool) → IsStrictWeakOrder less → (x : A) → ties less x x ≡ true
ties_itself less order x = λ i. not (not_itself less order x i) && not (not_itself less order x i)

with_itself : {A : Type 0} (less : A → A → Bool) → IsStrictWeakOrder less → (x : A) (xs : List A) → filter (ties less x) (x ∷ xs) ≡ x ∷ filter (ties less x) xs
with_itself less order x xs = ap (λ b. cond b (x ∷ filter (ties less x) xs) (filter (ties less x) xs)) (ties_itself less order x)

-- none ties with one that comes before the first
none_ties : {A : Type 0} (less : A → A → Bool) → IsStrictWeakOrder less → (y z : A) (zs : List A) → less y z ≡ true → list_all (λ w. not (less w z)) zs ≡ true
    → filter (ties less y) zs ≡ []
none_ties less order y z [] later all = refl
none_ties less order y z (w ∷ zs) later all = by_test (none_ties less order y z zs later (and_parts _ _ all).1) (less y w) refl
  where
    by_test : filter (ties less y) zs ≡ [] → (b : Bool) → less y w ≡ b
        → cond (not (less y w) && not (less w y)) (w ∷ filter (ties less y) zs) (filter (ties less y) zs) ≡ []
    by_test rest true e = ap (λ b. cond (not b && not (less w y)) (w ∷ filter (ties less y) zs) (filter (ties less y) zs)) e ∙ rest
    by_test rest false e = absurd (false≢true (sym (order.chain y w z e (is_false _ (and_parts _ _ all).0)) ∙ later))

none_from : {A : Type 0} (less : A → A → Bool) → IsStrictWeakOrder less → (y z : A) (zs : List A) → less y z ≡ true → list_all (λ w. not (less w z)) zs ≡ true
    → filter (ties less y) (z ∷ zs) ≡ []
none_from less order y z zs later all =
    ap (λ b. cond (not b && not (less z y)) (z ∷ filter (ties less y) zs) (filter (ties less y) zs)) later ∙ none_ties less order y z zs later all

some_is_none : {A : Type 0} (x : A) (xs : List A) → ¬ (x ∷ xs ≡ [])
some_is_none x xs e = cc

first_same : {A : Type 0} (x y : A) (xs ys : List A) → x ∷ xs ≡ y ∷ ys → x ≡ y
first_same x y xs ys e = ap (λ l. unwrap_or (head l) x) e

rest_same : {A : Type 0} (b : Bool) (x : A) (xs ys : List A) → cond b (x ∷ xs) xs ≡ cond b (x ∷ ys) ys → xs ≡ ys
rest_same true x xs ys e = ap tail e
rest_same false x xs ys e = e

pub one_ascends : {A : Type 0} (less : A → A → Bool) → IsStrictWeakOrder less → (ys zs : List A) → AscendsBy less ys → AscendsBy less zs
    → ((q : A) → filter (ties less q) ys ≡ filter (ties less q) zs) → ys ≡ zs
one_ascends less order [] [] up down same = refl
one_ascends less order [] (z ∷ zs) up down same = absurd (some_is_none z _ (sym (with_itself less order z zs) ∙ sym (same z)))
one_ascends less order (y ∷ ys) [] up down same = absurd (some_is_none y _ (sym (with_itself less order y ys) ∙ same y))
one_ascends {A = A} less order (y ∷ ys) (z ∷ zs) up down same = by_tests (one_ascends less order ys zs up.1 down.1) (less y z) (less z y) refl refl
  where
    tied : (((q : A) → filter (ties less q) ys ≡ filter (ties less q) zs) → ys ≡ zs) → ties less y z ≡ true → y ∷ ys ≡ z ∷ zs
    tied others e =
        let one : y ≡ z = first_same y z (filter (ties less y) ys) (filter (ties less y) zs)
        (sym (with_itself less order y ys) ∙ same y ∙ ap (λ b. cond b (z ∷ filter (ties less y) zs) (filter (ties less y) zs)) e) in
        let rest : ys ≡ zs = others
        (λ q. rest_same (ties less q y) y (filter (ties less q) ys) (filter (ties less q) zs)
        (same q ∙ ap (λ (w : A). cond (ties less q w) (w ∷ filter (ties less q) zs) (filter (ties less q) zs)) (sym one))) in
        (λ i. one i ∷ rest i)

    by_tests : (((q : A) → filter (ties less q) ys ≡ filter (ties less q) zs) → ys ≡ zs) → (a b : Bool) → less y z ≡ a → less z y ≡ b → y ∷ ys ≡ z ∷ zs
    by_tests others true b yz zy = absurd (some_is_none y _ (sym (with_itself less order y ys) ∙ same y ∙ none_from less order y z zs yz down.0))
    by_tests others false true yz zy = absurd (some_is_none z _ (sym (with_itself less order z zs) ∙ sym (same z) ∙ none_from less order z y ys zy up.0))
    by_tests others false false yz zy = tied others (λ i. not (yz i) && not (zy i))
