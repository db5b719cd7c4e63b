-- Members of lists that are made from others.
use Rattle.std.specs.List.{list_any, list_all}
use Rattle.std.proofs.Common.{◌≡◌, ◌⊎◌, inl, inr, ℕ, zero, suc, ◌+◌, Bool, true, false, cond, ◌&&◌, ◌||◌, List, [], ◌∷◌, ◌++◌, Option, Some, None}
use Rattle.std.proofs.Common.{slice_get, refl, sym, ap, subst, ◌∙◌, map, arith, filter, flat_map}
use Rattle.std.proofs.lemmas.Bool.{or_right}
use Rattle.units.specs.Lists.{gather, numbered}
use Rattle.law.specs.Among.{IsAmong}
use Rattle.law.proofs.Members.{among_left, among_right, among_cases}

pub some_same : {A : Type 0} (a b : A) → Some a ≡ Some b → a ≡ b
some_same a b e = cc

-- ---- filters

pub keep_among : {A : Type 0} (test : A → Bool) (xs : List A) (x : A) → IsAmong xs x → test x ≡ true → IsAmong (filter test xs) x
keep_among test [] x h k = absurd h
keep_among test (y ∷ ys) x h k = by_test (test y) refl h (λ l. keep_among test ys x l k)
  where
    by_test : (b : Bool) → test y ≡ b → (y ≡ x) ⊎ IsAmong ys x → (IsAmong ys x → IsAmong (filter test ys) x) →
        IsAmong (cond b (y ∷ filter test ys) (filter test ys)) x
    by_test true e (inl same) rest = inl same
    by_test true e (inr later) rest = inr (rest later)
    by_test false e (inl same) rest = let f : test x ≡ false = sym (ap test same) ∙ e in cc
    by_test false e (inr later) rest = rest later

pub kept_passes : {A : Type 0} (test : A → Bool) (xs : List A) (x : A) → IsAmong (filter test xs) x → test x ≡ true
kept_passes test [] x h = absurd h
kept_passes test (y ∷ ys) x h = by_test (test y) refl h (λ k. kept_passes test ys x k)
  where
    by_test : (b : Bool) → test y ≡ b → IsAmong (cond b (y ∷ filter test ys) (filter test ys)) x → (IsAmong (filter test ys) x → test x ≡ true) → test x ≡ true
    by_test true e (inl same) rest = sym (ap test same) ∙ e
    by_test true e (inr later) rest = rest later
    by_test false e k rest = rest k

pub gather_among : {A B : Type 0} (f : A → Option B) (xs : List A) (x : A) (y : B) → IsAmong xs x → f x ≡ Some y → IsAmong (gather f xs) y
gather_among f [] x y h e = absurd h
gather_among {A} {B} f (z ∷ zs) x y h e = by_value (f z) refl h (λ k. gather_among f zs x y k e)
  where
    by_value : (o : Option B) → f z ≡ o → (z ≡ x) ⊎ IsAmong zs x → (IsAmong zs x → IsAmong (gather f zs) y) →
        IsAmong (elim o as (λ q. List B) [ None ↦ gather f zs | Some w ↦ w ∷ gather f zs ]) y
    by_value None is (inl same) rest = let n : None ≡ Some y = sym is ∙ ap f same ∙ e in cc
    by_value None is (inr later) rest = rest later
    by_value (Some w) is (inl same) rest = inl (some_same w y (sym is ∙ ap f same ∙ e))
    by_value (Some w) is (inr later) rest = inr (rest later)

pub map_among : {A B : Type 0} (f : A → B) (xs : List A) (x : A) → IsAmong xs x → IsAmong (map f xs) (f x)
map_among f [] x h = absurd h
map_among f (y ∷ ys) x (inl same) = inl (ap f same)
map_among f (y ∷ ys) x (inr later) = inr (map_among f ys x later)

-- where a member of a mapped list comes from
pub record Mapped {A B : Type 0} (f : A → B) (xs : List A) (y : B) : Type 0 where
  pub from : A
  pub among : IsAmong xs from
  pub is : f from ≡ y

pub among_map : {A B : Type 0} (f : A → B) (xs : List A) (y : B) → IsAmong (map f xs) y → Mapped f xs y
among_map f [] y h = absurd h
among_map f (x ∷ xs) y (inl same) = record { from = x; among = inl refl; is = same }
among_map f (x ∷ xs) y (inr later) = let m = among_map f xs y later in record { from = m.from; among = inr m.among; is = m.is }

pub join_among : {A B : Type 0} (f : A → List B) (xs : List A) (x : A) (y : B) → IsAmong xs x → IsAmong (f x) y → IsAmong (flat_map f xs) y
join_among f [] x y h k = absurd h
join_among f (z ∷ zs) x y (inl same) k = among_left (f z) (flat_map f zs) y (subst (λ w. IsAmong (f w) y) (sym same) k)
join_among f (z ∷ zs) x y (inr later) k = among_right (f z) (flat_map f zs) y (join_among f zs x y later k)

-- where a member of a joined list comes from
pub record Joined {A B : Type 0} (f : A → List B) (xs : List A) (y : B) : Type 0 where
  pub from : A
  pub among : IsAmong xs from
  pub within : IsAmong (f from) y

pub among_join : {A B : Type 0} (f : A → List B) (xs : List A) (y : B) → IsAmong (flat_map f xs) y → Joined f xs y
among_join f [] y h = absurd h
among_join f (x ∷ xs) y h = elim (among_cases (f x) (flat_map f xs) y h) [
  | inl here ↦ record { from = x; among = inl refl; within = here }
  | inr later ↦ let j = among_join f xs y later in record { from = j.from; among = inr j.among; within = j.within }
]

-- ---- tests of all and of some

pub each_of : {A : Type 0} (test : A → Bool) (xs : List A) → ((x : A) → IsAmong xs x → test x ≡ true) → list_all test xs ≡ true
each_of test [] h = refl
each_of test (x ∷ xs) h = ap (λ b. b && list_all test xs) (h x (inl refl)) ∙ each_of test xs (λ y k. h y (inr k))

pub any_of : {A : Type 0} (test : A → Bool) (xs : List A) (x : A) → IsAmong xs x → test x ≡ true → list_any test xs ≡ true
any_of test [] x h k = absurd h
any_of test (y ∷ ys) x (inl same) k = ap (λ b. b || list_any test ys) (ap test same ∙ k)
any_of test (y ∷ ys) x (inr later) k = or_right (test y) (list_any test ys) (any_of test ys x later k)

-- ---- at most one

abbrev pub AtMostOne : {A : Type 0} → List A → Type 0
AtMostOne (x ∷ y ∷ rest) = ⊥
AtMostOne _ = Unit {0}

pub is_none : {A : Type 0} (xs : List A) → ((x : A) → IsAmong xs x → ⊥) → xs ≡ []
is_none [] h = refl
is_none (x ∷ xs) h = absurd (h x (inl refl))

pub is_single : {A : Type 0} (xs : List A) (x : A) → AtMostOne xs → IsAmong xs x → xs ≡ x ∷ []
is_single [] x one h = absurd h
is_single (y ∷ []) x one (inl same) = ap (λ z. z ∷ []) same
is_single (y ∷ []) x one (inr none) = absurd none
is_single (y ∷ z ∷ rest) x one h = absurd one

-- ---- numbered lists

-- the place of a member of a numbered list
pub record Numbered {A : Type 0} (n : ℕ) (xs : List A) (p : ℕ × A) : Type 0 where
  pub place : ℕ
  pub number : p.0 ≡ n + place
  pub there : slice_get xs place ≡ Some p.1

pub numbered_place : {A : Type 0} (n : ℕ) (xs : List A) (p : ℕ × A) → IsAmong (numbered n xs) p → Numbered n xs p
numbered_place n [] p h = absurd h
numbered_place {A} n (x ∷ xs) p (inl same) = record { place = 0; number = number; there = ap (λ (q : ℕ × A). Some q.1) same }
  where
    number : p.0 ≡ n + 0
    number = let e : n ≡ p.0 = ap (λ (q : ℕ × A). q.0) same in omega (arith, e)
numbered_place n (x ∷ xs) p (inr later) =
    let ih = numbered_place (suc n) xs p later in
    let e = ih.number in
    record { place = suc ih.place; number = omega (arith, e); there = ih.there }

pub place_numbered : {A : Type 0} (n : ℕ) (xs : List A) (i : ℕ) (x : A) → slice_get xs i ≡ Some x → IsAmong (numbered n xs) (n + i, x)
place_numbered n [] i x e = cc
place_numbered {A} n (y ∷ ys) zero x e = inl (number (some_same y x e))
  where
    plain : n ≡ n + 0
    plain = omega arith

    number : y ≡ x → ◌≡◌ {A = ℕ × A} (n, y) (n + 0, x)
    number same = λ i. (plain i, same i)
place_numbered {A} n (y ∷ ys) (suc i) x e = inr (subst (λ m. IsAmong (numbered (suc n) ys) (m, x)) further (place_numbered (suc n) ys i x e))
  where
    further : suc n + i ≡ n + suc i
    further = omega arith

-- lists of which one alone has a member, and no second one
pub one_of_numbered : {A B : Type 0} (f : ℕ × A → List B) (n : ℕ) (xs : List A) → ((p : ℕ × A) → IsAmong (numbered n xs) p → AtMostOne (f p)) →
    ((p q : ℕ × A) (x y : B) → IsAmong (numbered n xs) p → IsAmong (numbered n xs) q → IsAmong (f p) x → IsAmong (f q) y → p.0 ≡ q.0) →
    AtMostOne (flat_map f (numbered n xs))
one_of_numbered f n [] one same = tt
one_of_numbered {A} {B} f n (x ∷ xs) one same =
    by_first (f (n, x)) refl (one (n, x) (inl refl)) (one_of_numbered f (suc n) xs (λ p h. one p (inr h)) (λ p q a b h k. same p q a b (inr h) (inr k)))
  where
    none_later : (y : B) → IsAmong (f (n, x)) y → flat_map f (numbered (suc n) xs) ≡ []
    none_later y h = is_none (flat_map f (numbered (suc n) xs)) (λ z k. apart z (among_join f (numbered (suc n) xs) z k))
      where
        apart : (z : B) → Joined f (numbered (suc n) xs) z → ⊥
        apart z j =
            let number : n ≡ j.from.0 = same (n, x) j.from y z (inl refl) (inr j.among) h j.within in
            let place = numbered_place (suc n) xs j.from j.among in
            let further = place.number in
            omega (arith, number, further)

    by_first : (ys : List B) → f (n, x) ≡ ys → AtMostOne (f (n, x)) → AtMostOne (flat_map f (numbered (suc n) xs)) →
        AtMostOne (f (n, x) ++ flat_map f (numbered (suc n) xs))
    by_first [] e first rest = subst (λ l. AtMostOne (l ++ flat_map f (numbered (suc n) xs))) (sym e) rest
    by_first (y ∷ []) e first rest =
        subst (λ l. AtMostOne (l ++ flat_map f (numbered (suc n) xs))) (sym e)
        (subst (λ l. AtMostOne (y ∷ l)) (sym (none_later y (subst (λ l. IsAmong l y) (sym e) (inl refl)))) tt)
    by_first (y ∷ z ∷ more) e first rest = absurd (subst AtMostOne e first)
