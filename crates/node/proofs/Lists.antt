-- Lists of the same length, index by index, and a list that is passed from its front on.
use Rattle.std.proofs.Common.{◌≡◌, ◌<◌, ℕ, zero, suc, List, [], ◌∷◌, ◌++◌, length, slice_index_or, All, take, drop, sym, subst, ap, ◌∙◌, refl, arith}
use Rattle.std.proofs.Math.Seq.{take-append_seam}
use Rattle.std.specs.List.{AllZip, remove}

-- what holds at each index of two lists holds of them as they are zipped
pub zipped : {A : Type 0} (R : A → A → Type 0) (xs ys : List A) → length ys ≡ length xs
    → ((i : ℕ) (d : A) → i < length xs → R (slice_index_or xs i d) (slice_index_or ys i d)) → AllZip R xs ys
zipped R [] [] same at = tt
zipped R [] (y ∷ ys) same at = absurd (omega (arith, same))
zipped R (x ∷ xs) [] same at = absurd (omega (arith, same))
zipped R (x ∷ xs) (y ∷ ys) same at =
    (at zero x (omega arith), zipped R xs ys (omega (arith, same)) (λ i d lt. at (suc i) d (omega (arith, lt))))

-- nothing is zipped
pub nothing_zipped : {A : Type 0} (R : A → A → Type 0) (xs : List A) → length xs ≡ 0 → AllZip R xs xs
nothing_zipped R [] none = tt
nothing_zipped R (x ∷ xs) none = absurd (omega (arith, none))

-- what follows of the second of each pair holds of all of them
pub holds_of_second : {A B : Type 0} (R : A → B → Type 0) (P : B → Type 0) → ((x : A) (y : B) → R x y → P y)
    → (xs : List A) (ys : List B) → AllZip R xs ys → All P ys
holds_of_second R P f [] [] pairs k d lt = absurd (omega (arith, lt))
holds_of_second R P f [] (y ∷ ys) pairs k d lt = absurd pairs
holds_of_second R P f (x ∷ xs) [] pairs k d lt = absurd pairs
holds_of_second R P f (x ∷ xs) (y ∷ ys) pairs zero d lt = f x y pairs.0
holds_of_second R P f (x ∷ xs) (y ∷ ys) pairs (suc k) d lt = holds_of_second R P f xs ys pairs.1 k d (omega (arith, lt))

-- pairs that meet
pub joined : {A B C : Type 0} (R : A → B → Type 0) (S : B → C → Type 0) (Q : A → C → Type 0) → ((x : A) (y : B) (z : C) → R x y → S y z → Q x z)
    → (xs : List A) (ys : List B) (zs : List C) → AllZip R xs ys → AllZip S ys zs → AllZip Q xs zs
joined R S Q f [] [] [] p q = tt
joined R S Q f [] [] (z ∷ zs) p q = absurd q
joined R S Q f [] (y ∷ ys) zs p q = absurd p
joined R S Q f (x ∷ xs) [] zs p q = absurd p
joined R S Q f (x ∷ xs) (y ∷ ys) [] p q = absurd q
joined R S Q f (x ∷ xs) (y ∷ ys) (z ∷ zs) p q = (f x y z p.0 q.0, joined R S Q f xs ys zs p.1 q.1)

-- a list that is written anew whole, as a slice of it is
pub written : {A : Type 0} (n : ℕ) (xs ys : List A) → n ≡ length xs → length ys ≡ length xs → take n (ys ++ drop (length ys) xs) ≡ ys
written n xs ys len same =
    ap (λ m. take m (ys ++ drop (length ys) xs)) (len ∙ sym same) ∙ take-append_seam ys (drop (length ys) xs)

-- what stands behind the front of a list leaves room for it
before_end : {A : Type 0} (xs : List A) (y : A) (zs : List A) → length xs < length (xs ++ y ∷ zs)
before_end [] y zs = omega arith
before_end (x ∷ xs) y zs = let r = before_end xs y zs in omega (arith, r)

pub is_before_end : {A : Type 0} (xs ys : List A) (y : A) (zs all : List A) → xs ++ ys ≡ all → ys ≡ y ∷ zs → length xs < length all
is_before_end xs ys y zs all whole next =
    subst (λ l. length xs < length l) (ap (λ l. xs ++ l) (sym next) ∙ whole) (before_end xs y zs)

one_on : {A : Type 0} (xs : List A) (y : A) (zs : List A) → (xs ++ y ∷ []) ++ zs ≡ xs ++ y ∷ zs
one_on [] y zs = refl
one_on (x ∷ xs) y zs = ap (λ l. x ∷ l) (one_on xs y zs)

-- the next of it is passed
pub passed : {A : Type 0} (xs ys : List A) (y : A) (zs all : List A) → xs ++ ys ≡ all → ys ≡ y ∷ zs → (xs ++ y ∷ []) ++ zs ≡ all
passed xs ys y zs all whole next = one_on xs y zs ∙ ap (λ l. xs ++ l) (sym next) ∙ whole

behind_all : {A : Type 0} (xs : List A) → xs ++ [] ≡ xs
behind_all [] = refl
behind_all (x ∷ xs) = ap (λ l. x ∷ l) (behind_all xs)

-- nothing is left of it
pub all_passed : {A : Type 0} (xs ys all : List A) → xs ++ ys ≡ all → length ys ≡ 0 → xs ≡ all
all_passed xs [] all whole none = sym (behind_all xs) ∙ whole
all_passed xs (y ∷ ys) all whole none = absurd (omega (arith, none))

at_next : {A : Type 0} (xs : List A) (y : A) (zs : List A) → slice_index_or (xs ++ y ∷ zs) (length xs) y ≡ y
at_next [] y zs = refl
at_next (x ∷ xs) y zs = at_next xs y zs

-- what holds of all holds of the next
pub holds_of_next : {A : Type 0} (P : A → Type 0) (xs ys : List A) (y : A) (zs all : List A) → xs ++ ys ≡ all → ys ≡ y ∷ zs → All P all → P y
holds_of_next P xs ys y zs all whole next holds =
    let here = ap (λ l. xs ++ l) (sym next) ∙ whole in
    subst P (ap (λ l. slice_index_or l (length xs) y) (sym here) ∙ at_next xs y zs)
    (holds (length xs) y (is_before_end xs ys y zs all whole next))

-- a list that is not empty, with its first taken away
pub front_of : {A : Type 0} (before rest : List A) (x : A) (all : List A) → all ≡ before ++ x ∷ rest → all ≡ (before ++ x ∷ []) ++ rest
front_of {A = A} before rest x all is = is ∙ turned before
  where
    turned : (xs : List A) → xs ++ x ∷ rest ≡ (xs ++ x ∷ []) ++ rest
    turned [] = refl
    turned (y ∷ ys) = ap (λ l. y ∷ l) (turned ys)

pub taken_front : {A : Type 0} (xs ys : List A) (x : A) → 0 < length xs → x ≡ slice_index_or xs 0 x → ys ≡ remove xs 0 → xs ≡ x ∷ ys
taken_front [] ys x some first rest = absurd (omega (arith, some))
taken_front (y ∷ zs) ys x some first rest = λ i. sym first i ∷ sym rest i
