-- The numbers below 16 that are in a list, ascending.
use Rattle.std.specs.List.{list_all}
use Rattle.std.proofs.Common.{◌≡◌, ◌≢◌, ℕ, zero, suc, ◌+◌, ◌-◌, ◌*◌, ◌/◌, ◌%◌, ◌<◌, ◌≤◌, ◌^◌, Bool, true, false, cond, ◌||◌, nat_eq, nat_lt}
use Rattle.std.proofs.Common.{List, [], ◌∷◌, ◌++◌, Option, Some, None, if◌then◌else◌, refl, sym, ap, ◌∙◌, subst, arith, append_assoc}
use Rattle.std.specs.Prelude.{IfSome, IfNone}
use Rattle.std.proofs.lemmas.Bool.Decides.{nat_tests}
use Rattle.std.proofs.Math.Nat.{pow-suc}
use Rattle.std.proofs.lemmas.Bool.{and_parts}
use Rattle.units.specs.Lists.{has, once, insert, sorted}
use Rattle.units.specs.Masks.{marked, shards_from, shards_of_mask}

-- tests that agree from n on mark the same
marked_same : (f g : ℕ → Bool) (bits n : ℕ) → ((k : ℕ) → n ≤ k → f k ≡ g k) → marked f bits n ≡ marked g bits n
marked_same f g zero n same = refl
marked_same f g (suc bits) n same =
    (λ i. cond (same n (omega arith) i) (n ∷ marked f bits (suc n)) (marked f bits (suc n)))
    ∙ ap (λ l. cond (g n) (n ∷ l) l) (marked_same f g bits (suc n) (λ k h. same k (omega (arith, h))))

-- a number below all that may be marked comes first
insert_first : (f : ℕ → Bool) (bits n x : ℕ) → x < n → insert nat_lt x (marked f bits n) ≡ x ∷ marked f bits n
insert_first f zero n x h = refl
insert_first f (suc bits) n x h = by_test (f n) (insert_first f bits (suc n) x (omega (arith, h)))
  where
    not_less : nat_lt n x ≡ false
    not_less = grind (arith, nat_tests)

    by_test : (b : Bool) → insert nat_lt x (marked f bits (suc n)) ≡ x ∷ marked f bits (suc n) →
        insert nat_lt x (cond b (n ∷ marked f bits (suc n)) (marked f bits (suc n))) ≡ x ∷ cond b (n ∷ marked f bits (suc n)) (marked f bits (suc n))
    by_test true e = λ i. cond (not_less i) (n ∷ insert nat_lt x (marked f bits (suc n))) (x ∷ n ∷ marked f bits (suc n))
    by_test false e = e

-- one more number in its place is marked too
insert_marked : (f : ℕ → Bool) (bits n x : ℕ) → n ≤ x → x < n + bits → f x ≡ false → insert nat_lt x (marked f bits n) ≡ marked (λ k. nat_eq k x || f k) bits n
insert_marked f zero n x low high new = absurd (omega (arith, low, high))
insert_marked f (suc bits) n x low high new =
    by_place (nat_eq n x) refl (λ less. insert_marked f bits (suc n) x less (omega (arith, high)) new)
  where
    others : nat_eq n x ≡ true → marked f bits (suc n) ≡ marked (λ k. nat_eq k x || f k) bits (suc n)
    others e = marked_same f (λ k. nat_eq k x || f k) bits (suc n) (λ k h. ap (λ b. b || f k) (sym (apart k h)))
      where
        apart : (k : ℕ) → suc n ≤ k → nat_eq k x ≡ false
        apart k h = grind (arith, nat_tests)

    here : nat_eq n x ≡ true → n ≡ x
    here e = grind (arith, nat_tests)

    further : nat_eq n x ≡ false → suc n ≤ x
    further e = grind (arith, nat_tests)

    below : nat_eq n x ≡ false → nat_lt n x ≡ true
    below e = grind (arith, nat_tests)

    by_place : (b : Bool) → nat_eq n x ≡ b → (suc n ≤ x → insert nat_lt x (marked f bits (suc n)) ≡ marked (λ k. nat_eq k x || f k) bits (suc n))
        → insert nat_lt x (cond (f n) (n ∷ marked f bits (suc n)) (marked f bits (suc n)))
        ≡ cond (b || f n) (n ∷ marked (λ k. nat_eq k x || f k) bits (suc n)) (marked (λ k. nat_eq k x || f k) bits (suc n))
    by_place true e rest =
        (λ i. insert nat_lt x (cond (not_here i) (n ∷ marked f bits (suc n)) (marked f bits (suc n))))
        ∙ insert_first f bits (suc n) x (omega (arith, here e))
        ∙ ap (λ m. m ∷ marked f bits (suc n)) (sym (here e))
        ∙ ap (λ l. n ∷ l) (others e)
      where
        not_here : f n ≡ false
        not_here = ap f (here e) ∙ new
    by_place false e rest = by_test (f n) (rest (further e))
      where
        by_test : (b : Bool) → insert nat_lt x (marked f bits (suc n)) ≡ marked (λ k. nat_eq k x || f k) bits (suc n) →
            insert nat_lt x (cond b (n ∷ marked f bits (suc n)) (marked f bits (suc n)))
            ≡ cond b (n ∷ marked (λ k. nat_eq k x || f k) bits (suc n)) (marked (λ k. nat_eq k x || f k) bits (suc n))
        by_test true h = (λ i. cond (below e i) (n ∷ insert nat_lt x (marked f bits (suc n))) (x ∷ n ∷ marked f bits (suc n))) ∙ ap (λ l. n ∷ l) h
        by_test false h = h

-- numbers below 16, each once and in order, are those that are marked
pub sorted_once : (ns : List ℕ) → list_all (λ n. nat_lt n 16) ns ≡ true → sorted nat_lt (once ns) ≡ marked (has ns) 16 0
sorted_once [] h = refl
sorted_once (x ∷ xs) h = by_test (has xs x) refl (sorted_once xs ((and_parts _ _ h).1))
  where
    low : nat_lt x 16 ≡ true → x < 0 + 16
    low e = grind (arith, nat_tests)

    there : has xs x ≡ true → (k : ℕ) → has xs k ≡ (nat_eq k x || has xs k)
    there e k = by_place (nat_eq k x) refl
      where
        same : nat_eq k x ≡ true → k ≡ x
        same h = grind (arith, nat_tests)

        by_place : (b : Bool) → nat_eq k x ≡ b → has xs k ≡ (b || has xs k)
        by_place true h = ap (has xs) (same h) ∙ e
        by_place false h = refl

    by_test : (b : Bool) → has xs x ≡ b → sorted nat_lt (once xs) ≡ marked (has xs) 16 0 →
        sorted nat_lt (cond b (once xs) (x ∷ once xs)) ≡ marked (has (x ∷ xs)) 16 0
    by_test true e rest = rest ∙ marked_same (has xs) (has (x ∷ xs)) 16 0 (λ k _. there e k)
    by_test false e rest = ap (insert nat_lt x) rest ∙ insert_marked (has xs) 16 0 x (omega arith) (low ((and_parts _ _ h).0)) e

-- ---- the bits of a mask

one_less : (n : ℕ) → n < 16 → suc (16 - (n + 1)) ≡ 16 - n
one_less n h = omega (arith, h)

-- one more bit is read
bit_read : (n rest : ℕ) → n < 16
    → shards_from (16 - n) n rest ≡ cond (nat_eq (rest % 2) 1) (n ∷ shards_from (16 - (n + 1)) (n + 1) (rest / 2))
    (shards_from (16 - (n + 1)) (n + 1) (rest / 2))
bit_read n rest h =
    ap (λ bits. shards_from bits n rest) (sym (one_less n h))
    ∙ ap (λ m. cond (nat_eq (rest % 2) 1) (n ∷ shards_from (16 - (n + 1)) m (rest / 2)) (shards_from (16 - (n + 1)) m (rest / 2))) (next n)
  where
    next : (m : ℕ) → suc m ≡ m + 1
    next m = omega arith

pub bit_set : (n rest : ℕ) (v w : List ℕ) → n < 16 → rest % 2 ≡ 1 → w ≡ v ++ n ∷ []
    → w ++ shards_from (16 - (n + 1)) (n + 1) (rest / 2) ≡ v ++ shards_from (16 - n) n rest
bit_set n rest v w h one is =
    ap (λ l. l ++ shards_from (16 - (n + 1)) (n + 1) (rest / 2)) is
    ∙ append_assoc v (n ∷ []) (shards_from (16 - (n + 1)) (n + 1) (rest / 2))
    ∙ ap (λ l. v ++ l) (sym (bit_read n rest h ∙ (λ i. cond (tested i) (n ∷ shards_from (16 - (n + 1)) (n + 1) (rest / 2))
    (shards_from (16 - (n + 1)) (n + 1) (rest / 2)))))
  where
    tested : nat_eq (rest % 2) 1 ≡ true
    tested = grind (arith, nat_tests)

pub bit_clear : (n rest : ℕ) (v : List ℕ) → n < 16 → rest % 2 ≢ 1
    → v ++ shards_from (16 - (n + 1)) (n + 1) (rest / 2) ≡ v ++ shards_from (16 - n) n rest
bit_clear n rest v h none =
    ap (λ l. v ++ l) (sym (bit_read n rest h ∙ (λ i. cond (tested i) (n ∷ shards_from (16 - (n + 1)) (n + 1) (rest / 2))
    (shards_from (16 - (n + 1)) (n + 1) (rest / 2)))))
  where
    tested : nat_eq (rest % 2) 1 ≡ false
    tested = grind (arith, nat_tests)

-- a half of a mask, and one more bit
pub bit_below : (bits above bit : ℕ) → 0 < bits → above < 2 ^ (bits - 1) → bit < 2 → 2 * above + bit < 2 ^ bits
bit_below bits above bit some less small =
    subst (λ b. 2 * above + bit < 2 ^ b) whole (subst (λ p. 2 * above + bit < p) (sym (pow-suc 2 (bits - 1))) twice)
  where
    whole : suc (bits - 1) ≡ bits
    whole = omega (arith, some)

    twice : 2 * above + bit < 2 ^ (bits - 1) * 2
    twice = omega (arith, less, small)

-- what a mask is made of
pub from_mask : (m : ℕ) (o : Option (List ℕ)) (ns : List ℕ) → o ≡ (if nat_eq m 0 then None else Some (shards_of_mask m)) → shards_of_mask m ≡ ns
    → IfNone o (ns ≡ []) × IfSome o (λ p. p ≡ ns)
from_mask m o ns is same = subst (λ p. IfNone p (ns ≡ []) × IfSome p (λ q. q ≡ ns)) (sym is) (by_test (nat_eq m 0) refl)
  where
    none : nat_eq m 0 ≡ true → m ≡ 0
    none e = grind (arith, nat_tests)

    by_test : (b : Bool) → nat_eq m 0 ≡ b
        → IfNone (if b then None else Some (shards_of_mask m)) (ns ≡ []) × IfSome (if b then None else Some (shards_of_mask m)) (λ q. q ≡ ns)
    by_test true e = (sym same ∙ ap shards_of_mask (none e), tt)
    by_test false e = (tt, same)
