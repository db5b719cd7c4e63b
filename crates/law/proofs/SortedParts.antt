-- Sorted lists have the members that they were made of, and the parts of a closing are among them.
use Rattle.std.proofs.Common.{◌≡◌, ◌⊎◌, inl, inr, ℕ, Bool, true, false, cond, ◌||◌, nat_eq, List, [], ◌∷◌, Option, Some, None, refl, sym, subst, arith}
use Rattle.std.proofs.lemmas.Bool.{eqb-true}
use Rattle.std.proofs.lemmas.Bool.Decides.{nat_tests}
use Rattle.units.specs.Lists.{has, insert, once, sorted}
use Rattle.message.specs.declared.message.Address.{Address}
use Rattle.message.specs.declared.message.Address.TheVariants.{Shard, Session}
use Rattle.law.specs.Among.{IsAmong}

pub inserted : {A : Type 0} (less : A → A → Bool) (x : A) (ys : List A) (z : A) → (x ≡ z) ⊎ IsAmong ys z → IsAmong (insert less x ys) z
inserted less x [] z (inl same) = inl same
inserted less x [] z (inr none) = absurd none
inserted {A} less x (y ∷ ys) z h = by_test (less y x) h (λ k. inserted less x ys z k)
  where
    by_test : (b : Bool) → (x ≡ z) ⊎ IsAmong (y ∷ ys) z → ((x ≡ z) ⊎ IsAmong ys z → IsAmong (insert less x ys) z) →
        IsAmong (cond b (y ∷ insert less x ys) (x ∷ y ∷ ys)) z
    by_test true (inl same) rest = inr (rest (inl same))
    by_test true (inr (inl same)) rest = inl same
    by_test true (inr (inr later)) rest = inr (rest (inr later))
    by_test false (inl same) rest = inl same
    by_test false (inr k) rest = inr k

pub sorted_has : {A : Type 0} (less : A → A → Bool) (xs : List A) (z : A) → IsAmong xs z → IsAmong (sorted less xs) z
sorted_has less [] z h = absurd h
sorted_has less (x ∷ xs) z (inl same) = inserted less x (sorted less xs) z (inl same)
sorted_has less (x ∷ xs) z (inr later) = inserted less x (sorted less xs) z (inr (sorted_has less xs z later))

pub once_has : (xs : List ℕ) (z : ℕ) → IsAmong xs z → IsAmong (once xs) z
once_has [] z h = absurd h
once_has (x ∷ xs) z h = by_test (has xs x) refl h (λ k. once_has xs z k)
  where
    has_member : (ys : List ℕ) (y : ℕ) → has ys y ≡ true → IsAmong ys y
    has_member [] y e = cc
    has_member (v ∷ vs) y e = by_eq (nat_eq y v) refl e (λ k. has_member vs y k)
      where
        by_eq : (b : Bool) → nat_eq y v ≡ b → (b || has vs y) ≡ true → (has vs y ≡ true → IsAmong vs y) → IsAmong (v ∷ vs) y
        by_eq true is k rest = inl (sym (eqb-true y v is))
        by_eq false is k rest = inr (rest k)

    by_test : (b : Bool) → has xs x ≡ b → (x ≡ z) ⊎ IsAmong xs z → (IsAmong xs z → IsAmong (once xs) z) → IsAmong (cond b (once xs) (x ∷ once xs)) z
    by_test true e (inl same) rest = rest (subst (IsAmong xs) same (has_member xs x e))
    by_test true e (inr later) rest = rest later
    by_test false e (inl same) rest = inl same
    by_test false e (inr later) rest = inr (rest later)

pub has_of : (xs : List ℕ) (z : ℕ) → IsAmong xs z → has xs z ≡ true
has_of [] z h = absurd h
has_of (x ∷ xs) z (inl same) = grind (arith, nat_tests)
has_of (x ∷ xs) z (inr later) = let ih = has_of xs z later in grind (arith, nat_tests)

-- the shard of an address
abbrev pub shard_in : Address → Option ℕ
shard_in (Shard n) = Some n
shard_in (Session t) = None
