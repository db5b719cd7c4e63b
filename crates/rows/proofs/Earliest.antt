-- The least timestamp of some transactions, found one by one.
use Rattle.std.proofs.Common.{◌≡◌, ℕ, ◌≤◌, ◌<◌, Bool, true, false, cond, nat_le, Option, Some, None, List, [], ◌∷◌, ◌++◌, length, take, get_or, ◌+◌}
use Rattle.std.proofs.Common.{add-one, zero, suc, refl, sym, subst, arith}
use Rattle.std.specs.List.{All}
use Rattle.std.proofs.Math.Seq.{take-suc}
use Rattle.std.proofs.lemmas.List.{append-nil}
use Rattle.units.proofs.Folds.{gather_append}
use Rattle.std.proofs.lemmas.Bool.{leb-true, leb-false}
use Rattle.std.proofs.lemmas.List.Elements.{All-append, Contains-append_left, Contains-push}
use Rattle.units.specs.Lists.{gather}
use Rattle.units.specs.Ids.{Id}
use Rattle.rows.specs.RowTable.{earlier, IsEarliest}

-- all of one element
all_one : {A : Type 0} (P : A → Type 0) (x : A) → P x → All P (x ∷ [])
all_one P x p zero d less = p
all_one P x p (suc k) d less = absurd (omega (arith, less))

-- a lower one is below them too
all_below : (stamps : List (Id × ℕ)) (a b : ℕ) → b ≤ a → All (λ s. a ≤ s.1) stamps → All (λ s. b ≤ s.1) stamps
all_below stamps a b below all k d less = let here = all k d less in omega (arith, here, below)

-- one more
pub one_more : (stamps : List (Id × ℕ)) (found : Option (Id × ℕ)) (next : Id × ℕ) → IsEarliest stamps found
    → IsEarliest (stamps ++ next ∷ []) (earlier found (Some next))
one_more stamps None next none =
    subst (λ l. IsEarliest (l ++ next ∷ []) (Some next)) (sym none)
    (Contains-push [] next, all_one (λ s. next.1 ≤ s.1) next (omega arith))
one_more stamps (Some first) next is = by_order (nat_le first.1 next.1) refl
  where
    by_order : (b : Bool) → nat_le first.1 next.1 ≡ b → IsEarliest (stamps ++ next ∷ []) (cond b (Some first) (Some next))
    by_order true e = (
      Contains-append_left stamps (next ∷ []) first is.0,
      All-append (λ s. first.1 ≤ s.1) stamps (next ∷ []) is.1 (all_one (λ s. first.1 ≤ s.1) next (leb-true first.1 next.1 e)),
    )
    by_order false e =
        let above : next.1 ≤ first.1 = omega (arith, leb-false first.1 next.1 e) in (
          Contains-push stamps next,
          All-append (λ s. next.1 ≤ s.1) stamps (next ∷ []) (all_below stamps first.1 next.1 above is.1)
              (all_one (λ s. next.1 ≤ s.1) next (omega arith)),
        )

earlier_none : (found : Option (Id × ℕ)) → earlier found None ≡ found
earlier_none None = refl
earlier_none (Some first) = refl

-- one more element, which may have a timestamp
pub one_further : {A : Type 0} (f : A → Option (Id × ℕ)) (xs : List A) (x : A) (found : Option (Id × ℕ)) → IsEarliest (gather f xs) found
    → IsEarliest (gather f (xs ++ x ∷ [])) (earlier found (f x))
one_further f xs x found is = subst (λ l. IsEarliest l (earlier found (f x))) (sym (gather_append f xs (x ∷ []))) (by_value (f x))
  where
    by_value : (o : Option (Id × ℕ)) → IsEarliest (gather f xs ++ (elim o as (λ q. List (Id × ℕ)) [ None ↦ [] | Some y ↦ y ∷ [] ])) (earlier found o)
    by_value None =
        subst (λ l. IsEarliest l (earlier found None)) (sym (append-nil (gather f xs)))
        (subst (λ o. IsEarliest (gather f xs) o) (sym (earlier_none found)) is)
    by_value (Some y) = one_more (gather f xs) found y is

-- and in a list that is gone over
pub one_step : {A : Type 0} (f : A → Option (Id × ℕ)) (xs : List A) (i : ℕ) (x : A) (found : Option (Id × ℕ)) → i < length xs → x ≡ get_or xs i x
    → IsEarliest (gather f (take i xs)) found → IsEarliest (gather f (take (i + 1) xs)) (earlier found (f x))
one_step f xs i x found less is-x is =
    rw (add-one, take-suc xs i x less)
    (subst (λ y. IsEarliest (gather f (take i xs ++ y ∷ [])) (earlier found (f x))) is-x (one_further f (take i xs) x found is))
