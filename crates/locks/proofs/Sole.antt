-- Where the claims weigh no more than a transaction's own and another's, no claim but that other's passes a test that one without
-- weight fails.
use Rattle.std.proofs.Common.{◌≡◌, ℕ, ◌+◌, ◌≤◌, Bool, true, false, cond, List, [], ◌∷◌, Option, Some, None, refl, sym, ap, ◌∙◌, arith, filter}
use Rattle.std.specs.List.{sum_by}
use Rattle.std.proofs.lemmas.Bool.{true≢false}
use Rattle.std.proofs.lemmas.List.Sums.{sum_by-cons}
use Rattle.units.specs.Lists.{head}
use Rattle.units.specs.Ids.{Id, same_id}
use Rattle.units.specs.ById.{find_member}
use Rattle.units.specs.Locks.{Claim}
use Rattle.units.proofs.IdLaws.{same_id-is}
use Rattle.locks.specs.Tally.{weighed}
use Rattle.locks.specs.Ways.{is_of}

-- a claim that is found and passes a test
abbrev pub found_by : (Claim → Bool) → Option Claim → List Claim
found_by f None = []
found_by f (Some y) = cond (f y) (y ∷ []) []

-- ---- a transaction's own is no more than all

pub own_least : (w : Claim → ℕ) (t : Id) (cs : List Claim) → weighed w (find_member (λ c. c.txn) cs t) ≤ sum_by w cs
own_least w t [] = omega arith
own_least w t (c ∷ cs) = rw (sum_by-cons w c cs) (by_own (same_id c.txn t) (own_least w t cs))
  where
    by_own : (b : Bool) → weighed w (find_member (λ (d : Claim). d.txn) cs t) ≤ sum_by w cs
        → weighed w (head (cond b (c ∷ filter (λ (d : Claim). same_id d.txn t) cs) (filter (λ (d : Claim). same_id d.txn t) cs))) ≤ w c + sum_by w cs
    by_own true le = omega arith
    by_own false le = omega (arith, le)

both_ids : (t o u : Id) → same_id o t ≡ false → same_id u t ≡ true → same_id u o ≡ true → true ≡ false
both_ids t o u apart first second = sym first ∙ ap (λ i. same_id i t) (same_id-is u o second) ∙ apart

own_two : (w : Claim → ℕ) (t o : Id) → same_id o t ≡ false → (cs : List Claim)
    → weighed w (find_member (λ c. c.txn) cs t) + weighed w (find_member (λ c. c.txn) cs o) ≤ sum_by w cs
own_two w t o apart [] = omega arith
own_two w t o apart (c ∷ cs) = rw (sum_by-cons w c cs) (by_ids (same_id c.txn t) (same_id c.txn o) refl refl (own_two w t o apart cs))
  where
    by_ids : (a b : Bool) → same_id c.txn t ≡ a → same_id c.txn o ≡ b
        → weighed w (find_member (λ (d : Claim). d.txn) cs t) + weighed w (find_member (λ (d : Claim). d.txn) cs o) ≤ sum_by w cs
        → weighed w (head (cond a (c ∷ filter (λ (d : Claim). same_id d.txn t) cs) (filter (λ (d : Claim). same_id d.txn t) cs)))
        + weighed w (head (cond b (c ∷ filter (λ (d : Claim). same_id d.txn o) cs) (filter (λ (d : Claim). same_id d.txn o) cs)))
        ≤ w c + sum_by w cs
    by_ids true true s p le = absurd (true≢false (both_ids t o c.txn apart s p))
    by_ids true false s p le = omega (arith, own_least w o cs)
    by_ids false true s p le = omega (arith, own_least w t cs)
    by_ids false false s p le = omega (arith, le)

-- ---- who passes the test

module _ (w : Claim → ℕ) (f : Claim → Bool) (light : (c : Claim) → w c ≡ 0 → f c ≡ false) where
  passed : (c : Claim) (cs : List Claim) → f c ≡ false → cond (f c) (c ∷ filter f cs) (filter f cs) ≡ filter f cs
  passed c cs fails = ap (λ b. cond b (c ∷ filter f cs) (filter f cs)) fails

  nothing : (cs : List Claim) → sum_by w cs ≡ 0 → filter f cs ≡ []
  nothing [] none = refl
  nothing (c ∷ cs) none =
      let split = sum_by-cons w c cs in
      passed c cs (light c (omega (arith, split, none))) ∙ nothing cs (omega (arith, split, none))

  -- the transaction's own alone weigh something
  pub own_alone : (t : Id) → ((c : Claim) → is_of t c ≡ true → f c ≡ false) → (cs : List Claim)
      → sum_by w cs ≤ weighed w (find_member (λ c. c.txn) cs t) → filter f cs ≡ []
  own_alone t mine [] few = refl
  own_alone t mine (c ∷ cs) few = by_own (same_id c.txn t) refl (own_alone t mine cs) few
    where
      by_own : (b : Bool) → same_id c.txn t ≡ b → (sum_by w cs ≤ weighed w (find_member (λ (d : Claim). d.txn) cs t) → filter f cs ≡ [])
          → sum_by w (c ∷ cs) ≤ weighed w (head (cond b (c ∷ filter (λ (d : Claim). same_id d.txn t) cs) (filter (λ (d : Claim). same_id d.txn t) cs)))
          → cond (f c) (c ∷ filter f cs) (filter f cs) ≡ []
      by_own true is rest few = let split = sum_by-cons w c cs in passed c cs (mine c is) ∙ nothing cs (omega (arith, split, few))
      by_own false other rest few =
          let split = sum_by-cons w c cs in
          let least = own_least w t cs in
          passed c cs (light c (omega (arith, split, few, least))) ∙ rest (omega (arith, split, few))

  -- the other's alone do
  other_alone : (o : Id) (cs : List Claim) → sum_by w cs ≤ weighed w (find_member (λ c. c.txn) cs o)
      → filter f cs ≡ found_by f (find_member (λ c. c.txn) cs o)
  other_alone o [] few = refl
  other_alone o (c ∷ cs) few = by_own (same_id c.txn o) (other_alone o cs) few
    where
      by_own : (b : Bool)
          → (sum_by w cs ≤ weighed w (find_member (λ (d : Claim). d.txn) cs o) → filter f cs ≡ found_by f (find_member (λ (d : Claim). d.txn) cs o))
          → sum_by w (c ∷ cs) ≤ weighed w (head (cond b (c ∷ filter (λ (d : Claim). same_id d.txn o) cs) (filter (λ (d : Claim). same_id d.txn o) cs)))
          → cond (f c) (c ∷ filter f cs) (filter f cs)
          ≡ found_by f (head (cond b (c ∷ filter (λ (d : Claim). same_id d.txn o) cs) (filter (λ (d : Claim). same_id d.txn o) cs)))
      by_own true rest few =
          let split = sum_by-cons w c cs in
          ap (λ l. cond (f c) (c ∷ l) l) (nothing cs (omega (arith, split, few)))
      by_own false rest few =
          let split = sum_by-cons w c cs in
          let least = own_least w o cs in
          passed c cs (light c (omega (arith, split, few, least))) ∙ rest (omega (arith, split, few))

  -- those of both do
  pub sole : (t o : Id) → same_id o t ≡ false → ((c : Claim) → is_of t c ≡ true → f c ≡ false) → (cs : List Claim)
      → sum_by w cs ≤ weighed w (find_member (λ c. c.txn) cs t) + weighed w (find_member (λ c. c.txn) cs o)
      → filter f cs ≡ found_by f (find_member (λ c. c.txn) cs o)
  sole t o apart mine [] few = refl
  sole t o apart mine (c ∷ cs) few = by_ids (same_id c.txn t) (same_id c.txn o) refl refl (sole t o apart mine cs) few
    where
      by_ids : (a b : Bool) → same_id c.txn t ≡ a → same_id c.txn o ≡ b
          → (sum_by w cs ≤ weighed w (find_member (λ (d : Claim). d.txn) cs t) + weighed w (find_member (λ (d : Claim). d.txn) cs o)
          → filter f cs ≡ found_by f (find_member (λ (d : Claim). d.txn) cs o))
          → sum_by w (c ∷ cs)
          ≤ weighed w (head (cond a (c ∷ filter (λ (d : Claim). same_id d.txn t) cs) (filter (λ (d : Claim). same_id d.txn t) cs)))
          + weighed w (head (cond b (c ∷ filter (λ (d : Claim). same_id d.txn o) cs) (filter (λ (d : Claim). same_id d.txn o) cs)))
          → cond (f c) (c ∷ filter f cs) (filter f cs)
          ≡ found_by f (head (cond b (c ∷ filter (λ (d : Claim). same_id d.txn o) cs) (filter (λ (d : Claim). same_id d.txn o) cs)))
      by_ids true true s p rest few = absurd (true≢false (both_ids t o c.txn apart s p))
      by_ids true false s p rest few =
          let split = sum_by-cons w c cs in
          passed c cs (mine c s) ∙ other_alone o cs (omega (arith, split, few))
      by_ids false true s p rest few =
          let split = sum_by-cons w c cs in
          ap (λ l. cond (f c) (c ∷ l) l) (own_alone t mine cs (omega (arith, split, few)))
      by_ids false false s p rest few =
          let split = sum_by-cons w c cs in
          let least = own_two w t o apart cs in
          passed c cs (light c (omega (arith, split, few, least))) ∙ rest (omega (arith, split, few))
