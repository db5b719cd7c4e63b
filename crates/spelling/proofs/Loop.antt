-- Reading items one behind the other, as a loop does.
use Rattle.std.specs.Int.{w16}
use Rattle.std.specs.Prelude.{IsFalse}
use Rattle.std.proofs.lemmas.Bool.{le-leb}
use Rattle.std.proofs.Common.{◌≡◌, ◌⊎◌, inl, inr, Bool, true, false, cond, leb, ℕ, zero, suc, length, ◌-◌, ◌+◌, ◌≤◌, ◌<◌, List, [], ◌∷◌, ◌++◌, Option}
use Rattle.std.proofs.Common.{Some, None, refl, sym, ap, ◌∙◌, append_assoc, arith}
use Rattle.std.proofs.lemmas.List.{append-nil}
use Rattle.spelling.specs.declared.unread.Unread.{Unread}
use Rattle.spelling.specs.declared.unread.Unread.TheVariants.{Memory, Malformed}
use Rattle.spelling.specs.Gives.{Fails}
use Rattle.units.specs.Lists.{ascends}
use Rattle.spelling.specs.Reading.{◌>>=◌, only_if, number_at, many_at}

-- what was read before, and what is still read
abbrev pub with_front : {A : Type 0} → List A → Option (List A × List ℕ) → Option (List A × List ℕ)
with_front front read = read >>= λ x. Some (front ++ x.0, x.1)

module _ {A : Type 0} (one : List ℕ → Option (A × List ℕ)) where
  regroup : (front : List A) (a : A) (read : Option (List A × List ℕ)) → with_front front (read >>= λ x. Some (a ∷ x.0, x.1)) ≡
      with_front (front ++ a ∷ []) read
  regroup front a (Some x) = ap (λ (l : List A). Some (l, x.1)) (simp append_assoc)
  regroup front a None = refl

  pub goes_on : (front : List A) (count i : ℕ) (bytes : List ℕ) (a : A) (after : List ℕ) (total : Option (List A × List ℕ)) → i < count →
      one bytes ≡ Some (a, after)
      → with_front front (many_at one (count - i) bytes) ≡ total → with_front (front ++ a ∷ []) (many_at one (count - (i + 1)) after) ≡ total
  unfolding many_at
  goes_on front count i bytes a after total lt h so_far =
      let k : count - i ≡ suc (count - (i + 1)) = omega arith in
      let step : with_front front (many_at one (count - i) bytes) ≡ with_front (front ++ a ∷ []) (many_at one (count - (i + 1)) after) =
      rw (k, h) (regroup front a (many_at one (count - (i + 1)) after)) in
      sym step ∙ so_far

  pub ends : (unread : Unread) (front : List A) (count i : ℕ) (bytes : List ℕ) (total : Option (List A × List ℕ)) → i < count → Fails unread (one bytes)
      → with_front front (many_at one (count - i) bytes) ≡ total → Fails unread total
  unfolding many_at
  ends Memory front count i bytes total lt h so_far = tt
  ends Malformed front count i bytes total lt h so_far =
      let k : count - i ≡ suc (count - (i + 1)) = omega arith in
      let step : with_front front (many_at one (count - i) bytes) ≡ None = rw (k, h) refl in
      sym so_far ∙ step

  pub is_done : (front : List A) (count i : ℕ) (bytes : List ℕ) (total : Option (List A × List ℕ)) → count ≤ i →
      with_front front (many_at one (count - i) bytes) ≡ total → total ≡ Some (front, bytes)
  unfolding many_at
  is_done front count i bytes total le so_far =
      let k : count - i ≡ 0 = omega arith in
      let step : with_front front (many_at one (count - i) bytes) ≡ Some (front, bytes) = rw k (ap (λ (l : List A). Some (l, bytes)) (append-nil front)) in
      sym so_far ∙ step

pub bind_some : {A B : Type 0} (o : Option A) (f : A → Option B) (y : B) → (o >>= f) ≡ Some y → (x : A) × (o ≡ Some x) × (f x ≡ Some y)
bind_some (Some x) f y e = (x, refl, e)
bind_some None f y e = absurd cc

pub some_is : {A : Type 0} (x y : A) → ◌≡◌ {A = Option A} (Some x) (Some y) → x ≡ y
some_is x y e = cc

-- as many are read as were to be
pub many_count : {A : Type 0} (one : List ℕ → Option (A × List ℕ)) (count : ℕ) (bytes : List ℕ) (x : List A × List ℕ) →
    many_at one count bytes ≡ Some x → length x.0 ≡ count
unfolding many_at
many_count {A} one zero bytes x e = ap (λ (p : List A × List ℕ). length p.0) (sym (some_is ([], bytes) x e))
many_count {A} one (suc count) bytes x e =
    let a = bind_some (one bytes) (λ first. many_at one count first.1 >>= λ others. Some (first.0 ∷ others.0, others.1)) x e in
    let b = bind_some (many_at one count a.0.1) (λ others. Some (a.0.0 ∷ others.0, others.1)) x a.2 in
    ap (λ (p : List A × List ℕ). length p.0) (sym (some_is (a.0.0 ∷ b.0.0, b.0.1) x b.2)) ∙ ap suc (many_count one count a.0.1 b.0 b.1)

out_of_order : {A : Type 0} (less : A → A → Bool) (xs : List A) → length xs ≤ 128 → (128 < length xs) ⊎ IsFalse (ascends less xs) → ascends less xs ≡ false
out_of_order less xs few (inl many) = absurd (omega (arith, few, many))
out_of_order less xs few (inr not-so) = not-so

-- a list that was read, but that is too long or out of order
pub list_refused : {A : Type 0} (less : A → A → Bool) (one : List ℕ → Option (A × List ℕ)) (bytes : List ℕ) (count : ℕ) (rest : List ℕ)
    (found : List A × List ℕ)
    → number_at w16 bytes ≡ Some (count, rest) → count ≤ 128 → many_at one count rest ≡ Some found → (128 < length found.0) ⊎ IsFalse (ascends less found.0)
    → (number_at w16 bytes >>= λ n. (cond (leb n.0 128) (many_at one n.0 n.1) None) >>= λ xs. only_if (ascends less xs.0) xs) ≡ None
list_refused less one bytes count rest found read few many refused =
    let small : leb count 128 ≡ true = le-leb _ _ few in
    let same : length found.0 ≡ count = many_count one count rest found many in
    rw (read, small, many, out_of_order less found.0 (omega (arith, same, few)) refused) refl
