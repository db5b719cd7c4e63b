-- Keys compare, and are hashed, by their bytes: one comparison tells whether two are the same, and which is before.
use Rattle.std.proofs.Common.{◌≡◌, ℕ, List, [], ◌∷◌, Some, Ordering, ap, sym, refl, ◌∙◌, subst, arith, IsTrue, nat_cmp, is_eq}
use Rattle.std.proofs.lemmas.Bool.Decides.{nat_tests}
use Rattle.std.proofs.lemmas.Cmp.{same_from_slice_cmp}
use Rattle.std.specs.Cmp.{IsEquivalence, IsPartialEquivalence, IsPartialOrder, partial_equiv_from_equiv, po}
use Rattle.std.specs.Cmp.Lexicographic.{pointwise, slice_cmp, nat_list_cmp_total, nat_list_eq_equiv, texts_ties, same_text}
use Rattle.std.specs.Ordering.{eq_by_cmp}
use Rattle.std.specs.Prelude.{nat_eq}
use Rattle.units.specs.Keys.{Bytes, same_key}

pub same_by : (a b : List ℕ) (o : Ordering) → o ≡ slice_cmp nat_cmp a b → is_eq o ≡ same_key a b
same_by = same_from_slice_cmp nat_cmp is_eq same_key refl (λ _ _. refl) (λ _ _. refl) (λ x y xs ys o h. grind (arith, nat_tests))

-- those that the order does not tell apart are equal
pub key_ties : (x y : Bytes) → same_key x y ≡ eq_by_cmp (slice_cmp nat_cmp) x y
key_ties x y = sym (same_by x y (slice_cmp nat_cmp x y) refl)

same_as_text : (x y : Bytes) → same_key x y ≡ pointwise nat_eq x y
same_as_text x y = key_ties x y ∙ sym (texts_ties x y)

pub same_key-equivalence : IsEquivalence same_key
same_key-equivalence = subst IsEquivalence (λ i x y. sym (same_as_text x y) i) nat_list_eq_equiv

pub same_key-partial : IsPartialEquivalence same_key
same_key-partial = partial_equiv_from_equiv same_key-equivalence

pub key_order : IsPartialOrder same_key (λ x y. Some (slice_cmp nat_cmp x y))
key_order = po nat_list_cmp_total key_ties

-- equal keys are hashed alike
pub same_input : (x y : Bytes) → IsTrue (same_key x y) → ◌≡◌ {A = List Bytes} (x ∷ []) (y ∷ [])
same_input x y e = ap (λ k. k ∷ []) (same_text x y (sym (sym (same_as_text x y) ∙ e)))
