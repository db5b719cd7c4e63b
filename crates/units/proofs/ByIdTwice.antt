-- Two changes of a list that ascends by id, one after the other.
use Rattle.std.proofs.Common.{◌≡◌, Bool, true, false, not, cond, List, [], ◌∷◌, refl, sym, ap, ◌∙◌}
use Rattle.std.proofs.lemmas.Bool.{false≢true}
use Rattle.units.specs.Ids.{Id, same_id, older}
use Rattle.units.specs.ById.{IsById, without_member, with_member}
use Rattle.units.proofs.IdLaws.{same_id-refl, same_id_comm, same_id-along, older_not_same, older_not_younger, older_total, older-trans}
use Rattle.units.proofs.ListLaws.{all_gives, all-keep}
use Rattle.units.proofs.ByIdLaws.{AllYounger, later_are_younger}

-- a member that is put in and taken out again
pub without-with_same : {A : Type 0} (id : A → Id) (xs : List A) (y : A) → without_member id (with_member id xs y) (id y) ≡ without_member id xs (id y)
without-with_same id [] y = rw (same_id-refl (id y)) refl
without-with_same id (x ∷ xs) y = by_tests (same_id (id x) (id y)) (older (id x) (id y)) refl (without-with_same id xs y)
  where
    by_tests : (a b : Bool) → same_id (id x) (id y) ≡ a → without_member id (with_member id xs y) (id y) ≡ without_member id xs (id y)
        → without_member id (cond a (y ∷ xs) (cond b (x ∷ with_member id xs y) (y ∷ x ∷ xs))) (id y) ≡ without_member id (x ∷ xs) (id y)
    by_tests true b s rest = rw (same_id-refl (id y), s) refl
    by_tests false true s rest = rw s (ap (λ r. x ∷ r) rest)
    by_tests false false s rest = rw (same_id-refl (id y)) refl

-- a member that is put in twice stands as it was put in last
pub with-with_same : {A : Type 0} (id : A → Id) (xs : List A) (y z : A) → id z ≡ id y → with_member id (with_member id xs y) z ≡ with_member id xs z
with-with_same id [] y z e = rw (e, same_id-refl (id y)) refl
with-with_same id (x ∷ xs) y z e = by_tests (same_id (id x) (id y)) (older (id x) (id y)) refl refl (with-with_same id xs y z e)
  where
    by_tests : (a b : Bool) → same_id (id x) (id y) ≡ a → older (id x) (id y) ≡ b → with_member id (with_member id xs y) z ≡ with_member id xs z
        → with_member id (cond a (y ∷ xs) (cond b (x ∷ with_member id xs y) (y ∷ x ∷ xs))) z ≡ with_member id (x ∷ xs) z
    by_tests true b s o rest = rw (e, same_id-refl (id y), s) refl
    by_tests false true s o rest = rw (e, s, o) (ap (λ r. x ∷ r) rest)
    by_tests false false s o rest = rw (e, same_id-refl (id y), s, o) refl

-- a member that is older than all others is put before them
pub with-before : {A : Type 0} (id : A → Id) (xs : List A) (y : A) → AllYounger id (id y) xs → with_member id xs y ≡ y ∷ xs
with-before id [] y young = refl
with-before id (x ∷ xs) y young = rw (same_id_comm (id x) (id y) ∙ older_not_same (id y) (id x) young.0, older_not_younger (id y) (id x) young.0) refl

-- one is put in and another taken out, in any turn
pub without-with_other : {A : Type 0} (id : A → Id) (xs : List A) (y : A) (u : Id) → IsById id xs → same_id (id y) u ≡ false
    → without_member id (with_member id xs y) u ≡ with_member id (without_member id xs u) y
without-with_other id [] y u up differ = rw differ refl
without-with_other {A = A} id (x ∷ xs) y u up differ =
    by_tests (same_id (id x) (id y)) (older (id x) (id y)) (same_id (id x) u) refl refl refl (without-with_other id xs y u up.1 differ)
  where
    rest_young : older (id y) (id x) ≡ true → AllYounger id (id y) (without_member id xs u)
    rest_young o =
        all-keep (λ z. older (id y) (id z) ≡ true) (λ z. not (same_id (id z) u)) xs
        (all_gives (λ z. older (id x) (id z) ≡ true) (λ z. older (id y) (id z) ≡ true)
        (λ z k. older-trans (id y) (id x) (id z) o k) xs (later_are_younger id x xs up))

    by_tests : (a b c : Bool) → same_id (id x) (id y) ≡ a → older (id x) (id y) ≡ b → same_id (id x) u ≡ c
        → without_member id (with_member id xs y) u ≡ with_member id (without_member id xs u) y
        → without_member id (cond a (y ∷ xs) (cond b (x ∷ with_member id xs y) (y ∷ x ∷ xs))) u
        ≡ with_member id (cond (not c) (x ∷ without_member id xs u) (without_member id xs u)) y
    by_tests true b true s o v rest = absurd (false≢true (sym differ ∙ sym (same_id-along (id x) (id y) u s) ∙ v))
    by_tests true b false s o v rest = rw (differ, s) refl
    by_tests false true true s o v rest = rw v rest
    by_tests false true false s o v rest = rw (v, s, o) (ap (λ r. x ∷ r) rest)
    by_tests false false true s o v rest =
        rw (differ, v) (sym (with-before id (without_member id xs u) y (rest_young (older_total (id x) (id y) s o))))
    by_tests false false false s o v rest = rw (differ, v, s, o) refl
