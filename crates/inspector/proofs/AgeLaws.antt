-- The oldest of some ids is the first of those that stand once in ascending order.
use Rattle.std.proofs.Common.{◌≡◌, Bool, true, false, cond, List, [], ◌∷◌, ◌++◌, Some, None, refl, sym, ap, ◌∙◌, append_assoc}
use Rattle.units.specs.Ids.{Id, ids_once, older, same_id, with_id}
use Rattle.units.specs.Lists.{head}
use Rattle.std.proofs.lemmas.List.{append-nil}
use Rattle.units.proofs.IdLaws.{same_id-is}
use Rattle.units.proofs.IdOrder.{once_more}
use Rattle.inspector.specs.Ages.{older_of, oldest, with_ids}

onto : (xs ys : List Id) → with_ids (ids_once xs) ys ≡ ids_once (xs ++ ys)
onto xs [] = ap ids_once (sym (append-nil xs))
onto xs (y ∷ ys) = ap (λ us. with_ids us ys) (sym (once_more xs y)) ∙ onto (xs ++ y ∷ []) ys ∙ ap ids_once (append_assoc xs (y ∷ []) ys)

-- the first, where one more is put in its place
head_with : (us : List Id) (t : Id) → head (with_id us t) ≡ Some (older_of (head us) t)
head_with [] t = refl
head_with (u ∷ us) t = by_tests (same_id u t) (older u t) refl refl
  where
    by_tests : (a b : Bool) → same_id u t ≡ a → older u t ≡ b → head (cond a (u ∷ us) (cond b (u ∷ with_id us t) (t ∷ u ∷ us))) ≡ Some (cond b u t)
    by_tests true true e f = refl
    by_tests true false e f = ap (λ v. Some v) (same_id-is u t e)
    by_tests false true e f = refl
    by_tests false false e f = refl

of_more : (us ts : List Id) → head (with_ids us ts) ≡ oldest (head us) ts
of_more us [] = refl
of_more us (t ∷ ts) = of_more (with_id us t) ts ∙ ap (λ found. oldest found ts) (head_with us t)

pub oldest_is_first : (ts : List Id) → head (ids_once ts) ≡ oldest None ts
oldest_is_first ts = ap (λ (us : List Id). head us) (sym (onto [] ts)) ∙ of_more [] ts
