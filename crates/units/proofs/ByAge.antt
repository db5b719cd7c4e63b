-- A map by id, its entries looked up and put in.
use Rattle.std.proofs.Common.{◌≡◌, Bool, true, false, cond, List, [], ◌∷◌, Option, Some, refl, sym, ap}
use Rattle.std.proofs.Common.{subst, ◌∙◌, option_map, filter}
use Rattle.std.specs.Map.{lookup}
use Rattle.units.specs.Lists.{head}
use Rattle.units.specs.Ids.{Id, same_id}
use Rattle.units.specs.ById.{IsById, find_member, with_member}
use Rattle.units.proofs.IdLaws.{same_id-is, same_id_comm}
use Rattle.units.proofs.ByIdLaws.{by_id-with, find-with_same, find-with_other, same_members}

-- an entry of an id is that id with the value that is looked up
pub find_lookup : {V : Type 0} (es : List (Id × V)) (t : Id) → find_member (λ e. e.0) es t ≡ option_map (λ v. (t, v)) (lookup (same_id t) es)
find_lookup [] t = refl
find_lookup {V = V} (e ∷ es) t = rw (same_id_comm t e.0) (by_test (same_id e.0 t) refl (find_lookup es t))
  where
    by_test : (b : Bool) → same_id e.0 t ≡ b → find_member (λ e. e.0) es t ≡ option_map (λ v. (t, v)) (lookup (same_id t) es)
        → head (cond b (e ∷ filter (λ x. same_id x.0 t) es) (filter (λ x. same_id x.0 t) es)) ≡
        option_map (λ v. (t, v)) (cond b (Some e.1) (lookup (same_id t) es))
    by_test true is rest = ap (λ u. let x : Id × V = (u, e.1) in Some x) (same_id-is e.0 t is)
    by_test false is rest = rest

-- where a value is put at an id, and the keys stay sorted, the entries are those with one given anew
pub put_is_with : {V : Type 0} (es new : List (Id × V)) (t : Id) (v : V) → IsById (λ e. e.0) es → IsById (λ e. e.0) new
    → ((q : Id) → lookup (same_id q) new ≡ cond (same_id t q) (Some v) (lookup (same_id q) es)) → new ≡ with_member (λ e. e.0) es (t, v)
put_is_with {V = V} es new t v up new_up says =
    same_members (λ e. e.0) new (with_member (λ e. e.0) es (t, v)) new_up (by_id-with (λ e. e.0) es (t, v) up)
    (λ q. find_lookup new q ∙ ap (option_map (λ w. (q, w))) (says q) ∙ by_test q (same_id t q) refl)
  where
    by_test : (q : Id) (b : Bool) → same_id t q ≡ b
        → option_map (λ w. (q, w)) (cond b (Some v) (lookup (same_id q) es)) ≡ find_member (λ e. e.0) (with_member (λ e. e.0) es (t, v)) q
    by_test q true is =
        let same : t ≡ q = same_id-is t q is in
        subst (λ u. ◌≡◌ {A = Option (Id × V)} (Some (u, v)) (find_member (λ e. e.0) (with_member (λ e. e.0) es (t, v)) u)) same
        (sym (find-with_same (λ e. e.0) es (t, v)))
    by_test q false is = sym (find_lookup es q) ∙ sym (find-with_other (λ e. e.0) es (t, v) q is)
