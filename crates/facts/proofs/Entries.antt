-- The entries of the code, looked up and set anew.
use Rattle.std.proofs.Common.{◌≡◌, Bool, true, false, subst, cond, List, [], ◌∷◌, Option, Some, None, refl, sym, ap, ◌∙◌, filter, option_map}
use Rattle.std.specs.Map.{lookup}
use Rattle.units.specs.Lists.{head}
use Rattle.units.specs.Ids.{Id, same_id, older}
use Rattle.units.specs.ById.{IsById, find_member, with_member}
use Rattle.units.proofs.ByAge.{find_lookup, put_is_with}
use Rattle.units.proofs.IdLaws.{same_id-is}
use Rattle.units.proofs.ByIdLaws.{by_id-with, find-with_same, find-with_other, find-map, with-map}
use Rattle.record.specs.Records as records
use Rattle.record.specs.Facts.{with_status, or_unrecorded}
use Rattle.record.specs.Facts as facts
use Rattle.facts.specs.declared.entry.Status.{Status}
use Rattle.facts.specs.Shown.{meaning, meant, shown_entries, by_id, status_in}

-- the entry that is meant by one
shown_one : Id × Status → facts.TxnStatus
shown_one e = record { txn = e.0; status = meaning e.1 }

-- what is looked up is the status
pub looked_up : (es : List (Id × Status)) (t : Id) → meant (lookup (same_id t) es) ≡ status_in (shown_entries es) t
unfolding shown_one
looked_up es t =
    by_found (lookup (same_id t) es)
    ∙ sym (ap or_unrecorded (find-map (λ e. e.0) (λ (e : facts.TxnStatus). e.txn) shown_one (λ e. refl) es t ∙ ap (option_map shown_one) (find_lookup es t)))
  where
    by_found : (o : Option Status) → meant o ≡ or_unrecorded (option_map shown_one (option_map (λ s. (t, s)) o))
    by_found None = refl
    by_found (Some s) = refl

-- a status is given anew as a member is
with_status_is : (es : List facts.TxnStatus) (t : Id) (s : records.Status) → with_status es t s ≡ with_member (λ e. e.txn) es (record { txn = t; status = s })
with_status_is [] t s = refl
with_status_is (e ∷ es) t s =
    let one : facts.TxnStatus = record { txn = t; status = s } in
    ap (λ l. cond (same_id e.txn t) (one ∷ es) (cond (older e.txn t) (e ∷ l) (one ∷ e ∷ es))) (with_status_is es t s)

-- an entry given anew
pub shown_with : (es : List (Id × Status)) (t : Id) (s : Status) → shown_entries (with_member (λ e. e.0) es (t, s)) ≡
    with_status (shown_entries es) t (meaning s)
unfolding shown_one
shown_with es t s = sym (with_status_is (shown_entries es) t (meaning s) ∙ with-map (λ e. e.0) (λ (e : facts.TxnStatus). e.txn) shown_one (λ e. refl) es (t, s))

-- whatever the order in which the entries came, they are by id
pub by_id_ascends : (es : List (Id × Status)) → IsById (λ e. e.0) (by_id es)
by_id_ascends [] = tt
by_id_ascends (e ∷ es) = by_id-with (λ x. x.0) (by_id es) e (by_id_ascends es)

-- and the same is found
pub find_by_id : (es : List (Id × Status)) (t : Id) → find_member (λ e. e.0) (by_id es) t ≡ find_member (λ e. e.0) es t
find_by_id [] t = refl
find_by_id (e ∷ es) t = by_test (same_id e.0 t) refl (find_by_id es t)
  where
    by_test : (b : Bool) → same_id e.0 t ≡ b → find_member (λ x. x.0) (by_id es) t ≡ find_member (λ x. x.0) es t
        → find_member (λ x. x.0) (with_member (λ x. x.0) (by_id es) e) t
        ≡ head (cond b (e ∷ filter (λ x. same_id x.0 t) es) (filter (λ x. same_id x.0 t) es))
    by_test true s rest = subst (λ u. find_member (λ x. x.0) (with_member (λ x. x.0) (by_id es) e) u ≡ Some e) (same_id-is e.0 t s)
        (find-with_same (λ x. x.0) (by_id es) e)
    by_test false s rest = find-with_other (λ x. x.0) (by_id es) e t s ∙ rest

pub lookup_by_id : (es : List (Id × Status)) (t : Id) → lookup (same_id t) (by_id es) ≡ lookup (same_id t) es
lookup_by_id es t =
    same_value (lookup (same_id t) (by_id es)) (lookup (same_id t) es)
    (sym (find_lookup (by_id es) t) ∙ find_by_id es t ∙ find_lookup es t)
  where
    same_value : (a b : Option Status) → ◌≡◌ {A = Option (Id × Status)} (option_map (λ v. (t, v)) a) (option_map (λ v. (t, v)) b) → a ≡ b
    same_value None None e = refl
    same_value None (Some w) e = let clash : ◌≡◌ {A = Option (Id × Status)} None (Some (t, w)) = e in cc
    same_value (Some v) None e = let clash : ◌≡◌ {A = Option (Id × Status)} (Some (t, v)) None = e in cc
    same_value (Some v) (Some w) e = ap (option_map (λ (p : Id × Status). p.1)) e

-- what is found is the status
pub found_is : (es : List (Id × Status)) (t : Id) (o : Option Status) → o ≡ lookup (same_id t) es → meant o ≡ status_in (shown_entries (by_id es)) t
found_is es t o found = ap meant (found ∙ sym (lookup_by_id es t)) ∙ looked_up (by_id es) t

-- an entry put in at the end, or in the place of the one of its id, is given anew
pub shown_put : (es new : List (Id × Status)) (t : Id) (s : Status)
    → ((q : Id) → lookup (same_id q) new ≡ cond (same_id t q) (Some s) (lookup (same_id q) es))
    → shown_entries (by_id new) ≡ with_status (shown_entries (by_id es)) t (meaning s)
shown_put es new t s says =
    ap shown_entries (put_is_with (by_id es) (by_id new) t s (by_id_ascends es) (by_id_ascends new)
    (λ q. lookup_by_id new q ∙ says q ∙ ap (λ o. cond (same_id t q) (Some s) o) (sym (lookup_by_id es q))))
    ∙ shown_with (by_id es) t s
