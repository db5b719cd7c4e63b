-- Ids that are put in their places one by one stand in one list, whatever the turn.
use Rattle.std.specs.List.{list_any, list_all}
use Rattle.std.proofs.Common.{refl, sym, ◌∙◌, ap, subst}
use Rattle.std.specs.Prelude.{◌≡◌, Bool, true, false, cond, ◌&&◌, ◌||◌, List, [], ◌∷◌, ◌++◌}
use Rattle.std.proofs.lemmas.Bool.{and_parts, and_from}
use Rattle.units.proofs.IdLaws.{same_id-is, same_id-refl, same_id_comm, older_total, older_not_younger, older_not_same, older-trans}
use Rattle.units.specs.Ids.{Id, same_id, older, with_id, ids_once}

-- ---- an id in its place

-- the first of two ids is the second, before it or behind it
data Way (t u : Id) : Type 0 where
  IsOne : t ≡ u → Way t u
  IsBefore : older t u ≡ true → Way t u
  IsBehind : older u t ≡ true → Way t u

way : (t u : Id) → Way t u
way t u = by_tests (same_id t u) (older t u) refl refl
  where
    by_tests : (a b : Bool) → same_id t u ≡ a → older t u ≡ b → Way t u
    by_tests true b e f = IsOne (same_id-is t u e)
    by_tests false true e f = IsBefore f
    by_tests false false e f = IsBehind (older_total t u e f)

with_same : (us : List Id) (t : Id) → with_id (t ∷ us) t ≡ t ∷ us
with_same us t = ap (λ b. cond b (t ∷ us) (cond (older t t) (t ∷ with_id us t) (t ∷ t ∷ us))) (same_id-refl t)

with_later : (us : List Id) (u t : Id) → older u t ≡ true → with_id (u ∷ us) t ≡ u ∷ with_id us t
with_later us u t e =
    ap (λ b. cond b (u ∷ us) (cond (older u t) (u ∷ with_id us t) (t ∷ u ∷ us))) (older_not_same u t e)
    ∙ ap (λ b. cond b (u ∷ with_id us t) (t ∷ u ∷ us)) e

with_earlier : (us : List Id) (u t : Id) → older t u ≡ true → with_id (u ∷ us) t ≡ t ∷ u ∷ us
with_earlier us u t e =
    ap (λ b. cond b (u ∷ us) (cond (older u t) (u ∷ with_id us t) (t ∷ u ∷ us))) (same_id_comm u t ∙ older_not_same t u e)
    ∙ ap (λ b. cond b (u ∷ with_id us t) (t ∷ u ∷ us)) (older_not_younger t u e)

-- an id before the first goes before it, whatever was put in its place meanwhile
earlier_still : (us : List Id) (y u t : Id) → older t y ≡ true → older t u ≡ true → with_id (with_id (y ∷ us) u) t ≡ t ∷ with_id (y ∷ us) u
earlier_still us y u t e f = by_way (way y u)
  where
    by_way : Way y u → with_id (with_id (y ∷ us) u) t ≡ t ∷ with_id (y ∷ us) u
    by_way (IsOne g) =
        let same : with_id (y ∷ us) u ≡ y ∷ us = subst (λ v. with_id (y ∷ us) v ≡ y ∷ us) g (with_same us y) in
        ap (λ l. with_id l t) same ∙ with_earlier us y t e ∙ ap (λ l. t ∷ l) (sym same)
    by_way (IsBefore g) =
        let later : with_id (y ∷ us) u ≡ y ∷ with_id us u = with_later us y u g in
        ap (λ l. with_id l t) later ∙ with_earlier (with_id us u) y t e ∙ ap (λ l. t ∷ l) (sym later)
    by_way (IsBehind g) =
        let earlier : with_id (y ∷ us) u ≡ u ∷ y ∷ us = with_earlier us y u g in
        ap (λ l. with_id l t) earlier ∙ with_earlier (y ∷ us) u t f ∙ ap (λ l. t ∷ l) (sym earlier)

turn_ordered : (us : List Id) (t u : Id) → older t u ≡ true → with_id (with_id us t) u ≡ with_id (with_id us u) t
turn_ordered [] t u e = with_later [] t u e ∙ sym (with_earlier [] u t e)
turn_ordered (y ∷ ys) t u e = by_way (way y t) (turn_ordered ys t u e)
  where
    by_way : Way y t → with_id (with_id ys t) u ≡ with_id (with_id ys u) t → with_id (with_id (y ∷ ys) t) u ≡ with_id (with_id (y ∷ ys) u) t
    by_way (IsOne g) rest =
        let same : (l : List Id) → with_id (y ∷ l) t ≡ y ∷ l = λ l. subst (λ v. with_id (y ∷ l) v ≡ y ∷ l) g (with_same l y) in
        let below : older y u ≡ true = subst (λ v. older v u ≡ true) (sym g) e in
        ap (λ l. with_id l u) (same ys) ∙ with_later ys y u below ∙ sym (ap (λ l. with_id l t) (with_later ys y u below) ∙ same (with_id ys u))
    by_way (IsBefore g) rest =
        let below : older y u ≡ true = older-trans y t u g e in
        ap (λ l. with_id l u) (with_later ys y t g) ∙ with_later (with_id ys t) y u below
        ∙ ap (λ l. y ∷ l) rest
        ∙ sym (ap (λ l. with_id l t) (with_later ys y u below) ∙ with_later (with_id ys u) y t g)
    by_way (IsBehind g) rest =
        ap (λ l. with_id l u) (with_earlier ys y t g) ∙ with_later (y ∷ ys) t u e ∙ sym (earlier_still ys y u t g e)

-- two ids may be put in their places in any turn
pub any_turn : (us : List Id) (t u : Id) → with_id (with_id us t) u ≡ with_id (with_id us u) t
any_turn us t u = by_way (way t u)
  where
    by_way : Way t u → with_id (with_id us t) u ≡ with_id (with_id us u) t
    by_way (IsOne e) = subst (λ v. with_id (with_id us t) v ≡ with_id (with_id us v) t) e refl
    by_way (IsBefore e) = turn_ordered us t u e
    by_way (IsBehind e) = sym (turn_ordered us u t e)

-- one more id at the end of a list is put in its place among the ids that stand once
pub once_more : (ts : List Id) (t : Id) → ids_once (ts ++ t ∷ []) ≡ with_id (ids_once ts) t
once_more [] t = refl
once_more (u ∷ us) t = ap (λ l. with_id l u) (once_more us t) ∙ any_turn (ids_once us) t u

-- ---- an id is among the ids that stand once exactly where it is among them

-- an id in its place among others is there, and so are they
any_with : (t u : Id) (us : List Id) → list_any (same_id t) (with_id us u) ≡ (same_id t u || list_any (same_id t) us)
any_with t u [] = refl
any_with t u (v ∷ vs) = placed (same_id v u) (older v u) refl (any_with t u vs)
  where
    swap : (a b c : Bool) → (a || (b || c)) ≡ (b || (a || c))
    swap true true c = refl
    swap true false c = refl
    swap false true c = refl
    swap false false c = refl

    twice : (a b : Bool) → (a || b) ≡ (a || (a || b))
    twice true b = refl
    twice false b = refl

    placed : (a b : Bool) → same_id v u ≡ a → list_any (same_id t) (with_id vs u) ≡ (same_id t u || list_any (same_id t) vs) →
        list_any (same_id t) (cond a (v ∷ vs) (cond b (v ∷ with_id vs u) (u ∷ v ∷ vs))) ≡ (same_id t u || (same_id t v || list_any (same_id t) vs))
    placed true b e rest =
        subst (λ w. (same_id t v || list_any (same_id t) vs) ≡ (same_id t w || (same_id t v || list_any (same_id t) vs))) (same_id-is v u e)
        (twice (same_id t v) _)
    placed false true e rest = ap (λ b. same_id t v || b) rest ∙ swap (same_id t v) (same_id t u) _
    placed false false e rest = refl

pub any_once : (t : Id) (ts : List Id) → list_any (same_id t) (ids_once ts) ≡ list_any (same_id t) ts
any_once t [] = refl
any_once t (u ∷ us) = any_with t u (ids_once us) ∙ ap (λ b. same_id t u || b) (any_once t us)

-- ---- ids in order

-- each id is older than all behind it
abbrev pub rises : List Id → Bool
rises [] = true
rises (t ∷ ts) = list_all (older t) ts && rises ts

pub above_more : (t u : Id) (us : List Id) → older t u ≡ true → list_all (older u) us ≡ true → list_all (older t) us ≡ true
above_more t u [] e h = refl
above_more t u (v ∷ vs) e h =
    let p : (older u v ≡ true) × (list_all (older u) vs ≡ true) = and_parts _ _ h in
    and_from _ _ (older-trans t u v e p.0) (above_more t u vs e p.1)

above_with : (y t : Id) (us : List Id) → older y t ≡ true → list_all (older y) us ≡ true → list_all (older y) (with_id us t) ≡ true
above_with y t [] e h = and_from _ _ e refl
above_with y t (u ∷ us) e h = placed (same_id u t) (older u t) (and_parts _ _ h) (above_with y t us e ((and_parts _ _ h).1))
  where
    placed : (a b : Bool) → (older y u ≡ true) × (list_all (older y) us ≡ true) → list_all (older y) (with_id us t) ≡ true →
        list_all (older y) (cond a (u ∷ us) (cond b (u ∷ with_id us t) (t ∷ u ∷ us))) ≡ true
    placed true b p rest = and_from _ _ p.0 p.1
    placed false true p rest = and_from _ _ p.0 rest
    placed false false p rest = and_from _ _ e (and_from _ _ p.0 p.1)

pub rises_with : (us : List Id) (t : Id) → rises us ≡ true → rises (with_id us t) ≡ true
rises_with [] t h = refl
rises_with (u ∷ us) t h = by_way (way u t) (and_parts _ _ h) (rises_with us t ((and_parts _ _ h).1))
  where
    by_way : Way u t → (list_all (older u) us ≡ true) × (rises us ≡ true) → rises (with_id us t) ≡ true → rises (with_id (u ∷ us) t) ≡ true
    by_way (IsOne e) p rest =
        let same : with_id (u ∷ us) t ≡ u ∷ us = subst (λ v. with_id (u ∷ us) v ≡ u ∷ us) e (with_same us u) in
        ap rises same ∙ h
    by_way (IsBefore e) p rest = ap rises (with_later us u t e) ∙ and_from _ _ (above_with u t us e p.0) rest
    by_way (IsBehind e) p rest = ap rises (with_earlier us u t e) ∙ and_from _ _ (and_from _ _ e (above_more t u us e p.0)) h

-- ids that stand once rise
pub rises_once : (ts : List Id) → rises (ids_once ts) ≡ true
rises_once [] = refl
rises_once (t ∷ ts) = rises_with (ids_once ts) t (rises_once ts)
