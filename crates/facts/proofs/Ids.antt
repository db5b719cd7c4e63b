-- The ids of the entries, as a sort leaves them.
use Rattle.std.proofs.Common.{◌≡◌, ℕ, suc, ◌≤◌, ◌<◌, Bool, true, false, not, ◌&&◌, List, [], ◌∷◌, map, length, get_or, filter, is_lt, nat_cmp, Option}
use Rattle.std.proofs.Common.{Some, None}
use Rattle.std.proofs.Common.{option_map, refl, sym, ap, subst, ◌∙◌, arith}
use Rattle.std.specs.Cmp.{IsStrictWeakOrder}
use Rattle.std.specs.List.{AllByRecursion, IsDistinct, list_all}
use Rattle.std.specs.List.Sorted.{IsPermutation, IsSortedBy, IsStableBy, ties}
use Rattle.std.specs.Ordering.{ordering_then}
use Rattle.std.proofs.lemmas.Bool.{and_from}
use Rattle.std.proofs.lemmas.Bool.Decides.{nat_tests}
use Rattle.std.proofs.lemmas.List.Sorted.{sorted_far}
use Rattle.std.proofs.lemmas.Map.Keys.{IsDistinct-IsPermutation}
use Rattle.units.specs.Ids.{Id, same_id, older}
use Rattle.units.specs.ById.{IsById, find_member}
use Rattle.units.specs.Lists.{head}
use Rattle.units.proofs.IdLaws.{same_id_comm, older_total}
use Rattle.units.proofs.ByIdLaws.{by_id-map, find-map, same_members}
use Rattle.record.specs.Facts as facts
use Rattle.facts.specs.declared.entry.Status.{Status}
use Rattle.facts.specs.Shown.{meaning, shown_entries, by_id}
use Rattle.facts.proofs.Entries.{by_id_ascends, find_by_id}

-- the order as a sort has it
abbrev pub is_less : Id → Id → Bool
is_less a b = is_lt (ordering_then (nat_cmp a.run b.run) (nat_cmp a.number b.number))

less_is : (a b : Id) → is_less a b ≡ older a b
less_is a b = grind (arith, nat_tests)

same_order : is_less ≡ older
same_order i a b = less_is a b i

one_way : (a b : Id) → older a b ≡ true → older b a ≡ false
one_way a b h = grind (arith, nat_tests)

chain : (a b c : Id) → older a b ≡ false → older b c ≡ false → older a c ≡ false
chain a b c h k = grind (arith, nat_tests)

older_order : IsStrictWeakOrder older
older_order = record { one_way = one_way; chain = chain }

tie_is_same : (a b : Id) → (not (older a b) && not (older b a)) ≡ same_id a b
tie_is_same a b = grind (arith, nat_tests)

-- an id is older than those that do not come before it and are not it
younger : (x : Id) (ys : List Id) → ((k : ℕ) (d : Id) → k < length ys → older (get_or ys k d) x ≡ false) → AllByRecursion (λ y. same_id x y ≡ false) ys
    → list_all (older x) ys ≡ true
younger x [] far once = refl
younger x (y ∷ ys) far once =
    and_from _ _ (older_total y x (same_id_comm y x ∙ once.0) (far 0 y (omega arith)))
    (younger x ys (λ k d lt. far (suc k) d (omega (arith, lt))) once.1)

-- ids that were sorted ascend, where each stands once
ascend : (xs : List Id) → ((i j : ℕ) (d : Id) → i ≤ j → j < length xs → older (get_or xs j d) (get_or xs i d) ≡ false) → IsDistinct same_id xs
    → IsById (λ t. t) xs
unfolding IsDistinct
ascend [] far once = tt
ascend (x ∷ xs) far once = (
  younger x xs (λ k d lt. far 0 (suc k) d (omega arith) (omega (arith, lt))) once.0,
  ascend xs (λ i j d le lt. far (suc i) (suc j) d (omega (arith, le)) (omega (arith, lt))) once.1,
)

-- those of one id
ties_are : (t : Id) (xs : List Id) → filter (ties is_less t) xs ≡ filter (λ x. same_id x t) xs
ties_are t xs =
    ap (λ (less : Id → Id → Bool). filter (ties less t) xs) same_order
    ∙ ap (λ (test : Id → Bool). filter test xs) (λ i x. (tie_is_same t x ∙ same_id_comm t x) i)

found_alike : (xs ys : List Id) → IsStableBy is_less xs ys → (t : Id) → find_member (λ u. u) ys t ≡ find_member (λ u. u) xs t
found_alike xs ys stable t = ap head (sym (ties_are t ys) ∙ stable t ∙ ties_are t xs)

abbrev id_of : Id × Status → Id
id_of e = e.0

abbrev shown : Id × Status → facts.TxnStatus
shown e = record { txn = e.0; status = meaning e.1 }

-- the ids by which the entries ascend are found among those of the map
found_by_id : (es : List (Id × Status)) (t : Id) → find_member (λ u. u) (map (λ e. e.txn) (shown_entries (by_id es))) t
    ≡ find_member (λ u. u) (map id_of es) t
found_by_id es t =
    find-map (λ (e : facts.TxnStatus). e.txn) (λ u. u) (λ e. e.txn) (λ e. refl) (shown_entries (by_id es)) t
    ∙ ap (option_map (λ (e : facts.TxnStatus). e.txn)) (find-map id_of (λ (e : facts.TxnStatus). e.txn) shown (λ e. refl) (by_id es) t)
    ∙ both (find_member id_of (by_id es) t)
    ∙ ap (option_map id_of) (find_by_id es t)
    ∙ sym (find-map id_of (λ u. u) id_of (λ e. refl) es t)
  where
    both : (o : Option (Id × Status)) → option_map (λ (e : facts.TxnStatus). e.txn) (option_map shown o) ≡ option_map id_of o
    both None = refl
    both (Some e) = refl

-- they ascend
pub ids_ascend : (es : List (Id × Status)) → IsById (λ u. u) (map (λ e. e.txn) (shown_entries (by_id es)))
ids_ascend es =
    by_id-map (λ (e : facts.TxnStatus). e.txn) (λ u. u) (λ e. e.txn) (λ e. refl) (shown_entries (by_id es))
    (by_id-map id_of (λ (e : facts.TxnStatus). e.txn) shown (λ e. refl) (by_id es) (by_id_ascends es))

-- what a sort makes of the ids of the map
pub sorted_ids : (es : List (Id × Status)) (ids : List Id) → IsSortedBy is_less ids → IsStableBy is_less (map (λ e. e.0) es) ids
    → IsPermutation (map (λ e. e.0) es) ids → IsDistinct same_id (map (λ e. e.0) es) → ids ≡ map (λ e. e.txn) (shown_entries (by_id es))
sorted_ids es ids sorted stable moved once =
    let by_age : IsSortedBy older ids = subst (λ (less : Id → Id → Bool). IsSortedBy less ids) same_order sorted in
    same_members (λ u. u) ids (map (λ e. e.txn) (shown_entries (by_id es)))
    (ascend ids (sorted_far older older_order ids by_age) (IsDistinct-IsPermutation same_id same_id_comm (map id_of es) ids moved once))
    (ids_ascend es) (λ t. found_alike (map id_of es) ids stable t ∙ sym (found_by_id es t))
