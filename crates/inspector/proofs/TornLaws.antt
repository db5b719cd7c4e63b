-- The least transaction that is not whole, found among records that ascend.
use Rattle.std.specs.List.{list_all, list_any}
use Rattle.std.proofs.Common.{◌≡◌, ◌∙◌, ℕ, suc, Bool, true, false, not, cond, ◌&&◌, ◌||◌, List, [], ◌∷◌, ◌++◌, filter, flat_map, length, map, Option, Some}
use Rattle.std.proofs.Common.{None, option_map, refl, sym, ap, subst}
use Rattle.std.proofs.lemmas.Bool.{and_parts, and_from, false≢true}
use Rattle.units.specs.Ids.{Id, same_id, older, with_id, ids_once}
use Rattle.units.specs.Lists.{first, gather, head, numbered}
use Rattle.units.proofs.IdLaws.{older_not_same, older_total, same_id-is, same_id-refl}
use Rattle.units.proofs.IdOrder.{above_more, any_once, rises, rises_once}
use Rattle.record.specs.Records.{id_in}
use Rattle.record.specs.Accepted.{is_kept}
use Rattle.record.specs.Whole.{all_ids, is_whole}
use Rattle.record.specs.declared.record.Record.{Record}
use Rattle.inspector.specs.Entries.{About, AscendsByTxn, about_in, entries, logs_from, of_txn}
use Rattle.inspector.proofs.WholeByEntries.{whole_by_entries}

-- ---- ids that rise are told by their members

not_among : (t : Id) (us : List Id) → list_all (older t) us ≡ true → list_any (same_id t) us ≡ false
not_among t [] above = refl
not_among t (u ∷ us) above = rw (older_not_same t u (and_parts _ _ above).0) (not_among t us (and_parts _ _ above).1)

one_is : (t : Id) (us : List Id) → list_any (same_id t) (t ∷ us) ≡ true
one_is t us = ap (λ b. b || list_any (same_id t) us) (same_id-refl t)

abbrev pub SameIds : List Id → List Id → Type 0
SameIds us vs = (t : Id) → list_any (same_id t) us ≡ list_any (same_id t) vs

-- the least of one list is not before the least of the other
not_older : (u v : Id) (us vs : List Id) → list_all (older v) vs ≡ true → SameIds (u ∷ us) (v ∷ vs) → older u v ≡ false
not_older u v us vs above same = by_test (older u v) refl
  where
    by_test : (b : Bool) → older u v ≡ b → older u v ≡ false
    by_test false e = e
    by_test true e =
        let missing : list_any (same_id u) (v ∷ vs) ≡ false = not_among u (v ∷ vs) (and_from _ _ e (above_more u v vs e above)) in
        absurd (false≢true (sym missing ∙ (sym (same u) ∙ one_is u us)))

same_tail : (u : Id) (us vs : List Id) → list_all (older u) us ≡ true → list_all (older u) vs ≡ true → SameIds (u ∷ us) (u ∷ vs) → SameIds us vs
same_tail u us vs above below same t = by_test (same_id t u) refl
  where
    by_test : (b : Bool) → same_id t u ≡ b → list_any (same_id t) us ≡ list_any (same_id t) vs
    by_test true e =
        let one : u ≡ t = sym (same_id-is t u e) in
        subst (λ v. list_any (same_id v) us ≡ list_any (same_id v) vs) one (not_among u us above ∙ sym (not_among u vs below))
    by_test false e =
        let here : (list_any (same_id t) us ≡ (same_id t u || list_any (same_id t) us)) = ap (λ b. b || list_any (same_id t) us) (sym e) in
        let there : ((same_id t u || list_any (same_id t) vs) ≡ list_any (same_id t) vs) = ap (λ b. b || list_any (same_id t) vs) e in
        here ∙ same t ∙ there

pub same_ids : (us vs : List Id) → rises us ≡ true → rises vs ≡ true → SameIds us vs → us ≡ vs
same_ids [] [] up down same = refl
same_ids [] (v ∷ vs) up down same = absurd (false≢true (same v ∙ one_is v vs))
same_ids (u ∷ us) [] up down same = absurd (false≢true (sym (same u) ∙ one_is u us))
same_ids (u ∷ us) (v ∷ vs) up down same =
    let above : (list_all (older u) us ≡ true) × (rises us ≡ true) = and_parts _ _ up in
    let below : (list_all (older v) vs ≡ true) × (rises vs ≡ true) = and_parts _ _ down in
    let one : u ≡ v = by_test above below (same_id u v) refl in
    let below_u : list_all (older u) vs ≡ true = subst (λ w. list_all (older w) vs ≡ true) (sym one) below.0 in
    let same_u : SameIds (u ∷ us) (u ∷ vs) = subst (λ w. SameIds (u ∷ us) (w ∷ vs)) (sym one) same in
    ap (λ l. u ∷ l) (same_ids us vs above.1 below.1 (same_tail u us vs above.0 below_u same_u)) ∙ ap (λ w. w ∷ vs) one
  where
    by_test : (list_all (older u) us ≡ true) × (rises us ≡ true) → (list_all (older v) vs ≡ true) × (rises vs ≡ true) → (b : Bool) → same_id u v ≡ b → u ≡ v
    by_test above below true e = same_id-is u v e
    by_test above below false e =
        absurd (false≢true (sym (not_older v u vs us above.0 (λ t. sym (same t))) ∙ older_total u v e (not_older u v us vs below.0 same)))

-- ---- the ids of records that ascend

ids_append : (xs ys : List About) → map (λ (e : About). e.txn) (xs ++ ys) ≡ map (λ (e : About). e.txn) xs ++ map (λ (e : About). e.txn) ys
ids_append [] ys = refl
ids_append (x ∷ xs) ys = ap (λ l. x.txn ∷ l) (ids_append xs ys)

ids_of_log : (n : ℕ) (log : List Record) → map (λ (e : About). e.txn) (gather (about_in n) log) ≡ gather id_in log
ids_of_log n [] = refl
ids_of_log n (r ∷ log) = by_id (id_in r) (ids_of_log n log)
  where
    by_id : (o : Option Id) → map (λ (e : About). e.txn) (gather (about_in n) log) ≡ gather id_in log
        → map (λ (e : About). e.txn) (elim (option_map {U = About} (λ u. record { txn = u; shard = n; item = r }) o) as
        (λ x. List About) [ None ↦ gather (about_in n) log | Some y ↦ y ∷ gather (about_in n) log ])
        ≡ (elim o as (λ x. List Id) [ None ↦ gather id_in log | Some y ↦ y ∷ gather id_in log ])
    by_id None rest = rest
    by_id (Some u) rest = ap (λ l. u ∷ l) rest

ids_from : (n : ℕ) (logs : List (List Record)) → map (λ (e : About). e.txn) (flat_map (λ l. gather (about_in l.0) l.1) (numbered n logs)) ≡ flat_map
    (gather id_in) logs
ids_from n [] = refl
ids_from n (log ∷ logs) =
    ids_append (gather (about_in n) log) (flat_map (λ l. gather (about_in l.0) l.1) (numbered (suc n) logs))
    ∙ λ i. ids_of_log n log i ++ ids_from (suc n) logs i

-- there is a member
abbrev pub some : {A : Type 0} → List A → Bool
some [] = false
some (x ∷ xs) = true

among : (t : Id) (es : List About) → list_any (same_id t) (map (λ e. e.txn) es) ≡ some (of_txn t es)
among t [] = refl
among t (e ∷ es) = by_test (same_id t e.txn) (among t es)
  where
    by_test : (b : Bool) → list_any (same_id t) (map (λ e. e.txn) es) ≡ some (of_txn t es)
        → (b || list_any (same_id t) (map (λ e. e.txn) es)) ≡ some (cond b (e ∷ of_txn t es) (of_txn t es))
    by_test true rest = refl
    by_test false rest = rest

once_same : (es fs : List About) → ((t : Id) → of_txn t es ≡ of_txn t fs) → ids_once (map (λ e. e.txn) es) ≡ ids_once (map (λ e. e.txn) fs)
once_same es fs same =
    same_ids _ _ (rises_once (map (λ e. e.txn) es)) (rises_once (map (λ e. e.txn) fs))
    (λ t. any_once t (map (λ e. e.txn) es) ∙ among t es ∙ ap some (same t) ∙ sym (among t fs) ∙ sym (any_once t (map (λ e. e.txn) fs)))

-- ---- the first of ids that ascend

-- none is older than an id
abbrev pub none_older : Id → List Id → Bool
none_older t us = list_all (λ u. not (older u t)) us

none_older_with : (t u : Id) (us : List Id) → not (older u t) ≡ true → none_older t us ≡ true → none_older t (with_id us u) ≡ true
none_older_with t u [] here all = and_from _ _ here refl
none_older_with t u (v ∷ vs) here all = placed (same_id v u) (older v u) (and_parts _ _ all) (none_older_with t u vs here (and_parts _ _ all).1)
  where
    placed : (a b : Bool) → (not (older v t) ≡ true) × (none_older t vs ≡ true) → none_older t (with_id vs u) ≡ true
        → none_older t (cond a (v ∷ vs) (cond b (v ∷ with_id vs u) (u ∷ v ∷ vs))) ≡ true
    placed true b p rest = and_from _ _ p.0 p.1
    placed false true p rest = and_from _ _ p.0 rest
    placed false false p rest = and_from _ _ here (and_from _ _ p.0 p.1)

none_older_once : (t : Id) (us : List Id) → none_older t us ≡ true → none_older t (ids_once us) ≡ true
none_older_once t [] all = refl
none_older_once t (u ∷ us) all = none_older_with t u (ids_once us) (and_parts _ _ all).0 (none_older_once t us (and_parts _ _ all).1)

first_step : (test : Id → Bool) (t : Id) (us vs : List Id) → first test us ≡ first test vs → first test (t ∷ us) ≡ first test (t ∷ vs)
first_step test t us vs same = by_test (test t)
  where
    by_test : (b : Bool) → head (cond b (t ∷ filter test us) (filter test us)) ≡ head (cond b (t ∷ filter test vs) (filter test vs))
    by_test true = refl
    by_test false = same

-- an id that none is older than is put in front, where it is not there
first_with : (test : Id → Bool) (t : Id) (us : List Id) → none_older t us ≡ true → first test (with_id us t) ≡ first test (t ∷ us)
first_with test t [] all = refl
first_with test t (u ∷ us) all = by_tests (same_id u t) (older u t) refl (and_parts _ _ all)
  where
    twice : (b : Bool) → test u ≡ b → head (cond b (u ∷ filter test us) (filter test us)) ≡ head
        (cond b (u ∷ cond b (u ∷ filter test us) (filter test us)) (cond b (u ∷ filter test us) (filter test us)))
    twice true e = refl
    twice false e = refl

    by_tests : (a b : Bool) → same_id u t ≡ a → (not b ≡ true) × (none_older t us ≡ true)
        → first test (cond a (u ∷ us) (cond b (u ∷ with_id us t) (t ∷ u ∷ us))) ≡ first test (t ∷ u ∷ us)
    by_tests true b e p = subst (λ v. first test (u ∷ us) ≡ first test (v ∷ u ∷ us)) (same_id-is u t e) (twice (test u) refl)
    by_tests false true e p = cc
    by_tests false false e p = refl

ids_none_older : (t : Id) (es : List About) → list_all (λ f. not (older f.txn t)) es ≡ true → none_older t (map (λ e. e.txn) es) ≡ true
ids_none_older t [] all = refl
ids_none_older t (e ∷ es) all = and_from _ _ (and_parts _ _ all).0 (ids_none_older t es (and_parts _ _ all).1)

first_ascending : (test : Id → Bool) (es : List About) → AscendsByTxn es → first test (map (λ e. e.txn) es) ≡ first test (ids_once (map (λ e. e.txn) es))
first_ascending test [] up = refl
first_ascending test (e ∷ es) up =
    first_step test e.txn (map (λ e. e.txn) es) (ids_once (map (λ e. e.txn) es)) (first_ascending test es up.1)
    ∙ sym (first_with test e.txn (ids_once (map (λ e. e.txn) es)) (none_older_once e.txn (map (λ e. e.txn) es) (ids_none_older e.txn es up.0)))

-- ---- the least that is not whole, of those that are not retired

pub torn_is : (retired : Option Id) (logs : List (List Record)) (es : List About) → AscendsByTxn es → ((t : Id) → of_txn t es ≡ of_txn t (entries logs))
    → first (λ t. is_kept retired t && not (is_whole t (logs_from (length logs) 0 (of_txn t es)))) (map (λ e. e.txn) es)
    ≡ first (λ t. is_kept retired t && not (is_whole t logs)) (all_ids logs)
torn_is retired logs es up same =
    ap (λ (test : Id → Bool). first test (map (λ e. e.txn) es)) (λ i t. is_kept retired t && not
    ((ap (λ fs. is_whole t (logs_from (length logs) 0 fs)) (same t) ∙ whole_by_entries t logs) i))
    ∙ first_ascending (λ t. is_kept retired t && not (is_whole t logs)) es up
    ∙ ap (first (λ t. is_kept retired t && not (is_whole t logs))) (once_same es (entries logs) same ∙ ap ids_once (ids_from 0 logs))
