-- What some writes make of a key, one write more at a time, and what a log says of its transactions.
use Rattle.std.proofs.Common.{◌≡◌, ◌∙◌, ◌++◌, ◌∷◌, ◌+◌, ◌<◌, [], ℕ, suc, arith, Option, Some, List, length, map, sym, ap, take, slice_index_or, append_assoc}
use Rattle.std.proofs.Common.{flat_map}
use Rattle.std.specs.Prelude.{filter}
use Rattle.std.proofs.lemmas.List.{map-append}
use Rattle.std.proofs.lemmas.List.Elements.{filter-append}
use Rattle.std.proofs.Math.Seq.{take-suc}
use Rattle.units.specs.Ids.{Id}
use Rattle.units.specs.Keys.{Bytes, same_key}
use Rattle.units.specs.declared.writes.Write.{Write}
use Rattle.showing.specs.declared.told.Standing.{Standing}
use Rattle.showing.specs.declared.told.Told.{Told}
use Rattle.record.specs.declared.record.Record.{Record}
use Rattle.showing.specs.Histories.{end_in, history, told_as, told_by}

told_append : (k : Bytes) (t : Id) (s : Standing) (xs ys : List Write)
    → told_as k t (xs ++ ys) (Some s) ≡ told_as k t xs (Some s) ++ told_as k t ys (Some s)
told_append k t s xs ys =
    let make : Write → Told = λ w. record { txn = Some t; standing = s; value = w.value } in
    ap (map make) (filter-append (λ w. same_key w.key k) xs ys)
    ∙ map-append make (filter (λ w. same_key w.key k) xs) (filter (λ w. same_key w.key k) ys)

-- one write more
pub told_more : (k : Bytes) (t : Id) (s : Standing) (ws : List Write) (i : ℕ) (w : Write) → i < length ws → w ≡ slice_index_or ws i w
    → told_as k t (take (i + 1) ws) (Some s) ≡ told_as k t (take i ws) (Some s) ++ told_as k t (w ∷ []) (Some s)
told_more k t s ws i w small is =
    let next : i + 1 ≡ suc i = omega arith in
    ap (λ n. told_as k t (take n ws) (Some s)) next
    ∙ ap (λ (xs : List Write). told_as k t xs (Some s)) (take-suc ws i w small)
    ∙ ap (λ (x : Write). told_as k t (take i ws ++ x ∷ []) (Some s)) (sym is)
    ∙ told_append k t s (take i ws) (w ∷ [])

-- what stands behind what was told before, with one write more
pub told_behind : (start before now step old new : List Told) → new ≡ old ++ step → old ≡ start ++ before → now ≡ before ++ step → new ≡ start ++ now
told_behind start before now step old new added so_far more =
    added ∙ ap (λ (xs : List Told). xs ++ step) so_far ∙ append_assoc start before step ∙ ap (λ (xs : List Told). start ++ xs) (sym more)

-- what is told by the ends that were found is told by those of the records
pub told_of_records : (records : List Record) (ends : Id → Option (Option ℕ)) (k : Bytes) → ((t : Id) → ends t ≡ end_in records t)
    → flat_map (told_by ends k) records ≡ history records k
told_of_records records ends k same = λ i. flat_map (told_by (λ t. same t i) k) records
