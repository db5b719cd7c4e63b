-- A transaction that is in the history of the areas is in the history of all records, at the same timestamp.
use Rattle.std.proofs.Common.{◌≡◌, ℕ, Bool, true, false, cond, nat_eq, IsTrue, List, [], ◌∷◌, map, filter, slice_get, option_map, Option, Some, None}
use Rattle.std.proofs.Common.{refl, sym, ap, ◌∙◌, subst, flat_map, zero-add}
use Rattle.std.proofs.lemmas.Option.{slice_get-map}
use Rattle.units.specs.Ids.{Id, same_id}
use Rattle.units.specs.Lists.{gather, head, when}
use Rattle.units.proofs.ByIdLaws.{first_passes}
use Rattle.units.proofs.IdLaws.{same_id-is}
use Rattle.record.specs.History.{Txn, by_shard, find_txn, history, whole_txn}
use Rattle.record.specs.Records.{as_committed}
use Rattle.record.specs.Whole.{is_whole}
use Rattle.record.specs.declared.record.Committed.{Committed}
use Rattle.record.specs.declared.record.Record.{Record}
use Rattle.law.specs.Among.{IsAmong}
use Rattle.law.proofs.AreasDecide.{DecidesNoMore, HasSame}
use Rattle.law.proofs.Decisions.{log_of_number}
use Rattle.law.proofs.InOrder.{apart, found, in_history_once}
use Rattle.law.proofs.Picked.{among_join, gather_among, join_among, place_numbered, some_same}
use Rattle.law.proofs.Recorded.{among_first, among_gather}

-- the transactions of the decisions in one log, if its shard is their least part
abbrev counted : List (List Record) → ℕ → Committed → Option Txn
counted logs n c = cond (when (nat_eq n) (head c.parts)) (Some (whole_txn logs n c)) None

abbrev counted_in : List (List Record) → ℕ × List Record → List Txn
counted_in logs l = gather (counted logs l.0) (gather as_committed l.1)

-- it is that of its decision
of_counted : (logs : List (List Record)) (n : ℕ) (c : Committed) (x : Txn) → counted logs n c ≡ Some x →
    (when (nat_eq n) (head c.parts) ≡ true) × (x.txn ≡ c.txn) × (x.at ≡ c.at)
of_counted logs n c x e = by_test (when (nat_eq n) (head c.parts)) refl e
  where
    by_test : (b : Bool) → when (nat_eq n) (head c.parts) ≡ b → cond b (Some (whole_txn logs n c)) None ≡ Some x →
        (when (nat_eq n) (head c.parts) ≡ true) × (x.txn ≡ c.txn) × (x.at ≡ c.at)
    by_test true h k = let same : whole_txn logs n c ≡ x = some_same (whole_txn logs n c) x k in
        (h, ap (λ (y : Txn). y.txn) (sym same), ap (λ (y : Txn). y.at) (sym same))
    by_test false h k = cc

module _ {S : Type 0} (all area : S → List Record) (ss : List S)
    (decides : (n : ℕ) (s : S) → slice_get ss n ≡ Some s → DecidesNoMore (all s) (area s))
    (whole : (t : Id) → is_whole t (map all ss) ≡ true) where
  abbrev logs : List (List Record)
  logs = map all ss

  abbrev areas : List (List Record)
  areas = map area ss

  -- the shard of a place
  at_place : (xs : List S) (n : ℕ) (l : List Record) → slice_get (map area xs) n ≡ Some l → (s : S) × (slice_get xs n ≡ Some s) × (area s ≡ l)
  at_place xs n l e = by_value (slice_get xs n) refl (sym (slice_get-map area xs n) ∙ e)
    where
      by_value : (o : Option S) → slice_get xs n ≡ o → option_map area o ≡ Some l → (s : S) × (slice_get xs n ≡ Some s) × (area s ≡ l)
      by_value None is k = cc
      by_value (Some s) is k = (s, is, some_same (area s) l k)

  -- so it is in the other history
  from_decision : (n : ℕ) (s : S) → slice_get ss n ≡ Some s → (c : Committed) → when (nat_eq n) (head c.parts) ≡ true → HasSame (all s) c →
      (y : Txn) × IsAmong (history logs) y × (y.txn ≡ c.txn) × (y.at ≡ c.at)
  unfolding history
  from_decision n s there c home d =
      let log : List Record = all s in
      let here : IsAmong (by_shard logs) (n, log) = subst (λ m. IsAmong (by_shard logs) (m, log)) (zero-add n)
      (place_numbered 0 logs n log (slice_get-map all ss n ∙ ap (option_map all) there)) in
      let too : when (nat_eq n) (head d.commit.parts) ≡ true = ap (λ ps. when (nat_eq n) (head ps)) d.parts ∙ home in (
        whole_txn logs n d.commit,
        join_among (counted_in logs) (by_shard logs) (n, log) (whole_txn logs n d.commit) here
            (gather_among (counted logs n) (gather as_committed log) d.commit (whole_txn logs n d.commit)
            (gather_among as_committed log (Record.Commit d.commit) d.commit d.among refl)
            (ap (λ b. cond b (Some (whole_txn logs n d.commit)) None) too)),
        d.named,
        d.stamp,
      )

  as_decided : (c : Committed) (x : Txn) → (x.txn ≡ c.txn) × (x.at ≡ c.at) → (y : Txn) × IsAmong (history logs) y × (y.txn ≡ c.txn) × (y.at ≡ c.at)
      → (y : Txn) × IsAmong (history logs) y × (y.txn ≡ x.txn) × (y.at ≡ x.at)
  as_decided c x o y = (y.0, y.1, y.2 ∙ sym o.0, y.3 ∙ sym o.1)

  in_all : (x : Txn) → IsAmong (history areas) x → (y : Txn) × IsAmong (history logs) y × (y.txn ≡ x.txn) × (y.at ≡ x.at)
  unfolding history
  in_all x h =
      let j = among_join (counted_in areas) (by_shard areas) x h in
      let g = among_gather (counted areas j.from.0) (gather as_committed j.from.1) x j.within in
      let o = of_counted areas j.from.0 g.from x g.gives in
      let p = at_place ss j.from.0 j.from.1 (log_of_number areas j.from j.among) in
      let d = decides j.from.0 p.0 p.1 g.from (subst (λ l. IsAmong (gather as_committed l) g.from) (sym p.2) g.among) in
      as_decided g.from x (o.1, o.2) (from_decision j.from.0 p.0 p.1 g.from o.0 d)

  -- and found there
  pub found_in_all : (u : Id) (x : Txn) → find_txn (history areas) u ≡ Some x → (y : Txn) × (find_txn (history logs) u ≡ Some y) × (y.at ≡ x.at)
  found_in_all u x e =
      let y = in_all x (among_first (λ (v : Txn). same_id v.txn u) (history areas) x e) in
      let named : y.0.txn ≡ u = y.2 ∙ same_id-is x.txn u (first_passes (λ (v : Txn). same_id v.txn u) (history areas) x e) in
      let once = found (history logs) y.0 (apart (history logs) (λ t. in_history_once logs t (whole t))) y.1 in
      (y.0, subst (λ t. find_txn (history logs) t ≡ Some y.0) named once, y.3)
