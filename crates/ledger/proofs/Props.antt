-- What is asked of facts that are renewed is a fact: it has at most one proof.
use Rattle.std.proofs.Common.{◌≤◌, ℕ, List, [], ◌∷◌, Some, None}
use Rattle.std.proofs.Props.{props}
use Rattle.std.specs.List.{AllByRecursion-prop, list_all}
use Rattle.std.specs.Prelude.{IsTrue}
use mathlib.Core.HLevel.{×_prop, Unit-prop}
use Rattle.units.specs.Ids.{Id}
use Rattle.units.specs.ById.{IsById}
use Rattle.units.specs.declared.writes.Install.{Install}
use Rattle.record.specs.Records.{Status, Unrecorded, StandsPrepared, StandsDecided, HasAborted, HasSettled, HasClosed}
use Rattle.record.specs.Accepted.{is_kept}
use Rattle.record.specs.Facts.{Facts, TxnStatus}
use Rattle.protocol.specs.Showable.{rises_by_key}
use Rattle.ledger.specs.Keeps.{IsLasting, IsPlaced, IsRegular, writes_ascend}

by_id-prop : {A : Type 0} (id : A → Id) (xs : List A) → IsProp (IsById id xs)
by_id-prop id [] = Unit-prop
by_id-prop id (x ∷ xs) = ×_prop (hlevel props) (by_id-prop id xs)

placed-prop : (floor : ℕ) (t : Id) (s : Status) → IsProp (IsPlaced floor (record { txn = t; status = s }))
placed-prop floor t Unrecorded = hlevel props
placed-prop floor t (StandsPrepared p) = hlevel props
placed-prop floor t (StandsDecided c) = hlevel props
placed-prop floor t HasAborted = Unit-prop
placed-prop floor t (HasSettled at parts) = hlevel props
placed-prop floor t (HasClosed coordinator None) = Unit-prop
placed-prop floor t (HasClosed coordinator (Some at)) = hlevel props

pub regular-prop : (facts : Facts) → IsProp (IsRegular facts)
regular-prop facts x y = λ i. record {
  order = by_id-prop (λ (e : TxnStatus). e.txn) facts.entries x.order y.order i;
  placed = AllByRecursion-prop (IsPlaced facts.floor) (λ e. placed-prop facts.floor e.txn e.status) facts.entries x.placed y.placed i;
  rising = rising-prop x.rising y.rising i;
  covered = AllByRecursion-prop (λ (v : Install). v.at ≤ facts.floor) (λ v. hlevel props) facts.installs x.covered y.covered i;
  under = under-prop x.under y.under i;
  kept = AllByRecursion-prop (λ (e : TxnStatus). IsTrue (is_kept facts.retired e.txn)) (λ e. hlevel props) facts.entries x.kept y.kept i;
}
  where
    rising-prop : IsProp (IsTrue (rises_by_key [] facts.installs))
    rising-prop = hlevel props

    under-prop : IsProp (facts.horizon ≤ facts.floor)
    under-prop = hlevel props

pub lasting-prop : (facts : Facts) → IsProp (IsLasting facts)
lasting-prop facts x y = λ i. record {
  regular = regular-prop facts x.regular y.regular i;
  entries = entries-prop x.entries y.entries i;
}
  where
    entries-prop : IsProp (IsTrue (list_all writes_ascend facts.entries))
    entries-prop = hlevel props
