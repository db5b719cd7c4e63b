-- What is known while a log is taken is a fact: it has at most one proof.
use Rattle.std.specs.Prelude.{IsTrue, nat_le}
use Rattle.std.specs.List.{list_all}
use Rattle.protocol.specs.Rows.{rebuilt}
use Rattle.std.proofs.Common.{◌≡◌, ◌<◌, ◌≤◌, List, [], ◌∷◌, Option, Some, None}
use Rattle.std.proofs.Props.{props}
use mathlib.Core.HLevel.{×_prop, Unit-prop}
use Rattle.std.specs.List.{AllByRecursion-prop}
use Rattle.units.specs.Ids.{Id}
use Rattle.units.specs.ById.{IsById}
use Rattle.units.specs.declared.setup.Setup.{Setup}
use Rattle.record.specs.Records.{Status, Unrecorded, StandsPrepared, StandsDecided, HasAborted, HasSettled, HasClosed}
use Rattle.record.specs.Facts.{TxnStatus, Facts}
use Rattle.memory.specs.Kept.{Kept}
use Rattle.recovery.specs.Recovered.{IsRecovered, IsOwn, IsGood, IsGoodPart, Part, head_is_bare, part_of}
use Rattle.recovery.specs.Rebuilding.{IsStateOf}

by_id-prop : {A : Type 0} (id : A → Id) (xs : List A) → IsProp (IsById id xs)
by_id-prop id [] = Unit-prop
by_id-prop id (x ∷ xs) = ×_prop (hlevel props) (by_id-prop id xs)

own-prop : (t : Id) (s : Status) → IsProp (IsOwn (record { txn = t; status = s }))
own-prop t Unrecorded = Unit-prop
own-prop t (StandsPrepared p) = hlevel props
own-prop t (StandsDecided c) = hlevel props
own-prop t HasAborted = Unit-prop
own-prop t (HasSettled at parts) = Unit-prop
own-prop t (HasClosed coordinator outcome) = Unit-prop

part-prop : (facts : Facts) (o : Option Part) → IsProp (IsGoodPart facts o)
part-prop facts None = Unit-prop
part-prop facts (Some x) = hlevel props

pub recovered-prop : (k : Kept) → IsProp (IsRecovered k)
recovered-prop k x y = λ i. record {
  memory = memory-prop x.memory y.memory i;
  opened = opened-prop x.opened y.opened i;
  order = by_id-prop (λ (e : TxnStatus). e.txn) k.facts.entries x.order y.order i;
  own = AllByRecursion-prop IsOwn (λ e. own-prop e.txn e.status) k.facts.entries x.own y.own i;
  good = AllByRecursion-prop (IsGood k.facts) (λ e. part-prop k.facts (part_of e.status)) k.facts.entries x.good y.good i;
  covered = covered-prop x.covered y.covered i;
  horizon = horizon-prop x.horizon y.horizon i;
  bare = bare-prop x.bare y.bare i;
}
  where
    memory-prop : IsProp (k.memory ≡ rebuilt k.facts)
    memory-prop = hlevel props

    opened-prop : IsProp (0 < k.facts.epoch)
    opened-prop = hlevel props

    covered-prop : IsProp (IsTrue (list_all (λ i. nat_le i.at k.facts.floor) k.facts.installs))
    covered-prop = hlevel props

    bare-prop : IsProp (IsTrue (head_is_bare k.stage k.facts.entries))
    bare-prop = hlevel props

    horizon-prop : IsProp (k.facts.horizon ≤ k.facts.floor)
    horizon-prop = hlevel props

pub state-prop : (setup : Setup) (o : Option Kept) → IsProp (IsStateOf setup o)
state-prop setup None = Unit-prop
state-prop setup (Some k) = ×_prop (hlevel props) (recovered-prop k)
