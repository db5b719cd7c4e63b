-- Transactions in ascending order by id.
use Rattle.std.specs.Prelude.{◌≡◌, Bool, List, filter}
use Rattle.units.specs.Ids.{Id, older, same_id}
use Rattle.record.specs.History.{Txn}
use Rattle.inspector.specs.Ascending.{AscendsBy}

-- those of one id
abbrev pub of_id : Id → List Txn → List Txn
of_id t us = filter (λ u. same_id u.txn t) us

-- one has an older id
abbrev pub has_older_id : Txn → Txn → Bool
has_older_id u v = older u.txn v.txn

-- none comes before one with an older id
abbrev pub AscendsById : List Txn → Type 0
AscendsById us = AscendsBy has_older_id us

-- of each id the two lists have the same, in the same order
abbrev pub HaveSame : List Txn → List Txn → Type 0
HaveSame us vs = (t : Id) → of_id t us ≡ of_id t vs
