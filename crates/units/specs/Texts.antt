-- How an id of a transaction is written.
use Rattle.std.specs.Prelude.{ℕ, List, ◌++◌, codes}
use Rattle.std.specs.Fmt.{decimal}
use Rattle.units.specs.Ids.{Id}

-- the run, a dot and the number
abbrev pub txn_text : Id → List ℕ
txn_text t = decimal t.run ++ codes "." ++ decimal t.number
