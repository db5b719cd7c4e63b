-- The facts that are learnt record by record are those that are read from the set of all records.
use Rattle.std.specs.Prelude.{ℕ, ◌≡◌, IsTrue, List, [], ◌∷◌, ◌++◌}
use Rattle.units.specs.declared.setup.Setup.{Setup}
use Rattle.record.specs.Accepted.{Accepted, taken, followed}
use Rattle.record.specs.Facts.{Facts, facts_of, learn}
use Rattle.record.specs.declared.record.Record.{Record}

-- some facts after some more records
abbrev pub learnt : Facts → List Record → Facts
learnt facts [] = facts
learnt facts (r ∷ rs) = learnt (learn facts r) rs

-- one more record changes the facts by `learn`, where each record follows those before it
abbrev pub LearnAgrees : Type 0
LearnAgrees =
    (shard : ℕ) (log : List Record) (r : Record) → IsTrue (followed shard (log ++ r ∷ [])) →
    facts_of (log ++ r ∷ []) ≡ learn (facts_of log) r

-- the facts of a list are those that are learnt from its records, one after another
abbrev pub LearntAgrees : Type 0
LearntAgrees = (shard : ℕ) (log : List Record) → IsTrue (followed shard log) → learnt (facts_of []) log ≡ facts_of log

-- in a list that is accepted each record follows those before it
abbrev pub AcceptedFollows : Type 0
AcceptedFollows = (setup : Setup) (log : List Record) → taken setup log ≡ Accepted → IsTrue (followed setup.shard log)
