-- What a renewed log keeps, and what may be done over it.
use Rattle.std.specs.Prelude.{◌≡◌, ◌≤◌, ◌<◌, nat_eq, true, ℕ, List, [], length, IsTrue}
use Rattle.std.specs.List.{AllByRecursion, list_all}
use Rattle.units.specs.Ids.{Id}
use Rattle.units.specs.Keys.{shard_of}
use Rattle.units.specs.Limits.{most_rows}
use Rattle.units.specs.declared.setup.Setup.{Setup}
use Rattle.units.specs.declared.writes.Install.{Install}
use Rattle.truetime.specs.Interval.{Interval}
use Rattle.record.specs.Accepted.{Accepted, belongs, followed, is_kept, taken}
use Rattle.record.specs.Records.{retired_of}
use Rattle.record.specs.FactLaws.{learnt}
use Rattle.record.specs.Facts.{Facts, no_facts, facts_of, learn}
use Rattle.record.specs.Whole.{stands_at}
use Rattle.record.specs.declared.record.Record.{Record}
use Rattle.message.specs.declared.message.Input.{Input}
use Rattle.protocol.specs.Rows.{Memory}
use Rattle.facts.specs.Rules.{follows_facts}
use Rattle.protocol.specs.Showable.{IsShowable, record_ascends, rises_by_key}
use Rattle.protocol.specs.Sound.{IsSound}
use Rattle.protocol.specs.Step.{step_within}
use Rattle.versions.specs.Ordered.{AscendsByVersion}
use Rattle.versions.specs.Places.{SameVersions}
use Rattle.versions.specs.Pruned.{pruned}
use Rattle.ledger.specs.Turned.{held_facts, turned, versions_held}
use Rattle.ledger.specs.Keeps.{Keeps, Alike, IsRegular, IsLasting, IsOfShard, NamesOwn}
use Rattle.ledger.specs.Rules.{AllFit, takes}

-- ---- the renewed log

-- learnt record by record a renewed log says what the log said, with the versions that were held
abbrev pub TurnedSays : Type 0
TurnedSays = (facts : Facts) → IsRegular facts → learnt no_facts (turned facts) ≡ held_facts facts

-- so it is alike to what it renews
abbrev pub TurnedKeeps : Type 0
TurnedKeeps = (facts : Facts) → IsRegular facts → Alike facts (learnt no_facts (turned facts))

-- each of its records may come after those before it
abbrev pub TurnedMayCome : Type 0
TurnedMayCome =
    (shard : ℕ) (facts : Facts) → 0 < facts.epoch → IsRegular facts → AllByRecursion (IsOfShard shard) facts.entries → IsTrue (followed shard (turned facts))

-- and read as a set it is alike too
abbrev pub TurnedLogKeeps : Type 0
TurnedLogKeeps =
    (shard : ℕ) (facts : Facts) → 0 < facts.epoch → IsRegular facts → AllByRecursion (IsOfShard shard) facts.entries → Alike facts (facts_of (turned facts))

-- where the rows and the records of a shard agree, each has its place beside what stands by those before it: no lock is in the way of
-- another, no version and no horizon is above, and there is room
abbrev pub TurnedFits : Type 0
TurnedFits =
    (shard : ℕ) (facts : Facts) (memory : Memory) → IsSound shard facts memory → length memory.rows ≤ most_rows → IsRegular facts →
    AllFit no_facts (turned facts)

-- it may be renewed again
abbrev pub TurnedLasts : Type 0
TurnedLasts = (facts : Facts) → IsLasting facts → IsLasting (learnt no_facts (turned facts))

-- into the same records
abbrev pub TurnedAgain : Type 0
TurnedAgain = (facts : Facts) → IsLasting facts → turned (learnt no_facts (turned facts)) ≡ turned facts

-- its versions are those of any list in order, by which the newest version of every key is the same, without what the horizon lets go
abbrev pub HeldInOrder : Type 0
HeldInOrder =
    (facts : Facts) (ordered : List Install) → IsTrue (rises_by_key [] facts.installs) → AscendsByVersion ordered →
    SameVersions facts.horizon ordered facts.installs →
    pruned facts.horizon ordered ≡ versions_held facts

-- where its versions and what stands name keys of the shard alone, so does each of its records
abbrev pub TurnedBelongs : Type 0
TurnedBelongs =
    (setup : Setup) (facts : Facts) → AllByRecursion (λ i. IsTrue (nat_eq (shard_of setup.splits i.key) setup.shard)) facts.installs →
    AllByRecursion (NamesOwn setup) facts.entries → IsTrue (list_all (belongs setup) (turned facts))

-- ---- logs that are alike

-- they keep the same
abbrev pub AlikeKeeps : Type 0
AlikeKeeps = (a b : Facts) → Alike a b → Keeps a b

-- they stay alike by one more record of any kind
abbrev pub AlikeStays : Type 0
AlikeStays = (a b : Facts) (r : Record) → Alike a b → Alike (learn a r) (learn b r)

-- one takes a record of a step where the other does
abbrev pub AlikeTakes : Type 0
AlikeTakes = (setup : Setup) (a b : Facts) (r : Record) → Alike a b → takes setup a r ≡ takes setup b r

-- a step over one is a step over the other
abbrev pub AlikeSteps : Type 0
AlikeSteps =
    (rows : ℕ) (setup : Setup) (a b : Facts) (memory : Memory) (now : Interval) (i : Input) → Alike a b →
    step_within rows setup a memory now i ≡ step_within rows setup b memory now i

-- they resolve a transaction that is not retired alike, beside any other logs: where it stands is told from its status
abbrev pub AlikeStands : Type 0
AlikeStands =
    (shard : ℕ) (one other : List Record) (logs : List (List Record)) (t : Id) → IsTrue (followed shard one) → IsTrue (followed shard other) →
    Alike (facts_of one) (facts_of other) → IsTrue (is_kept (retired_of one) t) → stands_at logs one t ≡ stands_at logs other t

-- both are turned over into the same records
abbrev pub AlikeTurned : Type 0
AlikeTurned = (a b : Facts) → Alike a b → IsRegular a → IsRegular b → turned a ≡ turned b

-- ---- logs of all kinds

-- what a log says may be renewed, where each record may come next and has its place beside what stands
abbrev pub LogLasts : Type 0
LogLasts =
    (shard : ℕ) (log : List Record) → IsTrue (followed shard log) → AllFit no_facts log → IsTrue (list_all record_ascends log) →
    IsLasting (facts_of log)

-- so may what a log says that an opening takes up
abbrev pub TakenLasts : Type 0
TakenLasts = (setup : Setup) (log : List Record) → taken setup log ≡ Accepted → IsTrue (list_all record_ascends log) → IsLasting (facts_of log)

-- and what it says of ids is of its shard
abbrev pub LogIsOfShard : Type 0
LogIsOfShard = (shard : ℕ) (log : List Record) → IsTrue (followed shard log) → AllByRecursion (IsOfShard shard) (facts_of log).entries

-- ---- one more record

-- what may be renewed may be renewed behind a record that is taken
abbrev pub LastingStays : Type 0
LastingStays =
    (setup : Setup) (facts : Facts) (r : Record) → IsLasting facts → IsTrue (record_ascends r) → takes setup facts r ≡ true →
    IsLasting (learn facts r)

-- or behind a record that follows, and with which the versions may be put on a board
abbrev pub LastingFollows : Type 0
LastingFollows =
    (shard : ℕ) (facts : Facts) (memory : Memory) (r : Record) → IsLasting facts → follows_facts shard facts r ≡ true →
    IsShowable (learn facts r) memory → IsLasting (learn facts r)

-- and what it says of ids is of its shard
abbrev pub OfShardStays : Type 0
OfShardStays =
    (setup : Setup) (facts : Facts) (r : Record) → AllByRecursion (IsOfShard setup.shard) facts.entries → takes setup facts r ≡ true →
    AllByRecursion (IsOfShard setup.shard) (learn facts r).entries
