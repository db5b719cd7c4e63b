-- Whether a transaction is in the history of some logs, log by log.
use Rattle.std.specs.List.{list_any}
use Rattle.std.specs.Prelude.{◌≡◌, ℕ, suc, Bool, false, ◌&&◌, ◌||◌, nat_eq, List, [], ◌∷◌}
use Rattle.units.specs.Ids.{Id, same_id}
use Rattle.units.specs.Lists.{head, when}
use Rattle.record.specs.Records.{as_committed}
use Rattle.record.specs.declared.record.Record.{Record}
use Rattle.world.specs.Among.{is_among}

-- the record is its commit decision, in the log of the least part
abbrev pub commits_at : Id → ℕ → Record → Bool
commits_at t n r = when (λ c. same_id c.txn t && when (nat_eq n) (head c.parts)) (as_committed r)

-- a record of the log of a shard is
abbrev pub commits_here : Id → ℕ → List Record → Bool
commits_here t n log = list_any (commits_at t n) log

-- a log does, from the shard of one number on
abbrev pub is_decided : Id → ℕ → List (List Record) → Bool
is_decided t n [] = false
is_decided t n (log ∷ logs) = commits_here t n log || is_decided t (suc n) logs

-- the ids are those of the transactions that some logs decide
abbrev pub AreDecided : List Id → List (List Record) → Type 0
AreDecided ids logs = (t : Id) → is_among ids t ≡ is_decided t 0 logs
