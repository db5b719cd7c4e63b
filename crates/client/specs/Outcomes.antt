-- How a transaction ended, by what was heard when its shards were asked later.
use Rattle.std.specs.Prelude.{ℕ, List, Option, Some, None}
use Rattle.units.specs.Ids.{Id}
use Rattle.message.specs.Ends.{End}
use Rattle.client.specs.Ends.{WasHeard, WasNotHeard}
use Rattle.client.specs.declared.asking.Outcome.{Outcome}
use Rattle.client.specs.declared.asking.Outcome.TheVariants as outcome

-- what an end says
abbrev pub found_as : Option ℕ → Outcome
found_as (Some s) = outcome.Committed s
found_as None = outcome.Aborted

-- what is found is what the end said that was heard last; where none was heard of the transaction, nothing is claimed of how it ended
abbrev pub IsFound : Id → Outcome → List End → Type 0
IsFound txn (outcome.Committed s) heard = WasHeard txn (Some s) heard
IsFound txn outcome.Aborted heard = WasHeard txn None heard
IsFound txn outcome.Open heard = WasNotHeard txn heard
IsFound txn outcome.Unknown heard = WasNotHeard txn heard
