-- What the numbers of a store count.
use Rattle.std.specs.Prelude.{Bool, true, false}
use Rattle.message.specs.declared.message.Input.{Input}
use Rattle.message.specs.declared.message.Input.TheVariants.{Settle}

-- a shard's input that settles a transaction which it decided
abbrev pub is_commit : Input → Bool
is_commit (Settle txn) = true
is_commit _ = false
