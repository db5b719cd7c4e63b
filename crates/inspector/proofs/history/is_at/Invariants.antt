use Rattle.std.specs.List.{list_any}
use Rattle.std.proofs.Common.{◌≡◌, drop, nat_eq}
use Rattle.inspector.proofs.history.is_at.Given as goal

abbrev pub invariant-loop-transaction : goal.invariant-loop-transaction
invariant-loop-transaction l = list_any (λ u. nat_eq u.at l.at) (drop l.transaction-index l.run) ≡ list_any (λ u. nat_eq u.at l.at) l.run
