use Rattle.std.proofs.Common.{length, reverse, ap, arith}
use Rattle.gatelog.specs.Groups.{Group}
use Rattle.gatelog.proofs.Groups.{group-end}
use Rattle.gatelog.proofs.group.Gathered.gate.Goals as goal

pub returns-clause-small : goal.returns-clause-small
returns-clause-small c some =
    omega (
      arith,
      c.self.invariant.2 (omega (arith, some, ap (λ (g : Group). length g.items) c.self.view_is)),
      group-end c.self.inside.gate (reverse c.self.inside.records.entries),
    )
