use Rattle.std.proofs.Common.{◌+◌, reverse, arith}
use Rattle.gatelog.proofs.NewAreas.{frames-size}
use Rattle.gatelog.proofs.area.StagedArea.gate.Goals as goal

pub returns-clause-small : goal.returns-clause-small
returns-clause-small c =
    omega (arith, c.self.invariant.2, frames-size (reverse c.self.inside.records.entries) (c.self.inside.gate + 1))
