use Rattle.std.proofs.Common.{◌+◌, ◌-◌, ◌≤◌, ◌<◌, arith}
use Rattle.std.proofs.lemmas.Bool.{leb-true}
use Rattle.gatelog.proofs.NewAreas.{over, frames-size}
use Rattle.gatelog.proofs.area.Area.has_place.Goals as goal

pub returns-then-gate-most-clause-there : goal.returns-then-gate-most-clause-there
returns-then-gate-most-clause-there c h =
    let le : c.len.result ≤ 1099511627774 - c.args.gate = leb-true _ _ h in
    omega (arith, le, c.if-gate-most.true, c.len.ensures, frames-size c.args.self.now (c.args.gate + 1))

pub returns-then-gate-most-clause-full : goal.returns-then-gate-most-clause-full
returns-then-gate-most-clause-full c h =
    let lt : 1099511627774 - c.args.gate < c.len.result = over _ _ h in
    omega (arith, lt, c.if-gate-most.true, c.len.ensures, frames-size c.args.self.now (c.args.gate + 1))

pub returns-else-gate-most-clause-full : goal.returns-else-gate-most-clause-full
returns-else-gate-most-clause-full c h =
    omega (arith, c.if-gate-most.false, frames-size c.args.self.now (c.args.gate + 1))
