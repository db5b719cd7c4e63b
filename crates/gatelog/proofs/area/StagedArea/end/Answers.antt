use Rattle.std.proofs.Common.{◌≡◌, ◌+◌, ◌∙◌, length, reverse, ap, arith}
use Rattle.gatelog.specs.Frames.{end_from}
use Rattle.gatelog.specs.Turns.{NewArea}
use Rattle.gatelog.proofs.Fresh.{area-size}
use Rattle.gatelog.proofs.area.StagedArea.end.Goals as goal

pub overflow_add-result : goal.overflow_add-result
overflow_add-result c =
    let items = reverse c.self.inside.records.entries in
    omega (arith, c.self.invariant.2, c.len.ensures, ap length c.self.invariant.0, area-size items (c.self.inside.gate + 1))

pub returns-clause-small : goal.returns-clause-small
returns-clause-small c =
    let items = reverse c.self.inside.records.entries in
    omega (arith, c.self.invariant.2, c.len.ensures, ap length c.self.invariant.0, area-size items (c.self.inside.gate + 1))

pub returns-clause-end : goal.returns-clause-end
returns-clause-end c =
    let items = reverse c.self.inside.records.entries in
    let here : c.self.inside.gate + c.len.result ≡ end_from (c.self.inside.gate + 1) items =
    omega (arith, c.len.ensures, ap length c.self.invariant.0, area-size items (c.self.inside.gate + 1)) in
    here ∙ ap (λ (a : NewArea). end_from (a.gate + 1) a.items) c.self.view_is
