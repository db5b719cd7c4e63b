use Rattle.std.proofs.Common.{◌≡◌, ◌+◌, ◌<◌, ◌≤◌, ◌^◌, ◌∙◌, ℕ, List, [], ◌∷◌, length, reverse, ap, arith}
use Rattle.record.specs.declared.record.Record.{Record}
use Rattle.gatelog.specs.Frames.{end_from}
use Rattle.gatelog.specs.Groups.{Group, group_bytes}
use Rattle.gatelog.proofs.Groups.{group-end}
use Rattle.gatelog.proofs.group.Gathered.end.Goals as goal

-- it is no longer than a file may be, or as long as it was
fits : (gate : ℕ) (items : List Record) → gate < 2 ^ 64 → (1 ≤ length items → end_from gate items + 1 ≤ 2 ^ 40) → gate + length (group_bytes items) < 2 ^ 64
fits gate [] small within = omega (arith, small)
fits gate (r ∷ rs) small within = omega (arith, within (omega arith), group-end gate (r ∷ rs))

pub overflow_add-result : goal.overflow_add-result
overflow_add-result c =
    let items = reverse c.self.inside.records.entries in
    omega (arith, c.len.ensures, ap length c.self.invariant.0, fits c.self.inside.gate items (omega arith) c.self.invariant.2)

pub returns : goal.returns
returns c =
    let items = reverse c.self.inside.records.entries in
    let here : c.self.inside.gate + c.len.result ≡ end_from c.self.inside.gate items =
    omega (arith, c.len.ensures, ap length c.self.invariant.0, group-end c.self.inside.gate items) in
    here ∙ ap (λ (g : Group). end_from g.gate g.items) c.self.view_is
