use Rattle.std.proofs.Common.{◌∙◌, ◌+◌, List, Ok, ap}
use Rattle.std.proofs.lemmas.Result.{on_ok_weaker}
use Rattle.gatelog.proofs.Fresh.{placed-items}
use Rattle.record.specs.declared.record.Record.{Record}
use Rattle.shard.specs.Logs.{items_of}
use Rattle.shard.proofs.moving.fill.Goals as goal

pub returns-in-Ok-clause-durable : goal.returns-in-Ok-clause-durable
returns-in-Ok-clause-durable g c =
    on_ok_weaker c.turn_over.result
    (λ stands keeps image left.
    ap items_of (stands keeps image left)
    ∙ ap (λ (rs : List Record). Ok rs) (placed-items c.in-Ok.staged.items (c.in-Ok.staged.gate + 1) ∙ c.in-Ok.ensures.staged.0))
    c.turn_over.ensures.durable
