use Rattle.std.proofs.Common.{◌++◌, ◌∷◌, [], List, Ok, ap, ◌∙◌}
use Rattle.units.specs.declared.line.Line.{Line}
use Rattle.units.specs.declared.line.Line.TheVariants.{Begin}
use Rattle.workers.proofs.Turns.{on_ok, reported_turn}
use Rattle.workers.proofs.worker.Worker.transact.Goals as goal

pub returns-in-Ok : goal.returns-in-Ok
returns-in-Ok g c =
    let txn = c.txn-txn.result in
    let moment = c.in_ok-moment.moment in
    reported_turn c.report.result c.in-Ok.ended txn c.read-ran.new.reads.txn moment c.args.keys.now c.read-ran.new.reads.asked.items
    c.args.lines.now.items c.push_reserved.new.self.items c.report.new.lines.items
    (c.read-ran.ensures.txn ∙ c.none-reads.ensures.0)
    (c.push_reserved.ensures.items ∙ ap (λ (ls : List Line). ls ++ Begin txn moment ∷ []) c.in_ok-reserve.ensures.items)
    (λ at how. on_ok c.read-ran.result _ c.read-ran.ensures.keys (c.finish.ensures.committed at (c.in-Ok.is ∙ ap Ok how)))
    c.report.ensures
