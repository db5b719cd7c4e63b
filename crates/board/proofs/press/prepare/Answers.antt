use Rattle.std.proofs.Common.{drop}
use Rattle.board.proofs.Steps.{prepares_on, prepared_list, prepared_ahead}
use Rattle.board.proofs.press.prepare.Goals as goal

pub step-writer-requires : goal.step-writer-requires
step-writer-requires g c =
    let w = c.args.writer in prepares_on w.desk.shown.value (drop w.behind w.log.items) c.requires.quiet c.requires.lawful

pub returns-clause-list : goal.returns-clause-list
returns-clause-list g c =
    let w = c.args.writer in
    let v = c.step-writer.result.0 in
    prepared_list w.desk.shown.value v.desk.shown.value (drop w.behind w.log.items)
    (drop v.behind v.log.items) c.step-writer.result.1 c.requires.quiet c.step-writer.ensures.values

pub returns-clause-ahead : goal.returns-clause-ahead
returns-clause-ahead g c =
    let w = c.args.writer in
    let v = c.step-writer.result.0 in
    (prepared_ahead w.desk.shown.value v.desk.shown.value (drop w.behind w.log.items)
    (drop v.behind v.log.items) c.step-writer.result.1 c.requires.quiet c.step-writer.ensures.values).0

pub returns-clause-longer : goal.returns-clause-longer
returns-clause-longer g c =
    let w = c.args.writer in
    let v = c.step-writer.result.0 in
    (prepared_ahead w.desk.shown.value v.desk.shown.value (drop w.behind w.log.items)
    (drop v.behind v.log.items) c.step-writer.result.1 c.requires.quiet c.step-writer.ensures.values).1
