use Rattle.std.proofs.Common.{◌∙◌, rules, drop, ap, sym}
use Rattle.board.specs.Board.{is_board}
use Rattle.board.proofs.Accepts.{prepared_twice, refused, finished}
use Rattle.board.proofs.Steps.{all_ahead}
use Rattle.board.proofs.press.show.Goals as goal

pub prepare-writer-requires-clause-lawful : goal.prepare-writer-requires-clause-lawful
prepare-writer-requires-clause-lawful g c =
    let x = c.args.writer in
    ap is_board (sym (all_ahead x.desk.shown.value (drop x.behind x.log.items) c.requires.longer)) ∙ c.requires.lawful

pub prepare-writer-requires-2-clause-lawful : goal.prepare-writer-requires-2-clause-lawful
prepare-writer-requires-2-clause-lawful g c =
    let x = c.args.writer in
    ap is_board (c.prepare-writer.ensures.ahead ∙ sym (all_ahead x.desk.shown.value (drop x.behind x.log.items) c.requires.longer)) ∙ c.requires.lawful

pub returns-then-not-one : goal.returns-then-not-one
returns-then-not-one g c =
    let x = c.args.writer in
    let y = c.prepare-writer.result.0 in
    let z = c.prepare-writer-2.result.0 in
    let both = prepared_twice x.desk.shown.value y.desk.shown.value z.desk.shown.value (drop x.behind x.log.items) (drop y.behind y.log.items)
    (drop z.behind z.log.items)
    (c.prepare-writer.ensures.list, (c.prepare-writer.ensures.ahead, c.prepare-writer.ensures.longer))
    (c.prepare-writer-2.ensures.list, (c.prepare-writer-2.ensures.ahead, c.prepare-writer-2.ensures.longer)) in
    refused x.desk.shown.value z.desk.shown.value (drop x.behind x.log.items)
    (drop z.behind z.log.items) both c.requires.longer c.prepare-writer-2.ensures.quiet

pub returns : goal.returns
returns g c =
    let x = c.args.writer in
    let y = c.prepare-writer.result.0 in
    let z = c.prepare-writer-2.result.0 in
    let w = c.finish.result.0 in
    let both = prepared_twice x.desk.shown.value y.desk.shown.value z.desk.shown.value (drop x.behind x.log.items) (drop y.behind y.log.items)
    (drop z.behind z.log.items)
    (c.prepare-writer.ensures.list, (c.prepare-writer.ensures.ahead, c.prepare-writer.ensures.longer))
    (c.prepare-writer-2.ensures.list, (c.prepare-writer-2.ensures.ahead, c.prepare-writer-2.ensures.longer)) in
    finished x.desk.shown.value z.desk.shown.value (drop x.behind x.log.items)
    (drop z.behind z.log.items) both c.requires.longer c.finish.result.1 w.desk.shown.value (drop w.behind w.log.items)
    (c.prepare-writer-2.ensures.done (search rules)) c.finish.ensures
