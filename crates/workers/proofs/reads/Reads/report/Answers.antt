use Rattle.std.proofs.Common.{◌∷◌, ◌++◌, [], List, ap, sym, ◌∙◌, append_assoc}
use Rattle.units.specs.declared.line.Line.{Line}
use Rattle.units.specs.declared.line.Line.TheVariants.{Ack, Read}
use Rattle.workers.specs.Turns.{read_lines}
use Rattle.workers.proofs.Turns.{next_read}
use Rattle.workers.proofs.reads.Reads.report.Goals as goal

pub loop-one-preserved : goal.loop-one-preserved
loop-one-preserved c =
    let seen = c.loop-one.yielded in
    let one = c.in-Some.one in
    let txn = c.args.self.txn in
    let old = c.args.lines.now.items in
    let ack = Ack txn c.args.at c.args.moment in
    let line = Read txn one.key one.value in
    record {
      whole = append_assoc seen (one ∷ []) c.next.new.self.rest.items
          ∙ (ap (λ r. seen ++ r) (sym c.in-Some.ensures.steps.0) ∙ c.loop-one.invariant.whole);
      lines = c.in_ok-push-2.ensures.items ∙ (ap (λ (ls : List Line). ls ++ line ∷ []) c.loop-one.invariant.lines
          ∙ (append_assoc old (ack ∷ read_lines txn seen) (line ∷ [])
          ∙ ap (λ (ls : List Line). old ++ ack ∷ ls) (sym (next_read txn seen one))));
    }
