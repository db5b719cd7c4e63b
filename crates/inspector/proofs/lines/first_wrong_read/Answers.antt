use Rattle.std.specs.Prelude.{option_map}
use Rattle.std.proofs.Common.{◌≡◌, ◌∙◌, ◌+◌, ℕ, Bool, false, List, Option, ap, drop, not, sym}
use Rattle.std.proofs.lemmas.List.{at_drop_all}
use Rattle.units.specs.Lists.{first, numbered}
use Rattle.units.specs.declared.line.Line.{Line}
use Rattle.record.specs.History.{Txn}
use Rattle.record.specs.Verdict.{line_reads_right}
use Rattle.inspector.proofs.Steps.{at_member, not_first}
use Rattle.inspector.proofs.lines.first_wrong_read.Goals as goal

abbrev reads_wrong : List Txn → ℕ × Line → Bool
reads_wrong h q = not (line_reads_right h q.1)

-- the place of the first line that reads wrong, of some from a number on
abbrev from : List Txn → ℕ → List Line → Option ℕ
from h n lines = option_map (λ q. q.0) (first (reads_wrong h) (numbered n lines))

pub loop-place-preserved : goal.loop-place-preserved
loop-place-preserved c =
    let h = c.args.history.now in
    let lines = c.args.lines.now in
    let n = c.loop-place.place in
    let line = c.index-lines-place.result in
    let right : reads_wrong h (n, line) ≡ false = ap (λ b. not b) (sym c.reads_right.ensures ∙ c.if-not-reads_right.false) in
    ap (λ (o : Option (ℕ × Line)). option_map (λ q. q.0) o) (sym (not_first (reads_wrong h) n line (drop (n + 1) lines) right))
    ∙ sym (at_member (λ ls. from h n ls) lines n line c.loop-place-test.true c.index-lines-place.is)
    ∙ c.loop-place.invariant

pub returns : goal.returns
returns c =
    let h = c.args.history.now in
    let n = c.loop-place.place in
    sym (at_drop_all (λ ls. from h n ls) c.args.lines.now n c.loop-place-test.false) ∙ c.loop-place.invariant
