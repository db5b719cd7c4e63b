use Rattle.std.proofs.Common.{◌∙◌, ◌+◌, ℕ, List, Option, None, Some, ap, cond, drop, sym}
use Rattle.std.proofs.lemmas.List.{at_drop_all}
use Rattle.units.specs.Lists.{gather, head, numbered}
use Rattle.units.specs.declared.line.Line.{Line}
use Rattle.record.specs.Verdict.{is_late_ack}
use Rattle.inspector.proofs.Steps.{at_member, not_gathered}
use Rattle.inspector.proofs.lines.late_among.Goals as goal

-- the line's place, where it is a late acknowledgement
abbrev late_at : ℕ → ℕ → ℕ × Line → Option ℕ
late_at moment at q = cond (is_late_ack moment at q.1) (Some (q.0)) None

pub loop-place-preserved : goal.loop-place-preserved
loop-place-preserved c =
    let late = late_at c.args.moment c.args.at in
    let lines = c.args.lines.now in
    let n = c.loop-place.place in
    let line = c.index-lines-place.result in
    ap (λ (l : List ℕ). head l) (sym (not_gathered late n line (drop (n + 1) lines)
    (ap (λ b. cond b (Some n) None) (sym c.is_late.ensures ∙ c.if-is_late.false))))
    ∙ sym (at_member (λ ls. head (gather late (numbered n ls))) lines n line c.loop-place-test.true c.index-lines-place.is)
    ∙ c.loop-place.invariant

pub returns : goal.returns
returns c =
    let late = late_at c.args.moment c.args.at in
    let n = c.loop-place.place in
    sym (at_drop_all (λ ls. head (gather late (numbered n ls))) c.args.lines.now n c.loop-place-test.false) ∙ c.loop-place.invariant
