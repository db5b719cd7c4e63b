use Rattle.std.specs.Prelude.{option_map}
use Rattle.std.proofs.Common.{◌≡◌, ◌∙◌, ◌+◌, ℕ, List, Option, None, ap, drop, rules, sym}
use Rattle.std.proofs.lemmas.List.{at_drop_all}
use Rattle.units.specs.Lists.{gather, head, numbered}
use Rattle.units.specs.declared.line.Line.{Line}
use Rattle.record.specs.History.{Txn}
use Rattle.inspector.specs.Faults.{first_late}
use Rattle.inspector.proofs.Steps.{at_member, not_gathered}
use Rattle.inspector.proofs.lines.first_wrong_order.Goals as goal

-- a line's place, with that of the first late acknowledgement for it
abbrev late_for : List Txn → List Line → ℕ × Line → Option (ℕ × ℕ)
late_for h lines q = option_map (λ j. (q.0, j)) (first_late h lines q.1)

pub loop-place-preserved : goal.loop-place-preserved
loop-place-preserved c =
    let h = c.args.history.now in
    let lines = c.args.lines.now in
    let n = c.loop-place.place in
    let line = c.index-lines-place.result in
    let none : c.late_ack.result ≡ None = search rules in
    ap (λ (l : List (ℕ × ℕ)). head l) (sym (not_gathered (late_for h lines) n line (drop (n + 1) lines)
    (ap (λ (o : Option ℕ). option_map (λ j. (n, j)) o) (sym c.late_ack.ensures ∙ none))))
    ∙ sym (at_member (λ ls. head (gather (late_for h lines) (numbered n ls))) lines n line c.loop-place-test.true c.index-lines-place.is)
    ∙ c.loop-place.invariant

pub returns-clause-found : goal.returns-clause-found
returns-clause-found c =
    let h = c.args.history.now in
    let lines = c.args.lines.now in
    let n = c.loop-place.place in
    sym (at_drop_all (λ ls. head (gather (late_for h lines) (numbered n ls))) lines n c.loop-place-test.false) ∙ c.loop-place.invariant
