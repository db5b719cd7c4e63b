use Rattle.std.proofs.Common.{rules, ◌≡◌, ◌≤◌, ℕ, ◌+◌, ◌*◌, ◌++◌, ◌∷◌, [], ◌∙◌, sym, ap, subst, length, arith}
use Rattle.std.proofs.lemmas.List.{append_assoc, length-append}
use Rattle.workers.specs.Reports.{IsCounted, IsTally}
use Rattle.workers.proofs.Reports.{cut_short, next_counted, next_product, product_fits}
use Rattle.workers.proofs.Turns.{both_tallied}
use Rattle.workers.proofs.worker.merged.Goals as goal

pub merge-requires : goal.merge-requires
merge-requires c =
    let turns = c.args.course.transactions in
    let seen = c.loop-report.yielded in
    let rest = c.next.new.self.rest.items in
    let whole : seen ++ c.in-Some.report ∷ rest ≡ c.args.reports.items =
    ap (λ r. seen ++ r) (sym c.in-Some.ensures.steps.0) ∙ c.loop-report.invariant.whole in
    let counted = subst (IsCounted turns) c.in_ok-report.was (next_counted turns seen c.in-Some.report rest c.args.reports.items whole c.requires.counted) in
    let some : length seen + 1 ≤ c.args.course.workers =
    omega (arith, ap length whole, length-append seen (c.in-Some.report ∷ rest), c.requires.all) in
    let fits = product_fits (length seen) c.args.course.workers turns some c.args.course.drivable.workers_most c.args.course.drivable.transactions_most in
    let tally = c.loop-report.invariant.tally in
    (omega (arith, tally.tried, counted.tried, fits), omega (arith, tally.looks, counted.looks, fits))

pub loop-report-preserved : goal.loop-report-preserved
loop-report-preserved c =
    let turns = c.args.course.transactions in
    let seen = c.loop-report.yielded in
    let rest = c.next.new.self.rest.items in
    let whole : seen ++ c.in-Some.report ∷ rest ≡ c.args.reports.items =
    ap (λ r. seen ++ r) (sym c.in-Some.ensures.steps.0) ∙ c.loop-report.invariant.whole in
    let counted = subst (IsCounted turns) c.in_ok-report.was (next_counted turns seen c.in-Some.report rest c.args.reports.items whole c.requires.counted) in
    let more : length (seen ++ c.in-Some.report ∷ []) * turns ≡ length seen * turns + turns =
    ap (λ n. n * turns) (length-append seen (c.in-Some.report ∷ [])) ∙ next_product (length seen) turns in
    record {
      whole = append_assoc seen (c.in-Some.report ∷ []) rest ∙ whole;
      tally = subst (λ (n : ℕ). IsTally n c.merge.new.self.counts c.merge.new.self.lines.items) (sym more)
          (both_tallied (length seen * turns) turns c.loop-report.all.counts c.in_ok-report.field-0.counts c.merge.new.self.counts
          c.loop-report.all.lines.items c.in_ok-report.field-0.lines.items c.merge.new.self.lines.items c.loop-report.invariant.tally counted
          c.in_ok-merge.ensures.lines c.merge.ensures.tried c.merge.ensures.committed c.merge.ensures.looks);
    }

pub returns-in_err-report : goal.returns-in_err-report
returns-in_err-report c =
    let seen = c.loop-report.yielded in
    let rest = c.next.new.self.rest.items in
    let whole : seen ++ c.in-Some.report ∷ rest ≡ c.args.reports.items =
    ap (λ r. seen ++ r) (sym c.in-Some.ensures.steps.0) ∙ c.loop-report.invariant.whole in
    cut_short (c.args.course.workers * c.args.course.transactions) c.from_residual.result c.in_err-report.field-0.0 (search rules)
    (subst (IsCounted c.args.course.transactions) c.in_err-report.was
    (next_counted c.args.course.transactions seen c.in-Some.report rest c.args.reports.items whole c.requires.counted))
