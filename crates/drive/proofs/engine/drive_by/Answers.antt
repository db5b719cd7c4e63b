use Rattle.std.proofs.Common.{inr, ℕ, ◌≡◌, ◌≤◌, ◌*◌, refl, subst, ◌∙◌}
use Rattle.std.specs.Prelude.{IfSome}
use Rattle.workers.specs.Reports.{IsTally}
use Rattle.workers.specs.Summaries.{tried}
use Rattle.node.proofs.Outcomes.{on_err, on_ok}
use Rattle.drive.proofs.engine.drive_by.Goals as goal

pub returns-clause-disks : goal.returns-clause-disks
returns-clause-disks g c = on_ok _ _ c.drive_nodes.result (λ driven is. is ∙ c.in_ok-opened.ensures.nodes) c.drive_nodes.ensures.disks

pub returns-clause-tried : goal.returns-clause-tried
returns-clause-tried g c =
    let same = c.in_ok-course.ensures.same in
    on_ok _ _ c.drive_nodes.result (λ driven is. is ∙ (λ i. same.0 i * same.1 i)) c.drive_nodes.ensures.tried

pub returns-clause-told : goal.returns-clause-told
returns-clause-told g c =
    let same = c.in_ok-course.ensures.same in
    let all : c.in_ok-course.course.workers * c.in_ok-course.course.transactions ≡ c.args.settings.now.workers * c.args.settings.now.transactions =
    λ i. same.0 i * same.1 i in
    on_ok _ _ c.drive_nodes.result
    (λ driven is. subst (λ (n : ℕ). IsTally n driven.summary.counts driven.lines.items) all is) c.drive_nodes.ensures.told

pub returns-clause-counted : goal.returns-clause-counted
returns-clause-counted g c =
    let same = c.in_ok-course.ensures.same in
    let all : c.in_ok-course.course.workers * c.in_ok-course.course.transactions ≡ c.args.settings.now.workers * c.args.settings.now.transactions =
    λ i. same.0 i * same.1 i in
    on_err _ _ c.drive_nodes.result
    (λ none is. subst (λ (n : ℕ). IfSome none.counts (λ counts. (tried counts ≡ n) × (counts.looks ≤ tried counts))) all is)
    c.drive_nodes.ensures.counted

pub returns-clause-shards : goal.returns-clause-shards
returns-clause-shards g c = λ done. c.in_ok-opened.ensures.shards refl

pub returns-clause-undriven : goal.returns-clause-undriven
returns-clause-undriven g c = on_err _ _ c.drive_nodes.result (λ none why. inr why) c.drive_nodes.ensures.undriven
