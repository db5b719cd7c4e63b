use Rattle.std.proofs.Common.{◌≡◌, length, subst, arith}
use Rattle.std.specs.Prelude.{IfOk}
use Rattle.workers.proofs.crew.work_all.Goals as goal

pub merged-requires : goal.merged-requires
merged-requires g c =
    let many : length c.in_ok-workers.field-0.items ≡ c.args.course.workers =
    subst (λ r. IfOk r (λ workers. length workers.items ≡ c.args.course.workers)) c.in_ok-workers.was c.requires.all in
    let all : length c.in_ok-reports.reports.items ≡ length c.in_ok-workers.field-0.items =
    omega (arith, c.in_ok-reports.ensures.len, c.in_ok-reports.reports.ok.0, c.in_ok-workers.field-0.ok.0) in
    record {
      all = omega (arith, all, many);
      counted = λ i d lt. (c.in_ok-reports.ensures.each i d (omega (arith, all, lt))).1.call.met;
    }
