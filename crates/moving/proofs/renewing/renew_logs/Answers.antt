use Rattle.std.proofs.Common.{◌∙◌, ◌++◌, ◌∷◌, [], sym, subst, ap, append_assoc, arith, length, map, List}
use Rattle.std.proofs.lemmas.List.{length-append}
use Rattle.disk.specs.File.{surface}
use Rattle.moving.specs.Renewals.{AreRenewals}
use Rattle.moving.proofs.Renewed.{counted_on, renewed_front, renewed_on}
use Rattle.moving.proofs.renewing.renew_logs.Goals as goal

pub loop-log-preserved : goal.loop-log-preserved
loop-log-preserved g c =
    let taken = c.loop-log.yielded in
    let was = c.loop-log.invariant in
    let done = c.in_ok-renew_next.ensures.done in (
      append_assoc taken (c.in-Some.log ∷ []) c.next.new.self.rest.items ∙ ap (λ r. taken ++ r) (sym c.in-Some.ensures.steps.0) ∙ was.0,
      omega (arith, done.2, was.1, length-append taken (c.in-Some.log ∷ [])),
      counted_on taken _ _ c.in-Some.log done.0 done.1 was.2,
      λ keeps. renewed_on c.args.past.now (λ log. (surface (g.P.Log.Disk.file log)).seen) g.P.Log.Disk.file taken _ _ c.in-Some.log done.0 done.1
          (was.3 keeps) (done.3 keeps),
    )

pub returns-in_err-renew_next-clause-renewed : goal.returns-in_err-renew_next-clause-renewed
returns-in_err-renew_next-clause-renewed g c keeps =
    let was = c.loop-log.invariant in
    let refused = c.in_err-renew_next.ensures.refused in
    renewed_front c.args.past.now (λ log. (surface (g.P.Log.Disk.file log)).seen) g.P.Log.Disk.file c.loop-log.yielded _ _ _ _ was.0
    (ap (λ (xs : List _). length xs) refused.1 ∙ was.1)
    (subst (λ news. AreRenewals c.args.past.now g.P.Log.Disk.file (map (λ log. (surface (g.P.Log.Disk.file log)).seen) c.loop-log.yielded) news)
    (sym refused.0) (was.3 keeps))
