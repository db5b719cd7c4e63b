use Rattle.std.proofs.Common.{◌<◌, ℕ, [], ◌∷◌, ◌++◌, Ok, inl, inr, refl, ap, sym, ◌∙◌, rules}
use denote.Param.Always.{mut_next}
use Rattle.store.specs.Attempts.{Worker, runs_again}
use Rattle.store.specs.declared.ended.Ended.TheVariants.{Aborted}
use Rattle.store.proofs.Attempts.{aborted_on, attempted, one_at_least, one_longer, one_more, told_on, tried_on}
use Rattle.store.proofs.clients.Client.attempts.Goals as goal

pub returns-then-not-runs_again : goal.returns-then-not-runs_again
returns-then-not-runs_again g c =
    let tried = c.loop-before.invariant.tried in
    let one =
    attempted g.F.FnMut c.loop-before.self c.begin.new.self c.finish-ended.new.self c.in-Ok.transaction c.code-ran.new.arg2 c.loop-before.code c.code-ran.new.self
    c.code-ran.result c.kept-ran.result c.ran_of.result c.id-own.result c.id.result c.eq.result c.finish-ended.result c.in-Ok.ensures
    (record { shown = _; shows = refl; left = _; called = c.code-ran.ensures; leaves = refl }) c.id-own.ensures c.id.ensures c.eq.ensures c.kept-ran.ensures c.ran_of.ensures
    c.finish-ended.ensures.work c.finish-ended.ensures.ended in
    let room : c.loop-before.before < c.args.tries = search rules in (
      tried.0 ++ one.attempt ∷ [],
      (
        c.code-ran.new.self,
        tried_on g.F.FnMut c.args.self.now c.loop-before.self c.finish-ended.new.self c.args.code c.loop-before.code c.code-ran.new.self tried.0 one.attempt tried.1
            one.whole one.is one.runs,
      ),
      inl (inr (inr (
        record {
          before = tried.0;
          last = one.attempt;
          whole = refl;
          aborted = tried.3;
          over = (λ i. runs_again (one.ran_is i) (one.ended_is i)) ∙ (sym c.runs_again.ensures ∙ c.if-not-runs_again.true);
          told =
              told_on c.id-own.result _ c.kept-ran.result one.attempt.ran c.finish-ended.result one.attempt.ended c.told_of.result
              (one.id_is ∙ ap (λ (n : ℕ). record { run = n; number = one.attempt.number }) (sym (ap (λ (w : Worker). w.run) one.whole)))
              one.ran_is one.ended_is c.told_of.ensures;
        },
        one_more tried.0 one.attempt c.loop-before.before c.args.tries tried.2 room,
      ))),
    )

pub returns-then-is_over : goal.returns-then-is_over
returns-then-is_over g c =
    let tried = c.loop-before.invariant.tried in
    let one =
    attempted g.F.FnMut c.loop-before.self c.begin.new.self c.finish-ended.new.self c.in-Ok.transaction c.code-ran.new.arg2 c.loop-before.code c.code-ran.new.self
    c.code-ran.result c.kept-ran.result c.ran_of.result c.id-own.result c.id.result c.eq.result c.finish-ended.result c.in-Ok.ensures
    (record { shown = _; shows = refl; left = _; called = c.code-ran.ensures; leaves = refl }) c.id-own.ensures c.id.ensures c.eq.ensures c.kept-ran.ensures c.ran_of.ensures
    c.finish-ended.ensures.work c.finish-ended.ensures.ended in
    let room : c.loop-before.before < c.args.tries = search rules in (
      tried.0 ++ one.attempt ∷ [],
      (
        c.code-ran.new.self,
        tried_on g.F.FnMut c.args.self.now c.loop-before.self c.finish-ended.new.self c.args.code c.loop-before.code c.code-ran.new.self tried.0 one.attempt tried.1
            one.whole one.is one.runs,
      ),
      inr (
        c.is_over.ensures c.if-is_over.true,
        (
          aborted_on tried.0 one.attempt tried.3
              ((λ i. runs_again (one.ran_is i) (one.ended_is i)) ∙ (sym c.runs_again.ensures ∙ c.if-not-runs_again.false)),
          one_at_least tried.0 one.attempt c.loop-before.before tried.2,
          one_more tried.0 one.attempt c.loop-before.before c.args.tries tried.2 room,
          ap (λ (n : ℕ). Ok (Aborted n)) (sym (one_longer tried.0 one.attempt c.loop-before.before tried.2)),
        ),
      ),
    )

pub loop-before-preserved : goal.loop-before-preserved
loop-before-preserved g c =
    let tried = c.loop-before.invariant.tried in
    let one =
    attempted g.F.FnMut c.loop-before.self c.begin.new.self c.finish-ended.new.self c.in-Ok.transaction c.code-ran.new.arg2 c.loop-before.code c.code-ran.new.self
    c.code-ran.result c.kept-ran.result c.ran_of.result c.id-own.result c.id.result c.eq.result c.finish-ended.result c.in-Ok.ensures
    (record { shown = _; shows = refl; left = _; called = c.code-ran.ensures; leaves = refl }) c.id-own.ensures c.id.ensures c.eq.ensures c.kept-ran.ensures c.ran_of.ensures
    c.finish-ended.ensures.work c.finish-ended.ensures.ended in
    record {
      callable = mut_next g.F.FnMut c.loop-before.code _ _ c.code-ran.new.self c.code-ran.new.self c.code-ran.ensures refl c.loop-before.invariant.callable;
      tried = (
        tried.0 ++ one.attempt ∷ [],
        tried_on g.F.FnMut c.args.self.now c.loop-before.self c.finish-ended.new.self c.args.code c.loop-before.code c.code-ran.new.self tried.0 one.attempt tried.1
            one.whole one.is one.runs,
        one_longer tried.0 one.attempt c.loop-before.before tried.2,
        aborted_on tried.0 one.attempt tried.3
            ((λ i. runs_again (one.ran_is i) (one.ended_is i)) ∙ (sym c.runs_again.ensures ∙ c.if-not-runs_again.false)),
      );
    }
