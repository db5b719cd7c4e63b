use Rattle.std.proofs.Common.{◌++◌, ◌∙◌, ap, sym, subst}
use Rattle.record.specs.declared.record.Record.{Record}
use Rattle.spelling.specs.Grammar.{fields_spelling}
use Rattle.spelling.specs.Limits.{IsRecord}
use Rattle.spelling.proofs.writing.put_fields.Goals as goal

pub returns-in-Prepare-clause-ok : goal.returns-in-Prepare-clause-ok
returns-in-Prepare-clause-ok c done =
    c.put_prepare.ensures.ok done ∙ ap (λ (r : Record). c.args.out.now.items ++ fields_spelling r) (sym c.in-Prepare.is)

pub returns-in-Prepare-clause-fits : goal.returns-in-Prepare-clause-fits
returns-in-Prepare-clause-fits c done = subst IsRecord (sym c.in-Prepare.is) (c.put_prepare.ensures.fits done)

pub returns-in-Commit-clause-ok : goal.returns-in-Commit-clause-ok
returns-in-Commit-clause-ok c done =
    c.put_commit.ensures.ok done ∙ ap (λ (r : Record). c.args.out.now.items ++ fields_spelling r) (sym c.in-Commit.is)

pub returns-in-Commit-clause-fits : goal.returns-in-Commit-clause-fits
returns-in-Commit-clause-fits c done = subst IsRecord (sym c.in-Commit.is) (c.put_commit.ensures.fits done)

pub returns-in-Abort-clause-ok : goal.returns-in-Abort-clause-ok
returns-in-Abort-clause-ok c done =
    c.put_id.ensures.ok done ∙ ap (λ (r : Record). c.args.out.now.items ++ fields_spelling r) (sym c.in-Abort.is)

pub returns-in-Abort-clause-fits : goal.returns-in-Abort-clause-fits
returns-in-Abort-clause-fits c done = subst IsRecord (sym c.in-Abort.is) (c.put_id.ensures.fits done)

pub returns-in-Outcome-clause-ok : goal.returns-in-Outcome-clause-ok
returns-in-Outcome-clause-ok c done =
    c.put_ended.ensures.ok done ∙ ap (λ (r : Record). c.args.out.now.items ++ fields_spelling r) (sym c.in-Outcome.is)

pub returns-in-Outcome-clause-fits : goal.returns-in-Outcome-clause-fits
returns-in-Outcome-clause-fits c done = subst IsRecord (sym c.in-Outcome.is) (c.put_ended.ensures.fits done)

pub returns-in-Base-clause-ok : goal.returns-in-Base-clause-ok
returns-in-Base-clause-ok c done =
    c.put_base.ensures.ok done ∙ ap (λ (r : Record). c.args.out.now.items ++ fields_spelling r) (sym c.in-Base.is)

pub returns-in-Base-clause-fits : goal.returns-in-Base-clause-fits
returns-in-Base-clause-fits c done = subst IsRecord (sym c.in-Base.is) (c.put_base.ensures.fits done)

pub returns-in-Version-clause-ok : goal.returns-in-Version-clause-ok
returns-in-Version-clause-ok c done =
    c.put_version.ensures.ok done ∙ ap (λ (r : Record). c.args.out.now.items ++ fields_spelling r) (sym c.in-Version.is)

pub returns-in-Version-clause-fits : goal.returns-in-Version-clause-fits
returns-in-Version-clause-fits c done = subst IsRecord (sym c.in-Version.is) (c.put_version.ensures.fits done)

pub returns-in-Settled-clause-ok : goal.returns-in-Settled-clause-ok
returns-in-Settled-clause-ok c done =
    c.put_settled.ensures.ok done ∙ ap (λ (r : Record). c.args.out.now.items ++ fields_spelling r) (sym c.in-Settled.is)

pub returns-in-Settled-clause-fits : goal.returns-in-Settled-clause-fits
returns-in-Settled-clause-fits c done = subst IsRecord (sym c.in-Settled.is) (c.put_settled.ensures.fits done)

pub returns-in-Closed-clause-ok : goal.returns-in-Closed-clause-ok
returns-in-Closed-clause-ok c done =
    c.put_closed.ensures.ok done ∙ ap (λ (r : Record). c.args.out.now.items ++ fields_spelling r) (sym c.in-Closed.is)

pub returns-in-Closed-clause-fits : goal.returns-in-Closed-clause-fits
returns-in-Closed-clause-fits c done = subst IsRecord (sym c.in-Closed.is) (c.put_closed.ensures.fits done)

pub returns-in-Retired-clause-ok : goal.returns-in-Retired-clause-ok
returns-in-Retired-clause-ok c done =
    c.put_id-in-Retired.ensures.ok done ∙ ap (λ (r : Record). c.args.out.now.items ++ fields_spelling r) (sym c.in-Retired.is)

pub returns-in-Retired-clause-fits : goal.returns-in-Retired-clause-fits
returns-in-Retired-clause-fits c done = subst IsRecord (sym c.in-Retired.is) (c.put_id-in-Retired.ensures.fits done)
