use Rattle.std.proofs.Common.{Ok, Err, rules, subst, sym}
use Rattle.cli.specs.Written.{IsPut}
use Rattle.cli.proofs.Puts.{put_by}
use Rattle.cli.proofs.host_put.commit.Goals as goal

pub returns-in-Ok : goal.returns-in-Ok
returns-in-Ok g c =
    subst (IsPut c.args.key.now c.args.value.now) (sym c.end_told.ensures)
    (put_by _ c.args.key.now c.args.value.now _ (λ p r q f' called. search rules) c.in-Some.client c.transact-told.new.self (Ok c.in-Ok.told) c.in-Ok.ensures)

pub returns : goal.returns
returns g c =
    put_by _ c.args.key.now c.args.value.now _ (λ p r q f' called. search rules) c.in-Some.client c.transact-told.new.self (Err c.in-Err.fault) c.in-Err.ensures
