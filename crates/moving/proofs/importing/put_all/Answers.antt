use Rattle.std.proofs.Common.{rules}
use Rattle.moving.proofs.Putting.{on_ok, put_by, run_kept}
use Rattle.moving.proofs.importing.put_all.Goals as goal

pub returns-in-Ok-clause-run : goal.returns-in-Ok-clause-run
returns-in-Ok-clause-run g c =
    let tried = c.transact-ended.ensures in
    run_kept _ _ tried.1.0 c.args.client.now c.transact-ended.new.self tried.0 tried.1.1

pub returns-in-Ok-clause-put : goal.returns-in-Ok-clause-put
returns-in-Ok-clause-put g c =
    on_ok c.stands.result c.stands.ensures (λ is.
    put_by _ 100 c.args.pairs.now _ (λ p r q f' called. search rules) c.args.client.now c.transact-ended.new.self c.in-Ok.ended is c.in-Ok.ensures)

pub returns-in-Err-clause-run : goal.returns-in-Err-clause-run
returns-in-Err-clause-run g c =
    let tried = c.transact-ended.ensures in
    run_kept _ _ tried.1.0 c.args.client.now c.transact-ended.new.self tried.0 tried.1.1
