-- The settling's step is done, or too early.
use Rattle.std.proofs.Common.{◌≡◌, Ok, Err, ⊎_elim, ap, sym, subst}
use Rattle.units.specs.declared.fault.Fault.{Fault}
use Rattle.units.specs.declared.fault.Fault.TheVariants.{Memory, Early}
use Rattle.message.specs.declared.message.Input.{Input}
use Rattle.units.specs.declared.setup.Setup.{Setup}
use Rattle.shard.specs.Core.{seen}
use Rattle.shard.proofs.Booked.{no-book}
use Rattle.shard.specs.On.{step_of}
use Rattle.once.proofs.ShardLemmas.{Steps, settles}
use Rattle.once.proofs.one_shard.settle.Goals as goal

-- what is early is no want of memory
early_is_no_want : (fault : Fault) → fault ≡ Early → fault ≡ Memory → ⊥
early_is_no_want fault early want = cc

pub returns-in-Ok : goal.returns-in-Ok
returns-in-Ok c key value stamp log =
    let came = settles c.args.at.now key value (seen c.args.core.now) (seen c.on-told.new.self) stamp log (Ok c.in-Ok.outbox)
    (subst (λ t. Steps (seen c.args.core.now) (seen c.on-told.new.self) (step_of (seen c.args.core.now) c.args.at.now (Input.Settle t))
    (Ok c.in-Ok.outbox)) c.only_txn.ensures (c.in-Ok.ensures.stepped (no-book _ _ (ap (λ (t : Setup). t.book) log.setup)))) in
    (sym came.0, came.1)

pub returns-in-Early : goal.returns-in-Early
returns-in-Early c key value stamp log =
    let came = settles c.args.at.now key value (seen c.args.core.now) (seen c.on-told.new.self) stamp log (Err c.in-Err.fault)
    (subst (λ t. Steps (seen c.args.core.now) (seen c.on-told.new.self) (step_of (seen c.args.core.now) c.args.at.now (Input.Settle t))
    (Err c.in-Err.fault)) c.only_txn.ensures (c.in-Err.ensures.stepped (no-book _ _ (ap (λ (t : Setup). t.book) log.setup)))) in
    ⊎_elim (λ want. absurd (early_is_no_want _ c.in-Early.is want)) (λ early. (sym early.1, early.2)) came

pub returns-in_default : goal.returns-in_default
returns-in_default c key value stamp log =
    let came = settles c.args.at.now key value (seen c.args.core.now) (seen c.on-told.new.self) stamp log (Err c.in-Err.fault)
    (subst (λ t. Steps (seen c.args.core.now) (seen c.on-told.new.self) (step_of (seen c.args.core.now) c.args.at.now (Input.Settle t))
    (Err c.in-Err.fault)) c.only_txn.ensures (c.in-Err.ensures.stepped (no-book _ _ (ap (λ (t : Setup). t.book) log.setup)))) in
    ⊎_elim (λ want. want) (λ early. absurd (c.in_default.not-Early early.0)) came
