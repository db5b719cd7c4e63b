-- The commit's step decides the write, or refuses it.
use Rattle.std.proofs.Common.{◌≡◌, ◌∙◌, ◌+◌, Option, Some, Ok, Err, ℕ, refl, sym, ap, subst}
use Rattle.std.specs.Prelude.{IsSome}
use Rattle.units.specs.Ids.{Id}
use Rattle.message.specs.declared.message.Input.{Input}
use Rattle.protocol.specs.Rows.{Memory}
use Rattle.shard.specs.RowTable.{nth_decided}
use Rattle.units.specs.declared.setup.Setup.{Setup}
use Rattle.shard.specs.Core.{seen}
use Rattle.shard.proofs.Booked.{no-book}
use Rattle.shard.specs.On.{step_of}
use Rattle.once.specs.Replies.{only_txn}
use Rattle.once.specs.Shards.{HasLog, decided_log}
use Rattle.once.proofs.ShardLemmas.{Steps, commits}
use Rattle.once.proofs.FirstStep.{decided-is}
use Rattle.once.proofs.one_shard.commit.Goals as goal

pub unwrap-stamp-requires : goal.unwrap-stamp-requires
unwrap-stamp-requires c =
    let came = commits c.args.at.now c.args.key c.args.value (seen c.args.core.now) (seen c.on-told.new.self) c.requires _
    (subst (λ (i : Input). Steps (seen c.args.core.now) (seen c.on-told.new.self) (step_of (seen c.args.core.now) c.args.at.now i) (Ok c.in-Ok.outbox))
    c.in_ok-asked.ensures.commit (c.in-Ok.ensures.stepped (no-book _ _ (ap (λ (t : Setup). t.book) c.requires.setup)))) in
    subst (λ (o : Option (Id × ℕ)). IsSome o)
    (sym (c.decided.ensures ∙ ap (λ (m : Memory). nth_decided m.rows 0) came.1.memory ∙ decided-is c.args.key c.args.value (c.args.at.now.latest + 1))) refl

pub returns-in-Ok : goal.returns-in-Ok
returns-in-Ok c =
    let came = commits c.args.at.now c.args.key c.args.value (seen c.args.core.now) (seen c.on-told.new.self) c.requires _
    (subst (λ (i : Input). Steps (seen c.args.core.now) (seen c.on-told.new.self) (step_of (seen c.args.core.now) c.args.at.now i) (Ok c.in-Ok.outbox))
    c.in_ok-asked.ensures.commit (c.in-Ok.ensures.stepped (no-book _ _ (ap (λ (t : Setup). t.book) c.requires.setup)))) in
    let told : Some c.unwrap-stamp.result ≡ Some (only_txn, c.args.at.now.latest + 1) =
    sym c.unwrap-stamp.ensures ∙ c.decided.ensures ∙ ap (λ (m : Memory). nth_decided m.rows 0) came.1.memory
    ∙ decided-is c.args.key c.args.value (c.args.at.now.latest + 1) in
    let stamp : c.unwrap-stamp.result.1 ≡ c.args.at.now.latest + 1 = cc in
    (came.0 ∙ ap (λ (n : ℕ). Ok n) (sym stamp), subst (λ (n : ℕ). HasLog (decided_log c.args.key c.args.value n) (seen c.on-told.new.self)) (sym stamp) came.1)

pub returns-in-Err : goal.returns-in-Err
returns-in-Err c =
    commits c.args.at.now c.args.key c.args.value (seen c.args.core.now) (seen c.on-told.new.self) c.requires _
    (subst (λ (i : Input). Steps (seen c.args.core.now) (seen c.on-told.new.self) (step_of (seen c.args.core.now) c.args.at.now i) (Err c.in-Err.fault))
    c.in_ok-asked.ensures.commit (c.in-Err.ensures.stepped (no-book _ _ (ap (λ (t : Setup). t.book) c.requires.setup))))
