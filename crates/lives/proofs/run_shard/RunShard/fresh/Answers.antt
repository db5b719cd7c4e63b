use Rattle.std.proofs.Common.{◌≡◌, ◌∙◌, [], None, Ok, IfOk, ap, refl, sym, subst}
use Rattle.disk.specs.File.{surface}
use Rattle.disk.specs.declared.plan.FailurePlan.{FailurePlan}
use Rattle.units.specs.declared.setup.Setup.{Setup}
use Rattle.gatelog.specs.Crash.{Begins, Stands}
use Rattle.gatelog.specs.Log.{log}
use Rattle.simdisk.specs.State.{disk_file, disk_plan}
use Rattle.world.specs.World.{setup_of}
use Rattle.world.specs.declared.event.Doing.{Doing}
use Rattle.lives.specs.Shows.{Acts}
use Rattle.lives.specs.Unopened.{unopened_shard}
use Rattle.lives.proofs.Formatting.{first_beginning, formatted_stands, fresh_refused, fresh_stands}
use Rattle.lives.proofs.run_shard.RunShard.fresh.Goals as goal

pub returns-in-Ok-act-clause-fresh : goal.returns-in-Ok-act-clause-fresh
returns-in-Ok-act-clause-fresh c =
    let setup = setup_of c.args.config.now c.args.number in
    let disk = c.into_disk.result in
    let same = sym c.into_disk.ensures in
    let told : c.in-Ok.setup ≡ setup = subst (λ r. IfOk r (λ (s : Setup). s ≡ setup_of c.args.config.now c.numbered-shard.result)) c.in-Ok.is
    c.setup_with.ensures.same ∙ ap (setup_of c.args.config.now) c.numbered-shard.ensures in
    let unopened = formatted_stands setup disk _
    (subst (λ d. disk_plan d ≡ FailurePlan.Never) same (c.in-Ok-format.ensures.planned tt c.new.ensures.plan).0)
    (subst (λ d. Stands (surface (disk_file d)) (Ok [])) same (c.in-Ok-format.ensures.empty tt))
    (subst (λ d. log (surface (disk_file d)).seen ≡ Ok []) same (c.in-Ok-format.ensures.read tt))
    (subst (λ d. Begins (surface (disk_file d)) first_beginning) same (c.in-Ok-format.ensures.begins tt)) told refl
    c.new-2.ensures.items c.new-3.ensures.empty c.new-4.ensures.items in
    fresh_stands setup refl c.act.new.self _ (subst (Acts setup [] unopened_shard None Doing.Open c.act.new.self) c.in-Ok-act.is
    (c.act.ensures setup unopened_shard unopened))

pub returns-in-Err-act-clause-memory : goal.returns-in-Err-act-clause-memory
returns-in-Err-act-clause-memory c =
    let setup = setup_of c.args.config.now c.args.number in
    let disk = c.into_disk.result in
    let same = sym c.into_disk.ensures in
    let told : c.in-Ok.setup ≡ setup = subst (λ r. IfOk r (λ (s : Setup). s ≡ setup_of c.args.config.now c.numbered-shard.result)) c.in-Ok.is
    c.setup_with.ensures.same ∙ ap (setup_of c.args.config.now) c.numbered-shard.ensures in
    let unopened = formatted_stands setup disk _
    (subst (λ d. disk_plan d ≡ FailurePlan.Never) same (c.in-Ok-format.ensures.planned tt c.new.ensures.plan).0)
    (subst (λ d. Stands (surface (disk_file d)) (Ok [])) same (c.in-Ok-format.ensures.empty tt))
    (subst (λ d. log (surface (disk_file d)).seen ≡ Ok []) same (c.in-Ok-format.ensures.read tt))
    (subst (λ d. Begins (surface (disk_file d)) first_beginning) same (c.in-Ok-format.ensures.begins tt)) told refl
    c.new-2.ensures.items c.new-3.ensures.empty c.new-4.ensures.items in
    fresh_refused setup refl c.act.new.self _ (subst (Acts setup [] unopened_shard None Doing.Open c.act.new.self) c.in-Err-act.is
    (c.act.ensures setup unopened_shard unopened))
