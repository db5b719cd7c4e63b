-- The new shard's log is the opening.
use Rattle.std.proofs.Common.{◌≡◌, [], Ok, sym, ap, subst}
use Rattle.disk.specs.File.{surface}
use Rattle.disk.specs.declared.plan.FailurePlan.TheVariants.{Never}
use Rattle.disk.proofs.Crashes.{seen_may}
use Rattle.gatelog.specs.Crash.{Begins}
use Rattle.gatelog.specs.Gates.{first_gate}
use Rattle.gatelog.specs.Log.{log}
use Rattle.shard.specs.Core.{seen}
use Rattle.shard.specs.Logs.{items_of}
use Rattle.shard.specs.Opened.{HasNotOpened, HasOpened}
use Rattle.simdisk.specs.State.{LeftSince, disk_clock, disk_failures, disk_file, disk_plan}
use Rattle.once.proofs.FirstShard.{err_map, is_opened, is_refused, ok_map}
use Rattle.once.proofs.one_shard.open_new.Goals as goal

pub returns-in-Ok-format-clause-log : goal.returns-in-Ok-format-clause-log
returns-in-Ok-format-clause-log c =
    let disk = c.into_disk.result in
    let same = sym c.into_disk.ensures in
    let never = subst (λ d. disk_plan d ≡ Never) same (c.in-Ok-format.ensures.planned tt c.requires).0 in
    let empty = ap items_of (subst (λ d. log (surface (disk_file d)).seen ≡ Ok []) same (c.in-Ok-format.ensures.read tt)) in
    let begins = subst (λ d. Begins (surface (disk_file d)) (record { at = first_gate; slots = 0 })) same (c.in-Ok-format.ensures.begins tt)
    (surface (disk_file disk)).seen (seen_may (disk_file disk)) in
    ok_map _ _ c.open.result c.open.ensures.opened (λ core h. is_opened disk never empty begins (seen core)
    (subst (λ t. HasOpened (Unit {0}) (Unit {0}) disk_file disk_clock LeftSince disk_failures disk_plan disk t (seen core)) c.in-Ok.ensures.setup h))

pub returns-in-Ok-format-clause-memory : goal.returns-in-Ok-format-clause-memory
returns-in-Ok-format-clause-memory c =
    let disk = c.into_disk.result in
    let same = sym c.into_disk.ensures in
    let never = subst (λ d. disk_plan d ≡ Never) same (c.in-Ok-format.ensures.planned tt c.requires).0 in
    let empty = ap items_of (subst (λ d. log (surface (disk_file d)).seen ≡ Ok []) same (c.in-Ok-format.ensures.read tt)) in
    let begins = subst (λ d. Begins (surface (disk_file d)) (record { at = first_gate; slots = 0 })) same (c.in-Ok-format.ensures.begins tt)
    (surface (disk_file disk)).seen (seen_may (disk_file disk)) in
    err_map _ _ c.open.result c.open.ensures.refused (λ refused h. is_refused disk never empty begins refused.0 refused.1
    (subst (λ t. HasNotOpened (Unit {0}) (Unit {0}) disk_file disk_clock LeftSince disk_failures disk_plan disk t refused.0 refused.1) c.in-Ok.ensures.setup h))
