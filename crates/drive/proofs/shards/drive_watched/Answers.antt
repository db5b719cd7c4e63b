use Rattle.std.proofs.Common.{inr, ℕ, ◌≡◌, ◌+◌, ◌*◌, length, arith, ap, subst}
use Rattle.std.specs.Prelude.{string_bytes}
use Rattle.disk.specs.File.{surface}
use Rattle.simdisk.specs.State.{disk_file}
use Rattle.simdisk.specs.declared.simdisk.SimDisk.{SimDisk}
use Rattle.node.proofs.Outcomes.{on_err, on_ok}
use Rattle.drive.specs.Told.{IsToldOf}
use Rattle.drive.proofs.shards.drive_watched.Goals as goal

pub returns-in-Ok-clause-refused : goal.returns-in-Ok-clause-refused
returns-in-Ok-clause-refused g c = on_err _ _ c.drive_files.result (λ none why. inr why) c.drive_files.ensures.undriven

-- there is one disk a shard
pub returns-in_ok-logs-in-None-clause-judged : goal.returns-in_ok-logs-in-None-clause-judged
returns-in_ok-logs-in-None-clause-judged g c none =
    let settings = c.args.settings.now in
    let all : length c.in_ok-logs-in-None.logs.items ≡ length settings.splits + 1 =
    omega (arith, c.in_ok-logs-in-None.ensures.all, ap length c.as_slice.ensures.same) in
    let seen = λ (disk : SimDisk). (surface (disk_file disk)).seen in
    on_ok _ _ c.drive_over.result
    (λ driven is. subst (λ (shards : ℕ). IsToldOf (Unit {0}) seen shards (settings.workers * settings.transactions) (string_bytes driven.text) driven.verdict)
    all is)
    c.drive_over.ensures.judged

pub returns-in_ok-logs-in-None-clause-refused : goal.returns-in_ok-logs-in-None-clause-refused
returns-in_ok-logs-in-None-clause-refused g c =
    on_err _ _ c.drive_over.result (λ none why. inr why) c.drive_over.ensures.undriven
