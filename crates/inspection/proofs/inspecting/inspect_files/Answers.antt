use Rattle.std.proofs.Common.{List, Result, Ok, Err}
use Rattle.std.specs.Prelude.{◌≡◌, IfOk, map}
use Rattle.disk.specs.File.{surface}
use Rattle.inspection.proofs.Reading.{on-some-lines}
use Rattle.inspection.specs.Files.{verdict_on}
use Rattle.system.proofs.Named.{of-disk}
use Rattle.system.specs.Named.{AreNamed}
use Rattle.inspection.proofs.inspecting.inspect_files.Goals as goal

pub returns-clause-verdict : goal.returns-clause-verdict
returns-clause-verdict g c =
    of-disk (AreNamed (g.F.Files.is_named c.args.files.now) (map (λ log. log.now) c.args.logs.now))
    (λ disks found. (lines : _) × (verdict_on (map (λ d. (surface (g.F.Log.Disk.file d)).seen) disks) lines ≡ Ok found))
    c.in_ok-disks.disks.items c.in_ok-disks.ensures.named c.inspect_disks-verdict.result
    (λ keeps. on-some-lines _ _ c.inspect_disks-verdict.result (c.inspect_disks-verdict.ensures.verdict keeps))
