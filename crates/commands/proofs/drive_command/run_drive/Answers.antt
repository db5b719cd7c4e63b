use Rattle.std.proofs.Common.{refl, rules}
use Rattle.std.specs.Prelude.{string_bytes}
use Rattle.commands.specs.Faults.{IsRefusedBy}
use Rattle.commands.proofs.Refusals.{fails_by}
use Rattle.commands.proofs.drive_command.run_drive.Goals as goal

pub returns-in_ok-print-in-Ok-clause-printed : goal.returns-in_ok-print-in-Ok-clause-printed
returns-in_ok-print-in-Ok-clause-printed g c =
    let driven = c.in-Ok.driven in (
      string_bytes driven.text,
      driven.verdict,
      (c.in-Ok.ensures.driven.0, driven, c.in-Ok.ensures.driven.1, refl, refl),
      c.status_of.ensures,
      search rules,
    )

pub returns-in-Err-clause-numbered : goal.returns-in-Err-clause-numbered
returns-in-Err-clause-numbered g c =
    fails_by (IsRefusedBy (goal.D-post g c.args.system.now.drive.run c.args.alloc)) c.refuse.result c.in-Err.none c.in-Err.ensures.refused c.refuse.ensures.told
