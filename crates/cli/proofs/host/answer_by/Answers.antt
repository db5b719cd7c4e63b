use Rattle.std.proofs.Common.{inl, inr, map, subst}
use Rattle.drive.specs.Told.{HasNoVerdict}
use Rattle.command_line.specs.Commands.{command_of}
use Rattle.commands.specs.Drives.{IsDrivenBy}
use Rattle.commands.specs.Faults.{IsRefusedBy, IsUnputBy}
use Rattle.commands.specs.Puts.{IsPutBy}
use Rattle.commands.proofs.Refusals.{of_command, told_to}
use Rattle.cli.specs.Ends.{IsDriven}
use Rattle.cli.specs.Written.{IsUnwritten, IsWritten}
use Rattle.cli.proofs.host.answer_by.Goals as goal

pub returns : goal.returns
returns g c =
    let from = c.answer-status.ensures in
    let drives = IsDrivenBy (goal.D-post g c.args.engine.run c.args.alloc) in
    let puts = IsPutBy (goal.P-post g c.args.engine.put c.args.alloc) in
    let refuses = IsRefusedBy (goal.D-post g c.args.engine.run c.args.alloc) in
    let unput = IsUnputBy (goal.P-post g c.args.engine.put c.args.alloc) in
    let command = command_of (map (λ w. w.now) c.args.words.now) in
    record {
      status = from.status;
      printed = from.printed;
      refused = from.refused;
      tells = λ plain done.
          let told = from.tells plain done in (
            told.0,
            told_to drives IsDriven puts IsWritten command c.answer-status.result.0 told.0
                (λ text verdict is.
                subst (λ v. IsDriven text v) is.4 (subst (λ t. IsDriven t is.1.verdict) is.3 (c.requires.driven is.0 is.1 is.2)))
                (λ folder key value ended is.
                subst (λ v. IsWritten folder key v ended) is.3
                (subst (λ k. IsWritten folder k is.0.value.now ended) is.2
                (subst (λ f. IsWritten f is.0.key.now is.0.value.now ended) is.1 (c.requires.written is.0 ended is.4)))) told.1,
            told.2,
          );
      quiet = from.quiet;
      told = from.told;
      numbered = λ plain two.
          elim (from.numbered plain two) [
            | inl failed ↦ inl failed
            | inr told ↦ inr (
              told.0,
              of_command refuses unput HasNoVerdict IsUnwritten command told.0 (λ why. subst HasNoVerdict why.3 (c.requires.refuses why.0 why.1 why.2))
                  (λ why. c.requires.unwritten why.0 told.0 why.1) told.1,
              told.2,
            )
          ];
      explained = from.explained;
      silent = from.silent;
    }
