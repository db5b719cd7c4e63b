use Rattle.std.proofs.Common.{◌≡◌, refl, sym, subst, inl, inr, Result, Ok}
use Rattle.std.proofs.lemmas.Result.{IfOk-weaker}
use Rattle.units.specs.declared.fault.Fault.{Fault}
use Rattle.command_line.specs.Commands.{Asked}
use Rattle.command_line.specs.Views.{asked_by, asked_for}
use Rattle.commands.specs.Drives.{IsDrivenBy}
use Rattle.commands.specs.Faults.{IsRefusedBy, IsUnputBy}
use Rattle.commands.specs.Puts.{IsPutBy}
use Rattle.commands.specs.Replies.{TellsTo}
use Rattle.commands.proofs.OfFiles.{named_for}
use Rattle.commands.proofs.Refusals.{fails_for, memory_of, none_of}
use Rattle.commands.proofs.answers.carry_read.Goals as goal

pub returns-in-Ok-clause-tells : goal.returns-in-Ok-clause-tells
returns-in-Ok-clause-tells g c covered =
    let is : asked_by c.args.read ≡ Ok (asked_for c.in-Ok.asked) = c.in-Ok.ensures covered in
    IfOk-weaker c.run.result.0 _ _
    (λ status told. (
      told.0,
      subst (λ (r : Result Asked Fault). TellsTo (IsDrivenBy (goal.D-post g c.args.system.now.drive.run c.args.alloc))
          (IsPutBy (goal.P-post g c.args.system.now.drive.put c.args.alloc)) r status told.0) (sym is) told.1,
      told.2,
    ))
    c.run.ensures.tells

pub returns-in-Ok-clause-named : goal.returns-in-Ok-clause-named
returns-in-Ok-clause-named g c covered =
    let is : asked_by c.args.read ≡ Ok (asked_for c.in-Ok.asked) = c.in-Ok.ensures covered in
    named_for g.F.Log.Disk.keeps_model g.F.Log.Disk.file (g.F.Files.is_named c.args.system.now.files) g.F.Log.Disk.clock g.F.Log.Disk.since _
    c.run.result.0 (sym is) c.run.ensures.named

pub returns-in-Ok-clause-numbered : goal.returns-in-Ok-clause-numbered
returns-in-Ok-clause-numbered g c covered =
    let is : asked_by c.args.read ≡ Ok (asked_for c.in-Ok.asked) = c.in-Ok.ensures covered in
    fails_for (IsRefusedBy (goal.D-post g c.args.system.now.drive.run c.args.alloc)) (IsUnputBy (goal.P-post g c.args.system.now.drive.put c.args.alloc))
    c.run.result.0 (sym is) c.run.ensures.numbered

pub returns-clause-numbered : goal.returns-clause-numbered
returns-clause-numbered g c covered =
    let drives : Fault → Type 0 = IsRefusedBy (goal.D-post g c.args.system.now.drive.run c.args.alloc) in
    let puts : Fault → Type 0 = IsUnputBy (goal.P-post g c.args.system.now.drive.put c.args.alloc) in
    inr (
      c.in-Err.fault,
      refl,
      elim (c.in-Err.ensures covered) [
        | inl memory ↦ memory_of drives puts (asked_by c.args.read) c.in-Err.fault memory
        | inr is ↦ none_of drives puts (asked_by c.args.read) c.in-Err.fault c.in-Err.fault is
      ],
    )
