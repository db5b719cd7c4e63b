-- What holds of words as they were read holds of the words.
use Rattle.std.proofs.Common.{◌∙◌, ap, List, map, subst, inr, refl, Result, Ok}
use Rattle.std.proofs.lemmas.Result.{IfOk-weaker}
use Rattle.units.specs.declared.fault.Fault.{Fault}
use Rattle.command_line.specs.Commands.{Asked, command_of}
use Rattle.command_line.specs.Lines.{Word}
use Rattle.commands.specs.Disks.{LogsTo}
use Rattle.commands.specs.Drives.{IsDrivenBy}
use Rattle.commands.specs.Faults.{IsRefusedBy, IsUnputBy}
use Rattle.commands.specs.Puts.{IsPutBy}
use Rattle.commands.specs.Replies.{TellsTo, reply_or_refusal}
use Rattle.output.specs.Replies.{Is}
use Rattle.commands.proofs.OfFiles.{named_for}
use Rattle.commands.proofs.Refusals.{fails_as, fails_for, memory_of}
use Rattle.commands.proofs.answers.carry_out.Goals as goal

pub returns-in-Ok-clause-printed : goal.returns-in-Ok-clause-printed
returns-in-Ok-clause-printed g c covered =
    IfOk-weaker c.carry_read.result.0 _ _
    (λ status told. (told.0, subst (λ (r : Result Asked Fault). Is (reply_or_refusal r) (Ok (told.0, status))) c.in-Ok.ensures.asks told.1, told.2))
    (c.carry_read.ensures.printed (c.in-Ok.ensures.covered ∙ covered))

pub returns-in-Ok-clause-tells : goal.returns-in-Ok-clause-tells
returns-in-Ok-clause-tells g c covered =
    IfOk-weaker c.carry_read.result.0 _ _
    (λ status told. (
      told.0,
      subst (λ (r : Result Asked Fault). TellsTo (IsDrivenBy (goal.D-post g c.args.system.now.drive.run c.args.alloc))
          (IsPutBy (goal.P-post g c.args.system.now.drive.put c.args.alloc)) r status told.0) c.in-Ok.ensures.asks told.1,
      told.2,
    ))
    (c.carry_read.ensures.tells (c.in-Ok.ensures.covered ∙ covered))

pub returns-in-Ok-clause-named : goal.returns-in-Ok-clause-named
returns-in-Ok-clause-named g c covered =
    named_for g.F.Log.Disk.keeps_model g.F.Log.Disk.file (g.F.Files.is_named c.args.system.now.files) g.F.Log.Disk.clock g.F.Log.Disk.since _
    c.carry_read.result.0 c.in-Ok.ensures.asks (c.carry_read.ensures.named (c.in-Ok.ensures.covered ∙ covered))

pub returns-in-Ok-clause-logged : goal.returns-in-Ok-clause-logged
returns-in-Ok-clause-logged g c covered =
    IfOk-weaker c.carry_read.result.0 _ _
    (λ status told. subst (λ (r : Result Asked Fault). LogsTo r status c.carry_read.result.1) c.in-Ok.ensures.asks told)
    (c.carry_read.ensures.logged (c.in-Ok.ensures.covered ∙ covered))

pub returns-in-Ok-clause-refused : goal.returns-in-Ok-clause-refused
returns-in-Ok-clause-refused g c covered fault due =
    c.carry_read.ensures.refused (c.in-Ok.ensures.covered ∙ covered) fault (ap reply_or_refusal c.in-Ok.ensures.asks ∙ due)

pub returns-in-Ok-clause-failures : goal.returns-in-Ok-clause-failures
returns-in-Ok-clause-failures g c covered =
    fails_as c.carry_read.result.0 _ (ap reply_or_refusal c.in-Ok.ensures.asks) (c.carry_read.ensures.failures (c.in-Ok.ensures.covered ∙ covered))

pub returns-in-Ok-clause-numbered : goal.returns-in-Ok-clause-numbered
returns-in-Ok-clause-numbered g c covered =
    fails_for (IsRefusedBy (goal.D-post g c.args.system.now.drive.run c.args.alloc)) (IsUnputBy (goal.P-post g c.args.system.now.drive.put c.args.alloc))
    c.carry_read.result.0 c.in-Ok.ensures.asks (c.carry_read.ensures.numbered (c.in-Ok.ensures.covered ∙ covered))

pub returns-in-Err-clause-numbered : goal.returns-in-Err-clause-numbered
returns-in-Err-clause-numbered g c covered =
    let words : List Word = map (λ w. w.now) c.args.words.now in
    inr (
      _,
      refl,
      memory_of (IsRefusedBy (goal.D-post g c.args.system.now.drive.run c.args.alloc)) (IsUnputBy (goal.P-post g c.args.system.now.drive.put c.args.alloc))
          (command_of words) _ refl,
    )
