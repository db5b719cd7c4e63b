use Rattle.std.proofs.Common.{◌∙◌, [], subst, List, Bor, map, string_bytes}
use Rattle.std.proofs.lemmas.Result.{IfOk-weaker}
use Rattle.command_line.specs.Lines.{Word}
use Rattle.commands.specs.OnDisks.{AreStatsAsOf}
use Rattle.commands.specs.Replies.{AreStatsAs}
use Rattle.showing.specs.Files.{IsVerdictOn}
use Rattle.commands.proofs.OfFiles.{appends_nothing, of_done}
use Rattle.commands.proofs.Refusals.{of_printed, passed_on}
use Rattle.commands.proofs.answers.run.Goals as goal

pub returns-in-Put-clause-numbered : goal.returns-in-Put-clause-numbered
returns-in-Put-clause-numbered g c =
    rw (c.in-Put.is)
    (passed_on _ _ _ _ c.put.result c.print-in-Put.result c.put.ensures.refused c.print-in-Put.ensures.printed c.print-in-Put.ensures.refused)

pub returns-in-Stats-clause-numbered : goal.returns-in-Stats-clause-numbered
returns-in-Stats-clause-numbered g c =
    rw (c.in-Stats.is)
    (passed_on _ _ _ _ c.stats.result c.print_text-in-Stats.result c.stats.ensures.refused c.print_text-in-Stats.ensures.printed
    c.print_text-in-Stats.ensures.refused)

pub returns-in-Play-clause-numbered : goal.returns-in-Play-clause-numbered
returns-in-Play-clause-numbered g c =
    rw (c.in-Play.is)
    (passed_on _ _ _ _ c.play.result c.print.result c.play.ensures.refused c.print.ensures.printed c.print.ensures.refused)

pub returns-in-Inspect-clause-numbered : goal.returns-in-Inspect-clause-numbered
returns-in-Inspect-clause-numbered g c =
    rw (c.in-Inspect.is)
    (passed_on _ _ _ _ c.inspect.result c.print-in-Inspect.result c.inspect.ensures.refused c.print-in-Inspect.ensures.printed c.print-in-Inspect.ensures.refused)

pub returns-in-Dump-clause-numbered : goal.returns-in-Dump-clause-numbered
returns-in-Dump-clause-numbered g c =
    rw (c.in-Dump.is)
    (passed_on _ _ _ _ c.dump.result c.print_text.result c.dump.ensures.refused c.print_text.ensures.printed c.print_text.ensures.refused)

pub returns-in-History-clause-numbered : goal.returns-in-History-clause-numbered
returns-in-History-clause-numbered g c =
    rw (c.in-History.is)
    (passed_on _ _ _ _ c.history.result c.print_text-in-History.result c.history.ensures.refused c.print_text-in-History.ensures.printed c.print_text-in-History.ensures.refused)

pub returns-in-Play-clause-tells : goal.returns-in-Play-clause-tells
returns-in-Play-clause-tells g c =
    rw (c.in-Play.is)
    (of_printed _ _ _ _ _ c.play.result c.print.result (λ t is status p. (string_bytes t.0, p.0 ∙ is, p.1)) c.play.ensures.status c.print.ensures.printed
    c.print.ensures.refused)

pub returns-in-Inspect-clause-tells : goal.returns-in-Inspect-clause-tells
returns-in-Inspect-clause-tells g c =
    rw (c.in-Inspect.is)
    (of_printed _ _ _ _ _ c.inspect.result c.print-in-Inspect.result (λ t is status p. (string_bytes t.0, (is.0, p.0 ∙ is.1, is.2), p.1)) c.inspect.ensures.line c.print-in-Inspect.ensures.printed
    c.print-in-Inspect.ensures.refused)

pub returns-in-Dump-clause-tells : goal.returns-in-Dump-clause-tells
returns-in-Dump-clause-tells g c =
    rw (c.in-Dump.is)
    (of_printed _ _ _ _ _ c.dump.result c.print_text.result (λ t is status p. (string_bytes t, (p.0, is), p.1)) c.dump.ensures.text c.print_text.ensures.printed
    c.print_text.ensures.refused)

pub returns-in-History-clause-tells : goal.returns-in-History-clause-tells
returns-in-History-clause-tells g c =
    rw (c.in-History.is)
    (of_printed _ _ _ _ _ c.history.result c.print_text-in-History.result (λ t is status p. (string_bytes t, (p.0, is), p.1)) c.history.ensures.text c.print_text-in-History.ensures.printed
    c.print_text-in-History.ensures.refused)

pub returns-in-Stats-clause-tells : goal.returns-in-Stats-clause-tells
returns-in-Stats-clause-tells g c =
    rw (c.in-Stats.is)
    (of_printed _ _ _ _ _ c.stats.result c.print_text-in-Stats.result
    (λ t is status p. (
      string_bytes t,
      (p.0, subst (λ (logs : List (Bor Word)). AreStatsAs c.in-Stats.json (map (λ w. w.now) logs) (string_bytes t)) c.deref-in-Stats.ensures.value is),
      p.1,
    ))
    c.stats.ensures.text c.print_text-in-Stats.ensures.printed c.print_text-in-Stats.ensures.refused)

pub returns-in-Inspect-clause-named : goal.returns-in-Inspect-clause-named
returns-in-Inspect-clause-named g c =
    rw (c.in-Inspect.is)
    (of_printed _ _ _ _ _ c.inspect.result c.print-in-Inspect.result
    (λ t is status p. (
      string_bytes t.0,
      (
        is.0,
        p.0 ∙ is.1,
        is.2,
        subst (λ (logs : List (Bor Word)). IsVerdictOn g.F.Log.Disk.keeps_model g.F.Log.Disk.file (g.F.Files.is_named c.args.system.now.files)
            (map (λ w. w.now) logs) is.0) c.deref.ensures.value is.3,
      ),
      p.1,
    ))
    c.inspect.ensures.named c.print-in-Inspect.ensures.printed c.print-in-Inspect.ensures.refused)

pub returns-in-Dump-clause-named : goal.returns-in-Dump-clause-named
returns-in-Dump-clause-named g c =
    rw (c.in-Dump.is)
    (of_printed _ _ _ _ _ c.dump.result c.print_text.result (λ t is status p. (string_bytes t, is, p.1)) c.dump.ensures.named c.print_text.ensures.printed
    c.print_text.ensures.refused)

pub returns-in-History-clause-named : goal.returns-in-History-clause-named
returns-in-History-clause-named g c =
    rw (c.in-History.is)
    (of_printed _ _ _ _ _ c.history.result c.print_text-in-History.result (λ t is status p. (string_bytes t, is, p.1)) c.history.ensures.told
    c.print_text-in-History.ensures.printed c.print_text-in-History.ensures.refused)

pub returns-in-Get-clause-named : goal.returns-in-Get-clause-named
returns-in-Get-clause-named g c = rw (c.in-Get.is) c.run_get.ensures.told

pub returns-in-Stats-clause-named : goal.returns-in-Stats-clause-named
returns-in-Stats-clause-named g c =
    rw (c.in-Stats.is)
    (of_printed _ _ _ _ _ c.stats.result c.print_text-in-Stats.result
    (λ t is status p. (
      string_bytes t,
      subst (λ (logs : List (Bor Word)). AreStatsAsOf g.F.Log.Disk.keeps_model g.F.Log.Disk.file (g.F.Files.is_named c.args.system.now.files)
          c.in-Stats.json (map (λ w. w.now) logs) (string_bytes t)) c.deref-in-Stats.ensures.value is,
      p.1,
    ))
    c.stats.ensures.named c.print_text-in-Stats.ensures.printed c.print_text-in-Stats.ensures.refused)

pub returns-in-Migrate-clause-named : goal.returns-in-Migrate-clause-named
returns-in-Migrate-clause-named g c =
    rw (c.in-Migrate.is)
    (IfOk-weaker c.done-in-Migrate.result _ _ (λ status is. ([], is, appends_nothing _))
    (of_done _ c.migrate_file.result c.done-in-Migrate.result c.migrate_file.ensures.migrated c.done-in-Migrate.ensures))

pub returns-in-Compact-clause-named : goal.returns-in-Compact-clause-named
returns-in-Compact-clause-named g c =
    rw (c.in-Compact.is)
    (IfOk-weaker c.done-in-Compact.result _ _ (λ status is. ([], is, appends_nothing _))
    (of_done _ c.compact_file.result c.done-in-Compact.result c.compact_file.ensures.compacted c.done-in-Compact.ensures))
