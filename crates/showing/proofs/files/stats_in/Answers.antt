use Rattle.std.proofs.Common.{Ok}
use Rattle.std.specs.Prelude.{◌≡◌}
use Rattle.disk.specs.File.{surface}
use Rattle.showing.specs.Stats.{stats_in}
use Rattle.system.proofs.Named.{of-disk}
use Rattle.showing.proofs.files.stats_in.Goals as goal

pub returns-clause-named : goal.returns-clause-named
returns-clause-named g c =
    of-disk (g.F.Files.is_named c.args.files.now c.args.log.now)
    (λ disk stats. stats_in (surface (g.F.Log.Disk.file disk)).seen ≡ Ok (stats.numbers, stats.in_doubt.items))
    c.in_ok-open.field-0 c.in_ok-open.ensures.named c.read_stats.result c.read_stats.ensures.stats
