use Rattle.std.proofs.Common.{Ok}
use Rattle.std.specs.Prelude.{◌≡◌}
use Rattle.disk.specs.File.{surface}
use Rattle.showing.specs.Dumps.{dump_of}
use Rattle.system.proofs.Named.{of-disk}
use Rattle.showing.proofs.files.dump_in.Goals as goal

pub returns-clause-named : goal.returns-clause-named
returns-clause-named g c =
    of-disk (g.F.Files.is_named c.args.files.now c.args.path.now)
    (λ disk dump. dump_of (surface (g.F.Log.Disk.file disk)).seen ≡ Ok (dump.entries.items, dump.end))
    c.in_ok-open.field-0 c.in_ok-open.ensures.named c.read_dump.result c.read_dump.ensures.dump
