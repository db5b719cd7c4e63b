use Rattle.commands.proofs.OfKey.{of-key}
use Rattle.commands.specs.OnDisks.{IsRawIn}
use Rattle.commands.proofs.key_commands.get_raw.Goals as goal

pub returns-clause-told : goal.returns-clause-told
returns-clause-told g c =
    of-key g.F.Log.Disk.file (g.F.Files.is_named c.args.files.now) c.args.dir.now c.args.key.now
    (λ setup image value. IsRawIn setup c.args.key.now c.args.at image value) c.in_ok-setup.setup c.in_ok-setup.log
    c.in_ok-setup.ensures.owned c.in_ok-setup.ensures.named c.value_alone-value.result c.value_alone-value.ensures.told
