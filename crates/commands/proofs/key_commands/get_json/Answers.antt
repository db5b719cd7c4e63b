use Rattle.std.proofs.Common.{string_bytes}
use Rattle.commands.proofs.OfKey.{of-key}
use Rattle.showing.specs.Json.{IsJsonValueIn}
use Rattle.commands.proofs.key_commands.get_json.Goals as goal

pub returns-clause-told : goal.returns-clause-told
returns-clause-told g c =
    of-key g.F.Log.Disk.file (g.F.Files.is_named c.args.files.now) c.args.dir.now c.args.key.now
    (λ setup image text. IsJsonValueIn setup c.args.key.now c.args.at image (string_bytes text)) c.in_ok-setup.setup c.in_ok-setup.log
    c.in_ok-setup.ensures.owned c.in_ok-setup.ensures.named c.value_told_json-text.result c.value_told_json-text.ensures.told
