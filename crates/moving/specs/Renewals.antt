-- Logs that are renewed into new files.
use Rattle.std.specs.Prelude.{ℕ, List, [], ◌∷◌, Option, Ok}
use Rattle.disk.specs.File.{File, surface}
use Rattle.disk.specs.Image.{Surface}
use Rattle.node.specs.Renewed.{IsRenewed}
use Rattle.node.specs.declared.renewing.Past.{Past}
use Rattle.record.specs.declared.record.Record.{Record}
use Rattle.shard.specs.Logs.{KeepsRecords}

-- whatever crash comes, it leaves one log there
abbrev pub HoldsALog : Surface → Type 0
HoldsALog disk = (records : List Record) × KeepsRecords disk (Ok records)

-- one file for each image of a log, in order: it holds the renewal of that log, whatever crash comes
abbrev pub AreRenewals : {D : Type 0} → Option Past → (D → File) → List (List ℕ) → List D → Type 0
AreRenewals past file [] [] = Unit {0}
AreRenewals past file (image ∷ images) (new ∷ news) = IsRenewed past image (surface (file new)) × AreRenewals past file images news
AreRenewals past file images news = ⊥
