-- What the record that comes next installs.
use Rattle.std.specs.Prelude.{List, [], ◌∷◌, Some}
use Rattle.units.specs.declared.writes.Write.{Write}
use Rattle.record.specs.Facts.{Facts, recorded}
use Rattle.record.specs.declared.record.Record.{Record}
use Rattle.record.specs.declared.record.Record.TheVariants.{Outcome, Version}
use Rattle.facts.specs.Readers.{writes_standing}

-- the writes that the record that comes next installs
abbrev pub writes_given : Facts → Record → List Write
writes_given facts (Outcome t (Some s)) = writes_standing (recorded facts t)
writes_given facts (Version i) = record { key = i.key; value = i.value } ∷ []
writes_given facts _ = []
