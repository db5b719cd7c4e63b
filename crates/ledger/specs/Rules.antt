-- Which record may come next, told from what a log says.
use Rattle.std.specs.Prelude.{IsTrue, Bool, ◌&&◌, List, [], ◌∷◌}
use Rattle.units.specs.declared.setup.Setup.{Setup}
use Rattle.record.specs.Accepted.{belongs}
use Rattle.record.specs.Facts.{Facts, learn}
use Rattle.record.specs.declared.record.Record.{Record}
use Rattle.facts.specs.Rules.{follows_facts}
use Rattle.protocol.specs.Beside.{fits_facts}

-- a record that a step logs may come next
unfoldable pub takes : Setup → Facts → Record → Bool
takes setup facts r = belongs setup r && follows_facts setup.shard facts r && fits_facts facts r

-- each of some records has its place, beside what stands by those before it
abbrev pub AllFit : Facts → List Record → Type 0
AllFit facts [] = Unit {0}
AllFit facts (r ∷ rs) = IsTrue (fits_facts facts r) × AllFit (learn facts r) rs
