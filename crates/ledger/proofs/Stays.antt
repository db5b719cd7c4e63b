-- Facts that may be renewed may be renewed behind one more record that is taken.
use Rattle.std.proofs.Common.{◌≡◌, ℕ, true, List, [], ◌++◌, Some, None}
use Rattle.std.proofs.lemmas.Bool.{and_parts, false≢true}
use Rattle.units.specs.Versions.{versions}
use Rattle.units.specs.declared.writes.Install.{Install}
use Rattle.record.specs.Records.{Status, StandsPrepared, StandsDecided}
use Rattle.record.specs.Facts.{Facts, learn, recorded, installs_at}
use Rattle.record.specs.declared.record.Record.{Record}
use Rattle.record.specs.declared.record.Record.TheVariants.{Outcome, Base, Version, Settled, Closed}
use Rattle.facts.specs.Rules.{id_follows, allows}
use Rattle.protocol.specs.Showable.{record_ascends, rises_by_key}
use Rattle.protocol.specs.Sound.{writes_standing}
use Rattle.protocol.proofs.Ascending.{entries_after}
use Rattle.protocol.proofs.Rising.{installs_rise, rise_none}
use Rattle.protocol.proofs.Serves.{ascend_in, versions_follow}
use Rattle.ledger.specs.Keeps.{IsLasting}
use Rattle.protocol.specs.Beside.{fits_facts}
use Rattle.ledger.specs.Rules.{takes}
use Rattle.ledger.specs.Laws.{LastingFollows, LastingStays}
use Rattle.ledger.proofs.Bounded.{bounded, bounded-stays, regular, step-of}

-- ---- the versions rise

-- behind an outcome: what it installs is what stood
ended-rises : (installs : List Install) (s : Status) (at : ℕ) → rises_by_key [] installs ≡ true → allows s (Some at) ≡ true
    → rises_by_key installs (versions (writes_standing s) at) ≡ true → rises_by_key [] (installs ++ installs_at s (Some at)) ≡ true
ended-rises installs (StandsPrepared p) at rise a up = installs_rise installs (versions p.writes at) rise up
ended-rises installs (StandsDecided c) at rise a up = installs_rise installs (versions c.writes at) rise up
ended-rises installs _ at rise a up = cc

aborted-rises : (installs : List Install) (s : Status) → rises_by_key [] installs ≡ true → allows s None ≡ true
    → rises_by_key [] (installs ++ installs_at s None) ≡ true
aborted-rises installs (StandsPrepared p) rise a = installs_rise installs [] rise (rise_none installs)
aborted-rises installs _ rise a = cc

rising-stays : (shard : ℕ) (facts : Facts) (r : Record) → IsLasting facts → id_follows shard facts r ≡ true → fits_facts facts r ≡ true
    → rises_by_key [] (learn facts r).installs ≡ true
unfolding learn
rising-stays shard facts (Outcome t None) l f fits = aborted-rises facts.installs (recorded facts t) l.regular.rising f
rising-stays shard facts (Outcome t (Some at)) l f fits =
    ended-rises facts.installs (recorded facts t) at l.regular.rising f
    (versions_follow facts.installs at (writes_standing (recorded facts t)) (ascend_in facts.entries t l.entries) fits)
rising-stays shard facts (Base e floor n) l f fits = absurd (false≢true f)
rising-stays shard facts (Version i) l f fits = absurd (false≢true f)
rising-stays shard facts (Settled t at parts) l f fits = absurd (false≢true f)
rising-stays shard facts (Closed t c o) l f fits = absurd (false≢true f)
rising-stays shard facts _ l f fits = l.regular.rising

-- ---- one more record

pub step-lasting : (shard : ℕ) (facts : Facts) (r : Record) → IsLasting facts → record_ascends r ≡ true → id_follows shard facts r ≡ true
    → fits_facts facts r ≡ true → IsLasting (learn facts r)
step-lasting shard facts r l up follows fits = record {
  regular =
      regular (learn facts r) (bounded-stays shard facts r (bounded facts l.regular) follows) (rising-stays shard facts r l follows fits);
  entries = entries_after facts (Some r) (λ t. ascend_in facts.entries t l.entries) up l.entries;
}

pub lasting-stays : LastingStays
unfolding takes
lasting-stays setup facts r l up h =
    step-lasting setup.shard facts r l up (step-of setup.shard facts r ((and_parts _ _ ((and_parts _ _ h).0)).1)) ((and_parts _ _ h).1)

pub lasting-follows : LastingFollows
lasting-follows shard facts memory r l follows showable = record {
  regular =
      regular (learn facts r) (bounded-stays shard facts r (bounded facts l.regular) (step-of shard facts r follows)) showable.installs;
  entries = showable.entries;
}
