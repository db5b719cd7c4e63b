-- Logs that are alike take the same records.
use Rattle.std.specs.List.{list_all, list_any}
use Rattle.std.proofs.Common.{◌≡◌, ℕ, not, ◌&&◌, nat_lt, List, length, map, Option, Some, refl, sym, ap, ◌∙◌}
use Rattle.units.specs.Limits.{most_rows}
use Rattle.units.specs.Ids.{Id, older}
use Rattle.units.specs.Lists.{gather}
use Rattle.units.specs.Keys.{Bytes}
use Rattle.units.specs.Locks.{clash, locks_of}
use Rattle.units.specs.Versions.{above_versions, of_key}
use Rattle.units.specs.declared.writes.Install.{Install}
use Rattle.units.specs.declared.writes.Write.{Write}
use Rattle.units.proofs.ListLaws.{each-alike}
use Rattle.record.specs.Accepted.{belongs}
use Rattle.record.specs.Facts.{Facts, TxnStatus, facts_with, recorded}
use Rattle.record.specs.declared.record.Record.{Record}
use Rattle.record.specs.declared.record.Record.TheVariants.{Opened, Prepare, Commit, Outcome, Horizon, Retired}
use Rattle.facts.specs.Rules.{follows_facts}
use Rattle.facts.specs.Shown.{status_in}
use Rattle.protocol.specs.Rows.{held_stamp, standing_row}
use Rattle.protocol.specs.Sound.{writes_standing}
use Rattle.versions.proofs.Newest.{above_newest, was_before}
use Rattle.versions.specs.Places.{SameVersions}
use Rattle.ledger.specs.Keeps.{Alike}
use Rattle.ledger.specs.Laws.{AlikeTakes}
use Rattle.protocol.specs.Beside.{fits_facts, stands_in}
use Rattle.ledger.specs.Rules.{takes}

-- the rules of one id, of openings and of a horizon read no versions
no-versions : (shard : ℕ) (e f : ℕ) (es : List TxnStatus) (is js : List Install) (n : ℕ) (rt : Option Id) (r : Record)
    → follows_facts shard (facts_with e f es is n rt) r ≡ follows_facts shard (facts_with e f es js n rt) r
unfolding follows_facts
no-versions shard e f es is js n rt (Opened epoch) = refl
no-versions shard e f es is js n rt _ = refl

follows-alike : (shard : ℕ) (a b : Facts) (r : Record) → Alike a b → follows_facts shard a r ≡ follows_facts shard b r
follows-alike shard a b r h =
    (λ i. follows_facts shard (facts_with (h.epoch i) (h.floor i) (h.entries i) a.installs (h.horizon i) (h.retired i)) r)
    ∙ no-versions shard b.epoch b.floor b.entries a.installs b.installs b.horizon b.retired r

-- a timestamp is above the versions of the same keys
pub above-alike : (h : ℕ) (a b : List Install) (at : ℕ) (ws : List Write) → SameVersions h a b → above_versions a at ws ≡ above_versions b at ws
above-alike h a b at ws same =
    each-alike _ _ (λ w. above_newest at (of_key a w.key) ∙ ap (was_before at) (same.now w.key) ∙ sym (above_newest at (of_key b w.key))) ws

stands-alike : (a b : Facts) (at : ℕ) (rs : List Bytes) (ws : List Write) → Alike a b → stands_in a at rs ws ≡ stands_in b at rs ws
stands-alike a b at rs ws h =
    λ i. nat_lt (length (gather standing_row (h.entries i))) most_rows
    && not (list_any (clash (locks_of rs ws)) (map (λ r. r.held) (gather standing_row (h.entries i))))
    && nat_lt (h.horizon i) at
    && above-alike a.horizon a.installs b.installs at ws h.versions i

fits-alike : (a b : Facts) (r : Record) → Alike a b → fits_facts a r ≡ fits_facts b r
fits-alike a b (Horizon at) h = ap (λ es. list_all (nat_lt at) (gather (λ r. held_stamp r.phase) (gather standing_row es))) h.entries
fits-alike a b (Retired below) h = ap (λ es. list_all (λ r. not (older r.txn below)) (gather standing_row es)) h.entries
fits-alike a b (Prepare p) h = stands-alike a b p.at p.reads p.writes h
fits-alike a b (Commit c) h = stands-alike a b c.at c.reads c.writes h
fits-alike a b (Outcome t (Some at)) h =
    above-alike a.horizon a.installs b.installs at (writes_standing (recorded a t)) h.versions
    ∙ ap (λ es. above_versions b.installs at (writes_standing (status_in es t))) h.entries
fits-alike a b _ h = refl

pub takes-alike : AlikeTakes
unfolding takes
takes-alike setup a b r h = λ i. belongs setup r && follows-alike setup.shard a b r h i && fits-alike a b r h i
