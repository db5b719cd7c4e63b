-- A record has its place by the log, and follows it, where it does by the facts.
use Rattle.std.specs.List.{list_all, list_any}
use Rattle.std.proofs.Common.{◌≡◌, ℕ, Bool, true, not, [], ◌∷◌, ◌&&◌, nat_lt, List, length, map, Some, refl, sym, ap, subst}
use Rattle.std.proofs.Common.{◌∙◌}
use Rattle.std.proofs.lemmas.Bool.{and_parts}
use Rattle.units.specs.Ids.{Id, older}
use Rattle.units.specs.Keys.{Bytes}
use Rattle.units.specs.Limits.{most_rows}
use Rattle.units.specs.Locks.{clash, locks_of}
use Rattle.units.specs.Versions.{above_versions}
use Rattle.units.specs.declared.writes.Write.{Write}
use Rattle.record.specs.Accepted.{begins, fits_beside, followed, follows}
use Rattle.record.specs.Accepted.{locks_standing, may_stand}
use Rattle.record.specs.Facts.{facts_of, recorded}
use Rattle.record.specs.Installs.{installs_of, writes_by}
use Rattle.record.specs.Records.{committed_of, ended_of, horizon_of, is_aborted, prepared_of, status_by, status_of}
use Rattle.record.specs.declared.record.Record.{Record}
use Rattle.record.proofs.LearnAgrees.{followed_more}
use Rattle.record.proofs.Statuses.{recorded_is}
use Rattle.facts.specs.Rules.{allows, follows_facts}
use Rattle.facts.specs.Stages.{follows_next, stage_of}
use Rattle.facts.proofs.Known.{follows_as_known}
use Rattle.facts.proofs.Nexts.{outcome_next}
use Rattle.protocol.specs.Sound.{writes_standing}
use Rattle.protocol.proofs.FitsBeside.{horizon_is, installs_are, length-held, stamps_are, standing_is, written_are, ids_are}
use Rattle.protocol.specs.Rows.{Row}
use Rattle.protocol.specs.Beside.{fits_facts, standing_rows, stands_in}

stands_is : (log : List Record) (at : ℕ) (rs : List Bytes) (ws : List Write) → may_stand log at rs ws ≡ stands_in (facts_of log) at rs ws
stands_is log at rs ws =
    ap (λ n. nat_lt n most_rows && not (list_any (clash (locks_of rs ws)) (locks_standing log)) && nat_lt (horizon_of log) at
    && above_versions (installs_of log) at ws)
    (ap length (standing_is log) ∙ length-held (standing_rows (facts_of log)))
    ∙ ap (λ hs. nat_lt (length (standing_rows (facts_of log))) most_rows && not (list_any (clash (locks_of rs ws)) hs) && nat_lt (horizon_of log) at
    && above_versions (installs_of log) at ws) (standing_is log)
    ∙ ap (λ h. nat_lt (length (standing_rows (facts_of log))) most_rows && not (list_any (clash (locks_of rs ws))
    (map (λ r. r.held) (standing_rows (facts_of log)))) && nat_lt h at && above_versions (installs_of log) at ws)
    (sym (horizon_is log))
    ∙ ap (λ is. nat_lt (length (standing_rows (facts_of log))) most_rows && not (list_any (clash (locks_of rs ws))
    (map (λ r. r.held) (standing_rows (facts_of log)))) && nat_lt (facts_of log).horizon at && above_versions is at ws)
    (sym (installs_are log))

installs_is : (shard : ℕ) (log : List Record) (t : Id) (s : ℕ) → follows_facts shard (facts_of log) (Record.Outcome t (Some s)) ≡ true
    → above_versions (installs_of log) s (writes_by (committed_of log t) (prepared_of log t)) ≡
    above_versions (facts_of log).installs s (writes_standing (recorded (facts_of log) t))
unfolding follows_facts
installs_is shard log t s follows =
    let same = written_are log t s (and_parts _ _ follows).1 in
    ap (λ is. above_versions is s (writes_by (committed_of log t) (prepared_of log t))) (sym (installs_are log))
    ∙ ap (above_versions (facts_of log).installs s) (sym same)

all-map : {A B : Type 0} (f : A → B) (test : B → Bool) (xs : List A) → list_all test (map f xs) ≡ list_all (λ x. test (f x)) xs
all-map f test [] = refl
all-map f test (x ∷ xs) = ap (λ b. test (f x) && b) (all-map f test xs)

-- so a record has its place by the log where it has by the facts
pub beside_is : (shard : ℕ) (log : List Record) (r : Record) → follows_next shard (stage_of log) (facts_of log) r ≡ true →
    fits_beside log r ≡ fits_facts (facts_of log) r
unfolding fits_beside
beside_is shard log (Record.Horizon at) follows = ap (list_all (nat_lt at)) (stamps_are log)
beside_is shard log (Record.Retired below) follows =
    ap (list_all (λ t. not (older t below))) (ids_are log) ∙ all-map (λ (r : Row). r.txn) (λ t. not (older t below)) (standing_rows (facts_of log))
beside_is shard log (Record.Prepare p) follows = stands_is log p.at p.reads p.writes
beside_is shard log (Record.Commit c) follows = stands_is log c.at c.reads c.writes
beside_is shard log (Record.Outcome t (Some s)) follows =
    installs_is shard log t s (outcome_next shard (stage_of log) (facts_of log) t (Some s) follows)
beside_is shard log _ follows = refl

-- it follows by the log where it does by the facts
pub follows_is : (shard : ℕ) (log : List Record) (r : Record) → followed shard log ≡ true →
    (begins log r && follows shard log r) ≡ follows_next shard (stage_of log) (facts_of log) r
follows_is shard log r before =
    sym (ap (λ b. b && (begins log r && follows shard log r)) before) ∙ sym (followed_more shard log r) ∙ follows_as_known shard log r before
