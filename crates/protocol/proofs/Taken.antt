-- What a log that is taken leaves of its shard.
use Rattle.std.proofs.Common.{◌≡◌, ℕ, ◌+◌, Bool, true, false, not, ◌&&◌, cond, List, [], ◌∷◌, ◌++◌, Some, None, refl, ap, sym, subst, ◌∙◌}
use Rattle.std.specs.List.{list_all}
use Rattle.std.specs.Prelude.{nat_lt}
use Rattle.std.proofs.lemmas.Bool.{and_from, and_parts}
use Rattle.std.proofs.lemmas.List.{append-nil, append_assoc}
use Rattle.units.specs.Lists.{gather}
use Rattle.units.specs.Ids.{Id}
use Rattle.units.specs.Versions.{of_key, versions, above_versions}
use Rattle.units.specs.declared.writes.Install.{Install}
use Rattle.units.specs.declared.setup.Setup.{Setup}
use Rattle.record.specs.Accepted.{Taken, Accepted, DamagedAt, StrangerAt, begins, belongs, fits_beside, followed, follows, taken, taken_from}
use Rattle.record.specs.Computing.{computing}
use Rattle.record.specs.Facts.{TxnStatus, Facts, facts_of, installs_at, recorded}
use Rattle.record.specs.Installs.{writes_by}
use Rattle.record.specs.Records.{Status, StandsPrepared, committed_of, ended_of}
use Rattle.record.specs.Records.{is_aborted, prepared_of, status_by, status_of}
use Rattle.record.specs.declared.record.Record.{Record}
use Rattle.record.proofs.LearnAgrees.{followed_more, learn_agrees}
use Rattle.record.proofs.Statuses.{recorded_is}
use Rattle.facts.specs.Rules.{allows, follows_facts}
use Rattle.facts.specs.Stages.{follows_next, stage_of}
use Rattle.facts.proofs.Known.{follows_as_known, version_above}
use Rattle.facts.proofs.Nexts.{outcome_next}
use Rattle.protocol.specs.Rows.{rebuilt, standing_row}
use Rattle.protocol.specs.Sound.{writes_standing}
use Rattle.protocol.proofs.FitsBeside.{installs_are, written_are}
use Rattle.protocol.specs.Showable.{TakenIsShowable, added, record_ascends, rises_by_key}
use Rattle.protocol.proofs.Ascending.{all_ascend, each_ascends, entries_after}
use Rattle.protocol.proofs.Rising.{rise_none, installs_rise}
use Rattle.protocol.proofs.Serves.{ascend_in, grows, versions_follow}

-- what is kept along a log
record Along (facts : Facts) : Type 0 where
  entries : each_ascends facts.entries ≡ true
  installs : rises_by_key [] facts.installs ≡ true

-- ---- one more record

-- what an outcome installs is above the versions of its keys
above_standing : (shard : ℕ) (log : List Record) (t : Id) (s : ℕ) → follows_facts shard (facts_of log) (Record.Outcome t (Some s)) ≡ true
    → fits_beside log (Record.Outcome t (Some s)) ≡ true
    → above_versions (facts_of log).installs s (writes_standing (recorded (facts_of log) t)) ≡ true
unfolding follows_facts fits_beside
above_standing shard log t s follows fits =
    let same = written_are log t s (and_parts _ _ follows).1 in
    ap (above_versions (facts_of log).installs s) same
    ∙ ap (λ is. above_versions is s (writes_by (committed_of log t) (prepared_of log t))) (installs_are log) ∙ fits

installed_none : (s : Status) → installs_at s None ≡ []
installed_none (StandsPrepared p) = refl
installed_none _ = refl

installed_at : (status : Status) (s : ℕ) → installs_at status (Some s) ≡ versions (writes_standing status) s
installed_at (StandsPrepared p) s = refl
installed_at _ s = refl

rise_one : (installs : List Install) (i : Install) → list_all (λ j. nat_lt j.at i.at) (of_key installs i.key) ≡ true →
    rises_by_key installs (i ∷ []) ≡ true
unfolding rises_by_key
rise_one installs i above = and_from _ _ above refl

added_rises : (shard : ℕ) (log : List Record) (r : Record) → followed shard log ≡ true
    → follows_next shard (stage_of log) (facts_of log) r ≡ true → fits_beside log r ≡ true
    → each_ascends (facts_of log).entries ≡ true → rises_by_key (facts_of log).installs (added (facts_of log) (Some r)) ≡ true
added_rises shard log (Record.Outcome t None) before follows fits up =
    ap (rises_by_key (facts_of log).installs) (installed_none (recorded (facts_of log) t)) ∙ rise_none (facts_of log).installs
added_rises shard log (Record.Outcome t (Some s)) before follows fits up =
    ap (rises_by_key (facts_of log).installs) (installed_at (recorded (facts_of log) t) s)
    ∙ versions_follow (facts_of log).installs s (writes_standing (recorded (facts_of log) t)) (ascend_in (facts_of log).entries t up)
    (above_standing shard log t s (outcome_next shard (stage_of log) (facts_of log) t (Some s) follows) fits)
added_rises shard log (Record.Version install) before follows fits up =
    rise_one (facts_of log).installs install (version_above shard log install before follows)
added_rises shard log _ before follows fits up = rise_none (facts_of log).installs

learned : (setup : Setup) (log : List Record) (r : Record) → followed setup.shard log ≡ true → followed setup.shard (log ++ r ∷ []) ≡ true
    → fits_beside log r ≡ true → record_ascends r ≡ true → Along (facts_of log) → Along (facts_of (log ++ r ∷ []))
learned setup log r before more fits up along =
    let known : follows_next setup.shard (stage_of log) (facts_of log) r ≡ true = sym (follows_as_known setup.shard log r before) ∙ more in
    subst Along (sym (learn_agrees setup.shard log r more)) (record {
      entries = entries_after (facts_of log) (Some r) (λ t. ascend_in (facts_of log).entries t along.entries) up along.entries;
      installs = ap (rises_by_key []) (grows (facts_of log) (Some r)) ∙ installs_rise (facts_of log).installs (added (facts_of log) (Some r))
          along.installs (added_rises setup.shard log r before known fits along.entries);
    })

-- ---- all records

-- a record that is not refused has its place
not_refused : (own fit : Bool) (place : ℕ) (rest : Taken) → cond (not own) (StrangerAt place) (cond fit rest (DamagedAt place)) ≡ Accepted
    → (fit ≡ true) × (rest ≡ Accepted)
not_refused true true place rest e = (refl, e)
not_refused true false place rest e = cc
not_refused false fit place rest e = cc

along_log : (setup : Setup) (before : List Record) (place : ℕ) (log : List Record) → followed setup.shard before ≡ true → Along (facts_of before)
    → taken_from setup before place log ≡ Accepted → list_all record_ascends log ≡ true → Along (facts_of (before ++ log))
along_log setup before place [] followed_so_far along accepted up = subst (λ l. Along (facts_of l)) (sym (append-nil before)) along
along_log setup before place (r ∷ rs) followed_so_far along accepted up =
    let fit = not_refused (belongs setup r) (begins before r && follows setup.shard before r && fits_beside before r) place
    (taken_from setup (before ++ r ∷ []) (place + 1) rs) accepted in
    let parts = and_parts _ _ fit.0 in
    let more : followed setup.shard (before ++ r ∷ []) ≡ true =
    followed_more setup.shard before r ∙ ap (λ b. b && (begins before r && follows setup.shard before r)) followed_so_far ∙ parts.0 in
    let both = and_parts _ _ up in
    subst (λ l. Along (facts_of l)) (append_assoc before (r ∷ []) rs)
    (along_log setup (before ++ r ∷ []) (place + 1) rs more (learned setup before r followed_so_far more parts.1 both.0 along) fit.1 both.1)

-- the rows that an opening finds wait for nothing
rows_left : (es : List TxnStatus) → all_ascend (gather standing_row es) ≡ true
rows_left [] = refl
rows_left (e ∷ es) = by_status e.status (rows_left es)
  where
    by_status : (s : Status) → all_ascend (gather standing_row es) ≡ true → all_ascend
        (gather standing_row (record { txn = e.txn; status = s } ∷ es)) ≡ true
    by_status (StandsPrepared p) rest = rest
    by_status _ rest = rest

rows_rebuilt : (facts : Facts) → all_ascend (rebuilt facts).rows ≡ true
unfolding rebuilt
rows_rebuilt facts = rows_left facts.entries

nothing_yet : Along (facts_of [])
unfolding computing rises_by_key
nothing_yet = record { entries = refl; installs = refl }

none_follows : (shard : ℕ) → followed shard [] ≡ true
unfolding followed
none_follows shard = refl

pub taken_is_showable : TakenIsShowable
unfolding taken
taken_is_showable setup log accepted up =
    let along = along_log setup [] 0 log (none_follows setup.shard) nothing_yet accepted up in
    record { entries = along.entries; rows = rows_rebuilt (facts_of log); installs = along.installs }
