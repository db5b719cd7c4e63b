-- A log of all kinds may be renewed, where each record may come next and has its place.
use Rattle.std.specs.List.{AllByRecursion, list_all}
use Rattle.std.proofs.Common.{◌≡◌, ℕ, ◌≤◌, Bool, true, false, ◌&&◌, ◌||◌, max, List, [], ◌∷◌, ◌++◌, Option, Some, None, refl, sym, ap, subst, ◌∙◌}
use Rattle.std.proofs.Common.{append_assoc, append-nil, arith}
use Rattle.std.proofs.lemmas.Bool.{and_parts}
use Rattle.units.specs.Ids.{Id}
use Rattle.units.specs.declared.writes.Install.{Install}
use Rattle.units.proofs.ByIdLaws.{all-with}
use Rattle.units.proofs.ListLaws.{all_of_each, each_of_all}
use Rattle.record.specs.Records.{Status, HasSettled, HasClosed}
use Rattle.record.specs.Accepted.{begins, follows, followed, followed_from, is_kept, is_new}
use Rattle.record.specs.Facts.{Facts, TxnStatus, no_facts, facts_of, learn, with_status}
use Rattle.record.specs.Installs.{installs_of}
use Rattle.record.specs.declared.record.Record.{Record}
use Rattle.record.specs.declared.record.Record.TheVariants.{Opened, Ceiling, Prepare, Commit, Abort, Outcome, Horizon, Base, Version, Settled, Closed, Retired}
use Rattle.record.proofs.LearnAgrees.{accepted_follows, followed_more, learn_agrees}
use Rattle.record.proofs.Sound.{base_first}
use Rattle.facts.specs.Rules.{follows_facts}
use Rattle.facts.specs.Stages.{follows_head, follows_next, stage_of}
use Rattle.facts.proofs.Known.{follows_as_known, version_above}
use Rattle.protocol.specs.Showable.{record_ascends}
use Rattle.protocol.proofs.Rising.{below, installs_rise, rise_none, rise_one}
use Rattle.protocol.proofs.Taken.{taken_is_showable}
use Rattle.ledger.specs.Keeps.{IsLasting, IsOfShard, IsPlaced, writes_ascend}
use Rattle.ledger.specs.Laws.{LogIsOfShard, LogLasts, TakenLasts}
use Rattle.protocol.specs.Beside.{fits_facts}
use Rattle.ledger.specs.Rules.{AllFit}
use Rattle.ledger.proofs.Entries.{entry, id_of, with_status-is}
use Rattle.ledger.proofs.Shards.{put, step-of-shard}
use Rattle.ledger.proofs.Bounded.{IsBounded, at-most, bounded, bounded-stays, more-bounded, put-bounded, regular, step-of}
use Rattle.ledger.proofs.Stays.{step-lasting}

-- ---- one more record

put-ascends : (es : List TxnStatus) (t : Id) (s : Status) → writes_ascend (entry t s) ≡ true → list_all writes_ascend es ≡ true
    → list_all writes_ascend (with_status es t s) ≡ true
put-ascends es t s one all =
    ap (list_all writes_ascend) (with_status-is es t s)
    ∙ each_of_all writes_ascend _ (all-with (λ e. writes_ascend e ≡ true) id_of es (entry t s) one (all_of_each writes_ascend es all))

ended-lasting : (facts : Facts) (floor : ℕ) (t : Id) (s : Status) → IsLasting facts → facts.floor ≤ floor → is_kept facts.retired t ≡ true → IsPlaced floor (entry t s)
    → writes_ascend (entry t s) ≡ true → IsLasting (record facts { floor = floor; entries = with_status facts.entries t s })
ended-lasting facts floor t s l le here p up = record {
  regular = regular _ (put-bounded facts (bounded facts l.regular) floor le t s here p) l.regular.rising;
  entries = put-ascends facts.entries t s up l.entries;
}

under-floor : (shard : ℕ) (log : List Record) (e f n : ℕ) → follows shard log (Base e f n) ≡ true → n ≤ f
unfolding follows
under-floor shard log e f n h = at-most n f ((and_parts _ _ h).1)

based-lasting : (e f h : ℕ) → h ≤ f → IsLasting (learn no_facts (Base e f h))
unfolding learn
based-lasting e f h le = record {
  regular = record { order = tt; placed = tt; rising = rise_none []; covered = tt; under = omega (arith, le); kept = tt };
  entries = refl;
}

version-lasting : (facts : Facts) (v : Install) → IsLasting facts → below facts.installs v.key v.at ≡ true
    → IsLasting (record facts { floor = max facts.floor v.at; installs = facts.installs ++ v ∷ [] })
version-lasting facts v l above = record {
  regular =
      regular _ (more-bounded facts (bounded facts l.regular) (max facts.floor v.at) (omega arith) (v ∷ []) (omega arith, tt))
      (installs_rise facts.installs (v ∷ []) l.regular.rising (rise_one facts.installs v [] above (rise_none _)));
  entries = l.entries;
}

-- what is known of no record
nothing-known : facts_of [] ≡ no_facts
unfolding facts_of installs_of
nothing-known = refl

nothing-followed : (shard : ℕ) → followed shard [] ≡ true
unfolding followed
nothing-followed shard = refl

-- a list of records that is followed, and what may be renewed of it
record Lasts (shard : ℕ) (log : List Record) : Type 0 where
  so_far : followed shard log ≡ true
  lasting : IsLasting (facts_of log)

-- an id that is new is not retired
new-kept : (log : List Record) (t : Id) → is_new log t ≡ true → is_kept (facts_of log).retired t ≡ true
unfolding facts_of
new-kept log t h = (and_parts _ _ h).1

settled-kept : (shard : ℕ) (log : List Record) (t : Id) (at : ℕ) (ps : List ℕ) → follows shard log (Settled t at ps) ≡ true
    → is_kept (facts_of log).retired t ≡ true
unfolding follows
settled-kept shard log t at ps h = new-kept log t ((and_parts _ _ ((and_parts _ _ h).0)).1)

closed-kept : (shard : ℕ) (log : List Record) (t : Id) (c : ℕ) (o : Option ℕ) → follows shard log (Closed t c o) ≡ true
    → is_kept (facts_of log).retired t ≡ true
unfolding follows
closed-kept shard log t c o h = new-kept log t ((and_parts _ _ ((and_parts _ _ h).0)).1)

-- what a step logs follows by the rules of one id
by-step : (a b : Bool) → b ≡ false → (a || b) ≡ true → a ≡ true
by-step true b none h = refl
by-step false b none h = sym none ∙ h

lasts-item : (shard : ℕ) (log : List Record) (r : Record) → Lasts shard log → follows shard log r ≡ true
    → follows_next shard (stage_of log) (facts_of log) r ≡ true → fits_facts (facts_of log) r ≡ true → record_ascends r ≡ true
    → IsLasting (learn (facts_of log) r)
unfolding follows_next follows_head learn
lasts-item shard log (Opened e) l h known fits up =
    step-lasting shard (facts_of log) (Opened e) l.lasting up (step-of shard (facts_of log) (Opened e) (by-step _ _ refl known)) fits
lasts-item shard log (Ceiling at) l h known fits up =
    step-lasting shard (facts_of log) (Ceiling at) l.lasting up (step-of shard (facts_of log) (Ceiling at) (by-step _ _ refl known)) fits
lasts-item shard log (Retired below) l h known fits up =
    step-lasting shard (facts_of log) (Retired below) l.lasting up (step-of shard (facts_of log) (Retired below) (by-step _ _ refl known)) fits
lasts-item shard log (Horizon at) l h known fits up =
    step-lasting shard (facts_of log) (Horizon at) l.lasting up (step-of shard (facts_of log) (Horizon at) (by-step _ _ refl known)) fits
lasts-item shard log (Prepare p) l h known fits up =
    step-lasting shard (facts_of log) (Prepare p) l.lasting up (step-of shard (facts_of log) (Prepare p) (by-step _ _ refl known)) fits
lasts-item shard log (Commit c) l h known fits up =
    step-lasting shard (facts_of log) (Commit c) l.lasting up (step-of shard (facts_of log) (Commit c) (by-step _ _ refl known)) fits
lasts-item shard log (Abort t) l h known fits up =
    step-lasting shard (facts_of log) (Abort t) l.lasting up (step-of shard (facts_of log) (Abort t) (by-step _ _ refl known)) fits
lasts-item shard log (Outcome t o) l h known fits up =
    step-lasting shard (facts_of log) (Outcome t o) l.lasting up (step-of shard (facts_of log) (Outcome t o) (by-step _ _ refl known)) fits
lasts-item shard log (Base e f n) l h known fits up =
    subst (λ x. IsLasting (learn x (Base e f n))) (sym (ap facts_of (base_first shard log e f n h) ∙ nothing-known))
    (based-lasting e f n (under-floor shard log e f n h))
lasts-item shard log (Version v) l h known fits up =
    version-lasting (facts_of log) v l.lasting (version_above shard log v l.so_far known)
lasts-item shard log (Settled t at ps) l h known fits up =
    ended-lasting (facts_of log) (max (facts_of log).floor at) t (HasSettled at ps) l.lasting (omega arith) (settled-kept shard log t at ps h) (omega arith) refl
lasts-item shard log (Closed t c None) l h known fits up =
    ended-lasting (facts_of log) (facts_of log).floor t (HasClosed c None) l.lasting (omega arith) (closed-kept shard log t c None h) tt refl
lasts-item shard log (Closed t c (Some at)) l h known fits up =
    ended-lasting (facts_of log) (max (facts_of log).floor at) t (HasClosed c (Some at)) l.lasting (omega arith)
    (closed-kept shard log t c (Some at) h) (omega arith) refl

-- a list of records that is followed, with one more
on : (shard : ℕ) (log : List Record) (r : Record) → followed shard log ≡ true → (begins log r && follows shard log r) ≡ true
    → followed shard (log ++ r ∷ []) ≡ true
on shard log r before h = followed_more shard log r ∙ ap (λ b. b && (begins log r && follows shard log r)) before ∙ h

lasts-more : (shard : ℕ) (log : List Record) (r : Record) → Lasts shard log → (begins log r && follows shard log r) ≡ true
    → fits_facts (facts_of log) r ≡ true → record_ascends r ≡ true → Lasts shard (log ++ r ∷ [])
lasts-more shard log r l h fits up =
    let more = on shard log r l.so_far h in
    record {
      so_far = more;
      lasting = subst IsLasting (sym (learn_agrees shard log r more))
          (lasts-item shard log r l ((and_parts _ _ h).1) (sym (follows_as_known shard log r l.so_far) ∙ more) fits up);
    }

-- ---- all of it

lasts-all : (shard : ℕ) (before log : List Record) → Lasts shard before → followed_from shard before log ≡ true → AllFit (facts_of before) log
    → list_all record_ascends log ≡ true → Lasts shard (before ++ log)
lasts-all shard before [] l h fits up = subst (Lasts shard) (sym (append-nil before)) l
lasts-all shard before (r ∷ rs) l h fits up =
    let parts = and_parts _ _ up in
    let come = and_parts _ _ h in
    subst (Lasts shard) (append_assoc before (r ∷ []) rs)
    (lasts-all shard (before ++ r ∷ []) rs (lasts-more shard before r l come.0 fits.0 parts.0) come.1
    (subst (λ x. AllFit x rs) (sym (learn_agrees shard before r (on shard before r l.so_far come.0))) fits.1) parts.1)

nothing-lasting : IsLasting no_facts
nothing-lasting = record {
  regular = record { order = tt; placed = tt; rising = rise_none []; covered = tt; under = omega arith; kept = tt };
  entries = refl;
}

nothing-lasts : (shard : ℕ) → Lasts shard []
nothing-lasts shard = record {
  so_far = nothing-followed shard;
  lasting = subst IsLasting (sym nothing-known) nothing-lasting;
}

pub log-lasts : LogLasts
unfolding followed
log-lasts shard log h fits up =
    (lasts-all shard [] log (nothing-lasts shard) h (subst (λ x. AllFit x log) (sym nothing-known) fits) up).lasting

-- ---- a log that is taken

none-bounded : IsBounded no_facts
none-bounded = record { order = tt; placed = tt; covered = tt; under = omega arith; kept = tt }

based-bounded : (e f h : ℕ) → h ≤ f → IsBounded (learn no_facts (Base e f h))
unfolding learn
based-bounded e f h le = record { order = tt; placed = tt; covered = tt; under = omega (arith, le); kept = tt }

bounded-item : (shard : ℕ) (log : List Record) (r : Record) → IsBounded (facts_of log) → follows shard log r ≡ true
    → follows_next shard (stage_of log) (facts_of log) r ≡ true → IsBounded (learn (facts_of log) r)
unfolding follows_next follows_head learn
bounded-item shard log (Opened e) b h known = bounded-stays shard (facts_of log) (Opened e) b refl
bounded-item shard log (Ceiling at) b h known = bounded-stays shard (facts_of log) (Ceiling at) b refl
bounded-item shard log (Retired below) b h known =
    bounded-stays shard (facts_of log) (Retired below) b (step-of shard (facts_of log) (Retired below) (by-step _ _ refl known))
bounded-item shard log (Horizon at) b h known =
    bounded-stays shard (facts_of log) (Horizon at) b (step-of shard (facts_of log) (Horizon at) (by-step _ _ refl known))
bounded-item shard log (Prepare p) b h known =
    bounded-stays shard (facts_of log) (Prepare p) b (step-of shard (facts_of log) (Prepare p) (by-step _ _ refl known))
bounded-item shard log (Commit c) b h known =
    bounded-stays shard (facts_of log) (Commit c) b (step-of shard (facts_of log) (Commit c) (by-step _ _ refl known))
bounded-item shard log (Abort t) b h known =
    bounded-stays shard (facts_of log) (Abort t) b (step-of shard (facts_of log) (Abort t) (by-step _ _ refl known))
bounded-item shard log (Outcome t o) b h known =
    bounded-stays shard (facts_of log) (Outcome t o) b (step-of shard (facts_of log) (Outcome t o) (by-step _ _ refl known))
bounded-item shard log (Base e f n) b h known =
    subst (λ x. IsBounded (learn x (Base e f n))) (sym (ap facts_of (base_first shard log e f n h) ∙ nothing-known))
    (based-bounded e f n (under-floor shard log e f n h))
bounded-item shard log (Version v) b h known =
    more-bounded (facts_of log) b (max (facts_of log).floor v.at) (omega arith) (v ∷ []) (omega arith, tt)
bounded-item shard log (Settled t at ps) b h known =
    put-bounded (facts_of log) b (max (facts_of log).floor at) (omega arith) t (HasSettled at ps) (settled-kept shard log t at ps h)
    (omega arith)
bounded-item shard log (Closed t c None) b h known =
    put-bounded (facts_of log) b (facts_of log).floor (omega arith) t (HasClosed c None) (closed-kept shard log t c None h) tt
bounded-item shard log (Closed t c (Some at)) b h known =
    put-bounded (facts_of log) b (max (facts_of log).floor at) (omega arith) t (HasClosed c (Some at))
    (closed-kept shard log t c (Some at) h) (omega arith)

bounded-all : (shard : ℕ) (before log : List Record) → followed shard before ≡ true → followed_from shard before log ≡ true
    → IsBounded (facts_of before) → IsBounded (facts_of (before ++ log))
bounded-all shard before [] a h b = subst (λ l. IsBounded (facts_of l)) (sym (append-nil before)) b
bounded-all shard before (r ∷ rs) a h b =
    let come = and_parts _ _ h in
    let more = on shard before r a come.0 in
    subst (λ l. IsBounded (facts_of l)) (append_assoc before (r ∷ []) rs)
    (bounded-all shard (before ++ r ∷ []) rs more come.1
    (subst IsBounded (sym (learn_agrees shard before r more))
    (bounded-item shard before r b ((and_parts _ _ come.0).1) (sym (follows_as_known shard before r a) ∙ more))))

followed-bounded : (shard : ℕ) (log : List Record) → followed shard log ≡ true → IsBounded (facts_of log)
unfolding followed
followed-bounded shard log h = bounded-all shard [] log (nothing-followed shard) h (subst IsBounded (sym nothing-known) none-bounded)

pub taken-lasts : TakenLasts
taken-lasts setup log accepted up =
    let showable = taken_is_showable setup log accepted up in
    record {
      regular = regular (facts_of log) (followed-bounded setup.shard log (accepted_follows setup log accepted)) showable.installs;
      entries = showable.entries;
    }

-- ---- what is said of ids

shard-item : (shard : ℕ) (log : List Record) (r : Record) → follows_next shard (stage_of log) (facts_of log) r ≡ true
    → AllByRecursion (IsOfShard shard) (facts_of log).entries → AllByRecursion (IsOfShard shard) (learn (facts_of log) r).entries
unfolding follows_next follows_facts follows_head learn
shard-item shard log (Prepare p) known all =
    step-of-shard shard (facts_of log) (Prepare p) all ((and_parts _ _ (by-step _ _ refl known)).1)
shard-item shard log (Commit c) known all =
    step-of-shard shard (facts_of log) (Commit c) all ((and_parts _ _ (by-step _ _ refl known)).1)
shard-item shard log (Abort t) known all =
    step-of-shard shard (facts_of log) (Abort t) all ((and_parts _ _ (by-step _ _ refl known)).1)
shard-item shard log (Outcome t o) known all =
    step-of-shard shard (facts_of log) (Outcome t o) all ((and_parts _ _ (by-step _ _ refl known)).1)
shard-item shard log (Retired below) known all =
    step-of-shard shard (facts_of log) (Retired below) all ((and_parts _ _ (by-step _ _ refl known)).1)
shard-item shard log (Settled t at ps) known all =
    let p = and_parts _ _ known in
    put shard (facts_of log).entries t (HasSettled at ps) ((and_parts _ _ ((and_parts _ _ p.0).0)).1, p.1) all
shard-item shard log (Closed t c o) known all =
    let p = and_parts _ _ known in
    put shard (facts_of log).entries t (HasClosed c o) ((and_parts _ _ ((and_parts _ _ p.0).0)).1, p.1) all
shard-item shard log _ known all = all

shard-all : (shard : ℕ) (before log : List Record) → followed shard before ≡ true → followed_from shard before log ≡ true
    → AllByRecursion (IsOfShard shard) (facts_of before).entries → AllByRecursion (IsOfShard shard) (facts_of (before ++ log)).entries
shard-all shard before [] a h all = subst (λ l. AllByRecursion (IsOfShard shard) (facts_of l).entries) (sym (append-nil before)) all
shard-all shard before (r ∷ rs) a h all =
    let come = and_parts _ _ h in
    let more = on shard before r a come.0 in
    subst (λ l. AllByRecursion (IsOfShard shard) (facts_of l).entries) (append_assoc before (r ∷ []) rs)
    (shard-all shard (before ++ r ∷ []) rs more come.1
    (subst (λ (x : Facts). AllByRecursion (IsOfShard shard) x.entries) (sym (learn_agrees shard before r more))
    (shard-item shard before r (sym (follows_as_known shard before r a) ∙ more) all)))

pub log-is-of-shard : LogIsOfShard
unfolding followed
log-is-of-shard shard log h =
    shard-all shard [] log (nothing-followed shard) h (subst (λ (x : Facts). AllByRecursion (IsOfShard shard) x.entries) (sym nothing-known) tt)
