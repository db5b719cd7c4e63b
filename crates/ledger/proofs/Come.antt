-- The records of a renewed log may each come after those before it.
use Rattle.std.specs.List.{AllByRecursion, list_any}
use Rattle.std.specs.Prelude.{IsTrue, nat_lt, nat_eq}
use Rattle.std.proofs.Common.{◌≡◌, ℕ, ◌<◌, ◌≤◌, Bool, true, false, not, ◌&&◌, ◌||◌, cond, List, [], ◌∷◌, ◌++◌, map, filter, Option, Some, None, refl, sym, ap, subst}
use Rattle.std.proofs.Common.{◌∙◌, arith}
use Rattle.std.proofs.lemmas.Bool.{and_parts, and_from}
use Rattle.std.proofs.lemmas.Bool.Decides.{nat_tests}
use Rattle.units.specs.Lists.{gather, head, when}
use Rattle.units.specs.Ids.{Id}
use Rattle.units.specs.ById.{IsById, find_member, with_member}
use Rattle.units.specs.declared.writes.Install.{Install}
use Rattle.units.proofs.IdLaws.{older_not_same}
use Rattle.units.proofs.ByIdLaws.{AllYounger, later_are_younger, by_id-keep, find_before, find-with_other}
use Rattle.units.proofs.Folds.{any_append}
use Rattle.units.proofs.ListLaws.{all_gives, all-keep}
use Rattle.facts.specs.Shown.{status_in}
use Rattle.record.specs.declared.record.Committed.{Committed}
use Rattle.record.specs.declared.record.Prepared.{Prepared}
use Rattle.record.specs.Accepted.{begins, is_base, is_kept, is_new, is_next, is_timed, is_unrecorded, follows, followed, followed_from, may_end, opens, rises}
use Rattle.record.specs.FactLaws.{learnt}
use Rattle.record.specs.Installs.{installs_of}
use Rattle.record.proofs.LearnAgrees.{followed_more, learn_agrees, learnt_agrees}
use Rattle.record.proofs.Sound.{next_last, not_below}
use Rattle.record.specs.Records.{Status, Unrecorded, StandsPrepared, StandsDecided, HasAborted, HasSettled, HasClosed, status_of, status_written, retired_of}
use Rattle.record.specs.Facts.{Facts, TxnStatus, kept_entries, no_facts, facts_of, learn, or_unrecorded, with_status}
use Rattle.record.specs.declared.record.Record.TheVariants.{Prepare, Commit, Abort, Base, Version, Settled, Closed, Retired}
use Rattle.record.specs.declared.record.Record.{Record}
use Rattle.record.proofs.Statuses.{recorded_is}
use Rattle.versions.specs.Ordered.{AscendsByVersion, version_before}
use Rattle.ledger.specs.Keeps.{Alike, IsPlaced, IsOfShard}
use Rattle.ledger.specs.Laws.{TurnedMayCome, TurnedLogKeeps}
use Rattle.ledger.specs.Turned.{turned, versions_held, ended_item, retired_item, standing_item}
use Rattle.ledger.proofs.Entries.{entry, find-next, find-put, id_of, is_ended, or-none, put_all, with_status-is}
use Rattle.ledger.proofs.One.{ordered}
use Rattle.ledger.proofs.Said.{turned-keeps}

-- ---- where the walk is

-- the next record, and some more
abbrev may_come : ℕ → List Record → Record → Bool
may_come shard before r = begins before r && follows shard before r

AllCome : ℕ → List Record → List Record → Type 0
AllCome shard before rs = followed_from shard before rs ≡ true

come-more : (shard : ℕ) (before : List Record) (r : Record) (rs : List Record) → may_come shard before r ≡ true → AllCome shard (before ++ r ∷ []) rs
    → AllCome shard before (r ∷ rs)
unfolding AllCome
come-more shard before r rs comes rest = and_from _ _ comes rest

come-none : (shard : ℕ) (before : List Record) → AllCome shard before []
unfolding AllCome
come-none shard before = refl

-- some records, what they say of the ids, which are retired, and that transactions that ended may come behind them
record At (shard : ℕ) (before : List Record) (acc : List TxnStatus) (rt : Option Id) : Type 0 where
  so_far : followed shard before ≡ true
  entries : (facts_of before).entries ≡ acc
  retired : (facts_of before).retired ≡ rt
  ended : may_end before ≡ true

-- none of the next ids is among those that were read
abbrev pub Fresh : List TxnStatus → List TxnStatus → Type 0
Fresh acc es = AllByRecursion (λ e. find_member id_of acc e.txn ≡ None) es

unrecorded : (shard : ℕ) (before : List Record) (acc : List TxnStatus) (rt : Option Id) (t : Id) → At shard before acc rt → find_member id_of acc t ≡ None
    → status_of before t ≡ Unrecorded
unrecorded shard before acc rt t p none =
    sym (recorded_is before t) ∙ ap (λ l. status_in l t) p.entries ∙ ap or_unrecorded none

fresh-new : (shard : ℕ) (before : List Record) (acc : List TxnStatus) (rt : Option Id) (t : Id) → At shard before acc rt → is_kept rt t ≡ true
    → find_member id_of acc t ≡ None → is_new before t ≡ true
unfolding facts_of status_of
fresh-new shard before acc rt t p kept none =
    let here : is_kept (retired_of before) t ≡ true = ap (λ (b : Option Id). is_kept b t) p.retired ∙ kept in
    and_from _ _
    (ap is_unrecorded (sym (ap (λ b. cond b Unrecorded (status_written before t)) (not_below before t here)) ∙ unrecorded shard before acc rt t p none))
    here

-- an id that is put in leaves those behind it fresh
pub still-fresh : (acc es : List TxnStatus) (t : Id) (s : Status) → AllYounger id_of t es → Fresh acc es → Fresh (with_member id_of acc (entry t s)) es
still-fresh acc [] t s young fresh = tt
still-fresh acc (x ∷ es) t s young fresh =
    (find-with_other id_of acc (entry t s) x.txn (older_not_same t x.txn young.0) ∙ fresh.0, still-fresh acc es t s young.1 fresh.1)

-- behind a record nothing begins
later : (before : List Record) (r : Record) → may_end before ≡ true → begins before r ≡ true
later [] r h = cc
later (x ∷ before) r h = refl

ended-more : (before : List Record) (i : Record) → may_end before ≡ true → opens i ≡ false → may_end (before ++ i ∷ []) ≡ true
ended-more before i h k =
    let parts = and_parts (list_any is_base before) (not (list_any opens before)) h in
    and_from _ _
    (any_append is_base before (i ∷ []) ∙ ap (λ b. b || list_any is_base (i ∷ [])) parts.0)
    (ap (λ b. not b) (any_append opens before (i ∷ []) ∙ ap (λ b. list_any opens before || (b || false)) k ∙ same (list_any opens before))
    ∙ parts.1)
  where
    same : (b : Bool) → (b || false) ≡ b
    same true = refl
    same false = refl

come-on : (shard : ℕ) (before : List Record) (acc : List TxnStatus) (rt : Option Id) (r : Record) (more : List TxnStatus) (now : Option Id)
    → At shard before acc rt → may_come shard before r ≡ true → opens r ≡ false → (learn (facts_of before) r).entries ≡ more
    → (learn (facts_of before) r).retired ≡ now → At shard (before ++ r ∷ []) more now
come-on shard before acc rt r more now p h k e n =
    let on : followed shard (before ++ r ∷ []) ≡ true =
    followed_more shard before r ∙ ap (λ b. b && (begins before r && follows shard before r)) p.so_far ∙ h in
    record {
      so_far = on;
      entries = ap (λ (x : Facts). x.entries) (learn_agrees shard before r on) ∙ e;
      retired = ap (λ (x : Facts). x.retired) (learn_agrees shard before r on) ∙ n;
      ended = ended-more before r p.ended k;
    }

put-entries : (shard : ℕ) (before : List Record) (acc : List TxnStatus) (rt : Option Id) (t : Id) (s : Status) → At shard before acc rt
    → with_status (facts_of before).entries t s ≡ with_member id_of acc (entry t s)
put-entries shard before acc rt t s p = ap (λ l. with_status l t s) p.entries ∙ with_status-is acc t s

-- ---- who ended, who stands

module _ (shard : ℕ) (before : List Record) (ended : may_end before ≡ true) where
  settled-comes : (t : Id) (at : ℕ) (ps : List ℕ) → is_new before t ≡ true → IsTrue (nat_lt 0 at) × IsTrue (when (nat_eq shard) (head ps))
      → may_come shard before (Settled t at ps) ≡ true
  unfolding follows
  settled-comes t at ps new mine =
      and_from _ _ (later before (Settled t at ps) ended) (and_from _ _ (and_from _ _ (and_from _ _ ended mine.0) new) mine.1)

  closed-comes : (t : Id) (c : ℕ) (o : Option ℕ) → is_new before t ≡ true → IsTrue (is_timed o) × IsTrue (nat_lt c shard)
      → may_come shard before (Closed t c o) ≡ true
  unfolding follows
  closed-comes t c o new mine =
      and_from _ _ (later before (Closed t c o) ended) (and_from _ _ (and_from _ _ (and_from _ _ ended mine.0) new) mine.1)

  aborted-comes : (t : Id) → is_new before t ≡ true → may_come shard before ((Abort t)) ≡ true
  unfolding follows
  aborted-comes t new = and_from _ _ (later before ((Abort t)) ended) new

  prepared-comes : (q : Prepared) → is_new before q.txn ≡ true → IsTrue (nat_lt 0 q.at) → IsTrue (nat_lt q.coordinator shard)
      → may_come shard before ((Prepare q)) ≡ true
  unfolding follows
  prepared-comes q new above below = and_from _ _ (later before ((Prepare q)) ended) (and_from _ _ (and_from _ _ above new) below)

  decided-comes : (c : Committed) → is_new before c.txn ≡ true → IsTrue (nat_lt 0 c.at) → IsTrue (when (nat_eq shard) (head c.parts))
      → may_come shard before ((Commit c)) ≡ true
  unfolding follows
  decided-comes c new above least = and_from _ _ (later before ((Commit c)) ended) (and_from _ _ (and_from _ _ above new) least)

-- those that stand are not among those that ended
apart : (test : TxnStatus → Bool) (es : List TxnStatus) → IsById id_of es
    → AllByRecursion (λ e. find_member id_of (filter test es) e.txn ≡ None) (filter (λ x. not (test x)) es)
apart test [] up = tt
apart test (x ∷ es) up = by_test (test x) (apart test es up.1)
  where
    young : AllYounger id_of x.txn es
    young = later_are_younger id_of x es up

    with-first : (ys : List TxnStatus) → AllYounger id_of x.txn ys → AllByRecursion (λ e. find_member id_of (filter test es) e.txn ≡ None) ys
        → AllByRecursion (λ e. find_member id_of (x ∷ filter test es) e.txn ≡ None) ys
    with-first [] y all = tt
    with-first (e ∷ ys) y all = (find-next x (filter test es) e.txn (older_not_same x.txn e.txn y.0) ∙ all.0, with-first ys y.1 all.1)

    by_test : (b : Bool) → AllByRecursion (λ e. find_member id_of (filter test es) e.txn ≡ None) (filter (λ x. not (test x)) es)
        → AllByRecursion (λ e. find_member id_of (cond b (x ∷ filter test es) (filter test es)) e.txn ≡ None)
        (cond (not b) (x ∷ filter (λ x. not (test x)) es) (filter (λ x. not (test x)) es))
    by_test true rest = with-first (filter (λ x. not (test x)) es) (all-keep _ (λ x. not (test x)) es young) rest
    by_test false rest = (find_before id_of (filter test es) x.txn (all-keep _ test es young), rest)

-- ---- the walk

ended-come : (shard : ℕ) (rt : Option Id) (es : List TxnStatus) (before : List Record) (acc : List TxnStatus) (rest : List Record) → At shard before acc rt
    → Fresh acc (filter is_ended es) → IsById id_of es → AllByRecursion (λ (e : TxnStatus). IsTrue (is_kept rt e.txn)) es
    → AllByRecursion (IsOfShard shard) es → ((last : List Record) → At shard last (put_all acc (filter is_ended es)) rt → AllCome shard last rest)
    → AllCome shard before (gather ended_item es ++ rest)
unfolding learn
ended-come shard rt [] before acc rest p fresh up kept mine go = go before p
ended-come shard rt (x ∷ es) before acc rest p fresh up kept mine go =
    by_status x.txn x.status fresh kept.0 mine.0 (later_are_younger id_of x es up) go
    (λ more items q fr k. ended-come shard rt es items more rest q fr up.1 kept.1 mine.1 k)
  where
    by_status : (t : Id) (s : Status) → Fresh acc (filter is_ended (entry t s ∷ es)) → is_kept rt t ≡ true → IsOfShard shard (entry t s)
        → AllYounger id_of t es
        → ((last : List Record) → At shard last (put_all acc (filter is_ended (entry t s ∷ es))) rt → AllCome shard last rest)
        → ((more : List TxnStatus) (items : List Record) → At shard items more rt → Fresh more (filter is_ended es)
        → ((last : List Record) → At shard last (put_all more (filter is_ended es)) rt → AllCome shard last rest)
        → AllCome shard items (gather ended_item es ++ rest))
        → AllCome shard before (gather ended_item (entry t s ∷ es) ++ rest)
    by_status t Unrecorded fr kt m y k on = absurd m
    by_status t (StandsPrepared q) fr kt m y k on = on acc before p fr k
    by_status t (StandsDecided c) fr kt m y k on = on acc before p fr k
    by_status t HasAborted fr kt m y k on =
        let comes = aborted-comes shard before p.ended t (fresh-new shard before acc rt t p kt fr.0) in
        come-more shard before (Abort t) _ comes (
        on (with_member id_of acc (entry t HasAborted)) (before ++ (Abort t) ∷ [])
        (come-on shard before acc rt ((Abort t)) _ rt p comes refl (put-entries shard before acc rt t HasAborted p) p.retired) (still-fresh acc
        (filter is_ended es) t HasAborted (all-keep _ is_ended es y) fr.1) k
        )
    by_status t (HasSettled at ps) fr kt m y k on =
        let comes = settled-comes shard before p.ended t at ps (fresh-new shard before acc rt t p kt fr.0) m in
        come-more shard before (Settled t at ps) _ comes (
        on (with_member id_of acc (entry t (HasSettled at ps))) (before ++ Settled t at ps ∷ [])
        (come-on shard before acc rt (Settled t at ps) _ rt p comes refl (put-entries shard before acc rt t (HasSettled at ps) p) p.retired) (still-fresh acc
        (filter is_ended es) t (HasSettled at ps) (all-keep _ is_ended es y) fr.1) k
        )
    by_status t (HasClosed c o) fr kt m y k on =
        let comes = closed-comes shard before p.ended t c o (fresh-new shard before acc rt t p kt fr.0) m in
        come-more shard before (Closed t c o) _ comes (
        on (with_member id_of acc (entry t (HasClosed c o))) (before ++ Closed t c o ∷ [])
        (come-on shard before acc rt (Closed t c o) _ rt p comes refl (put-entries shard before acc rt t (HasClosed c o) p) p.retired) (still-fresh acc (filter is_ended es) t
        (HasClosed c o) (all-keep _ is_ended es y) fr.1) k
        )

standing-come : (shard f : ℕ) (rt : Option Id) (es : List TxnStatus) (before : List Record) (acc : List TxnStatus) → At shard before acc rt
    → Fresh acc (filter (λ x. not (is_ended x)) es) → IsById id_of es → AllByRecursion (λ (e : TxnStatus). IsTrue (is_kept rt e.txn)) es
    → AllByRecursion (IsPlaced f) es → AllByRecursion (IsOfShard shard) es → AllCome shard before (gather standing_item es)
unfolding learn
standing-come shard f rt [] before acc p fresh up kept placed mine = come-none shard before
standing-come shard f rt (x ∷ es) before acc p fresh up kept placed mine =
    by_status x.txn x.status fresh kept.0 placed.0 mine.0 (later_are_younger id_of x es up)
    (λ more items q fr. standing-come shard f rt es items more q fr up.1 kept.1 placed.1 mine.1)
  where
    by_status : (t : Id) (s : Status) → Fresh acc (filter (λ x. not (is_ended x)) (entry t s ∷ es)) → is_kept rt t ≡ true → IsPlaced f (entry t s)
        → IsOfShard shard (entry t s) → AllYounger id_of t es
        → ((more : List TxnStatus) (items : List Record) → At shard items more rt → Fresh more (filter (λ x. not (is_ended x)) es)
        → AllCome shard items (gather standing_item es))
        → AllCome shard before (gather standing_item (entry t s ∷ es))
    by_status t Unrecorded fr kt pl m y on = absurd m
    by_status t (StandsPrepared q) fr kt pl m y on =
        let comes = prepared-comes shard before p.ended q (fresh-new shard before acc rt q.txn p (ap (is_kept rt) pl.0 ∙ kt)
        (ap (find_member id_of acc) pl.0 ∙ fr.0)) m.0 m.1 in
        come-more shard before (Prepare q) _ comes (
        on (with_member id_of acc (entry t (StandsPrepared q))) (before ++ (Prepare q) ∷ [])
        (come-on shard before acc rt ((Prepare q)) _ rt p comes refl (ap (λ u. with_status (facts_of before).entries u
        (StandsPrepared q)) pl.0 ∙ put-entries shard before acc rt t (StandsPrepared q) p) p.retired)
        (still-fresh acc (filter (λ x. not (is_ended x)) es) t (StandsPrepared q) (all-keep _ (λ x. not (is_ended x)) es y) fr.1)
        )
    by_status t (StandsDecided c) fr kt pl m y on =
        let comes = decided-comes shard before p.ended c (fresh-new shard before acc rt c.txn p (ap (is_kept rt) pl.0 ∙ kt)
        (ap (find_member id_of acc) pl.0 ∙ fr.0)) m.0 m.1 in
        come-more shard before (Commit c) _ comes (
        on (with_member id_of acc (entry t (StandsDecided c))) (before ++ (Commit c) ∷ [])
        (come-on shard before acc rt ((Commit c)) _ rt p comes refl (ap (λ u. with_status (facts_of before).entries u
        (StandsDecided c)) pl.0 ∙ put-entries shard before acc rt t (StandsDecided c) p) p.retired)
        (still-fresh acc (filter (λ x. not (is_ended x)) es) t (StandsDecided c) (all-keep _ (λ x. not (is_ended x)) es y) fr.1)
        )
    by_status t _ fr kt pl m y on = on acc before p fr

-- ---- the versions

-- the first of them may come
abbrev MayGoOn : List Record → List Install → Type 0
MayGoOn before [] = Unit {0}
MayGoOn before (v ∷ vs) = is_next before v ≡ true

versions-come : (shard : ℕ) (vs : List Install) (before rest : List Record) → At shard before [] None → MayGoOn before vs → AscendsByVersion vs
    → ((last : List Record) → At shard last [] None → AllCome shard last rest) → AllCome shard before (map Version vs ++ rest)
unfolding follows learn
versions-come shard [] before rest p first up go = go before p
versions-come shard (v ∷ vs) before rest p first up go =
    let comes : may_come shard before (Version v) ≡ true = and_from _ _ (later before (Version v) p.ended) first in
    come-more shard before (Version v) _ comes
    (versions-come shard vs (before ++ Version v ∷ []) rest (come-on shard before [] None (Version v) [] None p comes refl p.entries p.retired) (goes vs up.0) up.1 go)
  where
    goes : (ws : List Install) → AllByRecursion (λ w. IsTrue (version_before v w)) ws → MayGoOn (before ++ Version v ∷ []) ws
    goes [] all = tt
    goes (w ∷ ws) all = next_last before (Version v) w ∙ all.0

-- the id below which all are retired, behind versions
retired-come : (shard : ℕ) (rt : Option Id) (before rest : List Record) → At shard before [] None
    → ((last : List Record) → At shard last [] rt → AllCome shard last rest) → AllCome shard before (retired_item rt ++ rest)
unfolding facts_of follows learn
retired-come shard None before rest p go = go before p
retired-come shard (Some below) before rest p go =
    let comes : may_come shard before (Retired below) ≡ true =
    and_from _ _ (later before (Retired below) p.ended) (ap (λ (b : Option Id). rises b below) p.retired) in
    come-more shard before (Retired below) rest comes
    (go (before ++ Retired below ∷ [])
    (come-on shard before [] None (Retired below) [] (Some below) p comes refl (ap (kept_entries (Some below)) p.entries) refl))

all-fresh : (es : List TxnStatus) → Fresh [] es
all-fresh [] = tt
all-fresh (e ∷ es) = (refl, all-fresh es)

-- none that stands is among those that ended
pub not-among : (es : List TxnStatus) → IsById id_of es → Fresh (put_all [] (filter is_ended es)) (filter (λ x. not (is_ended x)) es)
not-among es up =
    all_gives (λ e. find_member id_of (filter is_ended es) e.txn ≡ None) (λ e. find_member id_of (put_all [] (filter is_ended es)) e.txn ≡ None)
    (λ e none. find-put [] (filter is_ended es) e.txn (by_id-keep id_of is_ended es up) ∙ or-none _ ∙ none) (filter (λ x. not (is_ended x)) es)
    (apart is_ended es up)

-- ---- all of it

base-comes : (shard e f h : ℕ) → 0 < e → h ≤ f → may_come shard [] (Base e f h) ≡ true
unfolding follows
base-comes shard e f h above le = grind (arith, nat_tests)

from-start : (shard : ℕ) (rs : List Record) → AllCome shard [] rs → followed shard rs ≡ true
unfolding AllCome followed
from-start shard rs h = h

nothing-followed : (shard : ℕ) → followed shard [] ≡ true
unfolding followed
nothing-followed shard = refl

nothing-read : (facts_of []).entries ≡ []
unfolding facts_of
nothing-read = refl

none-retired : (facts_of []).retired ≡ None
unfolding facts_of
none-retired = refl

based-at : (shard e f h : ℕ) → may_come shard [] (Base e f h) ≡ true → At shard (Base e f h ∷ []) [] None
unfolding learn
based-at shard e f h comes =
    let on : followed shard (Base e f h ∷ []) ≡ true =
    followed_more shard [] (Base e f h) ∙ ap (λ b. b && (begins [] (Base e f h) && follows shard [] (Base e f h))) (nothing-followed shard) ∙ comes in
    record {
      so_far = on;
      entries = ap (λ (x : Facts). x.entries) (learn_agrees shard [] (Base e f h) on) ∙ nothing-read;
      retired = ap (λ (x : Facts). x.retired) (learn_agrees shard [] (Base e f h) on) ∙ none-retired;
      ended = refl;
    }

pub turned-may_come : TurnedMayCome
unfolding turned
turned-may_come shard facts opened r mine =
    let es = facts.entries in
    let base : Record = Base facts.epoch facts.floor facts.horizon in
    let comes = base-comes shard facts.epoch facts.floor facts.horizon opened r.under in
    let rt = facts.retired in
    let start : At shard (base ∷ []) [] None = based-at shard facts.epoch facts.floor facts.horizon comes in
    from-start shard _ (come-more shard [] base _ comes
    (versions-come shard (versions_held facts) (base ∷ []) (retired_item rt ++ (gather ended_item es ++ gather standing_item es)) start (goes (versions_held facts))
    (ordered facts r)
    (λ before p. retired-come shard rt before (gather ended_item es ++ gather standing_item es) p
    (λ last p. ended-come shard rt es last [] (gather standing_item es) p (all-fresh (filter is_ended es)) r.order r.kept mine
    (λ last_too q. standing-come shard facts.floor rt es last_too (put_all [] (filter is_ended es)) q (not-among es r.order) r.order r.kept r.placed mine)))))
  where
    goes : (vs : List Install) → MayGoOn (Base facts.epoch facts.floor facts.horizon ∷ []) vs
    goes [] = tt
    goes (v ∷ vs) = refl

nothing-known : facts_of [] ≡ no_facts
unfolding facts_of installs_of
nothing-known = refl

pub turned-log-keeps : TurnedLogKeeps
turned-log-keeps shard facts opened r mine =
    subst (Alike facts)
    (ap (λ x. learnt x (turned facts)) (sym nothing-known) ∙ learnt_agrees shard (turned facts) (turned-may_come shard facts opened r mine))
    (turned-keeps facts r)
