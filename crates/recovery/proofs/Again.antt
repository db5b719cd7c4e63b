-- What a record makes of the memory, made once more of the memory that the records before it leave.
use Rattle.std.proofs.Common.{◌≡◌, ℕ, Bool, true, false, not, cond, filter, max, List, [], ◌∷◌, ◌++◌, Option, Some, None, refl, sym, ap, subst, ◌∙◌}
use Rattle.std.specs.List.{AllByRecursion, list_all}
use Rattle.std.proofs.lemmas.Bool.{false≢true, and_parts}
use Rattle.units.specs.Lists.{follow, gather, when}
use Rattle.units.specs.Ids.{Id, older}
use Rattle.units.specs.ById.{IsById, find_member}
use Rattle.units.proofs.ByIdLaws.{by_id-keep}
use Rattle.units.proofs.ListLaws.{all-keep}
use Rattle.units.specs.Keys.{Bytes}
use Rattle.units.specs.Locks.{exclusive, locks_of, shared, with_locks}
use Rattle.units.specs.declared.writes.Write.{Write}
use Rattle.record.specs.Facts.{TxnStatus, Facts, after_outcome, kept_entries, learn, or_floor, or_unrecorded, recorded, with_status}
use Rattle.record.specs.Records.{Status, Unrecorded, StandsPrepared, StandsDecided, HasAborted, HasSettled, HasClosed}
use Rattle.record.specs.declared.record.Committed.{Committed}
use Rattle.record.specs.declared.record.Prepared.{Prepared}
use Rattle.record.specs.declared.record.Record.{Record}
use Rattle.message.specs.declared.message.Envelope.{Envelope}
use Rattle.facts.specs.Rules.{allows, follows_facts, id_follows}
use Rattle.protocol.specs.Rows.{held_by, held_in, Phase, Row, IsPrepared, IsDecided, find_row, rebuilt, standing_row, with_row, without_row}
use Rattle.protocol.specs.Plan.{carried, after_change, ended_by}
use Rattle.protocol.specs.Beside.{fits_facts}
use Rattle.protocol.specs.Plan as protocol
use Rattle.protocol.proofs.FitsBeside.{unrecorded_is}
use Rattle.protocol.proofs.StatusChanges.{by_id-status}
use Rattle.memory.specs.Carry.{MayDrop}
use Rattle.memory.specs.Kept.{Kept}
use Rattle.memory.specs.CodeRows.{may_abort, may_close}
use Rattle.recovery.specs.Recovered.{IsOwn, IsRecovered}
use Rattle.recovery.proofs.Beside.{fresh_absent, rows_are}
use Rattle.recovery.proofs.Locking.{with_locks-append}
use Rattle.recovery.proofs.StandingRows.{found, own-status, row_gone, row_put}

-- the id that a promise, a decision or an abort is of
abbrev pub names : Record → Option Id
names (Record.Prepare p) = Some p.txn
names (Record.Commit c) = Some c.txn
names (Record.Abort t) = Some t
names (Record.Opened epoch) = None
names (Record.Ceiling at) = None
names (Record.Horizon at) = None
names (Record.Outcome t outcome) = None
names (Record.Base e f n) = None
names (Record.Version i) = None
names (Record.Settled u at parts) = None
names (Record.Closed u coordinator q) = None
names (Record.Retired below) = None

-- ---- records that change no row

pub opens_again : (k : Kept) (epoch last : ℕ) (logged : Option Record) (p : protocol.Plan) → IsRecovered k → last ≡ k.memory.last
    → p ≡ record { wounded = []; change = protocol.Keeps; logged = logged; last = last; outbox = [] }
    → carried p k.memory ≡ rebuilt (learn k.facts (Record.Opened epoch))
unfolding carried after_change ended_by rebuilt learn
opens_again k epoch last logged p recovered same plan =
    ap (λ q. carried q k.memory) plan
    ∙ ap (λ n. record { last = n; rows = k.memory.rows; ended = k.memory.ended }) same
    ∙ ap (λ m. record { last = m.last; rows = m.rows; ended = m.ended }) recovered.memory

pub serves_again : (k : Kept) (at last : ℕ) (logged : Option Record) (p : protocol.Plan) → IsRecovered k → last ≡ max k.memory.last at
    → p ≡ record { wounded = []; change = protocol.Keeps; logged = logged; last = last; outbox = [] }
    → carried p k.memory ≡ rebuilt (learn k.facts (Record.Ceiling at))
unfolding carried after_change ended_by rebuilt learn
serves_again k at last logged p recovered same plan =
    ap (λ q. carried q k.memory) plan
    ∙ ap (λ n. record { last = n; rows = k.memory.rows; ended = k.memory.ended }) same
    ∙ ap (λ m. record { last = max m.last at; rows = m.rows; ended = m.ended }) recovered.memory

pub forgets_again : (k : Kept) (at last : ℕ) (logged : Option Record) (p : protocol.Plan) → IsRecovered k → last ≡ k.memory.last
    → p ≡ record { wounded = []; change = protocol.Keeps; logged = logged; last = last; outbox = [] }
    → carried p k.memory ≡ rebuilt (learn k.facts (Record.Horizon at))
unfolding carried after_change ended_by rebuilt learn
forgets_again k at last logged p recovered same plan =
    ap (λ q. carried q k.memory) plan
    ∙ ap (λ n. record { last = n; rows = k.memory.rows; ended = k.memory.ended }) same
    ∙ ap (λ m. record { last = m.last; rows = m.rows; ended = m.ended }) recovered.memory

-- ---- a retirement

-- no row that stands is of a retired id
rows_stay : (below : Id) (es : List TxnStatus) → AllByRecursion IsOwn es → list_all (λ r. not (older r.txn below)) (gather standing_row es) ≡ true
    → gather standing_row (kept_entries (Some below) es) ≡ gather standing_row es
rows_stay below [] own none = refl
rows_stay below (e ∷ es) own none = by_status e.status own.0 none (rows_stay below es own.1)
  where
    left : List TxnStatus
    left = kept_entries (Some below) es

    dropped : (b : Bool) (x : TxnStatus) → standing_row x ≡ None → gather standing_row (cond b (x ∷ left) left) ≡ gather standing_row left
    dropped true x e = ap (λ o. elim o as (λ _. List Row) [ None ↦ gather standing_row left | Some r ↦ r ∷ gather standing_row left ]) e
    dropped false x e = refl

    stands : (t : Id) (r : Row) (x : TxnStatus) → t ≡ e.txn → standing_row x ≡ Some r → not (older t below) ≡ true
        → gather standing_row (cond (not (older e.txn below)) (x ∷ left) left) ≡ r ∷ gather standing_row left
    stands t r x own some kept =
        ap (λ b. gather standing_row (cond b (x ∷ left) left)) (ap (λ u. not (older u below)) (sym own) ∙ kept)
        ∙ ap (λ o. elim o as (λ _. List Row) [ None ↦ gather standing_row left | Some q ↦ q ∷ gather standing_row left ]) some

    by_status : (s : Status) → IsOwn (record { txn = e.txn; status = s })
        → list_all (λ r. not (older r.txn below)) (gather standing_row (record { txn = e.txn; status = s } ∷ es)) ≡ true
        → (list_all (λ r. not (older r.txn below)) (gather standing_row es) ≡ true → gather standing_row left ≡ gather standing_row es)
        → gather standing_row (cond (not (older e.txn below)) (record { txn = e.txn; status = s } ∷ left) left)
        ≡ gather standing_row (record { txn = e.txn; status = s } ∷ es)
    by_status (StandsPrepared p) own none rest =
        let parts = and_parts _ _ none in
        let row : Row = record { txn = p.txn; held = locks_of p.reads p.writes; phase = IsPrepared p.coordinator p.at } in
        stands p.txn row (record { txn = e.txn; status = StandsPrepared p }) own refl parts.0 ∙ ap (λ rs. row ∷ rs) (rest parts.1)
    by_status (StandsDecided c) own none rest =
        let parts = and_parts _ _ none in
        let row : Row = record { txn = c.txn; held = locks_of c.reads c.writes; phase = IsDecided c.at c.parts } in
        stands c.txn row (record { txn = e.txn; status = StandsDecided c }) own refl parts.0 ∙ ap (λ rs. row ∷ rs) (rest parts.1)
    by_status Unrecorded own none rest = dropped (not (older e.txn below)) (record { txn = e.txn; status = Unrecorded }) refl ∙ rest none
    by_status HasAborted own none rest = dropped (not (older e.txn below)) (record { txn = e.txn; status = HasAborted }) refl ∙ rest none
    by_status (HasSettled at ps) own none rest = dropped (not (older e.txn below)) (record { txn = e.txn; status = HasSettled at ps }) refl ∙ rest none
    by_status (HasClosed c o) own none rest = dropped (not (older e.txn below)) (record { txn = e.txn; status = HasClosed c o }) refl ∙ rest none

pub retires_again : (k : Kept) (below : Id) (last : ℕ) (logged : Option Record) (p : protocol.Plan) → IsRecovered k → last ≡ k.memory.last
    → fits_facts k.facts (Record.Retired below) ≡ true
    → p ≡ record { wounded = []; change = protocol.Retires below; logged = logged; last = last; outbox = [] }
    → carried p k.memory ≡ rebuilt (learn k.facts (Record.Retired below))
unfolding carried after_change ended_by rebuilt learn
retires_again k below last logged p recovered same fits plan =
    ap (λ q. carried q k.memory) plan
    ∙ ap (λ n. record { last = n; rows = k.memory.rows; ended = filter (λ t. not (older t below)) k.memory.ended }) same
    ∙ ap (λ m. record { last = m.last; rows = m.rows; ended = filter (λ t. not (older t below)) m.ended }) recovered.memory
    ∙ ap (λ rs. record { last = k.facts.floor; rows = rs; ended = [] }) (sym (rows_stay below k.facts.entries recovered.own fits))

-- ---- a promise or a decision

-- the row is put, with the locks of the record
stands_again : (k : Kept) (t : Id) (s : Status) (at : ℕ) (rs : List Bytes) (ws : List Write) (phase : Phase) (logged : Option Record) (last : ℕ)
    (after : Facts) (p : protocol.Plan)
    → IsRecovered k → recorded k.facts t ≡ Unrecorded → IsOwn (record { txn = t; status = s })
    → standing_row (record { txn = t; status = s }) ≡ Some (record { txn = t; held = locks_of rs ws; phase = phase })
    → after.entries ≡ with_status k.facts.entries t s → after.floor ≡ max k.facts.floor at → last ≡ max k.memory.last at
    → p ≡ record { wounded = []; change = protocol.Puts t (shared rs ++ exclusive ws) phase; logged = logged; last = last; outbox = [] }
    → carried p k.memory ≡ rebuilt after
unfolding carried after_change ended_by rebuilt
stands_again k t s at rs ws phase logged last after p recovered fresh own stands put floor late plan =
    let absent : find_row k.memory.rows t ≡ None = fresh_absent k t recovered fresh in
    let nothing : held_in k.memory.rows t ≡ [] = ap held_by absent in
    let held : with_locks (held_in k.memory.rows t) (shared rs ++ exclusive ws) ≡ locks_of rs ws =
    ap (λ hs. with_locks hs (shared rs ++ exclusive ws)) nothing ∙ with_locks-append [] (shared rs) (exclusive ws) in
    let rows : with_row k.memory.rows (record { txn = t; held = with_locks (held_in k.memory.rows t) (shared rs ++ exclusive ws); phase = phase }) ≡
    gather standing_row after.entries =
    ap (λ ls. with_row k.memory.rows (record { txn = t; held = ls; phase = phase })) held
    ∙ ap (λ rows. with_row rows (record { txn = t; held = locks_of rs ws; phase = phase })) (rows_are k recovered)
    ∙ row_put k.facts.entries t s (record { txn = t; held = locks_of rs ws; phase = phase }) recovered.order recovered.own own stands refl
    ∙ ap (gather standing_row) (sym put) in
    let same : last ≡ after.floor = late ∙ ap (λ m. max m.last at) recovered.memory ∙ sym floor in
    let ended : k.memory.ended ≡ [] = ap (λ m. m.ended) recovered.memory in
    ap (λ q. carried q k.memory) plan
    ∙ ap (λ n. record {
      last = n;
      rows = with_row k.memory.rows
          (record { txn = t; held = with_locks (held_in k.memory.rows t) (shared rs ++ exclusive ws); phase = phase });
      ended = k.memory.ended;
    }) same
    ∙ ap (λ rs. record { last = after.floor; rows = rs; ended = k.memory.ended }) rows
    ∙ ap (λ ids. record { last = after.floor; rows = gather standing_row after.entries; ended = ids }) ended

-- ---- the end of one

-- the row goes
drops_again : (k : Kept) (t : Id) (s : Status) (last : ℕ) (item : Record) (out : List Envelope) (after : Facts) (p : protocol.Plan)
    → IsRecovered k → IsOwn (record { txn = t; status = s }) → standing_row (record { txn = t; status = s }) ≡ None
    → after.entries ≡ with_status k.facts.entries t s → after.floor ≡ last → p ≡ protocol.drops t item last out
    → carried p k.memory ≡ rebuilt after
unfolding carried after_change ended_by rebuilt
drops_again k t s last item out after p recovered own stands put floor plan =
    let rows : without_row k.memory.rows t ≡ gather standing_row after.entries =
    ap (λ rows. without_row rows t) (rows_are k recovered)
    ∙ row_gone k.facts.entries t s recovered.order recovered.own own stands
    ∙ ap (gather standing_row) (sym put) in
    let ended : k.memory.ended ≡ [] = ap (λ m. m.ended) recovered.memory in
    ap (λ q. carried q k.memory) plan
    ∙ ap (λ n. record { last = n; rows = without_row k.memory.rows t; ended = k.memory.ended }) (sym floor)
    ∙ ap (λ rs. record { last = after.floor; rows = rs; ended = k.memory.ended }) rows
    ∙ ap (λ ids. record { last = after.floor; rows = gather standing_row after.entries; ended = ids }) ended

-- ---- each kind

-- the rules of one id, of a record that follows
pub id_rules : (shard : ℕ) (facts : Facts) (r : Record) → follows_facts shard facts r ≡ true → id_follows shard facts r ≡ true
unfolding follows_facts
id_rules shard facts (Record.Opened epoch) follows = refl
id_rules shard facts (Record.Ceiling at) follows = refl
id_rules shard facts (Record.Base e f n) follows = absurd (false≢true follows)
id_rules shard facts (Record.Version i) follows = absurd (false≢true follows)
id_rules shard facts (Record.Settled u at parts) follows = absurd (false≢true follows)
id_rules shard facts (Record.Closed u coordinator q) follows = absurd (false≢true follows)
id_rules shard facts _ follows = (and_parts _ _ follows).1

-- of a promise, a decision or an abort nothing was recorded before
fresh_before : (shard : ℕ) (facts : Facts) (r : Record) (t : Id) → follows_facts shard facts r ≡ true → names r ≡ Some t → recorded facts t ≡ Unrecorded
fresh_before shard facts r t follows named = by_record r (id_rules shard facts r follows) named
  where
    by_record : (r : Record) → id_follows shard facts r ≡ true → names r ≡ Some t → recorded facts t ≡ Unrecorded
    by_record (Record.Prepare p) h k =
        let same : p.txn ≡ t = cc in subst (λ u. recorded facts u ≡ Unrecorded) same (unrecorded_is (recorded facts p.txn)
        (and_parts _ _ (and_parts _ _ (and_parts _ _ h).0).1).0)
    by_record (Record.Commit c) h k =
        let same : c.txn ≡ t = cc in subst (λ u. recorded facts u ≡ Unrecorded) same (unrecorded_is (recorded facts c.txn)
        (and_parts _ _ (and_parts _ _ (and_parts _ _ h).0).1).0)
    by_record (Record.Abort u) h k =
        let same : u ≡ t = cc in subst (λ u. recorded facts u ≡ Unrecorded) same (unrecorded_is (recorded facts u) (and_parts _ _ h).0)
    by_record (Record.Opened epoch) h k = cc
    by_record (Record.Ceiling at) h k = cc
    by_record (Record.Horizon at) h k = cc
    by_record (Record.Outcome u o) h k = cc
    by_record (Record.Base e f n) h k = cc
    by_record (Record.Version i) h k = cc
    by_record (Record.Settled u at parts) h k = cc
    by_record (Record.Closed u coordinator q) h k = cc
    by_record (Record.Retired below) h k = cc

pub absent_before : (k : Kept) (shard : ℕ) (r : Record) (t : Id) → IsRecovered k → follows_facts shard k.facts r ≡ true → names r ≡ Some t →
    find_row k.memory.rows t ≡ None
absent_before k shard r t recovered follows named = fresh_absent k t recovered (fresh_before shard k.facts r t follows named)

pub promise_again : (k : Kept) (shard : ℕ) (x : Prepared) (logged : Option Record) (last : ℕ) (p : protocol.Plan) → IsRecovered k →
    follows_facts shard k.facts (Record.Prepare x) ≡ true
    → last ≡ max k.memory.last x.at
    → p ≡ record {
      wounded = [];
      change = protocol.Puts x.txn (shared x.reads ++ exclusive x.writes) (IsPrepared x.coordinator x.at);
      logged =
          logged;
      last = last;
      outbox = [];
    }
    → carried p k.memory ≡ rebuilt (learn k.facts (Record.Prepare x))
unfolding learn
promise_again k shard x logged last p recovered follows late plan =
    stands_again k x.txn (StandsPrepared x) x.at x.reads x.writes (IsPrepared x.coordinator x.at) logged last (learn k.facts (Record.Prepare x)) p recovered
    (fresh_before shard k.facts (Record.Prepare x) x.txn follows refl) refl refl refl refl late plan

pub decision_again : (k : Kept) (shard : ℕ) (x : Committed) (logged : Option Record) (last : ℕ) (p : protocol.Plan) → IsRecovered k →
    follows_facts shard k.facts (Record.Commit x) ≡ true
    → last ≡ max k.memory.last x.at
    → p ≡ record {
      wounded = [];
      change = protocol.Puts x.txn (shared x.reads ++ exclusive x.writes) (IsDecided x.at x.parts);
      logged = logged;
      last = last;
      outbox = [];
    }
    → carried p k.memory ≡ rebuilt (learn k.facts (Record.Commit x))
unfolding learn
decision_again k shard x logged last p recovered follows late plan =
    stands_again k x.txn (StandsDecided x) x.at x.reads x.writes (IsDecided x.at x.parts) logged last (learn k.facts (Record.Commit x)) p recovered
    (fresh_before shard k.facts (Record.Commit x) x.txn follows refl) refl refl refl refl late plan

pub abort_again : (k : Kept) (t : Id) (last : ℕ) (item : Record) (out : List Envelope) (p : protocol.Plan) → IsRecovered k → last ≡ k.memory.last →
    p ≡ protocol.drops t item last out
    → carried p k.memory ≡ rebuilt (learn k.facts (Record.Abort t))
unfolding learn rebuilt
abort_again k t last item out p recovered same plan =
    drops_again k t HasAborted last item out (learn k.facts (Record.Abort t)) p recovered tt refl refl (sym (same ∙ ap (λ m. m.last) recovered.memory)) plan

-- an outcome leaves no row
ended_row : (t : Id) (s : Status) (o : Option ℕ) → allows s o ≡ true → standing_row (record { txn = t; status = after_outcome s o }) ≡ None
ended_row t (StandsPrepared p) o k = refl
ended_row t (StandsDecided c) o k = refl
ended_row t Unrecorded o k = absurd (false≢true k)
ended_row t HasAborted o k = absurd (false≢true k)
ended_row t (HasSettled at ps) o k = absurd (false≢true k)
ended_row t (HasClosed c q) o k = absurd (false≢true k)

ended_own : (t : Id) (s : Status) (o : Option ℕ) → allows s o ≡ true → IsOwn (record { txn = t; status = after_outcome s o })
ended_own t (StandsPrepared p) o k = tt
ended_own t (StandsDecided c) o k = tt
ended_own t Unrecorded o k = absurd (false≢true k)
ended_own t HasAborted o k = absurd (false≢true k)
ended_own t (HasSettled at ps) o k = absurd (false≢true k)
ended_own t (HasClosed c q) o k = absurd (false≢true k)

pub outcome_again : (k : Kept) (shard : ℕ) (t : Id) (o : Option ℕ) (last : ℕ) (item : Record) (out : List Envelope) (p : protocol.Plan) →
    IsRecovered k → follows_facts shard k.facts (Record.Outcome t o) ≡ true
    → last ≡ or_floor k.memory.last o → p ≡ protocol.drops t item last out
    → carried p k.memory ≡ rebuilt (learn k.facts (Record.Outcome t o))
unfolding learn rebuilt
outcome_again k shard t o last item out p recovered follows late plan =
    let allowed : allows (recorded k.facts t) o ≡ true = id_rules shard k.facts (Record.Outcome t o) follows in
    drops_again k t (after_outcome (recorded k.facts t) o) last item out (learn k.facts (Record.Outcome t o)) p recovered
    (ended_own t (recorded k.facts t) o allowed) (ended_row t (recorded k.facts t) o allowed) refl
    (sym (late ∙ ap (λ m. or_floor m.last o) recovered.memory)) plan

-- what may be done with the row
pub may_abort_again : (k : Kept) (shard : ℕ) (t : Id) → IsRecovered k → follows_facts shard k.facts (Record.Abort t) ≡ true →
    MayDrop k.memory.rows t (Some (Record.Abort t))
may_abort_again k shard t recovered follows = (refl, by_row (find_row k.memory.rows t) (absent_before k shard (Record.Abort t) t recovered follows refl))
  where
    by_row : (o : Option Row) → o ≡ None → (elim o [ None ↦ true | Some r ↦ may_abort r.phase ]) ≡ true
    by_row None e = refl
    by_row (Some r) e = cc

pub may_close_again : (k : Kept) (shard : ℕ) (t : Id) (o : Option ℕ) → IsRecovered k → follows_facts shard k.facts (Record.Outcome t o) ≡ true
    → MayDrop k.memory.rows t (Some (Record.Outcome t o))
may_close_again k shard t o recovered follows = (
  refl,
  ap (λ rows. when (λ r. may_close r.phase) (find_row rows t)) (rows_are k recovered)
      ∙ ap (when (λ r. may_close r.phase)) (found k.facts.entries t recovered.order recovered.own)
      ∙ by_entry (find_member (λ (e : TxnStatus). e.txn) k.facts.entries t) (id_rules shard k.facts (Record.Outcome t o) follows),
)
  where
    by_status : (u : Id) (s : Status) → allows s o ≡ true → when (λ r. may_close r.phase) (standing_row (record { txn = u; status = s })) ≡ true
    by_status u (StandsPrepared p) k = refl
    by_status u (StandsDecided c) k = refl
    by_status u Unrecorded k = absurd (false≢true k)
    by_status u HasAborted k = absurd (false≢true k)
    by_status u (HasSettled at ps) k = absurd (false≢true k)
    by_status u (HasClosed c q) k = absurd (false≢true k)

    by_entry : (e : Option TxnStatus) → allows (or_unrecorded e) o ≡ true → when (λ r. may_close r.phase) (follow e standing_row) ≡ true
    by_entry None h = absurd (false≢true h)
    by_entry (Some e) h = by_status e.txn e.status h

-- ---- the facts after a record

pub learn_order : (f : Facts) (r : Record) → IsById (λ e. e.txn) f.entries → IsById (λ e. e.txn) (learn f r).entries
unfolding learn
learn_order f (Record.Prepare p) up = by_id-status f.entries p.txn (StandsPrepared p) up
learn_order f (Record.Commit c) up = by_id-status f.entries c.txn (StandsDecided c) up
learn_order f (Record.Abort t) up = by_id-status f.entries t HasAborted up
learn_order f (Record.Outcome t o) up = by_id-status f.entries t (after_outcome (recorded f t) o) up
learn_order f (Record.Settled t at parts) up = by_id-status f.entries t (HasSettled at parts) up
learn_order f (Record.Closed t coordinator o) up = by_id-status f.entries t (HasClosed coordinator o) up
learn_order f (Record.Retired below) up = by_id-keep (λ (e : TxnStatus). e.txn) (λ e. not (older e.txn below)) f.entries up
learn_order f _ up = up

pub learn_own : (shard : ℕ) (f : Facts) (r : Record) → follows_facts shard f r ≡ true → AllByRecursion IsOwn f.entries →
    AllByRecursion IsOwn (learn f r).entries
unfolding learn follows_facts
learn_own shard f (Record.Opened epoch) follows own = own
learn_own shard f (Record.Ceiling at) follows own = own
learn_own shard f (Record.Horizon at) follows own = own
learn_own shard f (Record.Retired below) follows own = all-keep IsOwn (λ e. not (older e.txn below)) f.entries own
learn_own shard f (Record.Prepare p) follows own = own-status f.entries p.txn (StandsPrepared p) refl own
learn_own shard f (Record.Commit c) follows own = own-status f.entries c.txn (StandsDecided c) refl own
learn_own shard f (Record.Abort t) follows own = own-status f.entries t HasAborted tt own
learn_own shard f (Record.Outcome t o) follows own =
    own-status f.entries t (after_outcome (recorded f t) o) (ended_own t (recorded f t) o (id_rules shard f (Record.Outcome t o) follows)) own
learn_own shard f _ follows own = absurd (false≢true follows)
