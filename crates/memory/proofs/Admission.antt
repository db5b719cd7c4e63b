-- A row that was taken in for a plan leaves no trace of itself, and the plan still fits.
use Rattle.std.proofs.Common.{◌≡◌, ◌∙◌, ℕ, ◌≤◌, Bool, true, false, nat_lt, List, [], Option, Some, None, length, refl, sym, ap, subst}
use Rattle.units.specs.Limits.{most_rows}
use Rattle.units.specs.Ids.{Id}
use Rattle.units.specs.Locks.{is_free, wounded, with_locks}
use Rattle.units.specs.declared.lock.Lock.{Lock}
use Rattle.units.specs.declared.setup.Setup.{Setup}
use Rattle.record.specs.Facts.{Facts}
use Rattle.record.specs.declared.record.Record.{Record}
use Rattle.protocol.specs.Rows.{Row, Phase, Memory, Idle, claims, find_row, with_row, held_by, held_in, without_rows}
use Rattle.protocol.specs.Plan.{Puts, carried, after_change, ended_by, with_ids}
use Rattle.protocol.proofs.PlanRows.{Ascend, AllOther, with_row-twice, find-with_row, without_rows-with, find-without_rows, wounded-differ}
use Rattle.protocol.proofs.PlanRows.{wounded-alike, is_free-alike, others-with_row}
use Rattle.rows.specs.CodeRows.{is_reading, phase_of_wait}
use Rattle.rows.specs.RowTable.{put_row}
use Rattle.memory.specs.Carry.{AdmissionIsUnseen, FitStepsMayAsk, ReadyIsCarriable, FitsRows, MayAsk, MayFollow, MayInstall, Asks, asker, admitted}
use Rattle.memory.specs.Plans.{change_of, phase_logged, collecting}
use Rattle.memory.specs.declared.plan.Change.{Change}
use Rattle.memory.specs.declared.plan.Change.TheVariants.{Keeps, Ends, Drops, Reads, Waits, Collects, Counts, Stands, Decides, Retires}

-- ---- a row that was taken in

-- it is none of those in its way
others_gone : (rows : List Row) (t : Id) (needs : List Lock) (us : List Id) → us ≡ wounded (claims rows) t needs → AllOther t us
others_gone rows t needs us is = subst (AllOther t) (sym is) (wounded-differ (claims rows) t needs)

-- who takes locks has the same row then
put_over : (rows : List Row) (t : Id) (needs more : List Lock) (us : List Id) (phase : Phase) → Ascend rows → find_row rows t ≡ None →
    us ≡ wounded (claims rows) t needs
    → after_change (Puts t more phase) (without_rows (put_row rows t [] Idle) us) ≡ after_change (Puts t more phase) (without_rows rows us)
unfolding after_change
put_over rows t needs more us phase up none is =
    let entrant : Row = record { txn = t; held = []; phase = Idle } in
    let left : List Row = without_rows rows us in
    let gone : AllOther t us = others_gone rows t needs us is in
    let held : held_in left t ≡ [] = ap held_by (find-without_rows rows t us gone ∙ none) in
    ap (λ (l : List Row). with_row l (record { txn = t; held = with_locks (held_in l t) more; phase = phase })) (without_rows-with rows entrant us up gone)
    ∙ ap (λ (o : Option Row). with_row (with_row left entrant) (record { txn = t; held = with_locks (held_by o) more; phase = phase }))
    (find-with_row left entrant)
    ∙ with_row-twice left entrant (record { txn = t; held = with_locks [] more; phase = phase }) refl
    ∙ ap (λ (hs : List Lock). with_row left (record { txn = t; held = with_locks hs more; phase = phase })) (sym held)

-- whether it had a row or not
pub put_the_same : (rows : List Row) (t : Id) (needs more : List Lock) (us : List Id) (phase : Phase) → Ascend rows → us ≡ wounded (claims rows) t needs
    → after_change (Puts t more phase) (without_rows (admitted rows (Some t)) us) ≡ after_change (Puts t more phase) (without_rows rows us)
put_the_same rows t needs more us phase up is = by_row (find_row rows t) refl
  where
    by_row : (o : Option Row) → find_row rows t ≡ o
        → after_change (Puts t more phase) (without_rows (elim o as (λ _. List Row) [ None ↦ put_row rows t [] Idle | Some r ↦ rows ]) us) ≡
        after_change (Puts t more phase) (without_rows rows us)
    by_row None e = put_over rows t needs more us phase up e is
    by_row (Some r) e = refl

-- ---- its request

asks_over : (rows : List Row) (t : Id) (us : List Id) (needs : List Lock) (opens : Bool) → Ascend rows → Asks rows t us needs opens →
    Asks (put_row rows t [] Idle) t us needs opens
asks_over rows t us needs opens up asks =
    let entrant : Row = record { txn = t; held = []; phase = Idle } in
    let left : List Row = without_rows rows us in
    let gone : AllOther t us = others_gone rows t needs us asks.1 in (
      ap (λ (o : Option Row). elim o as (λ _. Bool) [ None ↦ nat_lt (length (put_row rows t [] Idle)) most_rows | Some r ↦ is_reading r.phase ])
          (find-with_row rows entrant),
      asks.1 ∙ wounded-alike (claims rows) (claims (with_row rows entrant)) t needs (sym (others-with_row rows entrant)),
      ap (λ (l : List Row). is_free (claims l) t needs) (without_rows-with rows entrant us up gone)
          ∙ is_free-alike (claims (with_row left entrant)) (claims left) t needs (others-with_row left entrant) ∙ asks.2,
    )

pub asks_the_same : (rows : List Row) (t : Id) (us : List Id) (needs : List Lock) (opens : Bool) → Ascend rows → Asks rows t us needs opens
    → Asks (admitted rows (Some t)) t us needs opens
asks_the_same rows t us needs opens up asks = by_row (find_row rows t)
  where
    by_row : (o : Option Row) → Asks (elim o as (λ _. List Row) [ None ↦ put_row rows t [] Idle | Some r ↦ rows ]) t us needs opens
    by_row None = asks_over rows t us needs opens up asks
    by_row (Some r) = asks

-- who was taken in is there
admitted_twice : (rows : List Row) (t : Id) → admitted (admitted rows (Some t)) (Some t) ≡ admitted rows (Some t)
admitted_twice rows t = by_row (find_row rows t) refl
  where
    Again : List Row → Option Row → Type 0
    Again l o = elim o as (λ _. List Row) [ None ↦ put_row l t [] Idle | Some r ↦ l ] ≡ l

    by_row : (o : Option Row) → find_row rows t ≡ o
        → admitted (elim o as (λ _. List Row) [ None ↦ put_row rows t [] Idle | Some r ↦ rows ]) (Some t) ≡
        elim o as (λ _. List Row) [ None ↦ put_row rows t [] Idle | Some r ↦ rows ]
    by_row None e =
        subst (Again (put_row rows t [] Idle)) (sym (find-with_row rows (record { txn = t; held = []; phase = Idle }))) refl
    by_row (Some r) e = subst (Again rows) (sym e) refl

pub admitted_again : (rows : List Row) (who : Option Id) → admitted (admitted rows who) who ≡ admitted rows who
admitted_again rows None = refl
admitted_again rows (Some t) = admitted_twice rows t

-- ---- a plan

fits_again : (rows : List Row) (us : List Id) (needs : List Lock) (logged : Option Record) (h : Change) → Ascend rows → FitsRows rows us needs logged h
    → FitsRows (admitted rows (asker h)) us needs logged h
fits_again rows us needs logged (Reads t) up fits = (asks_the_same rows t us needs true up fits.0, fits.1)
fits_again rows us needs logged (Waits t w) up fits = (asks_the_same rows t us needs false up fits.0, fits.1, fits.2)
fits_again rows us needs logged (Collects t c) up fits = (asks_the_same rows t us needs true up fits.0, fits.1)
fits_again rows us needs logged (Stands t) up fits = (asks_the_same rows t us needs true up fits.0, fits.1)
fits_again rows us needs logged _ up fits = fits

rows_the_same : (rows : List Row) (us : List Id) (needs : List Lock) (logged : Option Record) (h : Change) → Ascend rows → FitsRows rows us needs logged h
    → after_change (change_of (admitted rows (asker h)) needs logged h) (without_rows (admitted rows (asker h)) us) ≡
    after_change (change_of rows needs logged h) (without_rows rows us)
rows_the_same rows us needs logged (Reads t) up fits = put_the_same rows t needs needs us Idle up fits.0.1
rows_the_same rows us needs logged (Waits t w) up fits = put_the_same rows t needs [] us (phase_of_wait (Some w)) up fits.0.1
rows_the_same rows us needs logged (Collects t c) up fits = put_the_same rows t needs needs us (collecting c []) up fits.0.1
rows_the_same rows us needs logged (Stands t) up fits = put_the_same rows t needs needs us (phase_logged logged) up fits.0.1
rows_the_same rows us needs logged _ up fits = refl

-- whom a change ends is not told by the rows
ended_the_same : (one other : List Row) (needs : List Lock) (logged : Option Record) (h : Change) (ids : List Id)
    → ended_by (change_of one needs logged h) ids ≡ ended_by (change_of other needs logged h) ids
unfolding ended_by
ended_the_same one other needs logged Keeps ids = refl
ended_the_same one other needs logged (Ends t) ids = refl
ended_the_same one other needs logged (Drops t) ids = refl
ended_the_same one other needs logged (Reads t) ids = refl
ended_the_same one other needs logged (Waits t w) ids = refl
ended_the_same one other needs logged (Collects t c) ids = refl
ended_the_same one other needs logged (Counts t n p) ids = refl
ended_the_same one other needs logged (Stands t) ids = refl
ended_the_same one other needs logged (Decides t) ids = refl
ended_the_same one other needs logged (Retires below) ids = refl

-- who asks by a change that fits may ask
asks_by : (rows : List Row) (us : List Id) (needs : List Lock) (logged : Option Record) (h : Change) → FitsRows rows us needs logged h
    → MayAsk rows (asker h)
asks_by rows us needs logged (Reads t) fits = fits.0.0
asks_by rows us needs logged (Waits t w) fits = fits.0.0
asks_by rows us needs logged (Collects t c) fits = fits.0.0
asks_by rows us needs logged (Stands t) fits = fits.0.0
asks_by rows us needs logged _ fits = tt

pub may_ask_by : FitStepsMayAsk
may_ask_by k s fit = asks_by k.memory.rows s.plan.wounded s.plan.needs.items s.logged s.plan.change fit.0

pub admission_is_unseen : AdmissionIsUnseen
unfolding carried
admission_is_unseen m s up fits =
    let rows = rows_the_same m.rows s.plan.wounded s.plan.needs.items s.logged s.plan.change up fits in
    let ended = ended_the_same (admitted m.rows (asker s.plan.change)) m.rows s.plan.needs.items s.logged s.plan.change (with_ids m.ended s.plan.wounded) in
    λ i. record { last = s.plan.last; rows = rows i; ended = ended i }

pub ready_is_carriable : ReadyIsCarriable
ready_is_carriable old new s up fit ready follows installs =
    let rows : new.memory.rows ≡ admitted old.memory.rows (asker s.plan.change) = ap (λ (m : Memory). m.rows) ready.memory in
    let last : new.memory.last ≡ old.memory.last = ap (λ (m : Memory). m.last) ready.memory in
    record {
      fit = (
        subst (λ (l : List Row). FitsRows l s.plan.wounded s.plan.needs.items s.logged s.plan.change) (sym rows)
            (fits_again old.memory.rows s.plan.wounded s.plan.needs.items s.logged s.plan.change up fit.0),
        subst (λ (n : ℕ). n ≤ s.plan.last) (sym last) fit.1,
      );
      there = subst (λ (l : List Row). admitted l (asker s.plan.change) ≡ l) (sym rows) (admitted_again old.memory.rows (asker s.plan.change));
      records = ready.records;
      ends = ready.ends;
      locks = ready.locks;
      follows = subst (λ (n : ℕ). MayFollow n new.facts s.logged) (ap (λ (o : Setup). o.shard) (sym ready.setup))
          (subst (λ (f : Facts). MayFollow old.setup.shard f s.logged) (sym ready.facts) follows);
      installs = subst (λ (f : Facts). MayInstall f s.logged) (sym ready.facts) installs;
    }
