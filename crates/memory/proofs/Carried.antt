-- The rows and the holds of the served time as a change is made.
use Rattle.std.proofs.Common.{◌≡◌, ◌∙◌, ℕ, ◌<◌, ◌≤◌, Bool, true, false, not, nat_lt, cond, List, [], ◌∷◌, ◌++◌, length, Option, Some, None, refl, sym}
use Rattle.std.proofs.Common.{ap, subst, arith, filter}
use Rattle.std.specs.Option.{MatchOption, is_some}
use Rattle.std.proofs.lemmas.Bool.{false≢true}
use Rattle.units.specs.Limits.{most_rows}
use Rattle.units.specs.Lists.{follow, head, when}
use Rattle.units.specs.Ids.{Id, same_id}
use Rattle.units.specs.Locks.{wounded, with_locks}
use Rattle.units.specs.declared.lock.Lock.{Lock}
use Rattle.units.proofs.ByIdLaws.{by_id-keep, first_none, without_none}
use Rattle.record.specs.declared.record.Record.{Record}
use Rattle.record.specs.declared.record.Record.TheVariants.{Prepare, Commit}
use Rattle.safetime.specs.Safe.{lifted}
use Rattle.protocol.specs.Rows.{Row, Memory, Phase, Idle, WaitsRead, WaitsPrepare, WaitsCommit, Collecting, IsPrepared, IsDecided, claims, find_row}
use Rattle.protocol.specs.Rows.{without_row, held_stamp, held_by, with_vote, held_in, without_rows}
use Rattle.protocol.specs.Plan.{Puts, after_change}
use Rattle.protocol.proofs.PlanRows.{Ascend, put_again, find-with_row, without-with_row}
use Rattle.protocol.proofs.RowChanges.{by_id-without_rows, short-without_row}
use Rattle.rows.specs.CodeRows.{is_reading, is_collecting, is_idle, may_decide, phase_of_wait}
use Rattle.rows.specs.declared.wait.Wait.{Wait}
use Rattle.rows.specs.RowTable.{has_phase, phase_of_row, put_row, with_yes, MayEnd}
use Rattle.rows.proofs.Wounds.{may_end_wounded, others_end, row_stays}
use Rattle.memory.specs.Carry.{Admits, MayUndo, admitted_to, may_ask, may_end, admitted, MayStand, IsDated, CanStand}
use Rattle.memory.specs.Plans.{counted}
use Rattle.memory.specs.Served.{IsHolding, stamp_held}
use Rattle.memory.proofs.Served.{holding_with, holding_with_none, holding_without, holding_without_none, holds_few}

-- ---- what a search for a row says

pub none_found : {X : Type 0} (o : Option X) (P : Type 0) (Q : X → Type 0) → MatchOption o P Q → is_some o ≡ false → P
none_found None P Q said e = said
none_found (Some x) P Q said e = absurd (false≢true (sym e))

pub some_found : {X : Type 0} (o : Option X) (P : Type 0) (Q : X → Type 0) → MatchOption o P Q → is_some o ≡ true → (x : X) × Q x
some_found None P Q said e = absurd (false≢true e)
some_found (Some x) P Q said e = (x, said)

pub not_found : {X : Type 0} (o : Option X) (P : Type 0) (Q : X → Type 0) (b : Bool) → MatchOption o P Q → is_some o ≡ not b → b ≡ true → P
not_found o P Q b said e h = none_found o P Q said (e ∙ ap not h)

-- who has no row leaves none
pub gone_already : (rows : List Row) (t : Id) → find_row rows t ≡ None → without_row rows t ≡ rows
gone_already rows t none = without_none (λ (r : Row). r.txn) rows t (first_none (λ (r : Row). same_id r.txn t) rows none)

-- a test of the row that is found
pub phase_found : (test : Phase → Bool) (rows : List Row) (t : Id) (r : Row) → find_row rows t ≡ Some r → test r.phase ≡ true → has_phase test rows t ≡ true
phase_found test rows t r found h = ap (when (λ (q : Row). test q.phase)) found ∙ h

-- who may be ended, and has a row, reads
pub ends_reading : (rows : List Row) (t : Id) (r : Row) → find_row rows t ≡ Some r → may_end rows t ≡ true → has_phase is_reading rows t ≡ true
ends_reading rows t r found may = by_row (find_row rows t) found may
  where
    by_row : (o : Option Row) → o ≡ Some r → elim o as (λ _. Bool) [ None ↦ true | Some q ↦ is_reading q.phase ] ≡ true →
        when (λ (q : Row). is_reading q.phase) o ≡ true
    by_row None e h = cc
    by_row (Some q) e h = h

-- so does who asks
pub asks_reading : (rows : List Row) (t : Id) (r : Row) → find_row rows t ≡ Some r → may_ask rows t ≡ true → has_phase is_reading rows t ≡ true
asks_reading rows t r found may =
    phase_found is_reading rows t r found
    (ap (λ (o : Option Row). elim o as (λ _. Bool) [ None ↦ nat_lt (length rows) most_rows | Some q ↦ is_reading q.phase ]) (sym found) ∙ may)

-- ---- phases that hold nothing

pub reading_holds_none : (p : Phase) → is_reading p ≡ true → held_stamp p ≡ None
reading_holds_none (IsPrepared c p) e = absurd (false≢true e)
reading_holds_none (IsDecided s ps) e = absurd (false≢true e)
reading_holds_none _ e = refl

pub idle_holds_none : (p : Phase) → is_idle p ≡ true → held_stamp p ≡ None
idle_holds_none (IsPrepared c p) e = absurd (false≢true e)
idle_holds_none (IsDecided s ps) e = absurd (false≢true e)
idle_holds_none _ e = refl

pub deciding_holds_none : (p : Phase) → may_decide p ≡ true → held_stamp p ≡ None
deciding_holds_none (IsPrepared c p) e = absurd (false≢true e)
deciding_holds_none (IsDecided s ps) e = absurd (false≢true e)
deciding_holds_none _ e = refl

-- nor does its row
pub none_held : (test : Phase → Bool) → ((p : Phase) → test p ≡ true → held_stamp p ≡ None) → (rows : List Row) (t : Id) → has_phase test rows t ≡ true
    → stamp_held rows t ≡ None
none_held test none rows t h = by_row (find_row rows t) h
  where
    by_row : (o : Option Row) → when (λ (r : Row). test r.phase) o ≡ true → follow o (λ r. held_stamp r.phase) ≡ None
    by_row None e = refl
    by_row (Some r) e = none r.phase e

-- ---- the holds

-- those that read hold nothing, so the holds stay where they are ended
pub holding_without_rows : (holds : List ℕ) (rows : List Row) (ts : List Id) → Ascend rows → IsHolding holds rows → MayEnd rows ts →
    IsHolding holds (without_rows rows ts)
holding_without_rows holds rows [] up same may = same
holding_without_rows holds rows (t ∷ ts) up same may =
    holding_without_rows holds (without_row rows t) ts (by_id-keep (λ (q : Row). q.txn) (λ (q : Row). not (same_id q.txn t)) rows up)
    (holding_without_none holds rows t up same (none_held is_reading reading_holds_none rows t may.0)) may.1

-- and where the asker gets its locks
pub holding_put : (holds : List ℕ) (rows : List Row) (t : Id) (needs : List Lock) (ts : List Id) (held : List Lock) (phase : Phase) → Ascend rows →
    IsHolding holds rows
    → ts ≡ wounded (claims rows) t needs → has_phase is_reading rows t ≡ true → held_stamp phase ≡ None →
    IsHolding holds (put_row (without_rows rows ts) t held phase)
holding_put holds rows t needs ts held phase up same is reads none =
    holding_with_none holds (without_rows rows ts) (record { txn = t; held = held; phase = phase }) (by_id-without_rows rows ts up)
    (holding_without_rows holds rows ts up same (may_end_wounded rows t needs ts up is))
    (ap (λ (o : Option Row). follow o (λ r. held_stamp r.phase)) (row_stays rows t ts (others_end rows t needs ts is))
    ∙ none_held is_reading reading_holds_none rows t reads)
    none

-- ---- the rows

-- what the asker holds is the same once those in its way are gone
pub held_stays : (rows : List Row) (t : Id) (needs : List Lock) (ts : List Id) → ts ≡ wounded (claims rows) t needs →
    held_in (without_rows rows ts) t ≡ held_in rows t
held_stays rows t needs ts is = ap held_by (row_stays rows t ts (others_end rows t needs ts is))

-- the row with its locks is that of the change
pub put_is_change : (rows : List Row) (t : Id) (needs more : List Lock) (ts : List Id) (phase : Phase) → ts ≡ wounded (claims rows) t needs
    → put_row (without_rows rows ts) t (with_locks (held_in rows t) more) phase ≡ after_change (Puts t more phase) (without_rows rows ts)
unfolding after_change
put_is_change rows t needs more ts phase is =
    ap (λ (held : List Lock). put_row (without_rows rows ts) t (with_locks held more) phase) (sym (held_stays rows t needs ts is))

-- so it is where it is put twice
pub put_twice : (rows next : List Row) (t : Id) (held : List Lock) (phase : Phase) → next ≡ put_row rows t held Idle
    → put_row next t (held_in next t) phase ≡ put_row rows t held phase
put_twice rows next t held phase is =
    ap (λ (l : List Row). put_row l t (held_in l t) phase) is ∙ put_again rows t held Idle phase

-- the row that was put is idle
pub put_is_idle : (rows next : List Row) (t : Id) (held : List Lock) → next ≡ put_row rows t held Idle → has_phase is_idle next t ≡ true
put_is_idle rows next t held is =
    ap (λ (l : List Row). has_phase is_idle l t) is
    ∙ ap (when (λ (r : Row). is_idle r.phase)) (find-with_row rows (record { txn = t; held = held; phase = Idle }))

-- and so it reads
pub put_reads : (rows next : List Row) (t : Id) (held : List Lock) → next ≡ put_row rows t held Idle → has_phase is_reading next t ≡ true
put_reads rows next t held is =
    ap (λ (l : List Row). has_phase is_reading l t) is
    ∙ ap (when (λ (r : Row). is_reading r.phase)) (find-with_row rows (record { txn = t; held = held; phase = Idle }))

-- a row that was taken in goes again
pub put_and_gone : (rows next : List Row) (t : Id) (held : List Lock) (phase : Phase) → next ≡ put_row rows t held phase → find_row rows t ≡ None →
    without_row next t ≡ rows
put_and_gone rows next t held phase is none =
    ap (λ (l : List Row). without_row l t) is ∙ without-with_row rows (record { txn = t; held = held; phase = phase }) ∙ gone_already rows t none

-- it holds nothing
pub holding_admitted : (holds : List ℕ) (rows next : List Row) (t : Id) → Ascend rows → IsHolding holds rows → find_row rows t ≡ None →
    next ≡ put_row rows t [] Idle → IsHolding holds next
holding_admitted holds rows next t up same none is =
    subst (IsHolding holds) (sym is)
    (holding_with_none holds rows (record { txn = t; held = []; phase = Idle }) up same (ap (λ (o : Option Row). follow o (λ r. held_stamp r.phase)) none) refl)

-- ---- a row stands by a record

-- the rows are fewer without one that is there
shorter : (rows : List Row) (t : Id) → has_phase (λ p. true) rows t ≡ true → length (without_row rows t) < length rows
shorter [] t e = absurd (false≢true e)
shorter (q ∷ qs) t e = by_test (same_id q.txn t) (short-without_row qs t) (λ k. shorter qs t k) e
  where
    by_test : (b : Bool) → length (without_row qs t) ≤ length qs → (has_phase (λ p. true) qs t ≡ true → length (without_row qs t) < length qs)
        → when (λ (r : Row). true) (head (cond b (q ∷ filter (λ x. same_id x.txn t) qs) (filter (λ x. same_id x.txn t) qs))) ≡ true
        → length (cond (not b) (q ∷ without_row qs t) (without_row qs t)) < length (q ∷ qs)
    by_test true short rest k = omega (arith, short)
    by_test false short rest k = omega (arith, rest k)

-- there is space for one hold more where a row holds none
pub space_to_hold : (test : Phase → Bool) → ((p : Phase) → test p ≡ true → held_stamp p ≡ None) → (holds : List ℕ) (rows : List Row) (t : Id) →
    Ascend rows → IsHolding holds rows
    → has_phase test rows t ≡ true → length rows ≤ most_rows → length holds < most_rows
space_to_hold test none holds rows t up same has few =
    let there : has_phase (λ p. true) rows t ≡ true = by_row (find_row rows t) has in
    omega (arith, holds_few holds (without_row rows t) (holding_without_none holds rows t up same (none_held test none rows t has)), shorter rows t there, few)
  where
    by_row : (o : Option Row) → when (λ (r : Row). test r.phase) o ≡ true → when (λ (r : Row). true) o ≡ true
    by_row None e = e
    by_row (Some r) e = refl

-- it holds its timestamp then
pub holding_stands : (test : Phase → Bool) → ((p : Phase) → test p ≡ true → held_stamp p ≡ None) →
    (holds : List ℕ) (rows next : List Row) (t : Id) (held : List Lock) (phase : Phase) (at : ℕ)
    → Ascend rows → IsHolding holds rows → has_phase test rows t ≡ true → held_stamp phase ≡ Some at → next ≡ put_row rows t held phase →
    IsHolding (holds ++ at ∷ []) next
holding_stands test none holds rows next t held phase at up same has stamp is =
    subst (IsHolding (holds ++ at ∷ [])) (sym is)
    (holding_with holds rows (record { txn = t; held = held; phase = phase }) at up same (none_held test none rows t has) stamp)

-- ---- a row goes by a record

-- the hold of one that goes is lifted
pub holding_gone : (holds : List ℕ) (rows next : List Row) (t : Id) (at : ℕ) → Ascend rows → IsHolding holds rows → stamp_held rows t ≡ Some at →
    next ≡ without_row rows t
    → IsHolding (lifted at holds) next
holding_gone holds rows next t at up same stamp is = subst (IsHolding (lifted at holds)) (sym is) (holding_without holds rows t at up same stamp)

-- or it held none
pub holding_left : (holds : List ℕ) (rows next : List Row) (t : Id) → Ascend rows → IsHolding holds rows → stamp_held rows t ≡ None →
    next ≡ without_row rows t → IsHolding holds next
holding_left holds rows next t up same stamp is = subst (IsHolding holds) (sym is) (holding_without_none holds rows t up same stamp)

-- ---- a change

-- who asks has a row once it was taken in, and reads
pub asker_reads : (rows : List Row) (t : Id) → admitted rows (Some t) ≡ rows → may_ask rows t ≡ true → has_phase is_reading rows t ≡ true
asker_reads rows t there may = by_row (find_row rows t) refl there may
  where
    by_row : (o : Option Row) → find_row rows t ≡ o → elim o as (λ _. List Row) [ None ↦ put_row rows t [] Idle | Some r ↦ rows ] ≡ rows
        → elim o as (λ _. Bool) [ None ↦ nat_lt (length rows) most_rows | Some r ↦ is_reading r.phase ] ≡ true → when (λ (r : Row). is_reading r.phase) o ≡ true
    by_row None e there may =
        let found : find_row rows t ≡ Some (record { txn = t; held = []; phase = Idle }) =
        ap (λ (l : List Row). find_row l t) (sym there) ∙ find-with_row rows (record { txn = t; held = []; phase = Idle }) in
        cc
    by_row (Some r) e there may = may

-- who may be ended holds nothing
pub ending_holds_none : (rows : List Row) (t : Id) → may_end rows t ≡ true → stamp_held rows t ≡ None
ending_holds_none rows t may = by_row (find_row rows t) may
  where
    by_row : (o : Option Row) → elim o as (λ _. Bool) [ None ↦ true | Some r ↦ is_reading r.phase ] ≡ true → follow o (λ r. held_stamp r.phase) ≡ None
    by_row None e = refl
    by_row (Some r) e = reading_holds_none r.phase e

-- nor does who collects, with one vote more
counted_holds_none : (n p : ℕ) (o : Option Row) → when (λ (r : Row). is_collecting r.phase) o ≡ true → held_stamp (counted n p o) ≡ None
counted_holds_none n p None e = refl
counted_holds_none n p (Some r) e = by_phase r.phase e
  where
    by_phase : (q : Phase) → is_collecting q ≡ true → held_stamp
        (elim q as (λ _. Phase) [ Collecting l ps rs ws votes ↦ Collecting l ps rs ws (with_vote n p votes) | _ ↦ q ]) ≡ None
    by_phase (Collecting l ps rs ws votes) e = refl
    by_phase Idle e = absurd (false≢true e)
    by_phase (WaitsRead k) e = absurd (false≢true e)
    by_phase (WaitsPrepare c rs ws) e = absurd (false≢true e)
    by_phase (WaitsCommit l ps rs ws) e = absurd (false≢true e)
    by_phase (IsPrepared c p) e = absurd (false≢true e)
    by_phase (IsDecided s ps) e = absurd (false≢true e)

collecting_holds_none : (p : Phase) → is_collecting p ≡ true → held_stamp p ≡ None
collecting_holds_none (IsPrepared c p) e = absurd (false≢true e)
collecting_holds_none (IsDecided s ps) e = absurd (false≢true e)
collecting_holds_none _ e = refl

-- the phase with a yes
counted_by : (n p : ℕ) (q : Phase) → with_yes n p q ≡ elim q as (λ _. Phase) [
  | Collecting l ps rs ws votes ↦
      Collecting l ps rs ws (with_vote n p votes)
  | _ ↦ q
]
counted_by n p Idle = refl
counted_by n p (WaitsRead k) = refl
counted_by n p (WaitsPrepare c rs ws) = refl
counted_by n p (WaitsCommit l ps rs ws) = refl
counted_by n p (Collecting l ps rs ws votes) = refl
counted_by n p (IsPrepared c at) = refl
counted_by n p (IsDecided s ps) = refl

pub counted_is : (n p : ℕ) (o : Option Row) → with_yes n p (phase_of_row o) ≡ counted n p o
counted_is n p None = refl
counted_is n p (Some r) = counted_by n p r.phase

pub holding_counted : (holds : List ℕ) (rows next : List Row) (t : Id) (n p : ℕ) (held : List Lock) → Ascend rows → IsHolding holds rows →
    has_phase is_collecting rows t ≡ true
    → next ≡ put_row rows t held (counted n p (find_row rows t)) → IsHolding holds next
holding_counted holds rows next t n p held up same has is =
    subst (IsHolding holds) (sym is)
    (holding_with_none holds rows (record { txn = t; held = held; phase = counted n p (find_row rows t) }) up same
    (none_held is_collecting collecting_holds_none rows t has) (counted_holds_none n p (find_row rows t) has))

-- who is idle may decide
idle_decides : (rows : List Row) (t : Id) → has_phase is_idle rows t ≡ true → has_phase may_decide rows t ≡ true
idle_decides rows t h = by_row (find_row rows t) h
  where
    by_phase : (p : Phase) → is_idle p ≡ true → may_decide p ≡ true
    by_phase Idle e = refl
    by_phase (WaitsRead k) e = absurd (false≢true e)
    by_phase (WaitsPrepare c rs ws) e = absurd (false≢true e)
    by_phase (WaitsCommit l ps rs ws) e = absurd (false≢true e)
    by_phase (Collecting l ps rs ws votes) e = refl
    by_phase (IsPrepared c p) e = absurd (false≢true e)
    by_phase (IsDecided s ps) e = absurd (false≢true e)

    by_row : (o : Option Row) → when (λ (r : Row). is_idle r.phase) o ≡ true → when (λ (r : Row). may_decide r.phase) o ≡ true
    by_row None e = e
    by_row (Some r) e = by_phase r.phase e

-- an idle row may stand by a promise or a decision
pub can_stand : (rows : List Row) (t : Id) (r : Record) → MayStand t (Some r) → IsDated (Some r) → has_phase is_idle rows t ≡ true → CanStand rows t r
can_stand rows t (Prepare p) may dated idle = (may, idle, dated)
can_stand rows t (Commit c) may dated idle = (may, idle_decides rows t idle, dated)
can_stand rows t _ may dated idle = absurd may

-- nor does who waits
pub wait_holds_none : (w : Wait) → held_stamp (phase_of_wait (Some w)) ≡ None
wait_holds_none (Wait.Read k) = refl
wait_holds_none (Wait.Prepare p) = refl
wait_holds_none (Wait.Commit c) = refl

-- ---- what was made ready is taken back

pub undo_reads : (rows : List Row) (who : Option Id) (taken : Bool) (t : Id) → who ≡ Some t → taken ≡ true → MayUndo rows who taken →
    has_phase is_reading rows t ≡ true
undo_reads rows None taken t e f may = cc
undo_reads rows (Some u) false t e f may = absurd (false≢true f)
undo_reads rows (Some u) true t e f may =
    let same : u ≡ t = cc in
    ap (has_phase is_reading rows) (sym same) ∙ may

-- who was taken in had no row
taken_in : (rows : List Row) (t : Id) → Admits rows (Some t) true → find_row rows t ≡ None
taken_in rows t admits = by_row (find_row rows t) admits
  where
    by_row : (o : Option Row) → elim o as (λ _. Type 0) [ None ↦ true ≡ true | Some r ↦ true ≡ false ] → o ≡ None
    by_row None e = refl
    by_row (Some r) e = absurd (false≢true (sym e))

taken_rows : (rows : List Row) (t : Id) → find_row rows t ≡ None → admitted rows (Some t) ≡ put_row rows t [] Idle
taken_rows rows t none = ap (λ (o : Option Row). elim o as (λ _. List Row) [ None ↦ put_row rows t [] Idle | Some r ↦ rows ]) none

pub undone : (m now : Memory) (next : List Row) (who : Option Id) (taken : Bool) (t : Id) → who ≡ Some t → taken ≡ true → Admits m.rows who taken
    → now ≡ admitted_to m who → next ≡ without_row now.rows t → record { last = now.last; rows = next; ended = now.ended } ≡ m
undone m now next None taken t e f admits is gone = cc
undone m now next (Some u) false t e f admits is gone = absurd (false≢true f)
undone m now next (Some u) true t e f admits is gone =
    let same : t ≡ u = cc in
    let none : find_row m.rows u ≡ None = taken_in m.rows u admits in
    let last : now.last ≡ m.last = ap (λ (k : Memory). k.last) is in
    let ended : now.ended ≡ m.ended = ap (λ (k : Memory). k.ended) is in
    let rows : next ≡ m.rows =
    gone ∙ ap (without_row now.rows) same ∙ put_and_gone m.rows now.rows u [] Idle (ap (λ (k : Memory). k.rows) is ∙ taken_rows m.rows u none) none in
    λ i. record { last = last i; rows = rows i; ended = ended i }
