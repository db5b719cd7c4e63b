-- What the readers of a state and its planners say of the rows.
use Rattle.std.specs.List.{list_any}
use Rattle.std.proofs.Common.{◌≡◌, ℕ, nat_le, Bool, true, false, ◌&&◌, ◌||◌, not, cond, List, [], ◌∷◌, length, drop, get_or, ◌<◌, ◌+◌, Option, Some}
use Rattle.std.proofs.Common.{None, Result, Ok, Err, IfOk, IfErr, refl, sym, ap, subst, ◌∙◌, filter}
use Rattle.std.specs.Option.{MatchOption, is_some}
use Rattle.std.proofs.lemmas.Bool.{false≢true}
use Rattle.std.proofs.lemmas.List.{at_drop_more}
use Rattle.units.specs.Lists.{head, first, when}
use Rattle.units.specs.Ids.{Id, same_id, has_id}
use Rattle.units.specs.ById.{IsById}
use Rattle.units.specs.Locks.{Claim, is_free, exclusive}
use Rattle.units.specs.declared.lock.Lock.{Lock}
use Rattle.units.specs.declared.writes.Write.{Write}
use Rattle.units.specs.declared.lock.Mode.TheVariants.{Exclusive}
use Rattle.units.specs.declared.fault.Fault.{Fault}
use Rattle.record.specs.Records.{is_below, Status, HasAborted, HasSettled, HasClosed}
use Rattle.record.specs.Facts.{recorded}
use Rattle.protocol.specs.Rows.{Row, Standing, HasRow, WasRetired, standing, standing_by, standing_kept, claims, find_row, held_in}
use Rattle.protocol.specs.Plan.{Before, Plan, Planned, stands, opens, is_crowded, in_way}
use Rattle.protocol.proofs.RowTable.{claims-by_id}
use Rattle.rows.proofs.Steps.{claims-without_rows}
use Rattle.rows.specs.CodeRows.{is_collecting, is_reading, may_abort, may_close}
use Rattle.memory.specs.Carry.{may_drop, may_end}
use Rattle.memory.specs.Standings.{standing_of, row_by, Allows, TellsRow}
use Rattle.memory.specs.declared.standing.Standing.{Standing as CodeStanding}
use Rattle.memory.specs.Kept.{Kept, start_of, IsPlanned, IsRefusal}
use Rattle.memory.specs.Plans.{plan_of}
use Rattle.memory.specs.declared.plan.Step.{Step}
use Rattle.rows.proofs.OpensEach.{opens_in, opens-none, opens-more}

-- ---- how a transaction stands

-- one that is retired, and one that is not
pub stands-retired : (b : Before) (t : Id) → is_below b.facts.retired t ≡ true → stands b t ≡ WasRetired
unfolding standing
stands-retired b t gone = ap (λ (x : Bool). cond x WasRetired (standing_kept b.facts b.memory t)) gone

stands-kept : (b : Before) (t : Id) → is_below b.facts.retired t ≡ false → stands b t ≡ standing_kept b.facts b.memory t
unfolding standing
stands-kept b t kept = ap (λ (x : Bool). cond x WasRetired (standing_kept b.facts b.memory t)) kept

pub stands-row : (b : Before) (t : Id) (r : Row) → is_below b.facts.retired t ≡ false → find_row b.memory.rows t ≡ Some r
    → stands b t ≡ HasRow r.held r.phase
stands-row b t r kept e = stands-kept b t kept ∙ ap (λ o. standing_by o (recorded b.facts t) (has_id b.memory.ended t)) e

pub stands-past : (b : Before) (t : Id) (status : Status) (ended : Bool) → is_below b.facts.retired t ≡ false → find_row b.memory.rows t ≡ None
    → recorded b.facts t ≡ status → has_id b.memory.ended t ≡ ended → stands b t ≡ standing_by None status ended
stands-past b t status ended kept e recorded_so ended_so =
    stands-kept b t kept
    ∙ ap (λ o. standing_by o (recorded b.facts t) (has_id b.memory.ended t)) e
    ∙ ap (λ s. standing_by None s (has_id b.memory.ended t)) recorded_so
    ∙ ap (standing_by None status) ended_so

-- a transaction that has no row
pub no_row : (t : Id) (status : Status) (ended : Bool) → row_by t (standing_by None status ended) ≡ None
no_row t HasAborted ended = refl
no_row t (HasSettled at parts) ended = refl
no_row t (HasClosed coordinator outcome) ended = refl
no_row t _ true = refl
no_row t _ false = refl

-- what a standing allows
ends_by : (rows : List Row) (t : Id) (o : Option Row) → find_row rows t ≡ o
    → may_end rows t ≡ elim o as (λ _. Bool) [ None ↦ true | Some r ↦ is_reading r.phase ]
ends_by rows t o e = ap (λ (o : Option Row). elim o as (λ _. Bool) [ None ↦ true | Some r ↦ is_reading r.phase ]) e

drops_by : (rows : List Row) (t : Id) (o : Option Row) → find_row rows t ≡ o
    → may_drop rows t ≡ elim o as (λ _. Bool) [ None ↦ true | Some r ↦ may_abort r.phase ]
drops_by rows t o e = ap (λ (o : Option Row). elim o as (λ _. Bool) [ None ↦ true | Some r ↦ may_abort r.phase ]) e

pub allows : (rows : List Row) (t : Id) (held : List Lock) (s : CodeStanding) → find_row rows t ≡ row_by t (standing_of held s) → Allows rows t s
allows rows t held CodeStanding.Retired e = tt
allows rows t held CodeStanding.Unknown e = (ends_by rows t _ e, drops_by rows t _ e)
allows rows t held CodeStanding.Ended e = (ends_by rows t _ e, drops_by rows t _ e)
allows rows t held CodeStanding.Idle e = (ends_by rows t _ e, drops_by rows t _ e)
allows rows t held (CodeStanding.WaitsRead k) e = (ends_by rows t _ e, drops_by rows t _ e)
allows rows t held (CodeStanding.WaitsPrepare p) e = (ends_by rows t _ e, drops_by rows t _ e)
allows rows t held (CodeStanding.WaitsCommit c) e = (ends_by rows t _ e, drops_by rows t _ e)
allows rows t held (CodeStanding.Collecting s) e = (ap (when (λ r. is_collecting r.phase)) e, drops_by rows t _ e)
allows rows t held (CodeStanding.Prepared s) e = ap (when (λ r. may_close r.phase)) e
allows rows t held (CodeStanding.Decided s) e = ap (when (λ r. may_close r.phase)) e
allows rows t held CodeStanding.Aborted e = (ends_by rows t _ e, drops_by rows t _ e)
allows rows t held (CodeStanding.Settled c) e = (ends_by rows t _ e, drops_by rows t _ e)
allows rows t held (CodeStanding.Closed outcome) e = (ends_by rows t _ e, drops_by rows t _ e)

pub tells : (rows : List Row) (t : Id) (s : CodeStanding) → find_row rows t ≡ row_by t (standing_of (held_in rows t) s) → TellsRow rows t s
tells rows t CodeStanding.Retired e = tt
tells rows t _ e = e

-- ---- plans by how a transaction stands

-- a plan that may be refused for want of memory alone
pub planned-ok : (k : Kept) (p : Plan) (result : Result Step Fault) → IfOk result (λ step. plan_of k.memory.rows step ≡ p)
    → IfErr result (λ fault. fault ≡ Fault.Memory) → IsPlanned k (Ok p) result
planned-ok k p (Ok plan) made memory = ap Ok (sym made)
planned-ok k p (Err fault) made memory = memory

pub planned-by : (k : Kept) (planned : Planned) (p : Plan) (result : Result Step Fault) → planned ≡ Ok p
    → IfOk result (λ step. plan_of k.memory.rows step ≡ p) → IfErr result (λ fault. fault ≡ Fault.Memory) → IsPlanned k planned result
planned-by k planned p result is made memory = subst (λ q. IsPlanned k q result) (sym is) (planned-ok k p result made memory)

-- a refusal
pub refused-by : (planned : Planned) (fault : Fault) → planned ≡ Err fault → IsRefusal planned fault
refused-by planned fault is = subst (λ q. IsRefusal q fault) (sym is) refl

-- by the row
pub planned-row : (k : Kept) (t : Id) (plan : Standing → Planned) (r : Row) (result : Result Step Fault) → is_below k.facts.retired t ≡ false
    → find_row k.memory.rows t ≡ Some r → IsPlanned k (plan (HasRow r.held r.phase)) result → IsPlanned k (plan (stands (start_of k) t)) result
planned-row k t plan r result kept e made = subst (λ s. IsPlanned k (plan s) result) (sym (stands-row (start_of k) t r kept e)) made

-- ---- whether there is room

-- a transaction has a row where one is found
pub any-first : (p : Row → Bool) (rows : List Row) → list_any p rows ≡ elim (first p rows) as (λ _. Bool) [ None ↦ false | Some r ↦ true ]
any-first p [] = refl
any-first p (q ∷ qs) = by_test (p q) (any-first p qs)
  where
    by_test : (b : Bool) → list_any p qs ≡ elim (first p qs) as (λ _. Bool) [ None ↦ false | Some r ↦ true ]
        → (b || list_any p qs) ≡ elim (head (cond b (q ∷ filter p qs) (filter p qs))) as (λ _. Bool) [ None ↦ false | Some r ↦ true ]
    by_test true e = refl
    by_test false e = e

crowded_by : (b : Before) (t : Id) (o : Option Row) → find_row b.memory.rows t ≡ o → true ≡ nat_le b.capacity (length b.memory.rows)
    → not (elim o as (λ _. Bool) [ None ↦ false | Some r ↦ true ]) ≡ is_crowded b t
crowded_by b t o e full =
    ap (λ (p : Option Row). not (elim p as (λ _. Bool) [ None ↦ false | Some r ↦ true ])) (sym e)
    ∙ ap not (sym (any-first (λ r. same_id r.txn t) b.memory.rows))
    ∙ ap (λ a. a && not (list_any (λ r. same_id r.txn t) b.memory.rows)) full

-- in a full table, by what the search for its row finds
pub crowded-search : {X : Type 0} (b : Before) (t : Id) (o : Option X) (is_none : Bool) (seen : X → Row)
    → MatchOption o (find_row b.memory.rows t ≡ None) (λ x. find_row b.memory.rows t ≡ Some (seen x))
    → is_some o ≡ not is_none → true ≡ nat_le b.capacity (length b.memory.rows) → is_none ≡ is_crowded b t
crowded-search b t None true seen found said full = crowded_by b t None found full
crowded-search b t None false seen found said full = absurd (false≢true said)
crowded-search b t (Some x) true seen found said full = absurd (false≢true (sym said))
crowded-search b t (Some x) false seen found said full = crowded_by b t (Some (seen x)) found full

-- ---- whether a request is granted

opens-claims : (b : Before) (t : Id) (needs : List Lock) → opens b t needs ≡ opens_in (claims b.memory.rows) t needs
opens-claims b t needs = ap (λ (s : List Claim). is_free s t needs) (claims-without_rows b.memory.rows (in_way b t needs))

pub opens_no_writes : (b : Before) (t : Id) → IsById (λ r. r.txn) b.memory.rows → opens b t [] ≡ true
opens_no_writes b t up = opens-claims b t [] ∙ opens-none (claims b.memory.rows) t (claims-by_id b.memory.rows up)

pub opens_one_more : (b : Before) (t : Id) (l : Lock) (ls : List Lock) → IsById (λ r. r.txn) b.memory.rows
    → opens b t (l ∷ ls) ≡ (opens b t (l ∷ []) && opens b t ls)
opens_one_more b t l ls up =
    opens-claims b t (l ∷ ls)
    ∙ opens-more (claims b.memory.rows) t l ls (claims-by_id b.memory.rows up)
    ∙ ap (λ a. a && opens_in (claims b.memory.rows) t ls) (sym (opens-claims b t (l ∷ [])))
    ∙ ap (λ a. opens b t (l ∷ []) && a) (sym (opens-claims b t ls))

-- the writes that are left, and the next of them
pub opens_next : (b : Before) (t : Id) (ws : List Write) (i : ℕ) (w : Write) → IsById (λ r. r.txn) b.memory.rows → i < length ws → w ≡ get_or ws i w
    → opens b t (exclusive (drop i ws)) ≡ (opens b t (exclusive (w ∷ [])) && opens b t (exclusive (drop (i + 1) ws)))
opens_next b t ws i w up less is =
    at_drop_more (λ (vs : List Write). opens b t (exclusive vs)) ws i w less
    ∙ ap (λ (v : Write). opens b t (exclusive (v ∷ drop (i + 1) ws))) (sym is)
    ∙ opens_one_more b t (record { key = w.key; mode = Exclusive }) (exclusive (drop (i + 1) ws)) up
