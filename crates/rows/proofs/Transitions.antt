-- Each transition of a state, as a contract sees the rows before and after it.
use Rattle.std.proofs.Common.{◌≡◌, ℕ, Bool, true, false, cond, List, [], ◌∷◌, Option, Some, None, refl, sym, ap, ◌∙◌}
use Rattle.std.proofs.lemmas.Bool.{false≢true}
use Rattle.units.specs.Ids.{Id, same_id}
use Rattle.units.specs.ById.{IsById, change_member}
use Rattle.units.specs.Locks.{Claim, with_locks}
use Rattle.units.specs.declared.lock.Lock.{Lock}
use Rattle.units.proofs.ByIdLaws.{change_is_with}
use Rattle.record.specs.declared.record.Record.{Record}
use Rattle.protocol.specs.Rows.{Row, Idle, claim_of, claims, find_row, with_row, needs_of, is_firm, held_in}
use Rattle.protocol.proofs.RowTable.{with_row-is}
use Rattle.locks.specs.Table.{Token, change_claim, granted, waiting, made_firm}
use Rattle.rows.specs.States.{ReadingState, CollectingState, PreparedState, DecidedState, is_prepare_of, is_commit_of, prepared_by, decided_by}
use Rattle.rows.specs.States.{collecting_of, collecting_with_yes as with_yes_state}
use Rattle.rows.specs.CodeRows.{phase_of, phase_of_wait, put_in, is_idle, is_collecting, may_decide}
use Rattle.rows.specs.CodeRows.{IsOut}
use Rattle.rows.specs.RowTable.{RowTable, table_of, paired, has_phase, put_row, phase_by, phase_in, phase_of_row, with_yes}
use Rattle.rows.specs.declared.row.Row.{Row as CodeRow}
use Rattle.rows.specs.declared.row.Row.TheVariants.{Reading, Collecting, Prepared, Decided}
use Rattle.rows.specs.declared.wait.Wait.{Wait}
use Rattle.rows.specs.declared.wait.CommitRequest.{CommitRequest}
use Rattle.rows.proofs.Ties.{IsMoved, by_id-paired, found_row, found_passes, passes_seen}
use Rattle.rows.proofs.Steps.{stepped, kept, idle_is, firm_claim, prepared_token, prepared_phase, decided_token, decided_phase}

-- rows that moved, by what a contract saw of them before
told : {new : List CodeRow} {next : List Claim} {moved : List Row} {seen : RowTable} (rows : List CodeRow) (table : List Claim) (f : List Row → List Row)
    → moved ≡ f (paired rows table) → table_of rows table ≡ seen → IsMoved new next moved → IsMoved new next (f seen.rows)
told rows table f e view m = record { tied = m.tied; rows_are = m.rows_are ∙ e ∙ ap (λ (s : RowTable). f s.rows) view }

-- a transaction that is idle is prepared
pub prepared : {rows mid : List CodeRow} {t : Id} {s : ReadingState} {seen : RowTable} (new : List CodeRow) (table next : List Claim) (z : PreparedState)
    (r : Record) → IsOut rows mid t (Reading s) → claims (paired rows table) ≡ table → table_of rows table ≡ seen
    → has_phase is_idle seen.rows t ≡ true → is_prepare_of t r ≡ true
    → new ≡ put_in mid (Prepared z) → z ≡ prepared_by s.token r → next ≡ change_claim table s.token.txn made_firm
    → IsMoved new next (put_row seen.rows t (held_in seen.rows t) (phase_by r))
prepared {rows = rows} {t = t} {s = s} new table next z r out tied view idle mine new_is z_is next_is =
    let held = held_in (paired rows table) t in
    told rows table (λ (l : List Row). put_row l t (held_in l t) (phase_by r))
    (ap (put_row (paired rows table) t held) (ap (λ (x : PreparedState). phase_of (Prepared x)) z_is ∙ prepared_phase t s.token r mine)) view
    (stepped new table next (Prepared z) held made_firm out tied new_is
    (ap (λ (x : PreparedState). x.token.txn) z_is ∙ ap (λ (k : Token). k.txn) (prepared_token s.token r)) next_is
    (firm_claim t held (phase_of_wait s.wait) (phase_of (Prepared z)) (idle_is (phase_of_wait s.wait)
    (found_passes is_idle rows t (Reading s) out.row (passes_seen is_idle rows table t view idle))) refl refl))

-- a phase of a transaction that reads
pub reading_is_open : (w : Option Wait) → is_firm (phase_of_wait w) ≡ false
reading_is_open None = refl
reading_is_open (Some (Wait.Read k)) = refl
reading_is_open _ = refl

-- one that reads and may decide is idle
reading_decides : (w : Option Wait) → may_decide (phase_of_wait w) ≡ true → phase_of_wait w ≡ Idle
reading_decides None e = refl
reading_decides (Some (Wait.Read k)) e = absurd (false≢true e)
reading_decides _ e = absurd (false≢true e)

-- who may decide reads or collects
pub who_decides : (y : CodeRow) → may_decide (phase_of y) ≡ true → ((x : ReadingState) → y ≡ Reading x → ⊥) → ((x : CollectingState) → y ≡ Collecting x → ⊥) → ⊥
who_decides (Reading s) h n m = n s refl
who_decides (Collecting s) h n m = m s refl
who_decides (Prepared s) h n m = false≢true h
who_decides (Decided s) h n m = false≢true h

-- a transaction that is idle is decided
pub decided : {rows mid : List CodeRow} {t : Id} {s : ReadingState} {seen : RowTable} (new : List CodeRow) (table next : List Claim) (z : DecidedState)
    (r : Record) → IsOut rows mid t (Reading s) → claims (paired rows table) ≡ table → table_of rows table ≡ seen
    → has_phase may_decide seen.rows t ≡ true → is_commit_of t r ≡ true
    → new ≡ put_in mid (Decided z) → z ≡ decided_by s.token r → next ≡ change_claim table s.token.txn made_firm
    → IsMoved new next (put_row seen.rows t (held_in seen.rows t) (phase_by r))
decided {rows = rows} {t = t} {s = s} new table next z r out tied view may mine new_is z_is next_is =
    let held = held_in (paired rows table) t in
    told rows table (λ (l : List Row). put_row l t (held_in l t) (phase_by r))
    (ap (put_row (paired rows table) t held) (ap (λ (x : DecidedState). phase_of (Decided x)) z_is ∙ decided_phase t s.token r mine)) view
    (stepped new table next (Decided z) held made_firm out tied new_is
    (ap (λ (x : DecidedState). x.token.txn) z_is ∙ ap (λ (k : Token). k.txn) (decided_token s.token r)) next_is
    (firm_claim t held (phase_of_wait s.wait) (phase_of (Decided z)) (reading_decides s.wait
    (found_passes may_decide rows t (Reading s) out.row (passes_seen may_decide rows table t view may))) refl refl))

-- and one that collects votes is decided
pub decided_by_votes : {rows mid : List CodeRow} {t : Id} {s : CollectingState} {seen : RowTable} (new : List CodeRow) (table : List Claim)
    (z : DecidedState) (r : Record) → IsOut rows mid t (Collecting s) → claims (paired rows table) ≡ table → table_of rows table ≡ seen
    → is_commit_of t r ≡ true → new ≡ put_in mid (Decided z) → z ≡ decided_by s.token r
    → IsMoved new table (put_row seen.rows t (held_in seen.rows t) (phase_by r))
decided_by_votes {rows = rows} {t = t} {s = s} new table z r out tied view mine new_is z_is =
    told rows table (λ (l : List Row). put_row l t (held_in l t) (phase_by r))
    (ap (put_row (paired rows table) t (held_in (paired rows table) t)) (ap (λ (x : DecidedState). phase_of (Decided x)) z_is
    ∙ decided_phase t s.token r mine)) view
    (kept new table (Decided z) out tied new_is
    (ap (λ (x : DecidedState). x.token.txn) z_is ∙ ap (λ (k : Token). k.txn) (decided_token s.token r)) refl refl)

-- a transaction that is idle collects votes
pub collected : {rows mid : List CodeRow} {t : Id} {s : ReadingState} {seen : RowTable} (new : List CodeRow) (table next : List Claim) (z : CollectingState)
    (request : CommitRequest) → IsOut rows mid t (Reading s) → claims (paired rows table) ≡ table → table_of rows table ≡ seen
    → has_phase is_idle seen.rows t ≡ true
    → new ≡ put_in mid (Collecting z) → z ≡ collecting_of s.token request → next ≡ change_claim table s.token.txn made_firm
    → IsMoved new next (put_row seen.rows t (held_in seen.rows t) (phase_of (Collecting (collecting_of s.token request))))
collected {rows = rows} {t = t} {s = s} new table next z request out tied view idle new_is z_is next_is =
    let held = held_in (paired rows table) t in
    told rows table (λ (l : List Row). put_row l t (held_in l t) (phase_of (Collecting (collecting_of s.token request))))
    (ap (put_row (paired rows table) t held) (ap (λ (x : CollectingState). phase_of (Collecting x)) z_is)) view
    (stepped new table next (Collecting z) held made_firm out tied new_is (ap (λ (x : CollectingState). x.token.txn) z_is) next_is
    (firm_claim t held (phase_of_wait s.wait) (phase_of (Collecting z)) (idle_is (phase_of_wait s.wait)
    (found_passes is_idle rows t (Reading s) out.row (passes_seen is_idle rows table t view idle))) refl refl))

-- what a transaction that reads has is told by what it waits with
reading_claim : (t : Id) (held : List Lock) (w : Option Wait) → claim_of (record { txn = t; held = held; phase = phase_of_wait w }) ≡
    record { txn = t; held = held; needs = needs_of (phase_of_wait w); firm = false }
reading_claim t held w = ap (λ (b : Bool). record { txn = t; held = held; needs = needs_of (phase_of_wait w); firm = b }) (reading_is_open w)

-- a transaction that reads is granted some locks
pub granted_more : {rows mid : List CodeRow} {t : Id} {s : ReadingState} {seen : RowTable} (new : List CodeRow) (table next : List Claim) (z : ReadingState)
    (needs : List Lock) → IsOut rows mid t (Reading s) → claims (paired rows table) ≡ table → table_of rows table ≡ seen
    → new ≡ put_in mid (Reading z) → z.token.txn ≡ s.token.txn → z.wait ≡ None → next ≡ change_claim table s.token.txn (granted needs)
    → IsMoved new next (put_row seen.rows t (with_locks (held_in seen.rows t) needs) Idle)
granted_more {rows = rows} {t = t} {s = s} new table next z needs out tied view new_is same idle next_is =
    let held = with_locks (held_in (paired rows table) t) needs in
    told rows table (λ (l : List Row). put_row l t (with_locks (held_in l t) needs) Idle)
    (ap (λ (w : Option Wait). put_row (paired rows table) t held (phase_of_wait w)) idle) view
    (stepped new table next (Reading z) held (granted needs) out tied new_is same next_is
    (ap (λ (w : Option Wait). claim_of (record { txn = t; held = held; phase = phase_of_wait w })) idle
    ∙ sym (ap (granted needs) (reading_claim t (held_in (paired rows table) t) s.wait))))

-- a transaction that reads waits with something
pub waits_with : {rows mid : List CodeRow} {t : Id} {s : ReadingState} {seen : RowTable} (new : List CodeRow) (table next : List Claim) (z : ReadingState)
    (wait : Wait) (needs : List Lock) → IsOut rows mid t (Reading s) → claims (paired rows table) ≡ table → table_of rows table ≡ seen
    → new ≡ put_in mid (Reading z) → z.token.txn ≡ s.token.txn → z.wait ≡ Some wait → needs ≡ needs_of (phase_of_wait (Some wait))
    → next ≡ change_claim table s.token.txn (waiting needs) → IsMoved new next (put_row seen.rows t (held_in seen.rows t) (phase_of_wait (Some wait)))
waits_with {rows = rows} {t = t} {s = s} new table next z wait needs out tied view new_is same with needs_are next_is =
    let held = held_in (paired rows table) t in
    told rows table (λ (l : List Row). put_row l t (held_in l t) (phase_of_wait (Some wait)))
    (ap (λ (w : Option Wait). put_row (paired rows table) t held (phase_of_wait w)) with) view
    (stepped new table next (Reading z) held (waiting needs) out tied new_is same next_is
    (ap (λ (w : Option Wait). claim_of (record { txn = t; held = held; phase = phase_of_wait w })) with
    ∙ reading_claim t held (Some wait) ∙ ap (λ (n : List Lock). record { txn = t; held = held; needs = n; firm = false }) (sym needs_are)
    ∙ sym (ap (waiting needs) (reading_claim t held s.wait))))

-- a row given anew as it is changes nothing
with_same : (rows : List Row) (q : Row) → IsById (λ q. q.txn) rows → find_row rows q.txn ≡ Some q → with_row rows q ≡ rows
with_same rows q up found =
    with_row-is rows q ∙ sym (change_is_with (λ (q : Row). q.txn) rows q.txn (λ q. q) q up found refl) ∙ unchanged rows
  where
    unchanged : (qs : List Row) → change_member (λ (q : Row). q.txn) qs q.txn (λ q. q) ≡ qs
    unchanged [] = refl
    unchanged (p ∷ qs) = elim (same_id p.txn q.txn) as (λ b. cond b p p ∷ change_member (λ (q : Row). q.txn) qs q.txn (λ q. q) ≡ p ∷ qs) [
      | true ↦ ap (λ l. p ∷ l) (unchanged qs)
      | false ↦ ap (λ l. p ∷ l) (unchanged qs)
    ]

-- a transaction that reads is given room
pub given_room : {rows mid : List CodeRow} {t : Id} {s : ReadingState} {seen : RowTable} (new : List CodeRow) (table : List Claim) (z : ReadingState)
    → IsOut rows mid t (Reading s) → claims (paired rows table) ≡ table → table_of rows table ≡ seen
    → new ≡ put_in mid (Reading z) → z.token.txn ≡ s.token.txn → z.wait ≡ s.wait → IsMoved new table seen.rows
given_room {rows = rows} {t = t} {s = s} new table z out tied view new_is same wait =
    let held = held_in (paired rows table) t in
    told rows table (λ (l : List Row). l)
    (ap (λ (w : Option Wait). put_row (paired rows table) t held (phase_of_wait w)) wait
    ∙ with_same (paired rows table) (record { txn = t; held = held; phase = phase_of_wait s.wait }) (by_id-paired rows table out.laws.order)
    (found_row rows table t (Reading s) out.row)) view
    (kept new table (Reading z) out tied new_is same
    (ap (λ (w : Option Wait). needs_of (phase_of_wait w)) wait) (ap (λ (w : Option Wait). is_firm (phase_of_wait w)) wait))

-- who collects votes is the coordinator
pub who_collects : (y : CodeRow) → is_collecting (phase_of y) ≡ true → ((x : CollectingState) → y ≡ Collecting x → ⊥) → ⊥
who_collects (Reading s) h n = by_wait s.wait h
  where
    by_wait : (w : Option Wait) → is_collecting (phase_of_wait w) ≡ true → ⊥
    by_wait None e = false≢true e
    by_wait (Some (Wait.Read k)) e = false≢true e
    by_wait (Some (Wait.Prepare p)) e = false≢true e
    by_wait (Some (Wait.Commit c)) e = false≢true e
who_collects (Collecting s) h n = n s refl
who_collects (Prepared s) h n = false≢true h
who_collects (Decided s) h n = false≢true h

-- a yes comes
pub voted : {rows mid : List CodeRow} {t : Id} {s : CollectingState} {seen : RowTable} (new : List CodeRow) (table : List Claim) (z : CollectingState)
    (n p : ℕ) → IsOut rows mid t (Collecting s) → claims (paired rows table) ≡ table → table_of rows table ≡ seen
    → new ≡ put_in mid (Collecting z) → z ≡ with_yes_state n p s
    → IsMoved new table (put_row seen.rows t (held_in seen.rows t) (with_yes n p (phase_in seen.rows t)))
voted {rows = rows} {t = t} {s = s} new table z n p out tied view new_is z_is =
    let held = held_in (paired rows table) t in
    told rows table (λ (l : List Row). put_row l t (held_in l t) (with_yes n p (phase_in l t)))
    (ap (λ (x : CollectingState). put_row (paired rows table) t held (phase_of (Collecting x))) z_is
    ∙ ap (λ (o : Option Row). put_row (paired rows table) t held (with_yes n p (phase_of_row o))) (sym (found_row rows table t (Collecting s) out.row)))
    view (kept new table (Collecting z) out tied new_is (ap (λ (x : CollectingState). x.token.txn) z_is) refl refl)
