-- The row of a standing, those in the way of a request, and the locks that a grant gives.
use Rattle.std.proofs.Common.{◌≡◌, Bool, true, false, ◌&&◌, not, cond, nat_le, List, [], ◌∷◌, map, filter, length, Option, Some, None, refl, sym, ap}
use Rattle.std.proofs.Common.{subst, ◌∙◌, arith, option_map}
use Rattle.std.specs.List.{AllByRecursion, list_any}
use Rattle.std.proofs.lemmas.Bool.{false≢true}
use Rattle.std.proofs.lemmas.Bool.Decides.{nat_tests}
use Rattle.units.specs.Ids.{Id, same_id, older}
use Rattle.units.specs.ById.{IsById, find_member}
use Rattle.units.specs.Keys.{Bytes}
use Rattle.units.specs.Locks.{Claim, blockers, waits_before, clash, exclusive, is_free, others, ready, stronger, with_lock, with_locks}
use Rattle.units.specs.LockLaws.{IsReady, IsOldestReady}
use Rattle.units.specs.declared.lock.Lock.{Lock}
use Rattle.units.specs.declared.lock.Mode.{Mode}
use Rattle.units.specs.declared.lock.Mode.TheVariants.{Shared, Exclusive}
use Rattle.units.specs.declared.writes.Write.{Write}
use Rattle.units.proofs.IdLaws.{same_id-is, same_id_comm, older_not_same}
use Rattle.units.proofs.KeyLaws.{same_key-refl}
use Rattle.units.proofs.ByIdLaws.{found_is, found_has}
use Rattle.record.specs.Records.{Status, Unrecorded, StandsPrepared, StandsDecided, HasAborted, HasSettled, HasClosed}
use Rattle.record.specs.Facts.{recorded}
use Rattle.record.specs.Records.{is_below}
use Rattle.locks.specs.Ways.{gives_way}
use Rattle.locks.proofs.Clashes.{clash_nil}
use Rattle.locks.proofs.Oldest.{ready_is_oldest}
use Rattle.locks.proofs.WayLaws.{wounded-is}
use Rattle.protocol.specs.Rows.{Row, Phase, Standing, HasRow, WasRetired, standing, standing_by, standing_kept, claim_of, claims, find_row, is_firm, needs_of}
use Rattle.protocol.specs.Plan.{Before, stands, in_way, is_crowded}
use Rattle.protocol.specs.Sound.{holds_alone, holds_writes, is_exclusive}
use Rattle.protocol.proofs.RowChanges.{row_as, find_each}
use Rattle.protocol.proofs.RowTable.{claims-by_id, claims-find_row}
use Rattle.protocol.proofs.Shapes.{IsLooseOther, stands_kept}

-- ---- the row of a standing

same_row : (r : Row) (t : Id) (held : List Lock) (phase : Phase) → r.txn ≡ t → r.held ≡ held → r.phase ≡ phase → Some r ≡ Some (row_as t held phase)
same_row r t held phase e f g = λ i. Some (record { txn = e i; held = f i; phase = g i })

by_row : (rows : List Row) (t : Id) (held : List Lock) (phase : Phase) (o : Option Row) (s : Status) (b : Bool) → find_row rows t ≡ o
    → standing_by o s b ≡ HasRow held phase → o ≡ Some (row_as t held phase)
by_row rows t held phase (Some r) s b found e =
    let own : r.txn ≡ t = same_id-is r.txn t (found_is (λ (q : Row). q.txn) rows t r found) in
    let holds : r.held ≡ held = cc in
    let phased : r.phase ≡ phase = cc in
    same_row r t held phase own holds phased
by_row rows t held phase None HasAborted b found e = cc
by_row rows t held phase None (HasSettled at ps) b found e = cc
by_row rows t held phase None (HasClosed c o) b found e = cc
by_row rows t held phase None Unrecorded true found e = cc
by_row rows t held phase None Unrecorded false found e = cc
by_row rows t held phase None (StandsPrepared p) true found e = cc
by_row rows t held phase None (StandsPrepared p) false found e = cc
by_row rows t held phase None (StandsDecided c) true found e = cc
by_row rows t held phase None (StandsDecided c) false found e = cc

-- who stands by a row has it
pub row_at : (b : Before) (t : Id) (held : List Lock) (phase : Phase) → stands b t ≡ HasRow held phase → find_row b.memory.rows t ≡ Some (row_as t held phase)
unfolding standing
row_at b t held phase e =
    by_row b.memory.rows t held phase (find_row b.memory.rows t) (recorded b.facts t) _ refl
    (by_cond (is_below b.facts.retired t) (standing_kept b.facts b.memory t) e)
  where
    by_cond : (c : Bool) (s : Standing) → cond c WasRetired s ≡ HasRow held phase → s ≡ HasRow held phase
    by_cond true s e = cc
    by_cond false s e = e

-- and who has a row and is not retired stands by it
pub stands_at : (b : Before) (t : Id) (r : Row) → is_below b.facts.retired t ≡ false → find_row b.memory.rows t ≡ Some r → stands b t ≡ HasRow r.held r.phase
stands_at b t r kept found =
    stands_kept b t kept ∙ ap (λ o. standing_by o (recorded b.facts t) (list_any (same_id t) b.memory.ended)) found

-- there is room for who has a row
pub room_at : (b : Before) (t : Id) (r : Row) → find_row b.memory.rows t ≡ Some r → is_crowded b t ≡ false
room_at b t r found = rw (found_has (λ (q : Row). q.txn) b.memory.rows t r found) (no_room (nat_le b.capacity (length b.memory.rows)))
  where
    no_room : (c : Bool) → (c && false) ≡ false
    no_room true = refl
    no_room false = refl

-- ---- those in the way

-- what each has that gives way, the wounded have
of_wounded : (P : Id → Type 0) (p : Claim → Bool) (rows : List Row) → AllByRecursion (λ r. p (claim_of r) ≡ true → P r.txn) rows
    → AllByRecursion P (map (λ c. c.txn) (filter p (claims rows)))
of_wounded P p [] all = tt
of_wounded P p (r ∷ rs) all = by_test (p (claim_of r)) refl (of_wounded P p rs all.1)
  where
    by_test : (b : Bool) → p (claim_of r) ≡ b → AllByRecursion P (map (λ (c : Claim). c.txn) (filter p (claims rs)))
        → AllByRecursion P (map (λ (c : Claim). c.txn) (cond b (claim_of r ∷ filter p (claims rs)) (filter p (claims rs))))
    by_test true e rest = (all.0 e, rest)
    by_test false e rest = rest

not_firm : (o f k : Bool) → (o && (not f && k)) ≡ true → (o ≡ true) × (f ≡ false)
not_firm true false k e = (refl, refl)
not_firm true true k e = absurd (false≢true e)
not_firm false f k e = absurd (false≢true e)

-- the wounded are others, and may be ended
pub in_way_gone : (b : Before) (t : Id) (needs : List Lock) → IsById (λ r. r.txn) b.memory.rows →
    AllByRecursion (IsLooseOther b.memory.rows t) (in_way b t needs)
in_way_gone b t needs up =
    subst (AllByRecursion (IsLooseOther b.memory.rows t)) (sym (wounded-is (claims b.memory.rows) t needs))
    (of_wounded (IsLooseOther b.memory.rows t) (gives_way t needs) b.memory.rows (each_row b.memory.rows (find_each b.memory.rows up)))
  where
    loose_row : (r : Row) → find_row b.memory.rows r.txn ≡ Some r → gives_way t needs (claim_of r) ≡ true → IsLooseOther b.memory.rows t r.txn
    loose_row r found gives =
        let p = not_firm (older t r.txn) (is_firm r.phase) (clash r.held needs) gives in
        record {
          other = same_id_comm r.txn t ∙ older_not_same t r.txn p.0;
          loose = λ q there. let same : r ≡ q = cc in ap (λ (z : Row). is_firm z.phase) (sym same) ∙ p.1;
        }

    each_row : (rs : List Row) → AllByRecursion (λ r. find_row b.memory.rows r.txn ≡ Some r) rs
        → AllByRecursion (λ r. gives_way t needs (claim_of r) ≡ true → IsLooseOther b.memory.rows t r.txn) rs
    each_row [] found = tt
    each_row (r ∷ rs) found = (λ gives. loose_row r found.0 gives, each_row rs found.1)

-- ---- requests that nobody is in the way of

keep_none : (p : Claim → Bool) (cs : List Claim) → ((c : Claim) → p c ≡ false) → filter p cs ≡ []
keep_none p [] none = refl
keep_none p (c ∷ cs) none = rw (none c) (keep_none p cs none)

free_by : (table : List Claim) (t : Id) (needs : List Lock) → blockers table t needs ≡ [] → waits_before table t needs ≡ [] → is_free table t needs ≡ true
unfolding is_free
free_by table t needs e f =
    ap (λ cs. not (list_any (λ (c : Claim). true) cs) && not (list_any (λ (c : Claim). true) (waits_before table t needs))) e
    ∙ ap (λ cs. not (list_any (λ (c : Claim). true) cs)) f

-- nobody is in the way of who needs nothing
pub free_of_nothing : (table : List Claim) (t : Id) → is_free table t [] ≡ true
free_of_nothing table t =
    free_by table t [] (keep_none (λ c. clash c.held []) (others table t) (λ c. clash_nil c.held))
    (keep_none (λ c. older c.txn t && clash c.needs []) (others table t) (λ c. ap (λ k. older c.txn t && k) (clash_nil c.needs) ∙ and_false (older c.txn t)))
  where
    and_false : (c : Bool) → (c && false) ≡ false
    and_false true = refl
    and_false false = refl

-- nor of the one that is ready
pub free_when_ready : (rows : List Row) (t : Id) (r : Row) → IsById (λ q. q.txn) rows → ready (claims rows) ≡ Some t → find_row rows t ≡ Some r
    → is_free (claims rows) t (needs_of r.phase) ≡ true
free_when_ready rows t r up is_ready found =
    let oldest : IsOldestReady (claims rows) (Some t) = subst (IsOldestReady (claims rows)) is_ready (ready_is_oldest (claims rows) (claims-by_id rows up)) in
    let c : Claim = oldest.0 in
    let there : find_member (λ (d : Claim). d.txn) (claims rows) t ≡ Some (claim_of r) = claims-find_row rows t ∙ ap (option_map claim_of) found in
    let is : c ≡ claim_of r = some_is c (claim_of r) (sym oldest.1 ∙ there) in
    let able : IsReady (claims rows) (claim_of r) = subst (IsReady (claims rows)) is oldest.2 in
    let own : r.txn ≡ t = same_id-is r.txn t (found_is (λ (q : Row). q.txn) rows t r found) in
    subst (λ u. is_free (claims rows) u (needs_of r.phase) ≡ true) own (free_by (claims rows) r.txn (needs_of r.phase) able.1 able.2)
  where
    some_is : (c d : Claim) → Some c ≡ Some d → c ≡ d
    some_is c d e = cc

-- ---- what is written is held alone once it is granted

exclusive_still : (m n : Mode) → is_exclusive m ≡ true → is_exclusive (stronger m n) ≡ true
exclusive_still Exclusive n e = refl
exclusive_still Shared n e = absurd (false≢true e)

exclusive_now : (m : Mode) → is_exclusive (stronger m Exclusive) ≡ true
exclusive_now Exclusive = refl
exclusive_now Shared = refl

-- what was held alone is so with one lock more
alone_still : (held : List Lock) (l : Lock) (k : Bytes) → holds_alone held k ≡ true → holds_alone (with_lock held l) k ≡ true
alone_still [] l k e = absurd (false≢true e)
alone_still (h ∷ hs) l k e = grind (arith, nat_tests, alone_still hs l k, exclusive_still h.mode l.mode)

-- and the key of an exclusive lock is held alone
alone_now : (held : List Lock) (k : Bytes) → holds_alone (with_lock held (record { key = k; mode = Exclusive })) k ≡ true
alone_now [] k = rw (same_key-refl k) refl
alone_now (h ∷ hs) k = grind (arith, nat_tests, alone_now hs k, exclusive_now h.mode, same_key-refl k)

alone_later : (ls : List Lock) (held : List Lock) (k : Bytes) → holds_alone held k ≡ true → holds_alone (with_locks held ls) k ≡ true
alone_later [] held k e = e
alone_later (l ∷ ls) held k e = alone_later ls (with_lock held l) k (alone_still held l k e)

pub holds_exclusive : (ws : List Write) (held : List Lock) → holds_writes (with_locks held (exclusive ws)) ws ≡ true
holds_exclusive [] held = refl
holds_exclusive (w ∷ ws) held =
    let now : Lock = record { key = w.key; mode = Exclusive } in
    ap (λ b. b && holds_writes (with_locks (with_lock held now) (exclusive ws)) ws)
    (alone_later (exclusive ws) (with_lock held now) w.key (alone_now held w.key))
    ∙ holds_exclusive ws (with_lock held now)
