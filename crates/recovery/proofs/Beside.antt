-- Whether a record has its place beside the rows that a log holds.
use Rattle.std.proofs.Common.{◌≡◌, ℕ, ◌-◌, ◌<◌, ◌≤◌, min, Bool, true, false, not, ◌&&◌, ◌||◌}
use Rattle.std.proofs.Common.{nat_lt, nat_le, List, [], ◌∷◌, ◌++◌, map, length, Option, Some, None, refl, sym}
use Rattle.std.proofs.Common.{ap, ◌∙◌, arith}
use Rattle.std.specs.List.{AllByRecursion, list_all, list_any}
use Rattle.std.proofs.lemmas.Bool.{and_parts, le-leb}
use Rattle.std.proofs.lemmas.Bool.Decides.{nat_tests}
use Rattle.units.specs.Limits.{most_rows}
use Rattle.units.specs.Lists.{gather, least_with}
use Rattle.units.specs.Ids.{Id, same_id}
use Rattle.units.specs.Keys.{Bytes}
use Rattle.units.specs.Locks.{clash, exclusive, is_free, locks_of, shared, wounded}
use Rattle.units.specs.Versions.{above_versions}
use Rattle.units.specs.declared.writes.Write.{Write}
use Rattle.units.proofs.ByIdLaws.{first_none}
use Rattle.record.specs.Facts.{Facts, TxnStatus, or_unrecorded, recorded}
use Rattle.record.specs.declared.record.Record.{Record}
use Rattle.record.specs.Records.{Status, Unrecorded, StandsPrepared, StandsDecided, HasAborted, HasSettled, HasClosed}
use Rattle.record.specs.declared.record.Committed.{Committed}
use Rattle.record.specs.declared.record.Prepared.{Prepared}
use Rattle.facts.specs.Rules.{follows_facts}
use Rattle.facts.specs.Stages.{follows_head, follows_next}
use Rattle.facts.specs.declared.stage.Stage.{Stage}
use Rattle.protocol.specs.Rows.{without_rows, Row, claims, find_row, held_stamp, rebuilt, safe, standing_row}
use Rattle.protocol.specs.Plan.{is_crowded, opens}
use Rattle.memory.specs.Carry.{Asks}
use Rattle.memory.specs.Kept.{Kept, start_of}
use Rattle.memory.specs.CodeRows.{is_reading}
use Rattle.protocol.specs.Beside.{standing_rows, stands_in}
use Rattle.recovery.specs.Recovered.{IsRecovered}
use Rattle.recovery.proofs.Locking.{all_still, locks_free, none_wounded}
use Rattle.recovery.proofs.StandingRows.{no_row}

pub rows_are : (k : Kept) → IsRecovered k → k.memory.rows ≡ standing_rows k.facts
unfolding rebuilt
rows_are k recovered = ap (λ m. m.rows) recovered.memory

-- nothing of it stands where there is no promise, decision or abort
pub none_standing : (e : TxnStatus) → or_unrecorded (Some e) ≡ Unrecorded → standing_row e ≡ None
none_standing e fresh = by_status e.status fresh
  where
    by_status : (s : Status) → s ≡ Unrecorded → standing_row (record { txn = e.txn; status = s }) ≡ None
    by_status Unrecorded k = refl
    by_status HasAborted k = refl
    by_status (HasSettled at ps) k = refl
    by_status (HasClosed c o) k = refl
    by_status (StandsPrepared p) k = cc
    by_status (StandsDecided c) k = cc

-- an id of which nothing is recorded has no row
pub fresh_absent : (k : Kept) (t : Id) → IsRecovered k → recorded k.facts t ≡ Unrecorded → find_row k.memory.rows t ≡ None
fresh_absent k t recovered fresh =
    ap (λ rows. find_row rows t) (rows_are k recovered)
    ∙ no_row k.facts.entries t recovered.order recovered.own (λ e found. none_standing e (ap or_unrecorded (sym found) ∙ fresh))

none_has : (rows : List Row) (t : Id) → AllByRecursion (λ r. same_id r.txn t ≡ false) rows → list_any (λ r. same_id r.txn t) rows ≡ false
none_has [] t all = refl
none_has (r ∷ rs) t all = rw (all.0) (none_has rs t all.1)

-- there is room for its row
roomy : (rows : List Row) (t : Id) → find_row rows t ≡ None → not (nat_le most_rows (length rows) && not (list_any (λ r. same_id r.txn t) rows)) ≡
    nat_lt (length rows) most_rows
roomy rows t absent =
    ap (λ b. not (nat_le most_rows (length rows) && not b)) (none_has rows t (first_none (λ (r : Row). same_id r.txn t) rows absent))
    ∙ grind (arith, nat_tests)

-- the request goes where nobody has its locks
opens_are : (k : Kept) (t : Id) (rs : List Bytes) (ws : List Write) → IsRecovered k → find_row k.memory.rows t ≡ None
    → opens (start_of k) t (shared rs ++ exclusive ws) ≡ not (list_any (clash (locks_of rs ws)) (map (λ r. r.held) (standing_rows k.facts)))
opens_are k t rs ws recovered absent =
    ap (λ rows. is_free (claims (without_rows rows (wounded (claims rows) t (shared rs ++ exclusive ws)))) t (shared rs ++ exclusive ws)) (rows_are k recovered)
    ∙ ap (λ us. is_free (claims (without_rows (standing_rows k.facts) us)) t (shared rs ++ exclusive ws))
    (none_wounded (standing_rows k.facts) t (shared rs ++ exclusive ws) (all_still k.facts))
    ∙ locks_free k.facts t rs ws (ap (λ rows. find_row rows t) (sym (rows_are k recovered)) ∙ absent)

-- so it stands beside them by the four tests
pub stands_are : (k : Kept) (t : Id) (at : ℕ) (rs : List Bytes) (ws : List Write) (crowded free late above : Bool) → IsRecovered k
    → find_row k.memory.rows t ≡ None → crowded ≡ is_crowded (start_of k) t → free ≡ opens (start_of k) t (shared rs ++ exclusive ws)
    → late ≡ nat_lt k.facts.horizon at → above ≡ above_versions k.facts.installs at ws
    → (not crowded && free && late && above) ≡ stands_in k.facts at rs ws
stands_are k t at rs ws crowded free late above recovered absent c f l a =
    let room : not crowded ≡ nat_lt (length (standing_rows k.facts)) most_rows =
    ap not c ∙ roomy k.memory.rows t absent ∙ ap (λ rows. nat_lt (length rows) most_rows) (rows_are k recovered) in
    let open_ : free ≡ not (list_any (clash (locks_of rs ws)) (map (λ r. r.held) (standing_rows k.facts))) = f ∙ opens_are k t rs ws recovered absent in
    ap (λ b. b && free && late && above) room ∙ ap (λ b. nat_lt (length (standing_rows k.facts)) most_rows && b && late && above) open_
    ∙ ap (λ b. nat_lt (length (standing_rows k.facts)) most_rows && not (list_any (clash (locks_of rs ws)) (map (λ r. r.held) (standing_rows k.facts)))
    && b && above) l
    ∙ ap (λ b. nat_lt (length (standing_rows k.facts)) most_rows && not (list_any (clash (locks_of rs ws)) (map (λ r. r.held) (standing_rows k.facts)))
    && nat_lt k.facts.horizon at && b) a

-- and then it may ask for its locks
pub asks_are : (k : Kept) (t : Id) (at : ℕ) (rs : List Bytes) (ws : List Write) → IsRecovered k → find_row k.memory.rows t ≡ None →
    stands_in k.facts at rs ws ≡ true
    → Asks k.memory.rows t [] (shared rs ++ exclusive ws) true
asks_are k t at rs ws recovered absent stands =
    let p = and_parts _ _ (and_parts _ _ (and_parts _ _ stands).0).0 in
    let room : nat_lt (length k.memory.rows) most_rows ≡ true = ap (λ rows. nat_lt (length rows) most_rows) (rows_are k recovered) ∙ p.0 in
    let nobody : wounded (claims k.memory.rows) t (shared rs ++ exclusive ws) ≡ [] =
    ap (λ rows. wounded (claims rows) t (shared rs ++ exclusive ws)) (rows_are k recovered)
    ∙ none_wounded (standing_rows k.facts) t (shared rs ++ exclusive ws) (all_still k.facts) in
    let free : is_free (claims k.memory.rows) t (shared rs ++ exclusive ws) ≡ true =
    ap (λ rows. is_free (claims rows) t (shared rs ++ exclusive ws)) (rows_are k recovered)
    ∙ locks_free k.facts t rs ws (ap (λ rows. find_row rows t) (sym (rows_are k recovered)) ∙ absent)
    ∙ p.1 in
    (by_row (find_row k.memory.rows t) absent room, sym nobody, free)
  where
    by_row : (o : Option Row) → o ≡ None → nat_lt (length k.memory.rows) most_rows ≡ true →
        (elim o [ None ↦ nat_lt (length k.memory.rows) most_rows | Some r ↦ is_reading r.phase ]) ≡ true
    by_row None none room = room
    by_row (Some r) none room = cc

-- ---- a horizon

safe_is : (k : Kept) → IsRecovered k → safe k.memory ≡ safe (rebuilt k.facts)
safe_is k recovered = ap safe recovered.memory

-- a time from the floor down is served where it is below each timestamp that stands
below_least : (at last : ℕ) (stamps : List ℕ) → 0 < at → at ≤ last → nat_le at (least_with last (map (λ s. s - 1) stamps)) ≡ list_all (nat_lt at) stamps
below_least at last [] some low = le-leb at last low
below_least at last (s ∷ stamps) some low =
    by_tests (least_with last (map (λ s. s - 1) stamps)) (list_all (nat_lt at) stamps) (below_least at last stamps some low)
  where
    by_tests : (least : ℕ) (all : Bool) → nat_le at least ≡ all → nat_le at (min (s - 1) least) ≡ (nat_lt at s && all)
    by_tests least true h = grind (arith, nat_tests)
    by_tests least false h = grind (arith, nat_tests)

pub below_rows : (k : Kept) (at : ℕ) → IsRecovered k → 0 < at → at ≤ k.facts.floor → nat_le at (safe k.memory) ≡
    list_all (nat_lt at) (gather (λ r. held_stamp r.phase) (standing_rows k.facts))
unfolding safe rebuilt
below_rows k at recovered some low =
    ap (nat_le at) (safe_is k recovered) ∙ below_least at k.facts.floor (gather (λ r. held_stamp r.phase) (standing_rows k.facts)) some low

-- a horizon that may come next is above 0, and not above the log's timestamps
pub horizon_rules : (shard : ℕ) (facts : Facts) (at : ℕ) → follows_facts shard facts (Record.Horizon at) ≡ true → (0 < at) × (at ≤ facts.floor)
unfolding follows_facts
horizon_rules shard facts at follows =
    let two = and_parts _ _ (and_parts _ _ follows).1 in
    let high : nat_lt facts.horizon at ≡ true = two.0 in
    let low : nat_le at facts.floor ≡ true = two.1 in
    (grind (arith, nat_tests, high), grind (arith, nat_tests, low))

-- ---- the kinds of a record that may come next

step_by : (a b : Bool) → b ≡ false → (a || b) ≡ true → a ≡ true
step_by true b none h = refl
step_by false b none h = sym none ∙ h

head_by : (a b : Bool) → a ≡ false → (a || b) ≡ true → b ≡ true
head_by a b none h = sym (ap (λ x. x || b) none) ∙ h

pub promise_steps : (shard : ℕ) (s : Stage) (f : Facts) (p : Prepared) → follows_next shard s f (Record.Prepare p) ≡ true
    → follows_facts shard f (Record.Prepare p) ≡ true
unfolding follows_next follows_head
promise_steps shard s f p h = step_by _ _ refl h

pub decision_steps : (shard : ℕ) (s : Stage) (f : Facts) (c : Committed) → follows_next shard s f (Record.Commit c) ≡ true
    → follows_facts shard f (Record.Commit c) ≡ true
unfolding follows_next follows_head
decision_steps shard s f c h = step_by _ _ refl h

pub horizon_steps : (shard : ℕ) (s : Stage) (f : Facts) (at : ℕ) → follows_next shard s f (Record.Horizon at) ≡ true
    → follows_facts shard f (Record.Horizon at) ≡ true
unfolding follows_next follows_head
horizon_steps shard s f at h = step_by _ _ refl h

-- what no step logs is of a head
pub of_head : (shard : ℕ) (s : Stage) (f : Facts) (r : Record) → follows_next shard s f r ≡ true → follows_facts shard f r ≡ false
    → follows_head shard s f r ≡ true
unfolding follows_next
of_head shard s f r h none = head_by _ _ none h
