-- The plans of reads, prepares and commits have a shape.
use Rattle.std.proofs.Common.{refl, arith}
use Rattle.std.specs.Prelude.{ℕ, ◌+◌, ◌≡◌, ◌<◌, max, Bool, true, false, nat_lt, nat_eq, List, [], ◌∷◌, Ok}
use Rattle.std.specs.List.{AllByRecursion}
use Rattle.std.proofs.lemmas.Bool.{and_from, and_parts}
use Rattle.units.specs.Lists.{head, when}
use Rattle.units.specs.Ids.{Id}
use Rattle.units.specs.Keys.{Bytes}
use Rattle.units.specs.Locks.{exclusive}
use Rattle.units.specs.declared.lock.Lock.{Lock}
use Rattle.units.specs.declared.writes.Write.{Write}
use Rattle.message.specs.declared.message.Prepare.{Prepare}
use Rattle.message.specs.declared.message.Commit.{Commit}
use Rattle.protocol.specs.Rows.{Phase, Idle, WaitsRead, WaitsPrepare, WaitsCommit, Collecting, IsPrepared, IsDecided, Voted, held_in, is_firm, needs_of}
use Rattle.protocol.specs.Plan.{Before, stands, is_crowded, in_way, opens}
use Rattle.protocol.specs.Cells.{commit_stamp, other_parts, still_stand, answers, to_read, plan_read_row, plan_promise, plan_granted, plan_asks}
use Rattle.protocol.specs.Cells.{plan_prepare_fresh, plan_abort, plan_decide, plan_commit_granted, plan_commit_fresh}
use Rattle.protocol.specs.Sound.{fits, holds_writes}
use Rattle.protocol.proofs.Each.{planned, refused, tested, either}
use Rattle.protocol.proofs.InWay.{in_way_gone, holds_exclusive}
use Rattle.protocol.proofs.RowChanges.{row_as}
use Rattle.protocol.proofs.Shapes.{Shaped, IsEnd, IsAbort, IsLock, IsWait, IsPromise, IsDecision, IsCleared, IsLooseOther, is_undecided, is_loose, all_fit}
use Rattle.protocol.proofs.Shapes.{granted_to, reads_held}
use Rattle.protocol.proofs.Choices.{Ascends, shaped_roomed, shaped_reply, undecided, cleared, reads_still, reads_granted}

-- ---- prepare

above_last : (last earliest : ℕ) → last < max (last + 1) earliest
above_last last earliest = omega arith

shaped_promise : (b : Before) (ended : List Id) (earliest : ℕ) (t : Id) (c : ℕ) (rs : List Bytes) (ws : List Write)
    → IsCleared b.memory.rows t ended (exclusive ws) → is_undecided (stands b t) ≡ true → (all_fit b → nat_lt c b.shard ≡ true) →
    (all_fit b → reads_held b t rs) → is_crowded b t ≡ false
    → Shaped b (plan_promise b ended earliest t c rs ws)
unfolding plan_promise
shaped_promise b ended earliest t c rs ws clear fresh lower read room =
    let at : ℕ = max (b.memory.last + 1) earliest in
    either _ _ _ (planned _ (IsPromise t ended c at rs ws _ (record {
      cleared = clear;
      undecided = fresh;
      above = above_last b.memory.last earliest;
      lower = lower;
      read = λ f. reads_granted b t ended (exclusive ws) rs clear.gone (read f);
      room = room;
    }) refl)) (refused _ tt)

-- ---- commit

pub shaped_abort : (b : Before) (t : Id) (ps : List ℕ) → is_undecided (stands b t) ≡ true → Shaped b (Ok (plan_abort b t ps))
unfolding plan_abort
shaped_abort b t ps fresh = planned _ (IsAbort t _ fresh refl)

above_stamp : (g latest last : ℕ) → last < max g (max (latest + 1) (last + 1))
above_stamp g latest last = omega arith

pub shaped_decide : (b : Before) (ended : List Id) (t : Id) (latest : ℕ) (ps : List ℕ) (rs : List Bytes) (ws : List Write) (needs : List Lock)
    (votes : List Voted)
    → IsCleared b.memory.rows t ended needs → is_undecided (stands b t) ≡ true → (all_fit b → when (nat_eq b.shard) (head ps) ≡ true)
    → (all_fit b → reads_held b t rs) → (all_fit b → holds_writes (granted_to b t ended needs) ws ≡ true) → is_crowded b t ≡ false
    → Shaped b (plan_decide b ended t latest ps rs ws needs votes)
unfolding plan_decide
shaped_decide b ended t latest ps rs ws needs votes clear fresh first read alone room =
    let at : ℕ = commit_stamp b.memory.last latest votes in
    either _ _ _ (planned _ (IsDecision t ended needs at ps rs ws [] (record {
      cleared = clear;
      undecided = fresh;
      above = above_stamp _ latest b.memory.last;
      first = first;
      read = λ f. reads_granted b t ended needs rs clear.gone (read f);
      alone = alone;
      room = room;
    }) refl)) (refused _ tt)

shaped_commit_granted : (b : Before) (ended : List Id) (t : Id) (latest : ℕ) (ps : List ℕ) (rs : List Bytes) (ws : List Write) (ns : List ℕ)
    → IsCleared b.memory.rows t ended (exclusive ws) → is_undecided (stands b t) ≡ true → (all_fit b → when (nat_eq b.shard) (head ps) ≡ true)
    → (all_fit b → reads_held b t rs) → is_crowded b t ≡ false → Shaped b (plan_commit_granted b ended t latest ps rs ws ns)
unfolding plan_commit_granted
shaped_commit_granted b ended t latest ps rs ws [] clear fresh first read room =
    shaped_decide b ended t latest ps rs ws (exclusive ws) [] clear fresh first read (λ _. holds_exclusive ws _) room
shaped_commit_granted b ended t latest ps rs ws (n ∷ ns) clear fresh first read room =
    planned _ (IsLock t ended (exclusive ws) (Collecting latest ps rs ws []) [] (record {
      cleared = clear;
      undecided = fresh;
      firmer = refl;
      opened = refl;
      quiet = refl;
      fit = λ f. and_from _ _ (first f) (and_from _ _ (reads_granted b t ended (exclusive ws) rs clear.gone (read f)) (holds_exclusive ws _));
      room = room;
    }) refl)

-- ---- fresh, granted, waits

-- what a transaction waits with fits the shard, and so once those in its way are gone
still_fits : (b : Before) (t : Id) (ended : List Id) (wait : Phase) → AllByRecursion (IsLooseOther b.memory.rows t) ended → is_firm wait ≡ false
    → fits b.shard (row_as t (held_in b.memory.rows t) wait) ≡ true → fits b.shard (row_as t (granted_to b t ended []) wait) ≡ true
still_fits b t ended Idle gone slack fit = refl
still_fits b t ended (WaitsRead k) gone slack fit = refl
still_fits b t ended (WaitsPrepare c rs ws) gone slack fit =
    and_from _ _ (and_parts _ _ fit).0 (reads_granted b t ended [] rs gone (and_parts _ _ fit).1)
still_fits b t ended (WaitsCommit l ps rs ws) gone slack fit =
    and_from _ _ (and_parts _ _ fit).0 (reads_granted b t ended [] rs gone (and_parts _ _ fit).1)
still_fits b t ended (Collecting l ps rs ws votes) gone slack fit = cc
still_fits b t ended (IsPrepared c p) gone slack fit = cc
still_fits b t ended (IsDecided s ps) gone slack fit = cc

pub shaped_granted : (b : Before) (ended : List Id) (earliest : ℕ) (t : Id) (wait : Phase) → IsCleared b.memory.rows t ended (needs_of wait)
    → (is_firm wait ≡ false → is_loose (stands b t) ≡ true) → (all_fit b → fits b.shard (row_as t (held_in b.memory.rows t) wait) ≡ true)
    → is_crowded b t ≡ false → Shaped b (plan_granted b ended earliest t wait)
unfolding plan_granted
shaped_granted b ended earliest t (WaitsRead k) clear loose fit room =
    planned _ (IsLock t ended (to_read k) Idle _ (record {
      cleared = clear;
      undecided = undecided b t (loose refl);
      firmer = loose refl;
      opened = refl;
      quiet = refl;
      fit = λ _. refl;
      room = room;
    }) refl)
shaped_granted b ended earliest t (WaitsPrepare c rs ws) clear loose fit room =
    shaped_promise b ended earliest t c rs ws clear (undecided b t (loose refl)) (λ f. (and_parts _ _ (fit f)).0) (λ f. (and_parts _ _ (fit f)).1) room
shaped_granted b ended earliest t (WaitsCommit l ps rs ws) clear loose fit room =
    shaped_commit_granted b ended t l ps rs ws (other_parts b.shard ps) clear (undecided b t (loose refl)) (λ f. (and_parts _ _ (fit f)).0)
    (λ f. (and_parts _ _ (fit f)).1) room
shaped_granted b ended earliest t _ clear loose fit room = shaped_reply b []

shaped_asks : (b : Before) (earliest : ℕ) (t : Id) (wait : Phase) → Ascends b → is_loose (stands b t) ≡ true → is_firm wait ≡ false
    → fits b.shard (row_as t (held_in b.memory.rows t) wait) ≡ true → Shaped b (plan_asks b earliest t wait)
unfolding plan_asks
shaped_asks b earliest t wait up loose slack fit = shaped_roomed b (is_crowded b t) _ (λ room.
    tested (opens b t (needs_of wait)) _ _
    (λ free. shaped_granted b (in_way b t (needs_of wait)) earliest t wait (cleared b t (needs_of wait) up free) (λ _. loose) (λ _. fit) room)
    (planned _ (IsWait t (needs_of wait) wait [] (record {
      loose = loose;
      slack = slack;
      wants = refl;
      fit = still_fits b t (in_way b t (needs_of wait)) wait (in_way_gone b t (needs_of wait) up) slack fit;
      gone = in_way_gone b t (needs_of wait) up;
      room = room;
    }) refl)))

pub shaped_read_row : (b : Before) (t : Id) (k : Bytes) (held : List Lock) (waits : Bool) → Ascends b → is_loose (stands b t) ≡ true
    → Shaped b (plan_read_row b t k held waits)
unfolding plan_read_row
shaped_read_row b t k held waits up loose =
    either _ _ _ (shaped_reply b (answers b t k ∷ [])) (either waits _ _ (shaped_reply b []) (shaped_asks b 0 t (WaitsRead k) up loose refl refl))

pub shaped_prepare_fresh : (b : Before) (earliest : ℕ) (m : Prepare) (held : List Lock) → Ascends b
    → is_loose (stands b m.txn) ≡ true → nat_lt m.coordinator b.shard ≡ true → held_in b.memory.rows m.txn ≡ held →
    Shaped b (plan_prepare_fresh b earliest m held)
unfolding plan_prepare_fresh
shaped_prepare_fresh b earliest m held up loose lower same =
    tested (still_stand b m.reads.epoch m.reads.keys held) _ _
    (λ k. shaped_asks b earliest m.txn (WaitsPrepare m.coordinator m.reads.keys m.writes) up loose refl
    (and_from _ _ lower (reads_still b m.txn m.reads.epoch m.reads.keys held same k)))
    (planned _ (IsEnd m.txn _ (undecided b m.txn loose) refl))

pub shaped_commit_fresh : (b : Before) (latest : ℕ) (m : Commit) (held : List Lock) → Ascends b
    → is_loose (stands b m.txn) ≡ true → when (nat_eq b.shard) (head m.parts) ≡ true → held_in b.memory.rows m.txn ≡ held →
    Shaped b (plan_commit_fresh b latest m held)
unfolding plan_commit_fresh
shaped_commit_fresh b latest m held up loose first same =
    tested (still_stand b m.reads.epoch m.reads.keys held) _ _
    (λ k. either _ _ _ (shaped_asks b 0 m.txn (WaitsCommit latest m.parts m.reads.keys m.writes) up loose refl
    (and_from _ _ first (reads_still b m.txn m.reads.epoch m.reads.keys held same k))) (refused _ tt))
    (shaped_abort b m.txn m.parts (undecided b m.txn loose))
