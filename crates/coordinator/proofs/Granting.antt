-- The plans of commits by the tests that the code makes.
use Rattle.std.specs.List.{list_any}
use Rattle.std.proofs.Common.{◌≡◌, ℕ, ◌+◌, ◌<◌, ◌≤◌, ◌^◌, nat_eq, nat_le, cond, not, Bool, true, false, ◌||◌, List, [], ◌∷◌, Option, Some, None, Ok, Err}
use Rattle.std.proofs.Common.{refl, sym, ap, ◌∙◌, arith}
use Rattle.std.proofs.lemmas.Bool.{false≢true}
use Rattle.std.proofs.lemmas.Bool.Decides.{nat_tests}
use Rattle.units.specs.Ids.{Id}
use Rattle.units.specs.Keys.{Bytes}
use Rattle.units.specs.Locks.{exclusive}
use Rattle.units.specs.declared.fault.Fault.TheVariants.{RowsFull, TimeSpent}
use Rattle.units.specs.declared.lock.Lock.{Lock}
use Rattle.units.specs.declared.writes.Write.{Write}
use Rattle.message.specs.declared.message.Commit.{Commit}
use Rattle.protocol.specs.Rows.{Voted, WaitsCommit}
use Rattle.protocol.specs.Plan.{time_limit, Before, Planned, opens, in_way, is_crowded, roomed, timed}
use Rattle.protocol.specs.Cells.{commit_stamp, other_parts, still_stand, plan_abort, plan_asks, plan_granted, plan_decide, plan_commit_fresh}
use Rattle.protocol.specs.Cells.{plan_commit_granted}
use Rattle.memory.specs.wait.CommitRequest.{CommitRequest}
use Rattle.coordinator.specs.Granted.{decides, collects, granted_by, request_of, waits_commit, IsDecidedAt, IsTooLate}

-- ---- time

in_limit : (s : ℕ) → s < 2 ^ 62 → nat_le s time_limit ≡ true
in_limit s less = grind (arith, nat_tests)

over_limit : (s : ℕ) → 2 ^ 62 ≤ s → nat_le s time_limit ≡ false
over_limit s more = grind (arith, nat_tests)

pub timed_late : (s : ℕ) (planned : Planned) → 2 ^ 62 ≤ s → timed s planned ≡ Err TimeSpent
timed_late s planned late = ap (λ a. cond a planned (Err TimeSpent)) (over_limit s late)

pub timed_early : (s : ℕ) (planned : Planned) → s < 2 ^ 62 → timed s planned ≡ planned
timed_early s planned less = ap (λ a. cond a planned (Err TimeSpent)) (in_limit s less)

-- ---- decisions

pub decide_late : (b : Before) (ended : List Id) (t : Id) (latest : ℕ) (ps : List ℕ) (rs : List Bytes) (ws : List Write) (needs : List Lock)
    (votes : List Voted)
    → 2 ^ 62 ≤ commit_stamp b.memory.last latest votes → plan_decide b ended t latest ps rs ws needs votes ≡ Err TimeSpent
unfolding plan_decide
decide_late b ended t latest ps rs ws needs votes late =
    timed_late (commit_stamp b.memory.last latest votes) (Ok (decides b ended t needs (commit_stamp b.memory.last latest votes) ps rs ws)) late

pub decide_made : (b : Before) (ended : List Id) (t : Id) (latest : ℕ) (ps : List ℕ) (rs : List Bytes) (ws : List Write) (needs : List Lock)
    (votes : List Voted) (at : ℕ)
    → at ≡ commit_stamp b.memory.last latest votes → at < 2 ^ 62 → plan_decide b ended t latest ps rs ws needs votes ≡ Ok (decides b ended t needs at ps rs ws)
unfolding plan_decide
decide_made b ended t latest ps rs ws needs votes at is small =
    ap (λ s. timed s (Ok (decides b ended t needs s ps rs ws))) (sym is)
    ∙ timed_early at (Ok (decides b ended t needs at ps rs ws)) small

-- ---- with other parts, and without

-- no other shard takes part
alone : (n : ℕ) (ps : List ℕ) → list_any (λ m. not (nat_eq m n)) ps ≡ false → other_parts n ps ≡ []
alone n [] e = refl
alone n (k ∷ ks) e = by_test (not (nat_eq k n)) (list_any (λ m. not (nat_eq m n)) ks) (other_parts n ks) (alone n ks) e
  where
    by_test : (a h : Bool) (ms : List ℕ) → (h ≡ false → ms ≡ []) → (a || h) ≡ false → cond a (k ∷ ms) ms ≡ []
    by_test true h ms rest e = absurd (false≢true (sym e))
    by_test false h ms rest e = rest e

pub granted_alone : (b : Before) (ended : List Id) (t : Id) (latest : ℕ) (ps : List ℕ) (rs : List Bytes) (ws : List Write) (n : ℕ)
    → list_any (λ m. not (nat_eq m n)) ps ≡ false
    → plan_commit_granted b ended t latest ps rs ws (other_parts n ps) ≡ plan_decide b ended t latest ps rs ws (exclusive ws) []
unfolding plan_commit_granted
granted_alone b ended t latest ps rs ws n e = ap (plan_commit_granted b ended t latest ps rs ws) (alone n ps e)

-- another does
granted_some : (b : Before) (ended : List Id) (t : Id) (latest : ℕ) (ps : List ℕ) (rs : List Bytes) (ws : List Write) (n : ℕ) (qs : List ℕ)
    → list_any (λ m. not (nat_eq m n)) qs ≡ true → plan_commit_granted b ended t latest ps rs ws (other_parts n qs) ≡ Ok (collects b ended t latest ps rs ws)
unfolding plan_commit_granted
granted_some b ended t latest ps rs ws n [] e = absurd (false≢true e)
granted_some b ended t latest ps rs ws n (k ∷ ks) e =
    by_test (not (nat_eq k n)) (list_any (λ m. not (nat_eq m n)) ks) (other_parts n ks) (granted_some b ended t latest ps rs ws n ks) e
  where
    by_test : (a h : Bool) (ms : List ℕ) → (h ≡ true → plan_commit_granted b ended t latest ps rs ws ms ≡ Ok (collects b ended t latest ps rs ws))
        → (a || h) ≡ true → plan_commit_granted b ended t latest ps rs ws (cond a (k ∷ ms) ms) ≡ Ok (collects b ended t latest ps rs ws)
    by_test true h ms rest e = refl
    by_test false h ms rest e = rest e

pub granted_others : (b : Before) (ended : List Id) (t : Id) (latest : ℕ) (ps : List ℕ) (rs : List Bytes) (ws : List Write) (n : ℕ)
    → list_any (λ m. not (nat_eq m n)) ps ≡ true → plan_commit_granted b ended t latest ps rs ws (other_parts n ps) ≡ Ok (collects b ended t latest ps rs ws)
granted_others b ended t latest ps rs ws n e = granted_some b ended t latest ps rs ws n ps e

-- in time, and too late
pub granted_in_time : (b : Before) (ended : List Id) (t : Id) (at : Option ℕ) (r : CommitRequest) → IsDecidedAt b r.latest r.parts at
    → plan_commit_granted b ended t r.latest r.parts r.reads r.writes (other_parts b.shard r.parts) ≡ Ok (granted_by b ended t at r)
granted_in_time b ended t None r some = granted_others b ended t r.latest r.parts r.reads r.writes b.shard some
granted_in_time b ended t (Some s) r (none, is, small) =
    granted_alone b ended t r.latest r.parts r.reads r.writes b.shard none
    ∙ decide_made b ended t r.latest r.parts r.reads r.writes (exclusive r.writes) [] s is small

pub granted_late : (b : Before) (ended : List Id) (t : Id) (r : CommitRequest) → IsTooLate b r.latest r.parts
    → plan_commit_granted b ended t r.latest r.parts r.reads r.writes (other_parts b.shard r.parts) ≡ Err TimeSpent
granted_late b ended t r (none, late) =
    granted_alone b ended t r.latest r.parts r.reads r.writes b.shard none
    ∙ decide_late b ended t r.latest r.parts r.reads r.writes (exclusive r.writes) [] late

-- ---- the reads

-- a commit that asks for its locks
abbrev commit_now : Before → ℕ → Commit → Planned
commit_now b latest m = plan_asks b 0 m.txn (WaitsCommit latest m.parts m.reads.keys m.writes)

fresh_stands : (b : Before) (latest : ℕ) (m : Commit) (held : List Lock) → still_stand b m.reads.epoch m.reads.keys held ≡ true
    → plan_commit_fresh b latest m held ≡ timed (latest + 1) (commit_now b latest m)
unfolding plan_commit_fresh
fresh_stands b latest m held e =
    ap (λ a. cond a (timed (latest + 1) (commit_now b latest m)) (Ok (plan_abort b m.txn m.parts))) e

pub fresh_late : (b : Before) (latest : ℕ) (m : Commit) (held : List Lock) → still_stand b m.reads.epoch m.reads.keys held ≡ true
    → 2 ^ 62 ≤ latest + 1 → plan_commit_fresh b latest m held ≡ Err TimeSpent
fresh_late b latest m held e late = fresh_stands b latest m held e ∙ timed_late (latest + 1) (commit_now b latest m) late

pub fresh_early : (b : Before) (latest : ℕ) (m : Commit) (held : List Lock) → still_stand b m.reads.epoch m.reads.keys held ≡ true
    → latest + 1 < 2 ^ 62 → plan_commit_fresh b latest m held ≡ commit_now b latest m
fresh_early b latest m held e less = fresh_stands b latest m held e ∙ timed_early (latest + 1) (commit_now b latest m) less

pub fresh_gone : (b : Before) (latest : ℕ) (m : Commit) (held : List Lock) → still_stand b m.reads.epoch m.reads.keys held ≡ false
    → plan_commit_fresh b latest m held ≡ Ok (plan_abort b m.txn m.parts)
unfolding plan_commit_fresh
fresh_gone b latest m held e =
    ap (λ a. cond a (timed (latest + 1) (commit_now b latest m)) (Ok (plan_abort b m.txn m.parts))) e

-- ---- where the locks are granted

abbrev granted_now : Before → ℕ → Commit → Planned
granted_now b latest m = plan_commit_granted b (in_way b m.txn (exclusive m.writes)) m.txn latest m.parts m.reads.keys m.writes (other_parts b.shard m.parts)

opened : (b : Before) (latest : ℕ) (m : Commit) → opens b m.txn (exclusive m.writes) ≡ true
    → commit_now b latest m ≡ roomed (is_crowded b m.txn) (granted_now b latest m)
unfolding plan_asks plan_granted
opened b latest m e =
    ap (λ a. roomed (is_crowded b m.txn) (cond a (granted_now b latest m) (Ok (waits_commit b m.txn (request_of latest m))))) e

roomed_late : (crowded : Bool) (planned : Planned) → planned ≡ Err TimeSpent → roomed crowded planned ≡ Err TimeSpent
roomed_late true planned e = ap (roomed true) e
roomed_late false planned e = e

pub now_late : (b : Before) (latest : ℕ) (m : Commit) → opens b m.txn (exclusive m.writes) ≡ true → IsTooLate b latest m.parts
    → commit_now b latest m ≡ Err TimeSpent
now_late b latest m free late =
    opened b latest m free
    ∙ roomed_late (is_crowded b m.txn) (granted_now b latest m) (granted_late b (in_way b m.txn (exclusive m.writes)) m.txn (request_of latest m) late)

in_time : (b : Before) (latest : ℕ) (m : Commit) (at : Option ℕ) (crowded : Bool) → opens b m.txn (exclusive m.writes) ≡ true
    → IsDecidedAt b latest m.parts at → is_crowded b m.txn ≡ crowded
    → commit_now b latest m ≡ roomed crowded (Ok (granted_by b (in_way b m.txn (exclusive m.writes)) m.txn at (request_of latest m)))
in_time b latest m at crowded free timely room =
    opened b latest m free
    ∙ ap (λ a. roomed a (granted_now b latest m)) room
    ∙ ap (roomed crowded) (granted_in_time b (in_way b m.txn (exclusive m.writes)) m.txn at (request_of latest m) timely)

pub now_crowded : (b : Before) (latest : ℕ) (m : Commit) (at : Option ℕ) → opens b m.txn (exclusive m.writes) ≡ true
    → IsDecidedAt b latest m.parts at → is_crowded b m.txn ≡ true → commit_now b latest m ≡ Err RowsFull
now_crowded b latest m at free timely full = in_time b latest m at true free timely full

pub now_granted : (b : Before) (latest : ℕ) (m : Commit) (at : Option ℕ) → opens b m.txn (exclusive m.writes) ≡ true
    → IsDecidedAt b latest m.parts at → is_crowded b m.txn ≡ false
    → commit_now b latest m ≡ Ok (granted_by b (in_way b m.txn (exclusive m.writes)) m.txn at (request_of latest m))
now_granted b latest m at free timely roomy = in_time b latest m at false free timely roomy

-- ---- where they are not

shut : (b : Before) (latest : ℕ) (m : Commit) (crowded : Bool) → opens b m.txn (exclusive m.writes) ≡ false → is_crowded b m.txn ≡ crowded
    → commit_now b latest m ≡ roomed crowded (Ok (waits_commit b m.txn (request_of latest m)))
unfolding plan_asks plan_granted
shut b latest m crowded e room =
    ap (λ a. roomed (is_crowded b m.txn) (cond a (granted_now b latest m) (Ok (waits_commit b m.txn (request_of latest m))))) e
    ∙ ap (λ a. roomed a (Ok (waits_commit b m.txn (request_of latest m)))) room

pub wait_crowded : (b : Before) (latest : ℕ) (m : Commit) → opens b m.txn (exclusive m.writes) ≡ false → is_crowded b m.txn ≡ true
    → commit_now b latest m ≡ Err RowsFull
wait_crowded b latest m e full = shut b latest m true e full

pub wait_roomy : (b : Before) (latest : ℕ) (m : Commit) → opens b m.txn (exclusive m.writes) ≡ false → is_crowded b m.txn ≡ false
    → commit_now b latest m ≡ Ok (waits_commit b m.txn (request_of latest m))
wait_roomy b latest m e roomy = shut b latest m false e roomy
