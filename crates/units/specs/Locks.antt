-- Two-phase locks under wound-wait: who conflicts, who waits, who is wounded. Smaller ids are older.
use Rattle.std.specs.List.{list_any}
use Rattle.std.specs.Prelude.{Bool, true, false, not, cond, ◌&&◌, List, [], ◌∷◌, map, Option, filter, option_map}
use Rattle.units.specs.Lists.{first}
use Rattle.units.specs.Ids.{Id, same_id, older}
use Rattle.units.specs.Keys.{Bytes, same_key, key_before}
use Rattle.units.specs.declared.lock.Asked.{Asked}
use Rattle.units.specs.declared.lock.Asked.TheVariants.{Granted, Waits, Wounds}
use Rattle.units.specs.declared.lock.Mode.{Mode}
use Rattle.units.specs.declared.lock.Mode.TheVariants.{Shared, Exclusive}
use Rattle.units.specs.declared.lock.Lock.{Lock}
use Rattle.units.specs.declared.writes.Write.{Write}

-- a transaction in the lock table: what it holds, what it waits for (nothing where it does not wait), and whether it is
-- firm, so that nobody may end it
pub record Claim : Type 0 where
  pub txn : Id
  pub held : List Lock
  pub needs : List Lock
  pub firm : Bool

-- both may hold a key only where both share it
abbrev pub modes_clash : Mode → Mode → Bool
modes_clash Shared Shared = false
modes_clash _ _ = true

-- two locks of one key that cannot both be held
abbrev pub locks_clash : Lock → Lock → Bool
locks_clash a b = same_key a.key b.key && modes_clash a.mode b.mode

-- some lock of the one list clashes with some lock of the other
abbrev pub clash : List Lock → List Lock → Bool
clash ls ms = list_any (λ l. list_any (locks_clash l) ms) ls

-- the others in the table
abbrev pub others : List Claim → Id → List Claim
others table t = filter (λ c. not (same_id c.txn t)) table

-- holders that stand in the way of some needs
abbrev pub blockers : List Claim → Id → List Lock → List Claim
blockers table t needs = filter (λ c. clash c.held needs) (others table t)

-- older waiters whose needs stand in the way
abbrev pub waits_before : List Claim → Id → List Lock → List Claim
waits_before table t needs = filter (λ c. older c.txn t && clash c.needs needs) (others table t)

-- a younger holder that is not firm may be ended
abbrev pub may_wound : Id → Claim → Bool
may_wound t c = older t c.txn && not c.firm

-- the younger holders in the way that may be ended, by ascending id
unfoldable pub wounded : List Claim → Id → List Lock → List Id
wounded table t needs = map (λ c. c.txn) (filter (may_wound t) (blockers table t needs))

-- nobody stands in the way
unfoldable pub is_free : List Claim → Id → List Lock → Bool
is_free table t needs = not (list_any (λ c. true) (blockers table t needs)) && not (list_any (λ c. true) (waits_before table t needs))

-- wound first; else wait where somebody stands in the way; else it is granted
abbrev pub asked_by : List Id → Bool → Asked
asked_by (t ∷ ts) free = Wounds (t ∷ ts)
asked_by [] true = Granted
asked_by [] false = Waits

-- the answer to a request of a transaction for some locks
unfoldable pub asked : List Claim → Id → List Lock → Asked
asked table t needs = asked_by (wounded table t needs) (is_free table t needs)

-- a waiter waits for at least one lock
abbrev pub is_waiting : Claim → Bool
is_waiting c = list_any (λ l. true) c.needs

-- the oldest waiter that would be granted now; the table ascends by id
unfoldable pub ready : List Claim → Option Id
ready table = option_map (λ c. c.txn) (first (λ c. is_waiting c && is_free table c.txn c.needs) table)

-- the first lock's key is before the second's
abbrev pub lock_before : Lock → Lock → Bool
lock_before a b = key_before a.key b.key

-- the stronger of two modes
abbrev pub stronger : Mode → Mode → Mode
stronger Shared m = m
stronger Exclusive m = Exclusive

-- one more lock among those held, which ascend by key; a key stands once, in the stronger mode
abbrev pub with_lock : List Lock → Lock → List Lock
with_lock [] l = l ∷ []
with_lock (h ∷ hs) l =
    cond (same_key h.key l.key) (record { key = h.key; mode = stronger h.mode l.mode } ∷ hs)
    (cond (key_before h.key l.key) (h ∷ with_lock hs l) (l ∷ h ∷ hs))

-- several more
abbrev pub with_locks : List Lock → List Lock → List Lock
with_locks hs [] = hs
with_locks hs (l ∷ ls) = with_locks (with_lock hs l) ls

-- the key is held
abbrev pub holds : List Lock → Bytes → Bool
holds hs k = list_any (λ h. same_key h.key k) hs

-- a shared lock of each key that is read
abbrev pub shared : List Bytes → List Lock
shared ks = map (λ k. record { key = k; mode = Shared }) ks

-- an exclusive lock of each key that is written
abbrev pub exclusive : List Write → List Lock
exclusive ws = map (λ w. record { key = w.key; mode = Exclusive }) ws

-- the locks of a promise or a decision: its reads shared, its writes exclusive
abbrev pub locks_of : List Bytes → List Write → List Lock
locks_of rs ws = with_locks (with_locks [] (shared rs)) (exclusive ws)
