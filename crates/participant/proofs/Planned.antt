-- The plans of a participant by the tests that the code makes.
use Rattle.std.proofs.Common.{◌≡◌, ℕ, ◌+◌, ◌<◌, ◌≤◌, ◌^◌, nat_le, max, cond, Bool, true, false, List, [], ◌∷◌, None, Ok, Err}
use Rattle.std.proofs.Common.{refl, sym, ap, ◌∙◌, arith}
use Rattle.std.proofs.lemmas.Bool.Decides.{nat_tests}
use Rattle.units.specs.Ids.{Id}
use Rattle.units.specs.Keys.{Bytes}
use Rattle.units.specs.Locks.{holds, exclusive}
use Rattle.units.specs.declared.fault.Fault.TheVariants.{RowsFull, TimeSpent}
use Rattle.units.specs.declared.lock.Lock.{Lock}
use Rattle.units.specs.declared.writes.Write.{Write}
use Rattle.message.specs.declared.message.Prepare.{Prepare}
use Rattle.protocol.specs.Rows.{WaitsRead, WaitsPrepare}
use Rattle.protocol.specs.Plan.{time_limit, Before, Plan, Planned, opens, in_way, is_crowded, replies, idles, ends, puts, roomed}
use Rattle.protocol.specs.Cells.{still_stand, answers, refuses, to_read, plan_asks, plan_granted, plan_prepare_fresh, plan_promise, plan_read_row}
use Rattle.participant.specs.Asks.{granted_read, read_asks, waits_read, promised_by}

-- a read, and a prepare, that asks for its locks
abbrev read_now : Before → Id → Bytes → Planned
read_now b t k = plan_asks b 0 t (WaitsRead k)

abbrev prepare_now : Before → ℕ → Prepare → Planned
prepare_now b earliest m = plan_asks b earliest m.txn (WaitsPrepare m.coordinator m.reads.keys m.writes)

-- ---- reads

pub read_held : (b : Before) (t : Id) (k : Bytes) (held : List Lock) (waits : Bool) → holds held k ≡ true
    → plan_read_row b t k held waits ≡ Ok (replies b (answers b t k ∷ []))
unfolding plan_read_row
read_held b t k held waits e = ap (λ a. cond a (Ok (replies b (answers b t k ∷ []))) (cond waits (Ok (idles b)) (read_now b t k))) e

pub read_waits : (b : Before) (t : Id) (k : Bytes) (held : List Lock) (waits : Bool) → holds held k ≡ false → waits ≡ true
    → plan_read_row b t k held waits ≡ Ok (idles b)
unfolding plan_read_row
read_waits b t k held waits e w =
    ap (λ a. cond a (Ok (replies b (answers b t k ∷ []))) (cond waits (Ok (idles b)) (read_now b t k))) e
    ∙ ap (λ a. cond a (Ok (idles b)) (read_now b t k)) w

pub read_asked : (b : Before) (t : Id) (k : Bytes) (held : List Lock) (waits : Bool) → holds held k ≡ false → waits ≡ false
    → plan_read_row b t k held waits ≡ read_now b t k
unfolding plan_read_row
read_asked b t k held waits e w =
    ap (λ a. cond a (Ok (replies b (answers b t k ∷ []))) (cond waits (Ok (idles b)) (read_now b t k))) e
    ∙ ap (λ a. cond a (Ok (idles b)) (read_now b t k)) w

asks_read : (b : Before) (t : Id) (k : Bytes) → read_now b t k ≡ roomed (is_crowded b t) (Ok (read_asks b t k))
unfolding plan_asks plan_granted
asks_read b t k = ap (roomed (is_crowded b t)) (by_test (opens b t (to_read k)) (granted_read b (in_way b t (to_read k)) t k) (waits_read b t k))
  where
    by_test : (free : Bool) (p q : Plan) → cond {A = Planned} free (Ok p) (Ok q) ≡ Ok (cond free p q)
    by_test true p q = refl
    by_test false p q = refl

pub read_crowded : (b : Before) (t : Id) (k : Bytes) → is_crowded b t ≡ true → read_now b t k ≡ Err RowsFull
read_crowded b t k e = asks_read b t k ∙ ap (λ a. roomed a (Ok (read_asks b t k))) e

pub read_roomy : (b : Before) (t : Id) (k : Bytes) → is_crowded b t ≡ false → read_now b t k ≡ Ok (read_asks b t k)
read_roomy b t k e = asks_read b t k ∙ ap (λ a. roomed a (Ok (read_asks b t k))) e

pub read_granted : (b : Before) (t : Id) (k : Bytes) → is_crowded b t ≡ false → opens b t (to_read k) ≡ true
    → read_now b t k ≡ Ok (granted_read b (in_way b t (to_read k)) t k)
read_granted b t k roomy free = read_roomy b t k roomy ∙ ap (λ a. Ok (cond a (granted_read b (in_way b t (to_read k)) t k) (waits_read b t k))) free

pub read_shut : (b : Before) (t : Id) (k : Bytes) → is_crowded b t ≡ false → opens b t (to_read k) ≡ false → read_now b t k ≡ Ok (waits_read b t k)
read_shut b t k roomy shut = read_roomy b t k roomy ∙ ap (λ a. Ok (cond a (granted_read b (in_way b t (to_read k)) t k) (waits_read b t k))) shut

-- ---- promises

in_limit : (p : ℕ) → p < 2 ^ 62 → nat_le p time_limit ≡ true
in_limit p less = grind (arith, nat_tests)

over_limit : (p : ℕ) → 2 ^ 62 ≤ p → nat_le p time_limit ≡ false
over_limit p more = grind (arith, nat_tests)

-- the timestamp of a promise
abbrev pub promise_stamp : Before → ℕ → ℕ
promise_stamp b earliest = max (b.memory.last + 1) earliest

pub promise_late : (b : Before) (ended : List Id) (earliest : ℕ) (t : Id) (c : ℕ) (rs : List Bytes) (ws : List Write) → 2 ^ 62 ≤ promise_stamp b earliest
    → plan_promise b ended earliest t c rs ws ≡ Err TimeSpent
unfolding plan_promise
promise_late b ended earliest t c rs ws late =
    ap (λ a. cond a (Ok (promised_by b ended t (promise_stamp b earliest) c rs ws)) (Err TimeSpent)) (over_limit (promise_stamp b earliest) late)

pub promise_made : (b : Before) (ended : List Id) (earliest : ℕ) (t : Id) (c : ℕ) (rs : List Bytes) (ws : List Write) (at : ℕ)
    → at ≡ promise_stamp b earliest → at < 2 ^ 62 → plan_promise b ended earliest t c rs ws ≡ Ok (promised_by b ended t at c rs ws)
unfolding plan_promise
promise_made b ended earliest t c rs ws at is small =
    ap (λ p. cond (nat_le p time_limit) (Ok (promised_by b ended t p c rs ws)) (Err TimeSpent)) (sym is)
    ∙ ap (λ a. cond a (Ok (promised_by b ended t at c rs ws)) (Err TimeSpent)) (in_limit at small)

-- ---- prepares

abbrev waits_with : Before → Prepare → Planned
waits_with b m = Ok (puts b (in_way b m.txn (exclusive m.writes)) m.txn [] (WaitsPrepare m.coordinator m.reads.keys m.writes) None b.memory.last [])

abbrev promises_now : Before → ℕ → Prepare → Planned
promises_now b earliest m = plan_promise b (in_way b m.txn (exclusive m.writes)) earliest m.txn m.coordinator m.reads.keys m.writes

pub fresh_stands : (b : Before) (earliest : ℕ) (m : Prepare) (held : List Lock) → still_stand b m.reads.epoch m.reads.keys held ≡ true
    → plan_prepare_fresh b earliest m held ≡ prepare_now b earliest m
unfolding plan_prepare_fresh
fresh_stands b earliest m held e = ap (λ a. cond a (prepare_now b earliest m) (Ok (ends b m.txn (refuses b m.txn m.coordinator ∷ [])))) e

pub fresh_gone : (b : Before) (earliest : ℕ) (m : Prepare) (held : List Lock) → still_stand b m.reads.epoch m.reads.keys held ≡ false
    → plan_prepare_fresh b earliest m held ≡ Ok (ends b m.txn (refuses b m.txn m.coordinator ∷ []))
unfolding plan_prepare_fresh
fresh_gone b earliest m held e = ap (λ a. cond a (prepare_now b earliest m) (Ok (ends b m.txn (refuses b m.txn m.coordinator ∷ [])))) e

-- where the locks are granted
opened : (b : Before) (earliest : ℕ) (m : Prepare) → opens b m.txn (exclusive m.writes) ≡ true
    → prepare_now b earliest m ≡ roomed (is_crowded b m.txn) (promises_now b earliest m)
unfolding plan_asks plan_granted
opened b earliest m e = ap (λ a. roomed (is_crowded b m.txn) (cond a (promises_now b earliest m) (waits_with b m))) e

roomed_late : (crowded : Bool) (planned : Planned) → planned ≡ Err TimeSpent → roomed crowded planned ≡ Err TimeSpent
roomed_late true planned e = ap (roomed true) e
roomed_late false planned e = e

pub now_late : (b : Before) (earliest : ℕ) (m : Prepare) → opens b m.txn (exclusive m.writes) ≡ true
    → 2 ^ 62 ≤ promise_stamp b earliest → prepare_now b earliest m ≡ Err TimeSpent
now_late b earliest m free late =
    opened b earliest m free
    ∙ roomed_late (is_crowded b m.txn) (promises_now b earliest m)
    (promise_late b (in_way b m.txn (exclusive m.writes)) earliest m.txn m.coordinator m.reads.keys m.writes late)

pub now_crowded : (b : Before) (earliest : ℕ) (m : Prepare) (at : ℕ) → opens b m.txn (exclusive m.writes) ≡ true
    → at ≡ promise_stamp b earliest → at < 2 ^ 62 → is_crowded b m.txn ≡ true → prepare_now b earliest m ≡ Err RowsFull
now_crowded b earliest m at free is small full =
    opened b earliest m free
    ∙ ap (λ a. roomed a (promises_now b earliest m)) full
    ∙ ap (roomed true) (promise_made b (in_way b m.txn (exclusive m.writes)) earliest m.txn m.coordinator m.reads.keys m.writes at is small)

pub now_promised : (b : Before) (earliest : ℕ) (m : Prepare) (at : ℕ) → opens b m.txn (exclusive m.writes) ≡ true
    → at ≡ promise_stamp b earliest → at < 2 ^ 62 → is_crowded b m.txn ≡ false
    → prepare_now b earliest m ≡ Ok (promised_by b (in_way b m.txn (exclusive m.writes)) m.txn at m.coordinator m.reads.keys m.writes)
now_promised b earliest m at free is small roomy =
    opened b earliest m free
    ∙ ap (λ a. roomed a (promises_now b earliest m)) roomy
    ∙ promise_made b (in_way b m.txn (exclusive m.writes)) earliest m.txn m.coordinator m.reads.keys m.writes at is small

-- where they are not
shut : (b : Before) (earliest : ℕ) (m : Prepare) → opens b m.txn (exclusive m.writes) ≡ false
    → prepare_now b earliest m ≡ roomed (is_crowded b m.txn) (waits_with b m)
unfolding plan_asks plan_granted
shut b earliest m e = ap (λ a. roomed (is_crowded b m.txn) (cond a (promises_now b earliest m) (waits_with b m))) e

pub wait_crowded : (b : Before) (earliest : ℕ) (m : Prepare) → opens b m.txn (exclusive m.writes) ≡ false → is_crowded b m.txn ≡ true
    → prepare_now b earliest m ≡ Err RowsFull
wait_crowded b earliest m e full = shut b earliest m e ∙ ap (λ a. roomed a (waits_with b m)) full

pub wait_roomy : (b : Before) (earliest : ℕ) (m : Prepare) → opens b m.txn (exclusive m.writes) ≡ false → is_crowded b m.txn ≡ false
    → prepare_now b earliest m ≡ waits_with b m
wait_roomy b earliest m e roomy = shut b earliest m e ∙ ap (λ a. roomed a (waits_with b m)) roomy
