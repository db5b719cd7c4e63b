-- The first commit of a new shard, and its settling.
use Rattle.std.proofs.Common.{List, ◌≡◌, ◌∙◌, ◌+◌, ◌<◌, ◌≤◌, ◌^◌, ℕ, Bool, true, false, cond, refl, ap, [], ◌∷◌, ◌++◌, Some, Ok, Err, arith}
use Rattle.std.specs.Prelude.{max, nat_le, nat_lt}
use Rattle.std.proofs.lemmas.Bool.Decides.{nat_tests}
use Rattle.units.specs.Limits.{most_rows}
use Rattle.units.specs.Keys.{Bytes}
use Rattle.units.specs.Locks.{exclusive}
use Rattle.units.specs.declared.fault.Fault.TheVariants.{Early, TimeSpent}
use Rattle.truetime.specs.Interval.{Interval}
use Rattle.record.specs.declared.record.Record.{Record}
use Rattle.message.specs.declared.message.Envelope.{Envelope}
use Rattle.message.specs.declared.message.Input.{Input}
use Rattle.protocol.specs.Computing.{computing}
use Rattle.protocol.specs.Rows.{IsDecided, Memory, rebuilt}
use Rattle.protocol.specs.Outputs.{decision, done_to}
use Rattle.protocol.specs.Plan.{Planned, start_of_step, drops, puts, time_limit, timed}
use Rattle.protocol.specs.Cells.{commit_stamp}
use Rattle.protocol.specs.Step.{Stepped, Does, Refuses, step, stepped}
use Rattle.shard.specs.RowTable.{nth_decided}
use Rattle.shard.specs.Logs.{learned}
use Rattle.once.specs.Replies.{only_txn}
use Rattle.once.specs.Shards.{only_setup, only_write, only_commit, new_log, decided_log}

-- what an opening of a log finds
abbrev pub found : List Record → Memory
found records = rebuilt (learned records)

-- the decision is the first that stands
pub decided-is : (key value : Bytes) (s : ℕ) → nth_decided (found (decided_log key value s)).rows 0 ≡ Some (only_txn, s)
unfolding computing
decided-is key value s = refl

-- the step of the shard with a log, where an opening would find what is in memory
abbrev pub step_at : List Record → Interval → Input → Stepped
step_at records now i = step only_setup (learned records) (found records) now i

-- it logs a record, and an opening would find what is then in memory
abbrev pub logs : List Record → Record → List Envelope → Stepped
logs records r outbox = Does (Some r) (found (records ++ r ∷ [])) outbox

-- ---- the limit of time

in-time : (n : ℕ) (plan : Planned) → n < 2 ^ 62 → timed n plan ≡ plan
in-time n plan early = ap (λ (b : Bool). cond b plan (Err TimeSpent)) (is-within n early)
  where
    is-within : (n : ℕ) → n < 2 ^ 62 → nat_le n time_limit ≡ true
    is-within n early = grind (arith, nat_tests)

too-late : (n : ℕ) (plan : Planned) → 2 ^ 62 ≤ n → timed n plan ≡ Err TimeSpent
too-late n plan late = ap (λ (b : Bool). cond b plan (Err TimeSpent)) (is-over n late)
  where
    is-over : (n : ℕ) → 2 ^ 62 ≤ n → nat_le n time_limit ≡ false
    is-over n late = grind (arith, nat_tests)

module _ (now : Interval) (key value : Bytes) where
  -- ---- the commit

  -- what is logged where it is decided at a timestamp
  abbrev decides : ℕ → Stepped
  decides s = logs new_log (decision only_txn s (0 ∷ []) [] (only_write key value)) []

  -- the plan of that
  abbrev deciding : ℕ → Planned
  deciding s =
      Ok (puts (start_of_step most_rows only_setup (learned new_log) (found new_log)) [] only_txn (exclusive (only_write key value)) (IsDecided s (0 ∷ []))
      (Some (decision only_txn s (0 ∷ []) [] (only_write key value))) (max 0 s) [])

  deciding-is : (s : ℕ) → stepped (found new_log) (deciding s) ≡ decides s
  unfolding computing
  deciding-is s = refl

  -- nobody is in the way, and no other shard takes part
  commit-is : step_at new_log now (only_commit key value)
      ≡ stepped (found new_log) (timed (now.latest + 1) (timed (commit_stamp 0 now.latest []) (deciding (commit_stamp 0 now.latest []))))
  unfolding computing
  commit-is = refl

  stamp-is : commit_stamp 0 now.latest [] ≡ now.latest + 1
  stamp-is = omega arith

  -- the reading leaves no time
  pub commit-late : 2 ^ 62 ≤ now.latest + 1 → step_at new_log now (only_commit key value) ≡ Refuses TimeSpent
  commit-late late = commit-is ∙ ap (stepped (found new_log)) (too-late (now.latest + 1) _ late)

  -- it is decided one above the latest of the reading
  pub commit-decided : now.latest + 1 < 2 ^ 62 → step_at new_log now (only_commit key value) ≡ decides (now.latest + 1)
  commit-decided early =
      commit-is
      ∙ ap (stepped (found new_log))
      (in-time (now.latest + 1) _ early ∙ ap (λ (n : ℕ). timed n (deciding n)) stamp-is ∙ in-time (now.latest + 1) _ early)
      ∙ deciding-is (now.latest + 1)

  -- ---- the settling

  module _ (s : ℕ) where
    -- what is planned once the timestamp has passed: the row goes, and the session is told
    abbrev telling : Planned
    telling = Ok (drops only_txn (Record.Outcome only_txn (Some s)) (max 0 s) (done_to only_txn (Some s) ∷ []))

    settle-is : step_at (decided_log key value s) now (Input.Settle only_txn) ≡ stepped (found (decided_log key value s))
        (cond (nat_lt s now.earliest) telling (Err Early))
    unfolding computing
    settle-is = refl

    same-last : max 0 s ≡ max (max 0 s) s
    same-last = omega arith

    telling-is : stepped (found (decided_log key value s)) telling ≡ logs (decided_log key value s) (Record.Outcome only_txn (Some s))
        (done_to only_txn (Some s) ∷ [])
    unfolding computing
    telling-is = ap (λ (n : ℕ). Does (Some (Record.Outcome only_txn (Some s))) (record { last = n; rows = []; ended = [] })
        (done_to only_txn (Some s) ∷ [])) same-last

    -- the timestamp has not surely passed
    pub settled-early : now.earliest ≤ s → step_at (decided_log key value s) now (Input.Settle only_txn) ≡ Refuses Early
    settled-early early = settle-is ∙ ap (λ (b : Bool). stepped (found (decided_log key value s)) (cond b telling (Err Early)))
        (is-not-passed s now.earliest early)
      where
        is-not-passed : (m n : ℕ) → n ≤ m → nat_lt m n ≡ false
        is-not-passed m n h = grind (arith, nat_tests)

    -- it has
    pub settled-passed : s < now.earliest → step_at (decided_log key value s) now (Input.Settle only_txn)
        ≡ logs (decided_log key value s) (Record.Outcome only_txn (Some s)) (done_to only_txn (Some s) ∷ [])
    settled-passed passed = settle-is ∙ ap (λ (b : Bool). stepped (found (decided_log key value s)) (cond b telling (Err Early)))
        (is-passed s now.earliest passed) ∙ telling-is
      where
        is-passed : (m n : ℕ) → m < n → nat_lt m n ≡ true
        is-passed m n h = grind (arith, nat_tests)
