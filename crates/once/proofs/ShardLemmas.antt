-- What an input makes of the one shard of `once`.
use Rattle.std.proofs.Common.{◌≡◌, ◌⊎◌, inl, inr, ⊎_elim, ◌∙◌, ◌+◌, ◌^◌, ◌<◌, ◌≤◌, ℕ, Bool, true, false, List, [], ◌∷◌, ◌++◌, length, Some, Result}
use Rattle.std.proofs.Common.{Ok, Err, refl, sym, ap, subst, arith}
use Rattle.std.specs.Prelude.{IsTrue, MatchResult, nat_lt}
use Rattle.std.proofs.lemmas.List.{length-append}
use Rattle.std.proofs.lemmas.List.Sums.{fold-append}
use Rattle.std.proofs.lemmas.Bool.Decides.{nat_tests}
use Rattle.units.specs.Keys.{Bytes}
use Rattle.units.specs.declared.fault.Fault.{Fault}
use Rattle.units.specs.declared.fault.Fault.TheVariants.{Memory, Early, TimeSpent, Device}
use Rattle.truetime.specs.Interval.{Interval}
use Rattle.truetime.specs.Reading.{surely_after}
use Rattle.record.specs.Facts.{Facts, learn, no_facts}
use Rattle.record.specs.declared.record.Record.{Record}
use Rattle.message.specs.declared.message.Envelope.{Envelope}
use Rattle.message.specs.declared.message.Input.{Input}
use Rattle.protocol.specs.Step.{Stepped, Refuses, step}
use Rattle.gatelog.specs.Frames.{IsFull}
use Rattle.disk.specs.File.{File, surface}
use Rattle.simdisk.specs.State.{disk_file, disk_plan, disk_clock, disk_failures, LeftSince}
use Rattle.simdisk.specs.declared.simdisk.SimDisk.{SimDisk}
use Rattle.shard.specs.Logs.{and_logged, records_in, KeepsRecords}
use Rattle.shard.specs.On.{CoreView, HasStepped, IsCause, IsLogFull, IsLogCause, step_of}
use Rattle.once.specs.Replies.{first_stamp, only_txn}
use Rattle.once.specs.Shards.{HasLog, only_commit, new_log, decided_log, settled_log}
use Rattle.once.proofs.FirstStep.{step_at, logs, commit-late, commit-decided, settled-early, settled-passed}

-- an input was taken, or refused, on a disk in memory
abbrev pub Steps : CoreView SimDisk → CoreView SimDisk → Stepped → Result (List Envelope) Fault → Type 0
Steps old new step result = HasStepped (Unit {0}) (Unit {0}) disk_file disk_clock LeftSince disk_failures disk_plan old new step result

module _ (records : List Record) (old new : CoreView SimDisk) (log : HasLog records old) where
  step-is : (now : Interval) (i : Input) → step_of old now i ≡ step_at records now i
  step-is now i = λ j. step (log.setup j) (log.facts j) (log.memory j) now i

  module _ (r : Record) (outbox : List Envelope) (step : Stepped) (is : step ≡ logs records r outbox) where
    -- the log has one record more
    logged : (out : List Envelope) → Steps old new step (Ok out) → HasLog (records ++ r ∷ []) new
    logged out taken =
        let has : Steps old new (logs records r outbox) (Ok out) = subst (λ (s : Stepped). Steps old new s (Ok out)) is taken in
        record {
          setup = has.written.setup ∙ log.setup;
          facts = has.done.2.0 ∙ ap (λ (f : Facts). learn f r) log.facts ∙ sym (fold-append learn no_facts records (r ∷ []));
          memory = has.done.2.1;
          gate = omega (arith, has.written.gate.1, log.gate, length-append records (r ∷ []));
          running = has.done.1;
          plan = (has.written.planned tt log.plan).0;
          read = has.written.read tt ∙ ap (λ (l : Result (List Record) Fault). and_logged l (Some r)) log.read;
          durable = λ image may. has.written.durable tt image may ∙ ap (λ (l : Result (List Record) Fault). and_logged l (Some r)) log.read;
        }

    -- else memory was wanting: the device does not fail, and the log is far from its limit
    only-memory : (fault : Fault) → length records ≤ 2 → Steps old new step (Err fault) → fault ≡ Memory
    only-memory fault few taken = go (subst (λ (b : Bool). IsCause b (logs records r outbox) fault (IsLogFull old.gate (Some r)) Failed) log.running has.cause)
      where
        Failed : Type 0
        Failed = (disk_failures old.disk < disk_failures new.disk) × IsTrue new.stopped

        has : Steps old new (logs records r outbox) (Err fault)
        has = subst (λ (s : Stepped). Steps old new s (Err fault)) is taken

        go : IsLogCause fault (IsFull old.gate r) Failed → fault ≡ Memory
        go (inl want) = want
        go (inr (inl full)) = absurd (omega (arith, full.1.1, log.gate, few))
        go (inr (inr failed)) = absurd ((has.written.planned tt log.plan).1 failed.0)

  -- the step's own refusal
  module _ (why : Fault) (step : Stepped) (is : step ≡ Refuses why) where
    only-refusal : (fault : Fault) → Steps old new step (Err fault) → fault ≡ why
    only-refusal fault taken =
        subst (λ (b : Bool). IsCause b (Refuses why) fault ⊥ ((disk_failures old.disk < disk_failures new.disk) × IsTrue new.stopped)) log.running
        (subst (λ (s : Stepped). Steps old new s (Err fault)) is taken).cause

    -- and then the log is as it was
    kept : (why ≡ Device → ⊥) → (fault : Fault) → Steps old new step (Err fault) → HasLog records new
    kept other fault taken =
        let has : Steps old new (Refuses why) (Err fault) = subst (λ (s : Stepped). Steps old new s (Err fault)) is taken in
        let stays = ⊎_elim (λ failed. absurd (other (sym (only-refusal fault taken) ∙ failed))) (λ same. same) has.written.kept.2 in
        record {
          setup = has.written.setup ∙ log.setup;
          facts = has.written.kept.0 ∙ log.facts;
          memory = has.written.kept.1 ∙ log.memory;
          gate = omega (arith, stays.1, log.gate);
          running = stays.0 ∙ log.running;
          plan = (has.written.planned tt log.plan).0;
          read = ap (λ (f : File). records_in (surface f).seen) stays.2 ∙ log.read;
          durable = subst (λ (f : File). KeepsRecords (surface f) (Ok records)) (sym stays.2) log.durable;
        }

    no-answer : (out : List Envelope) → Steps old new step (Ok out) → ⊥
    no-answer out taken = (subst (λ (s : Stepped). Steps old new s (Ok out)) is taken).done.2

-- ---- as the code tells them apart

is-less : (a b : ℕ) → nat_lt a b ≡ true → a < b
is-less a b h = grind (arith, nat_tests)

is-not-less : (a b : ℕ) → nat_lt a b ≡ false → b ≤ a
is-not-less a b h = grind (arith, nat_tests)

-- what is early is no failing device
early_is_no_device : Early ≡ Device → ⊥
early_is_no_device same = cc

-- what the commit comes to
abbrev pub Commits : Interval → Bytes → Bytes → CoreView SimDisk → Result (List Envelope) Fault → Type 0
Commits now key value new result = MatchResult result
    (λ out. (first_stamp now ≡ Ok (now.latest + 1)) × HasLog (decided_log key value (now.latest + 1)) new)
    (λ fault. (fault ≡ Memory) ⊎ (first_stamp now ≡ Err fault))

-- what the settling comes to
abbrev pub Settles : Interval → Bytes → Bytes → ℕ → CoreView SimDisk → Result (List Envelope) Fault → Type 0
Settles now key value s new result = MatchResult result
    (λ out. (surely_after now s ≡ true) × HasLog (settled_log key value s) new)
    (λ fault. (fault ≡ Memory) ⊎ ((fault ≡ Early) × (surely_after now s ≡ false) × HasLog (decided_log key value s) new))

module _ (now : Interval) (key value : Bytes) (old new : CoreView SimDisk) where
  pub commits : HasLog new_log old → (result : Result (List Envelope) Fault) → Steps old new (step_of old now (only_commit key value)) result →
      Commits now key value new result
  commits log result taken = by (nat_lt (now.latest + 1) (2 ^ 62)) refl result taken
    where
      by : (b : Bool) → nat_lt (now.latest + 1) (2 ^ 62) ≡ b → (result : Result (List Envelope) Fault)
          → Steps old new (step_of old now (only_commit key value)) result → Commits now key value new result
      by true is (Ok out) has = (
        rw is refl,
        logged new_log old new log _ _ _ (step-is new_log old new log now (only_commit key value) ∙ commit-decided now key value (is-less _ _ is)) out has,
      )
      by true is (Err fault) has =
          inl (only-memory new_log old new log _ _ _ (step-is new_log old new log now (only_commit key value)
          ∙ commit-decided now key value (is-less _ _ is)) fault (omega arith) has)
      by false is (Ok out) has =
          absurd (no-answer new_log old new log TimeSpent _ (step-is new_log old new log now (only_commit key value)
          ∙ commit-late now key value (is-not-less _ _ is)) out has)
      by false is (Err fault) has =
          let own : fault ≡ TimeSpent = only-refusal new_log old new log TimeSpent _ (step-is new_log old new log now (only_commit key value)
          ∙ commit-late now key value (is-not-less _ _ is)) fault has in
          inr (rw (is, own) refl)

  pub settles : (s : ℕ) → HasLog (decided_log key value s) old → (result : Result (List Envelope) Fault)
      → Steps old new (step_of old now (Input.Settle only_txn)) result → Settles now key value s new result
  settles s log result taken = by (surely_after now s) refl result taken
    where
      step : step_of old now (Input.Settle only_txn) ≡ step_at (decided_log key value s) now (Input.Settle only_txn)
      step = step-is (decided_log key value s) old new log now (Input.Settle only_txn)

      by : (b : Bool) → surely_after now s ≡ b → (result : Result (List Envelope) Fault)
          → Steps old new (step_of old now (Input.Settle only_txn)) result → Settles now key value s new result
      by true is (Ok out) has = (is, logged (decided_log key value s) old new log _ _ _ (step ∙ settled-passed now key value s (is-less _ _ is)) out has)
      by true is (Err fault) has =
          inl (only-memory (decided_log key value s) old new log _ _ _ (step ∙ settled-passed now key value s (is-less _ _ is)) fault (omega arith) has)
      by false is (Ok out) has =
          absurd (no-answer (decided_log key value s) old new log Early _ (step ∙ settled-early now key value s (is-not-less _ _ is)) out has)
      by false is (Err fault) has =
          let early : step_of old now (Input.Settle only_txn) ≡ Refuses Early = step ∙ settled-early now key value s (is-not-less _ _ is) in inr (
            only-refusal (decided_log key value s) old new log Early _ early fault has,
            is,
            kept (decided_log key value s) old new log Early _ early early_is_no_device fault has,
          )
