-- A core that turns its log over, with a call armed or with none, does what the definitions say.
use Rattle.std.proofs.Common.{◌≡◌, ◌≢◌, ◌⊎◌, inl, inr, ℕ, ◌+◌, ◌^◌, ◌<◌, ◌≤◌, Bool, true, false, cond, ◌&&◌, nat_le, nat_lt, IsTrue, IsFalse, List, [], ◌++◌}
use Rattle.std.proofs.Common.{Option, Some, None, Result, Ok, Err, refl, sym, ap, ◌∙◌, subst, arith}
use Rattle.std.proofs.lemmas.Bool.{false≢true}
use Rattle.std.proofs.lemmas.Bool.Decides.{nat_tests}
use Rattle.std.proofs.lemmas.List.{append-nil}
use Rattle.units.specs.declared.fault.Fault.{Fault}
use Rattle.units.specs.declared.fault.Fault.TheVariants.{Device, Memory as WantsMemory, Stopped, TimeSpent}
use Rattle.units.specs.declared.setup.Setup.{Setup}
use Rattle.disk.specs.File.{surface}
use Rattle.disk.specs.Planned.{armed}
use Rattle.gatelog.specs.Crash.{Begins}
use Rattle.gatelog.specs.Frames.{end_from}
use Rattle.gatelog.specs.Slots.{slot_count}
use Rattle.message.specs.declared.message.Envelope.{Envelope}
use Rattle.protocol.specs.Rows.{Memory}
use Rattle.protocol.specs.Step.{Stepped, Refuses, Does}
use Rattle.record.specs.Facts.{Facts, facts_of}
use Rattle.record.specs.declared.record.Record.{Record}
use Rattle.ledger.specs.Keeps.{Alike, IsLasting}
use Rattle.ledger.specs.Turned.{turned}
use Rattle.ledger.proofs.One.{one-turnover}
use Rattle.shard.specs.Logs.{KeepsRecords}
use Rattle.shard.specs.On.{CoreView}
use Rattle.shard.specs.Turned.{AreArmedTurn, HasNoTurnPlace, HasTurned, HasTurnPlace, turned_to}
use Rattle.simdisk.specs.State.{disk_clock, disk_failures, disk_file, disk_plan, LeftSince}
use Rattle.simdisk.specs.declared.simdisk.SimDisk.{SimDisk}
use Rattle.world.specs.World.{ShardNow, State, Runs, IsStopped, IsDown, failed_turn, gate_of, new_area, read_area, read_log, shown_records}
use Rattle.world.specs.World.{stopped as stopped_state}
use Rattle.world.specs.declared.event.Doing.{Doing}
use Rattle.lives.specs.Held.{HoldsArea, beginning_of}
use Rattle.lives.specs.Lives.{IsCoreIn, IsRunningAs, IsStoppedAs}
use Rattle.lives.specs.Carries.{CoreComes, TurnsOver, stepped_shard, turns_in}
use Rattle.lives.proofs.Alikes.{first_of_same}
use Rattle.lives.proofs.Holding.{holds_kept, holds_turned}
use Rattle.lives.proofs.Stepping.{IsArmedFrom, core_in}

less : (a b : ℕ) → a < b → nat_lt a b ≡ true
less a b h = grind (arith, nat_tests)

not_less : (a b : ℕ) → b ≤ a → nat_lt a b ≡ false
not_less a b h = grind (arith, nat_tests)

at_most : (a b : ℕ) → a ≤ b → nat_le a b ≡ true
at_most a b h = grind (arith, nat_tests)

above : (a b : ℕ) → b < a → nat_le a b ≡ false
above a b h = grind (arith, nat_tests)

-- there is a slot, and room
placed : (slot size : ℕ) → slot < slot_count → size ≤ 2 ^ 40 → (nat_lt slot slot_count && nat_le size (2 ^ 40)) ≡ true
placed slot size free room = λ i. less slot slot_count free i && at_most size (2 ^ 40) room i

none_after : (b : Bool) → (b && false) ≡ false
none_after true = refl
none_after false = refl

-- there is none
not_placed : (slot size : ℕ) → (slot_count ≤ slot) ⊎ (2 ^ 40 < size) → (nat_lt slot slot_count && nat_le size (2 ^ 40)) ≡ false
not_placed slot size (inl full) = ap (λ b. b && nat_le size (2 ^ 40)) (not_less slot slot_count full)
not_placed slot size (inr full) = ap (λ b. nat_lt slot slot_count && b) (above size (2 ^ 40) full) ∙ none_after (nat_lt slot slot_count)

stopped_no_device : (fault : Fault) → fault ≡ Stopped → fault ≡ Device → ⊥
stopped_no_device fault is device = no (sym is ∙ device)
  where
    no : Stopped ≡ Device → ⊥
    no e = cc

spent_no_device : (fault : Fault) → fault ≡ TimeSpent → fault ≡ Device → ⊥
spent_no_device fault is device = no (sym is ∙ device)
  where
    no : TimeSpent ≡ Device → ⊥
    no e = cc

module _ (old before after new : CoreView SimDisk) (call : Option ℕ) (arms : IsArmedFrom old before call) (disarms : IsArmedFrom after new None)
    (setup : Setup) (s : ShardNow) where
  -- the armed core turns its log over
  abbrev Has : Result (Unit {0}) Fault → Type 0
  Has r = HasTurned (Unit {0}) (Unit {0}) disk_file disk_clock LeftSince disk_failures disk_plan before after r

  abbrev Left : Stepped → Result (List Envelope) Fault → Type 0
  Left st r = CoreComes setup s old new call Doing.Turn st r

  same_installs : (r : Result (Unit {0}) Fault) → Has r → new.facts.installs ≡ old.facts.installs
  same_installs r k = ap (λ (f : Facts). f.installs) (disarms.facts ∙ k.facts ∙ arms.facts)

  -- a refusal that leaves all as it was
  stays : (fault : Fault) (state : State) → Has (Err fault) → (fault ≡ Device → ⊥) → IsCoreIn setup s old state → IsCoreIn setup s new state
  stays fault state k other h = by_kept k.kept
    where
      by_kept : (fault ≡ Device) ⊎ ((after.stopped ≡ before.stopped) × (after.gate ≡ before.gate) × (after.slot ≡ before.slot)
          × (disk_file after.disk ≡ disk_file before.disk)) → IsCoreIn setup s new state
      by_kept (inl device) = absurd (other device)
      by_kept (inr kept) = core_in setup s old new (record {
        never = disarms.plan;
        gate = disarms.gate ∙ kept.1 ∙ arms.gate;
        slot = disarms.slot ∙ kept.2 ∙ arms.slot;
        stopped = disarms.stopped ∙ kept.0 ∙ arms.stopped;
        setup = disarms.setup ∙ k.setup ∙ arms.setup;
        facts = disarms.facts ∙ k.facts ∙ arms.facts;
        memory = disarms.memory ∙ k.memory ∙ arms.memory;
        file = disarms.file ∙ kept.3 ∙ arms.file;
      }) state h

  refuses : (fault why : Fault) → Has (Err fault) → fault ≡ why → (fault ≡ Device → ⊥) → IsCoreIn setup s old s.state → Left (Refuses why) (Err fault)
  refuses fault why k because other h = inr (ap (λ f. Err f) because, (stays fault s.state k other h, same_installs (Err fault) k))

  module _ (m : Memory) (h : IsRunningAs setup s m old) (runs_so : s.state ≡ Runs m) (lasts : IsLasting (facts_of (read_log s))) where
    log_is : read_log s ≡ s.log
    log_is = ap (λ u. s.log ++ shown_records u) h.sure ∙ append-nil s.log

    running : before.stopped ≡ false
    running = arms.stopped ∙ h.runs

    here : IsCoreIn setup s old s.state
    here = subst (IsCoreIn setup s old) (sym runs_so) h

    known : Alike before.facts (facts_of (read_log s))
    known = subst (λ f. Alike f (facts_of (read_log s))) (sym arms.facts) (subst (λ l. Alike old.facts (facts_of l)) (sym log_is) h.core_of.knows)

    gate_is : before.gate ≡ gate_of (read_area s)
    gate_is = arms.gate ∙ h.gate

    slot_is : before.slot ≡ (read_area s).slot
    slot_is = arms.slot ∙ h.slot

    -- its records are those that all records make
    records_are : (r : Result (Unit {0}) Fault) → Has r → turned before.facts ≡ (new_area s).records
    records_are r k = one-turnover before.facts (facts_of (read_log s)) known k.regular lasts.regular

    begins_are : turned_to before.gate before.slot ≡ beginning_of (new_area s)
    begins_are = λ i. turned_to (gate_is i) (slot_is i)

    ends_are : (r : Result (Unit {0}) Fault) → Has r → end_from (before.gate + 1) (turned before.facts) ≡ gate_of (new_area s)
    ends_are r k = λ i. end_from (gate_is i + 1) (records_are r k i)

    -- it has its place, or it has none
    has_one : (r : Result (Unit {0}) Fault) → Has r → HasTurnPlace before.slot before.gate (turned before.facts) → turns_in s s.state ≡ Does None m []
    has_one r k place =
        ap (turns_in s) runs_so
        ∙ ap (λ b. cond b (Does None m []) (Refuses TimeSpent)) (placed (read_area s).slot (gate_of (new_area s) + 1)
        (subst (λ n. n < slot_count) slot_is place.0) (subst (λ n. n + 1 ≤ 2 ^ 40) (ends_are r k) place.1))

    has_none : (r : Result (Unit {0}) Fault) → Has r → HasNoTurnPlace before.slot before.gate (turned before.facts)
        → turns_in s s.state ≡ Refuses TimeSpent
    has_none r k full =
        ap (turns_in s) runs_so
        ∙ ap (λ b. cond b (Does None m []) (Refuses TimeSpent)) (not_placed (read_area s).slot (gate_of (new_area s) + 1) (by_full full))
      where
        by_full : HasNoTurnPlace before.slot before.gate (turned before.facts) → (slot_count ≤ (read_area s).slot) ⊎ (2 ^ 40 < gate_of (new_area s) + 1)
        by_full (inl slots) = inl (subst (λ n. slot_count ≤ n) slot_is slots)
        by_full (inr room) = inr (subst (λ n. 2 ^ 40 < n + 1) (ends_are r k) room)

    -- it is done
    done : Has (Ok tt) → IsRunningAs setup (stepped_shard s Doing.Turn None m) m new
    done k =
        let new_records : List Record = (new_area s).records in
        let kept : KeepsRecords (surface (disk_file new.disk)) (Ok new_records) =
        subst (λ f. KeepsRecords (surface f) (Ok new_records)) (sym disarms.file)
        (subst (λ l. KeepsRecords (surface (disk_file after.disk)) (Ok l)) (records_are (Ok tt) k) (k.durable tt)) in
        let begins : Begins (surface (disk_file new.disk)) (beginning_of (new_area s)) =
        subst (λ f. Begins (surface f) (beginning_of (new_area s))) (sym disarms.file)
        (subst (Begins (surface (disk_file after.disk))) begins_are (k.begins tt)) in
        record {
          core_of = record {
            setup_is = disarms.setup ∙ k.setup ∙ arms.setup ∙ h.core_of.setup_is;
            knows = subst (λ l. Alike new.facts (facts_of l)) (sym (append-nil (read_log s)))
                (subst (λ f. Alike f (facts_of (read_log s))) (sym (disarms.facts ∙ k.facts)) known);
            memory = disarms.memory ∙ k.memory ∙ arms.memory ∙ h.core_of.memory;
            disk = holds_kept (stepped_shard s Doing.Turn None m) new.disk disarms.plan refl kept begins;
          };
          runs = disarms.stopped ∙ k.done.1;
          sure = refl;
          gate = disarms.gate ∙ k.done.2 ∙ ends_are (Ok tt) k;
          slot = disarms.slot ∙ k.done.3 ∙ ap (λ n. n + 1) slot_is;
          begins = begins;
        }

    past_left : (c : Option ℕ) → disk_plan before.disk ≡ armed c → Has (Ok tt)
        → CoreComes setup s old new c Doing.Turn (Does None m []) (Ok [])
    past_left None plan k = inr (refl, (done k, first_of_same old.facts new.facts (disarms.facts ∙ k.facts ∙ arms.facts)))
    past_left (Some c) plan k =
        let over : nat_lt c 5 ≡ false = (k.armed c running tt tt plan).0 in
        inr (
          sym (ap (λ b. cond {A = Result (List Envelope) Fault} b (Err Device) (Ok [])) over),
          (
            subst (λ t. IsCoreIn setup t new t.state) (sym (ap (λ b. cond b (failed_turn s c) (stepped_shard s Doing.Turn None m)) over)) (done k),
            first_of_same old.facts new.facts (disarms.facts ∙ k.facts ∙ arms.facts),
          ),
        )

    pub turned_over : Has (Ok tt) → Left (turns_in s s.state) (Ok [])
    turned_over k = subst (λ st. Left st (Ok [])) (sym (has_one (Ok tt) k k.place)) (past_left call arms.plan k)

    -- a call fails in it
    failed : (fault : Fault) (c : ℕ) → Has (Err fault) → disk_plan before.disk ≡ armed (Some c) → fault ≡ Device → IsTrue after.stopped
        → (turns_in s s.state ≡ Does None m []) × CoreComes setup s old new (Some c) Doing.Turn (Does None m []) (Err fault)
    unfolding failed_turn
    failed fault c k plan device stopped =
        let f = (k.armed c running tt tt plan).1 device in
        let was : HoldsArea (read_area s) (surface (disk_file before.disk)).seen =
        subst (λ x. HoldsArea (read_area s) (surface x).seen) (sym arms.file) h.core_of.disk.read in
        let armed_so : AreArmedTurn c (surface (disk_file before.disk)) before.gate before.slot (new_area s).records (disk_file new.disk) =
        subst (AreArmedTurn c (surface (disk_file before.disk)) before.gate before.slot (new_area s).records) (sym disarms.file)
        (subst (λ l. AreArmedTurn c (surface (disk_file before.disk)) before.gate before.slot l (disk_file after.disk)) (records_are (Err fault) k) f.2) in
        let core : IsStoppedAs setup (failed_turn s c) m new = record {
          core_of = record {
            setup_is = disarms.setup ∙ k.setup ∙ arms.setup ∙ h.core_of.setup_is;
            knows = subst (λ x. Alike x (facts_of (read_log s))) (sym (disarms.facts ∙ k.facts)) known;
            memory = disarms.memory ∙ k.memory ∙ arms.memory ∙ h.core_of.memory;
            disk = holds_turned s c before.gate before.slot (surface (disk_file before.disk)) new.disk disarms.plan f.0 was (sym begins_are) armed_so;
          };
          stopped = disarms.stopped ∙ stopped;
        } in (
          has_one (Err fault) k f.1,
          inr (
            ap (λ x. Err x) device ∙ sym (ap (λ b. cond {A = Result (List Envelope) Fault} b (Err Device) (Ok [])) f.0),
            (
              subst (λ t. IsCoreIn setup t new t.state) (sym (ap (λ b. cond b (failed_turn s c) (stepped_shard s Doing.Turn None m)) f.0))
                  (subst (IsCoreIn setup (failed_turn s c) new) (sym (ap stopped_state runs_so)) core),
              same_installs (Err fault) k,
            ),
          ),
        )

    by_device : (fault : Fault) (c : Option ℕ) → c ≡ call → Has (Err fault) → disk_plan before.disk ≡ armed c → fault ≡ Device → IsTrue after.stopped
        → Left (turns_in s s.state) (Err fault)
    by_device fault None is k plan device stopped = absurd ((k.planned tt plan).1 device)
    by_device fault (Some c) is k plan device stopped =
        let p = failed fault c k plan device stopped in
        subst (λ st. Left st (Err fault)) (sym p.0) (subst (λ o. CoreComes setup s old new o Doing.Turn (Does None m []) (Err fault)) is p.1)

    pub not_turned : (fault : Fault) → Has (Err fault) → Left (turns_in s s.state) (Err fault)
    not_turned fault k = by_cause k.cause
      where
        by_cause : ((fault ≡ Stopped) × IsTrue before.stopped × (after ≡ before))
            ⊎ (IsFalse before.stopped × ((fault ≡ WantsMemory)
            ⊎ (((fault ≡ TimeSpent) × HasNoTurnPlace before.slot before.gate (turned before.facts))
            ⊎ ((fault ≡ Device) × ((disk_failures before.disk < disk_failures after.disk) × IsTrue after.stopped))))) → Left (turns_in s s.state) (Err fault)
        by_cause (inl rests) = absurd (false≢true (sym running ∙ rests.1))
        by_cause (inr (runs, inl memory)) = inl (ap (λ f. Err f) memory)
        by_cause (inr (runs, inr (inl spent))) =
            subst (λ st. Left st (Err fault)) (sym (has_none (Err fault) k spent.1))
            (refuses fault TimeSpent k spent.0 (spent_no_device fault spent.0) here)
        by_cause (inr (runs, inr (inr device))) = by_device fault call refl k arms.plan device.0 device.1.1

  -- a stopped core does nothing
  pub stopped_turns : (m : Memory) → IsStoppedAs setup s m old → s.state ≡ IsStopped m → (fault : Fault) → Has (Err fault)
      → Left (turns_in s s.state) (Err fault)
  stopped_turns m h is fault k = subst (λ st. Left st (Err fault)) (sym (ap (turns_in s) is)) (by_cause k.cause)
    where
      by_cause : ((fault ≡ Stopped) × IsTrue before.stopped × (after ≡ before))
          ⊎ (IsFalse before.stopped × ((fault ≡ WantsMemory)
          ⊎ (((fault ≡ TimeSpent) × HasNoTurnPlace before.slot before.gate (turned before.facts))
          ⊎ ((fault ≡ Device) × ((disk_failures before.disk < disk_failures after.disk) × IsTrue after.stopped))))) → Left (Refuses Stopped) (Err fault)
      by_cause (inl rests) =
          refuses fault Stopped k rests.0 (stopped_no_device fault rests.0) (subst (IsCoreIn setup s old) (sym is) h)
      by_cause (inr (runs, cause)) = absurd (false≢true (sym runs ∙ arms.stopped ∙ h.stopped))

  pub stopped_does_not : (m : Memory) → IsStoppedAs setup s m old → Has (Ok tt) → ⊥
  stopped_does_not m h k = false≢true (sym k.done.0 ∙ arms.stopped ∙ h.stopped)

-- a core turns its log over, and no call is armed behind it
pub turns_over_ok : (old before after new : CoreView SimDisk) (call : Option ℕ) → IsArmedFrom old before call → IsArmedFrom after new None
    → (done : Unit {0}) → HasTurned (Unit {0}) (Unit {0}) disk_file disk_clock LeftSince disk_failures disk_plan before after (Ok done)
    → TurnsOver old new call (Ok [])
turns_over_ok old before after new call arms disarms done k = λ setup s h lasts. by_state setup s lasts s.state refl h
  where
    by_state : (setup : Setup) (s : ShardNow) → IsLasting (facts_of (read_log s)) → (state : State) → s.state ≡ state → IsCoreIn setup s old state
        → CoreComes setup s old new call Doing.Turn (turns_in s s.state) (Ok [])
    by_state setup s lasts (Runs m) is h = turned_over old before after new call arms disarms setup s m h is lasts k
    by_state setup s lasts (IsStopped m) is h = absurd (stopped_does_not old before after new call arms disarms setup s m h k)
    by_state setup s lasts IsDown is h = absurd h

abbrev refused_by : Fault → Result (Unit {0}) Fault
refused_by fault = Err fault

pub turns_over_err : (old before after new : CoreView SimDisk) (call : Option ℕ) → IsArmedFrom old before call → IsArmedFrom after new None
    → (fault : Fault) → HasTurned (Unit {0}) (Unit {0}) disk_file disk_clock LeftSince disk_failures disk_plan before after (refused_by fault)
    → TurnsOver old new call (Err fault)
turns_over_err old before after new call arms disarms fault k = λ setup s h lasts. by_state setup s lasts s.state refl h
  where
    by_state : (setup : Setup) (s : ShardNow) → IsLasting (facts_of (read_log s)) → (state : State) → s.state ≡ state → IsCoreIn setup s old state
        → CoreComes setup s old new call Doing.Turn (turns_in s s.state) (Err fault)
    by_state setup s lasts (Runs m) is h = not_turned old before after new call arms disarms setup s m h is lasts fault k
    by_state setup s lasts (IsStopped m) is h = stopped_turns old before after new call arms disarms setup s m h is fault k
    by_state setup s lasts IsDown is h = absurd h
