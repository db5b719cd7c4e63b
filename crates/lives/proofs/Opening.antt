-- A disk that is opened with a call armed, or with none, comes to what the definitions say.
use Rattle.std.proofs.Common.{◌≡◌, ◌⊎◌, ⊎_elim, inl, inr, ℕ, ◌+◌, ◌-◌, ◌^◌, ◌<◌, ◌≤◌, Bool, true, false, cond, nat_lt, IsTrue, List, [], ◌∷◌}
use Rattle.std.proofs.Common.{◌++◌, Option, Some, None, Result, Ok, Err}
use Rattle.std.proofs.Common.{refl, sym, ap, ◌∙◌, subst, arith}
use Rattle.std.proofs.lemmas.Bool.{false≢true}
use Rattle.std.proofs.lemmas.Bool.Decides.{nat_tests}
use Rattle.units.specs.declared.fault.Fault.{Fault}
use Rattle.units.specs.declared.fault.Fault.TheVariants.{Device, Memory as WantsMemory, TimeSpent}
use Rattle.units.specs.declared.setup.Setup.{Setup}
use Rattle.disk.specs.File.{surface}
use Rattle.disk.specs.Image.{after_sync}
use Rattle.disk.specs.Planned.{armed}
use Rattle.disk.specs.declared.plan.FailurePlan.{FailurePlan}
use Rattle.gatelog.specs.Crash.{Begins}
use Rattle.gatelog.specs.Frames.{IsFull, end_from, next_gate}
use Rattle.gatelog.specs.Slots.{Beginning, begins_in}
use Rattle.gatelog.specs.Log.{log as scanned_log}
use Rattle.frames.specs.Placed.{Placed}
use Rattle.record.specs.Accepted.{Accepted, followed, taken}
use Rattle.record.specs.Facts.{Facts, facts_of, learn}
use Rattle.record.specs.Records.{epoch_of}
use Rattle.message.specs.declared.message.Envelope.{Envelope}
use Rattle.record.specs.declared.record.Record.{Record}
use Rattle.record.proofs.LearnAgrees.{accepted_follows, learn_agrees}
use Rattle.shard.specs.Recovered.{fault_in, items}
use Rattle.protocol.specs.Plan.{time_limit}
use Rattle.protocol.specs.Rows.{Memory, rebuilt}
use Rattle.protocol.specs.Step.{Stepped, Refuses, Does}
use Rattle.ledger.specs.Keeps.{Alike}
use Rattle.ledger.proofs.Alike.{alike-stays}
use Rattle.shard.specs.Armed.{AreArmed, HasPlace}
use Rattle.shard.specs.Logs.{KeepsRecords, records_in, and_logged, items_of}
use Rattle.shard.specs.On.{CoreView}
use Rattle.shard.specs.Opened.{HasOpened, HasNotOpened, IsReason, IsTaken, fault_of, is_reason, next_opening, opening_of, end_in}
use Rattle.simdisk.specs.State.{disk_clock, disk_failures, disk_file, disk_plan, LeftSince}
use Rattle.simdisk.specs.declared.simdisk.SimDisk.{SimDisk}
use Rattle.world.specs.World.{ShardNow, State, Runs, IsStopped, IsDown, crashed, failed_in, gate_of, read_area, read_log, step_of_opening}
use Rattle.world.specs.World.{stopped as stopped_state, where_room}
use Rattle.world.specs.Lawful.{is_up}
use Rattle.world.proofs.Openings.{opening_follows}
use Rattle.world.proofs.Rooms.{full_is, room_is}
use Rattle.world.specs.declared.event.Doing.{Doing}
use Rattle.lives.specs.Held.{beginning_of}
use Rattle.lives.specs.Lives.{HoldsLog, IsCoreIn, IsDiskIn, IsRunningAs, disk_log}
use Rattle.lives.specs.Carries.{Comes, IsOrderly, answer_of, comes_to, opened_by, opens_as, stepped_shard}
use Rattle.lives.proofs.Alikes.{alike_back, same_rebuilt}
use Rattle.lives.proofs.Holding.{holds_failed, holds_kept}
use Rattle.lives.proofs.Stepping.{IsArmedFrom, IsPast, end_with, past_answer, past_left, plain_shard}

pub epoch_is : (log : List Record) → (facts_of log).epoch ≡ epoch_of log
unfolding facts_of
epoch_is log = refl

below : (n limit last : ℕ) → last ≡ limit - 1 → n + 1 < limit → nat_lt n last ≡ true
below n limit last is h = grind (arith, nat_tests)

not_below : (n limit last : ℕ) → last ≡ limit - 1 → limit ≤ n + 1 → nat_lt n last ≡ false
not_below n limit last is h = grind (arith, nat_tests)

below_limit : (n : ℕ) → n + 1 < 2 ^ 62 → nat_lt n time_limit ≡ true
below_limit n h = below n (2 ^ 62) time_limit refl h

at_limit : (n : ℕ) → 2 ^ 62 ≤ n + 1 → nat_lt n time_limit ≡ false
at_limit n h = not_below n (2 ^ 62) time_limit refl h

-- rows and the greatest timestamp are not changed by an opening
pub rebuilt_same : (f : Facts) (epoch : ℕ) → rebuilt (learn f (Record.Opened epoch)) ≡ rebuilt f
unfolding rebuilt learn
rebuilt_same f epoch = refl

-- what does not run is down behind a failure
pub not_up : (state : State) → is_up state ≡ false → stopped_state state ≡ IsDown
not_up (Runs m) is = absurd (false≢true (sym is))
not_up (IsStopped m) is = refl
not_up IsDown is = refl

pub ok_same : (a b : List Record) (x : Result (List Record) Fault) → x ≡ Ok a → x ≡ Ok b → a ≡ b
ok_same a b x p q = ap (λ (r : Result (List Record) Fault). elim r as (λ y. List Record) [ Ok l ↦ l | Err f ↦ a ]) (sym p ∙ q)

-- records that are taken give no fault
accepted_entries : (setup : Setup) (entries : List Placed) (records : List Record) (fault : Fault) → items entries ≡ records → taken setup records ≡ Accepted →
    fault_in (taken setup (items entries)) entries ≡ Some fault → ⊥
accepted_entries setup entries records fault same accepted found =
    none (sym (ap (λ t. fault_in t entries) (ap (taken setup) same ∙ accepted)) ∙ found)
  where
    none : None ≡ Some fault → ⊥
    none e = cc

pub no_fault : (setup : Setup) (scanned : Result (List Placed) Fault) (records : List Record) (fault : Fault) → items_of scanned ≡ Ok records
    → taken setup records ≡ Accepted →
    fault_of setup scanned ≡ Some fault → ⊥
no_fault setup (Ok entries) records fault read accepted found =
    accepted_entries setup entries records fault (ok_same (items entries) records (items_of (Ok entries)) refl read) accepted found
no_fault setup (Err why) records fault read accepted found = absurd (cc)

-- ---- what an opening comes to

module _ (s : ShardNow) (alike : Alike (facts_of (read_log s)) (facts_of (disk_log s))) where
  same_epoch : (facts_of (read_log s)).epoch ≡ epoch_of (disk_log s)
  same_epoch = alike.epoch ∙ epoch_is (disk_log s)

  item_is : Record.Opened ((facts_of (read_log s)).epoch + 1) ≡ next_opening (disk_log s)
  item_is = ap (λ n. Record.Opened (n + 1)) same_epoch

  -- it has room
  pub does : epoch_of (disk_log s) + 1 < 2 ^ 62 → HasPlace (gate_of (read_area s)) (Some (next_opening (disk_log s)))
      → opens_as s ≡ Does (Some (next_opening (disk_log s))) (rebuilt (facts_of (read_log s))) []
  unfolding step_of_opening
  does epoch place =
      let below : nat_lt (facts_of (read_log s)).epoch time_limit ≡ true = ap (λ n. nat_lt n time_limit) same_epoch
      ∙ below_limit (epoch_of (disk_log s)) epoch in
      ap (λ b. where_room (gate_of (read_area s))
      (cond b (Does (Some (Record.Opened ((facts_of (read_log s)).epoch + 1))) (rebuilt (facts_of (read_log s))) []) (Refuses TimeSpent))) below
      ∙ ap (λ r. where_room (gate_of (read_area s)) (Does (Some r) (rebuilt (facts_of (read_log s))) [])) item_is
      ∙ room_is (gate_of (read_area s)) (next_opening (disk_log s)) (rebuilt (facts_of (read_log s))) [] place

  -- it has none
  pub refuses : (2 ^ 62 ≤ epoch_of (disk_log s) + 1) ⊎ IsFull (gate_of (read_area s)) (next_opening (disk_log s)) → opens_as s ≡ Refuses TimeSpent
  unfolding step_of_opening
  refuses (inl spent) =
      let over : nat_lt (facts_of (read_log s)).epoch time_limit ≡ false = ap (λ n. nat_lt n time_limit) same_epoch
      ∙ at_limit (epoch_of (disk_log s)) spent in
      ap (λ b. where_room (gate_of (read_area s))
      (cond b (Does (Some (Record.Opened ((facts_of (read_log s)).epoch + 1))) (rebuilt (facts_of (read_log s))) []) (Refuses TimeSpent))) over
  refuses (inr full) = by_test (nat_lt (facts_of (read_log s)).epoch time_limit)
    where
      by_test : (b : Bool)
          → where_room (gate_of (read_area s))
          (cond b (Does (Some (Record.Opened ((facts_of (read_log s)).epoch + 1))) (rebuilt (facts_of (read_log s))) []) (Refuses TimeSpent))
          ≡ Refuses TimeSpent
      by_test false = refl
      by_test true =
          ap (λ r. where_room (gate_of (read_area s)) (Does (Some r) (rebuilt (facts_of (read_log s))) [])) item_is
          ∙ full_is (gate_of (read_area s)) (next_opening (disk_log s)) (rebuilt (facts_of (read_log s))) [] full

  -- the facts of the log behind it
  pub learnt : (setup : Setup) → taken setup (disk_log s) ≡ Accepted
      → facts_of (disk_log s ++ next_opening (disk_log s) ∷ []) ≡ learn (facts_of (disk_log s)) (next_opening (disk_log s))
  learnt setup accepted =
      learn_agrees setup.shard (disk_log s) (next_opening (disk_log s))
      (subst (λ r. followed setup.shard (disk_log s ++ r ∷ []) ≡ true) (ap (λ n. Record.Opened (n + 1)) (epoch_is (disk_log s)))
      (opening_follows setup.shard (disk_log s) (accepted_follows setup (disk_log s) accepted)))

  -- they are alike to those of all records
  pub still_alike : (setup : Setup) → taken setup (disk_log s) ≡ Accepted → IsTrue (followed setup.shard (read_log s ++ next_opening (disk_log s) ∷ []))
      → Alike (facts_of (disk_log s ++ next_opening (disk_log s) ∷ [])) (facts_of (read_log s ++ next_opening (disk_log s) ∷ []))
  still_alike setup accepted follows =
      let q = next_opening (disk_log s) in
      subst (λ f. Alike f (facts_of (read_log s ++ q ∷ []))) (sym (learnt setup accepted))
      (subst (Alike (learn (facts_of (disk_log s)) q)) (sym (learn_agrees setup.shard (read_log s) q follows))
      (alike-stays (facts_of (disk_log s)) (facts_of (read_log s)) q (alike_back (facts_of (read_log s)) (facts_of (disk_log s)) alike)))

  -- and so are the rows and the greatest timestamp that it finds
  pub finds_same : (setup : Setup) → taken setup (disk_log s) ≡ Accepted
      → rebuilt (facts_of (disk_log s ++ next_opening (disk_log s) ∷ [])) ≡ rebuilt (facts_of (read_log s))
  finds_same setup accepted =
      ap rebuilt (learnt setup accepted) ∙ rebuilt_same (facts_of (disk_log s)) (epoch_of (disk_log s) + 1)
      ∙ sym (same_rebuilt (facts_of (read_log s)) (facts_of (disk_log s)) alike)

module _ (disk armed_disk : SimDisk) (call : Option ℕ) (plan : disk_plan armed_disk ≡ armed call) (file : disk_file armed_disk ≡ disk_file disk)
    (setup : Setup) (s : ShardNow) (holds : HoldsLog s disk) (down : is_up s.state ≡ false) (order : IsOrderly setup s (opens_as s)) where
  abbrev q : Record
  q = next_opening (disk_log s)

  abbrev found_memory : Memory
  found_memory = rebuilt (facts_of (read_log s))

  abbrev down_now : ShardNow
  down_now = crashed s (read_log s) (read_area s)

  records : records_in (surface (disk_file armed_disk)).seen ≡ Ok (disk_log s)
  records = ap (λ f. records_in (surface f).seen) file ∙ holds.read.0

  here : begins_in (surface (disk_file armed_disk)).seen ≡ beginning_of (read_area s)
  here = ap (λ f. begins_in (surface f).seen) file ∙ holds.read.1

  ends : end_in (surface (disk_file armed_disk)).seen (disk_log s) ≡ gate_of (read_area s)
  ends = ap (λ (b : Beginning). end_from b.at (disk_log s)) here

  -- ---- the log was taken up

  module _ (core new : CoreView SimDisk) (disarms : IsArmedFrom core new None)
      (h : HasOpened (Unit {0}) (Unit {0}) disk_file disk_clock LeftSince disk_failures disk_plan armed_disk setup core) where
    facts_are : core.facts ≡ facts_of (disk_log s ++ q ∷ [])
    facts_are = (subst (λ x. IsTaken setup x core.facts) records (h.taken tt)).1

    is_done : opens_as s ≡ Does (Some q) found_memory []
    is_done = does s order.alike (h.epoch (disk_log s) tt records) (subst (λ n. HasPlace n (Some q)) ends (h.gate (disk_log s) tt records).1)

    running : IsRunningAs setup (plain_shard s (Some q) found_memory) found_memory new
    running =
        let whole : List Record = disk_log s ++ q ∷ [] in
        let found : and_logged (records_in (surface (disk_file armed_disk)).seen) (opening_of (records_in (surface (disk_file armed_disk)).seen)) ≡ Ok whole =
        ap (λ x. and_logged x (opening_of x)) records in
        let kept : KeepsRecords (surface (disk_file new.disk)) (Ok whole) =
        subst (λ f. KeepsRecords (surface f) (Ok whole)) (sym disarms.file) (subst (KeepsRecords (surface (disk_file core.disk))) found (h.durable tt)) in
        let begins : Begins (surface (disk_file new.disk)) (beginning_of (read_area s)) =
        subst (λ f. Begins (surface f) (beginning_of (read_area s))) (sym disarms.file) (subst (Begins (surface (disk_file core.disk))) here (h.begun tt)) in
        record {
          core_of = record {
            setup_is = disarms.setup ∙ h.setup;
            knows = subst (λ f. Alike f (facts_of (read_log s ++ q ∷ []))) (sym (disarms.facts ∙ facts_are))
                (still_alike s order.alike setup order.takes (order.follows q found_memory [] is_done));
            memory = disarms.memory ∙ h.memory ∙ ap rebuilt facts_are ∙ finds_same s order.alike setup order.takes;
            disk = holds_kept (plain_shard s (Some q) found_memory) new.disk disarms.plan refl kept begins;
          };
          runs = disarms.stopped ∙ h.running;
          sure = refl;
          gate = disarms.gate ∙ (h.gate (disk_log s) tt records).0 ∙ ap (λ n. next_gate n q) ends ∙ end_with (read_area s) (Some q);
          slot = disarms.slot ∙ h.slot tt ∙ ap (λ (b : Beginning). b.slots) here;
          begins = begins;
        }

    past : (c : Option ℕ) → disk_plan armed_disk ≡ armed c → IsPast c (Some q)
    past None is = tt
    past (Some c) is = h.armed c tt tt is

    pub opened : Comes call Doing.Open (opens_as s) (Ok []) (IsCoreIn setup (opened_by s call) new (opened_by s call).state)
    opened =
        let is_past = past call plan in
        subst (λ x. Comes call Doing.Open x (Ok []) (IsCoreIn setup (comes_to s down_now call Doing.Open x) new (comes_to s down_now call Doing.Open x).state))
        (sym is_done)
        (inr (
          sym (past_answer s down_now found_memory [] Doing.Open refl call (Some q) is_past),
          subst (λ t. IsCoreIn setup t new t.state)
              (sym (past_left s down_now found_memory [] Doing.Open refl call (Some q) is_past)) running,
        ))

  -- ---- it was not

  module _ (fault : Fault) (back new : SimDisk) (never : disk_plan new ≡ FailurePlan.Never) (same : disk_file new ≡ disk_file back)
      (h : HasNotOpened (Unit {0}) (Unit {0}) disk_file disk_clock LeftSince disk_failures disk_plan armed_disk setup fault back) where
    abbrev Left : Stepped → Type 0
    Left x = Comes call Doing.Open x (Err fault) (IsDiskIn (comes_to s down_now call Doing.Open x) new (comes_to s down_now call Doing.Open x).state)

    -- a call fails in it
    failed : (c : Option ℕ) → c ≡ call → disk_plan armed_disk ≡ armed c → fault ≡ Device → Left (opens_as s)
    unfolding failed_in
    failed None e is device = ⊎_elim (λ memory. absurd (wants memory)) (λ told. absurd (no_reason told.0)) (h.planned tt is)
      where
        wants : fault ≡ WantsMemory → ⊥
        wants m = cc

        no_reason : IsTrue (is_reason fault) → ⊥
        no_reason t = false≢true (ap is_reason (sym device) ∙ t)
    failed (Some c) e is device =
        let told = h.armed c (disk_log s) tt tt is records in
        let f = told.0 device in
        let whole = does s order.alike (told.1 device).0 (subst (λ n. HasPlace n (Some q)) ends f.1) in
        let begins : Begins (surface (disk_file new)) (beginning_of (read_area s)) =
        subst (λ x. Begins (surface x) (beginning_of (read_area s))) (sym same) (subst (Begins (surface (disk_file back))) here (told.1 device).1) in
        let disk_holds : HoldsLog (failed_in s c q) new = holds_failed s c q new never f.0
        (subst (AreArmed c (Ok (disk_log s)) q) (sym same) f.2) begins in
        let left : comes_to s down_now call Doing.Open (Does (Some q) found_memory []) ≡ failed_in s c q =
        ap (λ k. comes_to s down_now k Doing.Open (Does (Some q) found_memory [])) (sym e)
        ∙ ap (λ b. cond b (failed_in s c q) (stepped_shard s Doing.Open (Some q) found_memory)) f.0 in
        let answer : answer_of call Doing.Open (Does (Some q) found_memory []) ≡ Err Device =
        ap (λ k. answer_of k Doing.Open (Does (Some q) found_memory [])) (sym e) ∙ ap (λ b. cond b (Err Device) (Ok [])) f.0 in
        subst Left (sym whole) (inr (
          ap (λ x. Err x) device ∙ sym answer,
          subst (λ t. IsDiskIn t new t.state) (sym left) (subst (IsDiskIn (failed_in s c q) new) (sym (not_up s.state down)) disk_holds),
        ))

    -- the opening has no room
    spent : fault ≡ TimeSpent → (2 ^ 62 ≤ epoch_of (disk_log s) + 1) ⊎ IsFull (gate_of (read_area s)) q → Left (opens_as s)
    spent is why = subst Left (sym (refuses s order.alike why)) (inr (ap (λ x. Err x) is, synced h.synced))
      where
        synced : (fault ≡ WantsMemory) ⊎ ((fault ≡ Device) ⊎ (Unit {0} → surface (disk_file back) ≡ after_sync (surface (disk_file armed_disk))))
            → HoldsLog down_now new
        synced (inl memory) = absurd (cc)
        synced (inr (inl device)) = absurd (cc)
        synced (inr (inr clean)) =
            let surface_is : surface (disk_file new) ≡ after_sync (surface (disk_file armed_disk)) = ap surface same ∙ clean tt in
            let kept : KeepsRecords (surface (disk_file new)) (Ok (disk_log s)) =
            subst (λ f. KeepsRecords f (Ok (disk_log s))) (sym surface_is) (λ image may. ap records_in (may.unchanged refl) ∙ records) in
            let begins : Begins (surface (disk_file new)) (beginning_of (read_area s)) =
            subst (λ f. Begins f (beginning_of (read_area s))) (sym surface_is) (λ image may. ap begins_in (may.unchanged refl) ∙ here) in
            holds_kept down_now new never refl kept begins

    reason : IsReason setup (surface (disk_file armed_disk)) fault → Left (opens_as s)
    reason (inl found) = absurd (no_fault setup (scanned_log (surface (disk_file armed_disk)).seen) (disk_log s) fault records order.takes found)
    reason (inr (is, (others, no_room))) =
        let same_log : others ≡ disk_log s = ok_same others (disk_log s) (records_in (surface (disk_file armed_disk)).seen) no_room.read records in
        spent is (subst (λ n. (2 ^ 62 ≤ epoch_of (disk_log s) + 1) ⊎ IsFull n q) ends
        (subst (λ l. (2 ^ 62 ≤ epoch_of l + 1) ⊎ IsFull (end_in (surface (disk_file armed_disk)).seen l) (next_opening l)) same_log no_room.spent))

    pub not_opened : Left (opens_as s)
    not_opened =
        ⊎_elim (λ memory. inl (ap (λ x. Err x) memory)) (λ rest. ⊎_elim (λ device. failed call refl plan device.0) (λ told. reason (told.1 tt)) rest) h.cause

-- with what is known besides
pub with_more : {A B : Type 0} (call : Option ℕ) (doing : Doing) (st : Stepped) (r : Result (List Envelope) Fault) → B → Comes call doing st r A
    → Comes call doing st r (A × B)
with_more call doing st r more (inl memory) = inl memory
with_more call doing st r more (inr (answer, left)) = inr (answer, (left, more))
