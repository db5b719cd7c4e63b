-- What an opening leaves, from what was read, the verdict on it, and what adding the opening's record did.
use Rattle.std.proofs.Common.{◌≡◌, ◌∙◌, ◌⊎◌, inl, inr, ⊎_elim, ℕ, ◌+◌, ◌^◌, ◌<◌, ◌≤◌, true, IsTrue, List, [], ◌∷◌, ◌++◌, Option, Some, None}
use Rattle.std.proofs.Common.{Result, Ok, Err, ◌||◌, refl, sym, ap, subst, arith}
use Rattle.std.specs.Prelude.{IfOk, slice_get}
use Rattle.std.proofs.lemmas.Bool.{false≢true}
use Rattle.units.specs.Lists.{follow, when}
use Rattle.units.specs.declared.fault.Fault.{Fault}
use Rattle.units.specs.declared.fault.Fault.TheVariants.{Memory as WantsMemory, Device, TimeSpent, NotALog, Damaged}
use Rattle.units.specs.declared.setup.Setup.{Setup}
use Rattle.disk.specs.declared.plan.FailurePlan.{FailurePlan}
use Rattle.disk.specs.File.{File, surface}
use Rattle.disk.specs.Image.{MayLeave, after_sync}
use Rattle.disk.specs.Moments.{LeavesOnly}
use Rattle.disk.proofs.Crashes.{seen_may}
use Rattle.disk.proofs.Runs.{and_then, weaker}
use Rattle.record.specs.Accepted.{Taken, Accepted, DamagedAt, StrangerAt, followed, taken}
use Rattle.record.specs.FactLaws.{AcceptedFollows, LearnAgrees, LearntAgrees, learnt}
use Rattle.record.specs.Facts.{Facts, facts_of, learn, no_facts}
use Rattle.record.specs.Installs.{installs_of}
use Rattle.record.specs.Records.{epoch_of}
use Rattle.record.specs.declared.record.Record.{Record}
use Rattle.facts.specs.Rules.{follows_facts}
use Rattle.facts.specs.Stages as stages
use Rattle.facts.specs.declared.stage.Stage.{Stage}
use Rattle.facts.proofs.Known.{follows_as_known}
use Rattle.frames.specs.Calls.{waits}
use Rattle.gatelog.specs.Crash.{Begins}
use Rattle.gatelog.specs.Frames.{IsFull, next_gate}
use Rattle.gatelog.specs.Log.{log, is_no_log}
use Rattle.frames.specs.Placed.{Placed}
use Rattle.gatelog.specs.Slots.{begins_in}
use Rattle.protocol.specs.Rows.{rebuilt}
use Rattle.recovery.specs.Recovered.{fault_in, items}
use Rattle.shard.specs.Armed.{FailsIn, HasPlace}
use Rattle.shard.specs.Logs.{records_in, and_logged, facts_logged, items_of, KeepsRecords, HoldsOldOrWith, BeginsAsBefore}
use Rattle.shard.specs.On.{CoreView}
use Rattle.shard.specs.Opened.{HasAppended, HasNotAppended, HasNotOpened, HasOpened, HasLawfulEpoch, HasRoom, IsSpent, IsTaken, IsToldReason, is_reason}
use Rattle.shard.specs.Opened.{LeavesOpening, end_in}
use Rattle.shard.specs.Opened.{fault_of, next_opening, opening_of}
use Rattle.shard.proofs.Agrees.{fold_is}
use Rattle.shard.proofs.Openings.{follows_next}

-- ---- the facts of what was read

no_facts_is : no_facts ≡ facts_of []
unfolding facts_of installs_of
no_facts_is = refl

epoch_is : (rs : List Record) → (facts_of rs).epoch ≡ epoch_of rs
unfolding facts_of
epoch_is rs = refl

pub facts_are : LearntAgrees → AcceptedFollows → (setup : Setup) (rs : List Record) (facts : Facts) → taken setup rs ≡ Accepted →
    facts ≡ facts_of rs → facts_logged (Ok rs) ≡ Some facts
facts_are learns follows setup rs facts accepted known =
    ap Some (fold_is no_facts rs ∙ ap (λ f. learnt f rs) no_facts_is ∙ learns setup.shard rs (follows setup rs accepted) ∙ sym known)

-- an opening may come next by the rules of what steps log
opening_next : (shard : ℕ) (stage : Stage) (f : Facts) (r : Record) → follows_facts shard f r ≡ true → stages.follows_next shard stage f r ≡ true
unfolding stages.follows_next
opening_next shard stage f r h = ap (λ b. b || stages.follows_head shard stage f r) h

-- and with the opening
pub facts_then : LearnAgrees → AcceptedFollows → (setup : Setup) (rs : List Record) (facts : Facts) → taken setup rs ≡ Accepted → facts ≡ facts_of rs
    → learn facts (Record.Opened (facts.epoch + 1)) ≡ facts_of (rs ++ next_opening rs ∷ [])
facts_then learns follows setup rs facts accepted known =
    ap (λ f. learn f (Record.Opened (f.epoch + 1))) known
    ∙ ap (λ n. learn (facts_of rs) (Record.Opened (n + 1))) (epoch_is rs)
    ∙ sym (learns setup.shard rs (next_opening rs) more)
  where
    more : followed setup.shard (rs ++ next_opening rs ∷ []) ≡ true
    more =
        follows_as_known setup.shard rs (next_opening rs) (follows setup rs accepted)
        ∙ opening_next setup.shard (stages.stage_of rs) (facts_of rs) (next_opening rs)
        (ap (λ n. follows_facts setup.shard (facts_of rs) (Record.Opened (n + 1))) (sym (epoch_is rs)) ∙ follows_next setup.shard (facts_of rs))

pub epoch_of_facts : (rs : List Record) (facts : Facts) → facts ≡ facts_of rs → Record.Opened (facts.epoch + 1) ≡ next_opening rs
epoch_of_facts rs facts known = ap (λ f. Record.Opened (f.epoch + 1)) known ∙ ap (λ n. Record.Opened (n + 1)) (epoch_is rs)

-- where there was none before, it is the first
pub first_is : (rs : List Record) → rs ≡ [] → Record.Opened 1 ≡ next_opening rs
first_is rs none = ap (λ n. Record.Opened (n + 1)) (ap (λ (f : Facts). f.epoch) no_facts_is ∙ epoch_is []) ∙ sym (ap next_opening none)

pub first_records : (rs : List Record) → rs ≡ [] → Record.Opened 1 ∷ [] ≡ rs ++ next_opening rs ∷ []
first_records rs none = ap (λ r. r ∷ []) (first_is rs none) ∙ ap (λ qs. qs ++ next_opening rs ∷ []) (sym none)

pub first_memory : (f : Facts) → f ≡ facts_of (Record.Opened 1 ∷ []) → record { last = 0; rows = []; ended = [] } ≡ rebuilt f
unfolding facts_of rebuilt
first_memory f same = sym (ap rebuilt same)

-- the opening has no room
pub room_spent : (rs : List Record) (f : Facts) (gate : ℕ) → f ≡ facts_of rs → (2 ^ 62 ≤ f.epoch + 1) ⊎ IsFull gate (Record.Opened (f.epoch + 1))
    → (2 ^ 62 ≤ epoch_of rs + 1) ⊎ IsFull gate (next_opening rs)
room_spent rs f gate known =
    ⊎_elim (λ spent. inl (subst (λ n. 2 ^ 62 ≤ n + 1) (ap (λ g. g.epoch) known ∙ epoch_is rs) spent))
    (λ full. inr (subst (IsFull gate) (epoch_of_facts rs f known) full))

-- a file without a log is a reason
no_log_is_reason : (fault : Fault) → IsTrue (is_no_log fault) → IsTrue (is_reason fault)
no_log_is_reason NotALog told = refl
no_log_is_reason (Damaged offset) told = refl
no_log_is_reason fault told = absurd (false≢true told)

-- and so is a verdict that is no yes
pub verdict_is_reason : (verdict : Taken) (entries : List Placed) (fault : Fault) → fault_in verdict entries ≡ Some fault → IsTrue (is_reason fault)
verdict_is_reason Accepted entries fault told = absurd (cc)
verdict_is_reason (DamagedAt place) entries fault told = damaged (slice_get entries place) told
  where
    damaged : (found : Option Placed) → follow found (λ e. Some (Damaged e.offset)) ≡ Some fault → IsTrue (is_reason fault)
    damaged None none = absurd (cc)
    damaged (Some e) is = ap (λ (o : Option Fault). when is_reason o) (sym is)
verdict_is_reason (StrangerAt place) entries fault told = ap (λ (o : Option Fault). when is_reason o) (sym told)

-- what holds of a value in four ways
pub from_four : {T E : Type 0} (r : Result T E) (A B C G Z : T → Type 0) → ((x : T) → A x → B x → C x → G x → Z x) → IfOk r A → IfOk r B → IfOk r C →
    IfOk r G → IfOk r Z
from_four (Ok x) A B C G Z h a b c g = h x a b c g
from_four (Err e) A B C G Z h a b c g = tt

-- and in five
pub from_five : {T E : Type 0} (r : Result T E) (A B C F G Z : T → Type 0) → ((x : T) → A x → B x → C x → F x → G x → Z x) → IfOk r A → IfOk r B
    → IfOk r C → IfOk r F → IfOk r G → IfOk r Z
from_five (Ok x) A B C F G Z h a b c f g = h x a b c f g
from_five (Err e) A B C F G Z h a b c f g = tt

module _ {D : Type 0} (keeps obeys : Type 0) (file : D → File) (clock : D → ℕ) (since : D → ℕ → List ℕ → Type 0) (failures : D → ℕ)
    (plan : D → FailurePlan) where
  -- this moment is one of those since an earlier one
  abbrev pub IsSince : Type 0
  IsSince = (d : D) (moment : ℕ) (image : List ℕ) → moment ≤ clock d → MayLeave (surface (file d)) image → since d moment image

  -- what was read, and what reading it did to the disk
  pub record Found (disk mid : D) (gate slot : ℕ) (entries : List Placed) : Type 0 where
    pub entries_are : keeps → log (surface (file disk)).seen ≡ Ok entries
    pub ends : keeps → gate ≡ end_in (surface (file disk)).seen (items entries)
    pub slots : keeps → slot ≡ (begins_in (surface (file disk)).seen).slots
    pub clean : keeps → surface (file mid) ≡ after_sync (surface (file disk))
    pub moment : keeps → LeavesOnly clock since disk mid (MayLeave (surface (file disk)))
    pub failures_stay : failures disk ≤ failures mid
    pub planned : obeys → waits (plan disk) ≡ true → plan mid ≡ plan disk

  pub found_by : (disk mid : D) (gate slot : ℕ) (entries : List Placed) → (keeps → log (surface (file disk)).seen ≡ Ok entries)
      → (keeps → gate ≡ end_in (surface (file disk)).seen (items entries)) → (keeps → slot ≡ (begins_in (surface (file disk)).seen).slots)
      → (keeps → surface (file mid) ≡ after_sync (surface (file disk))) → (keeps → LeavesOnly clock since disk mid (MayLeave (surface (file disk))))
      → failures disk ≤ failures mid → (obeys → waits (plan disk) ≡ true → plan mid ≡ plan disk) → Found disk mid gate slot entries
  found_by disk mid gate slot entries are ends slots clean moment failures_stay planned = record {
    entries_are = are;
    ends = ends;
    slots = slots;
    clean = clean;
    moment = moment;
    failures_stay = failures_stay;
    planned = planned;
  }

  -- a file that holds no log is not taken up
  pub no_log : (told : Setup) (disk back : D) (fault : Fault)
      → (fault ≡ WantsMemory) ⊎ (((fault ≡ Device) × (failures disk < failures back)) ⊎ (IsTrue (is_no_log fault)
      × (keeps → log (surface (file disk)).seen ≡ Err fault)))
      → (keeps → LeavesOnly clock since disk back (MayLeave (surface (file disk))))
      → (fault ≡ Device) ⊎ (keeps → (surface (file back)).seen ≡ (surface (file disk)).seen)
      → (fault ≡ WantsMemory) ⊎ ((fault ≡ Device) ⊎ (keeps → surface (file back) ≡ after_sync (surface (file disk))))
      → (obeys → waits (plan disk) ≡ true → (fault ≡ WantsMemory) ⊎ (IsTrue (is_no_log fault) × (keeps → log (surface (file disk)).seen ≡ Err fault)))
      → HasNotOpened keeps obeys file clock since failures plan disk told fault back
  no_log told disk back fault cause moment unchanged synced planned = record {
    cause = ⊎_elim (λ memory. inl memory) (⊎_elim (λ device. inr (inl device)) (λ none. inr (inr (reason none)))) cause;
    any_moment = λ keep. weaker clock since disk back (MayLeave (surface (file disk))) (LeavesOpening (surface (file disk))) (moment keep)
        (λ image left. inl left);
    begins = λ keep. weaker clock since disk back (MayLeave (surface (file disk))) (BeginsAsBefore (surface (file disk))) (moment keep)
        (λ image left. inl left);
    unchanged = unchanged;
    tried = inr moment;
    synced = synced;
    armed = λ call records obey keep is read. (
      λ device. absurd (no_device records keep read device (planned obey (ap waits is))),
      λ device. absurd (no_device records keep read device (planned obey (ap waits is))),
    );
    planned = λ obey never. ⊎_elim (λ memory. inl memory) (λ none. inr (reason none)) (planned obey (ap waits never));
  }
    where
      reason : IsTrue (is_no_log fault) × (keeps → log (surface (file disk)).seen ≡ Err fault) → IsToldReason keeps told (surface (file disk)) fault
      reason none = (no_log_is_reason fault none.0, λ keep. inl (ap (fault_of told) (none.1 keep)))

      no_device : (records : List Record) → keeps → records_in (surface (file disk)).seen ≡ Ok records → fault ≡ Device
          → (fault ≡ WantsMemory) ⊎ (IsTrue (is_no_log fault) × (keeps → log (surface (file disk)).seen ≡ Err fault))
          → ⊥
      no_device records keep read device (inl memory) = cc
      no_device records keep read device (inr none) = let two : Err fault ≡ Ok records = sym (ap items_of (none.1 keep)) ∙ read in cc

module _ {D keeps obeys : Type 0} {file : D → File} {clock : D → ℕ} {since : D → ℕ → List ℕ → Type 0} {failures : D → ℕ} {plan : D → FailurePlan}
    {disk mid : D} {gate slot : ℕ} {entries : List Placed} (found : Found keeps obeys file clock since failures plan disk mid gate slot entries) where
  -- it reads as before
  pub same_records : keeps → records_in (surface (file mid)).seen ≡ records_in (surface (file disk)).seen
  same_records keep = ap (λ s. records_in s.seen) (found.clean keep)

  pub records_are : keeps → records_in (surface (file disk)).seen ≡ Ok (items entries)
  records_are keep = ap items_of (found.entries_are keep)

  opening_is : keeps → opening_of (records_in (surface (file disk)).seen) ≡ Some (next_opening (items entries))
  opening_is keep = ap opening_of (records_are keep)

  -- with the opening
  with_opening : keeps → and_logged (records_in (surface (file mid)).seen) (Some (next_opening (items entries)))
      ≡ and_logged (records_in (surface (file disk)).seen) (opening_of (records_in (surface (file disk)).seen))
  with_opening keep =
      ap (λ rs. and_logged rs (Some (next_opening (items entries)))) (same_records keep)
      ∙ ap (and_logged (records_in (surface (file disk)).seen)) (sym (opening_is keep))

  -- what a crash leaves of it
  leaves : keeps → (end : D) → LeavesOnly clock since mid end (HoldsOldOrWith (records_in (surface (file mid)).seen) (Some (next_opening (items entries))))
      → LeavesOnly clock since disk end (LeavesOpening (surface (file disk)))
  leaves keep end second =
      and_then clock since disk mid end (MayLeave (surface (file disk))) (HoldsOldOrWith (records_in (surface (file mid)).seen)
      (Some (next_opening (items entries))))
      (LeavesOpening (surface (file disk))) (found.moment keep) second (λ image left. inl left)
      (λ image held. inr (⊎_elim (λ old. inl (old ∙ same_records keep)) (λ new. inr (new ∙ with_opening keep)) held))

  as_synced : keeps → (image : List ℕ) → MayLeave (surface (file mid)) image → image ≡ (surface (file disk)).seen
  as_synced keep image left =
      let may : MayLeave (after_sync (surface (file disk))) image = subst (λ s. MayLeave s image) (found.clean keep) left in
      may.unchanged refl

  -- and it begins there
  begun : keeps → (end : D) → LeavesOnly clock since mid end (BeginsAsBefore (surface (file mid)))
      → LeavesOnly clock since disk end (BeginsAsBefore (surface (file disk)))
  begun keep end second =
      and_then clock since disk mid end (MayLeave (surface (file disk))) (BeginsAsBefore (surface (file mid)))
      (BeginsAsBefore (surface (file disk))) (found.moment keep) second (λ image left. inl left)
      (λ image begins. ⊎_elim
      (λ left. inr (ap begins_in (as_synced keep image left)))
      (λ same. inr (same ∙ ap (λ s. begins_in s.seen) (found.clean keep))) begins)

  -- from then on it begins where the one that was read does
  starts : IsSince keeps obeys file clock since failures plan → keeps → (end : D) → LeavesOnly clock since mid end (BeginsAsBefore (surface (file mid)))
      → Begins (surface (file end)) (begins_in (surface (file disk)).seen)
  starts counts_now keep end second image may =
      ⊎_elim (λ left. ap begins_in (as_synced keep image left)) (λ same. same ∙ ap (λ s. begins_in s.seen) (found.clean keep))
      (second.each image (counts_now end (clock mid) image second.later may))

  pub opened : IsSince keeps obeys file clock since failures plan → (told : Setup) (item : Record) (core : CoreView D) → item ≡ next_opening (items entries) →
      HasAppended keeps obeys file clock since failures plan mid gate item core
      → core.slot ≡ slot → core.setup ≡ told → core.memory ≡ rebuilt core.facts → taken told (items entries) ≡ Accepted →
      core.facts ≡ facts_of (items entries ++ next_opening (items entries) ∷ [])
      → HasOpened keeps obeys file clock since failures plan disk told core
  opened counts_now told item core same appended slots setup memory accepted facts =
      let it = subst (λ r. HasAppended keeps obeys file clock since failures plan mid gate r core) same appended in
      record {
        setup = setup;
        running = it.running;
        taken = λ keep. subst (λ rs. IsTaken told rs core.facts) (sym (records_are keep)) (accepted, facts);
        memory = memory;
        any_moment = λ keep. leaves keep core.disk (it.any_moment keep);
        begins = λ keep. begun keep core.disk (it.begins keep);
        begun = λ keep. starts counts_now keep core.disk (it.begins keep);
        slot = λ keep. slots ∙ found.slots keep;
        durable = λ keep. subst (KeepsRecords (surface (file core.disk))) (with_opening keep) (it.durable keep);
        read = λ keep. it.read keep ∙ with_opening keep;
        gate = λ records keep read.
            let all : Ok (items entries) ≡ Ok records = sym (records_are keep) ∙ read in
            let these : items entries ≡ records = cc in
            subst (λ rs. (core.gate ≡ next_gate (end_in (surface (file disk)).seen rs) (next_opening rs))
            × HasPlace (end_in (surface (file disk)).seen rs) (Some (next_opening rs))) these
            (subst (λ g. (core.gate ≡ next_gate g (next_opening (items entries))) × HasPlace g (Some (next_opening (items entries)))) (found.ends keep)
            it.gate);
        epoch = λ records keep read.
            let all : Ok (items entries) ≡ Ok records = sym (records_are keep) ∙ read in
            let these : items entries ≡ records = cc in
            subst (λ rs. epoch_of rs + 1 < 2 ^ 62) these it.epoch;
        failures_stay = omega (arith, found.failures_stay, it.failures_stay);
        planned = λ obey never. it.planned obey (found.planned obey (ap waits never) ∙ never);
        armed = λ call obey keep is. it.armed call obey keep (found.planned obey (ap waits is) ∙ is);
      }

  pub not_opened : IsSince keeps obeys file clock since failures plan → (told : Setup) (item : Record) (full : Type 0) (fault : Fault) (back : D)
      → item ≡ next_opening (items entries) → taken told (items entries) ≡ Accepted
      → (full → (2 ^ 62 ≤ epoch_of (items entries) + 1) ⊎ IsFull gate (next_opening (items entries)))
      → HasNotAppended keeps obeys file clock since failures plan mid gate item full fault back →
      HasNotOpened keeps obeys file clock since failures plan disk told fault back
  not_opened counts_now told item full fault back same accepted spent refused = record {
    cause = ⊎_elim (λ memory. inl memory) (⊎_elim (λ device. inr (inl (device.0, omega (arith, found.failures_stay, device.1))))
        (λ late. inr (inr (reason late)))) refused.cause;
    any_moment = λ keep. leaves keep back (subst (λ r. LeavesOnly clock since mid back (HoldsOldOrWith (records_in (surface (file mid)).seen)
        (Some r))) same (refused.any_moment keep));
    begins = λ keep. begun keep back (refused.begins keep);
    unchanged = ⊎_elim (λ device. inl device) (λ kept. inr (λ keep. ap (λ f. (surface f).seen) kept ∙ ap (λ s. s.seen) (found.clean keep))) refused.unchanged;
    tried = ⊎_elim (λ failed. inl (failed.0, has_room failed.0 failed.1)) (λ it. inr (λ keep. only_before keep it.1)) refused.tried;
    synced = ⊎_elim (λ device. inr (inl device)) (λ kept. inr (inr (λ keep. ap surface kept ∙ found.clean keep))) refused.unchanged;
    armed = λ call records obey keep is read.
        let all : Ok (items entries) ≡ Ok records = sym (records_are keep) ∙ read in
        let these : items entries ≡ records = cc in (
          subst (λ rs. FailsIn call (end_in (surface (file disk)).seen rs) (Ok rs) (Some (next_opening rs)) (file back) fault) these
              (subst (λ g. FailsIn call g (Ok (items entries)) (Some (next_opening (items entries))) (file back) fault) (found.ends keep)
              (subst (λ rs. FailsIn call gate rs (Some (next_opening (items entries))) (file back) fault) (same_records keep ∙ records_are keep)
              (subst (λ r. FailsIn call gate (records_in (surface (file mid)).seen) (Some r) (file back) fault) same
              (refused.armed call obey keep (found.planned obey (ap waits is) ∙ is))))),
          λ device. (
            subst (λ rs. epoch_of rs + 1 < 2 ^ 62) these (subst HasLawfulEpoch same (refused.epoch device)),
            starts counts_now keep back (refused.begins keep),
          ),
        );
    planned = λ obey never.
        ⊎_elim (λ memory. inl memory) (⊎_elim (λ device. absurd (refused.planned obey (found.planned obey (ap waits never) ∙ never) device.0))
        (λ late. inr (reason late))) refused.cause;
  }
    where
      has_room : fault ≡ Device → HasPlace gate (Some item) → keeps → HasRoom told (surface (file disk))
      has_room device place keep = (
        items entries,
        record {
          read = records_are keep;
          taken = accepted;
          epoch = subst HasLawfulEpoch same (refused.epoch device);
          place = subst (λ n. HasPlace n (Some (next_opening (items entries)))) (found.ends keep) (subst (λ r. HasPlace gate (Some r)) same place);
        },
      )

      only_before : keeps → LeavesOnly clock since mid back (MayLeave (surface (file mid))) → LeavesOnly clock since disk back (MayLeave (surface (file disk)))
      only_before keep it =
          and_then clock since disk mid back (MayLeave (surface (file disk))) (MayLeave (surface (file mid))) (MayLeave (surface (file disk)))
          (found.moment keep) it (λ image left. left)
          (λ image left. subst (MayLeave (surface (file disk))) (sym (as_synced keep image left)) (seen_may (file disk)))

      no_room : full → keeps → IsSpent told (surface (file disk)) (items entries)
      no_room late keep = record {
        read = records_are keep;
        taken = accepted;
        spent = subst (λ g. (2 ^ 62 ≤ epoch_of (items entries) + 1) ⊎ IsFull g (next_opening (items entries))) (found.ends keep) (spent late);
      }

      reason : (fault ≡ TimeSpent) × full → IsToldReason keeps told (surface (file disk)) fault
      reason late = (ap is_reason late.0, λ keep. inr (late.0, (items entries, no_room late.1 keep)))

  -- nor is a log that the verdict refuses, or for which memory was wanting
  pub not_rebuilt : (told : Setup) (fault : Fault) (back : D) → back ≡ mid →
      (fault ≡ WantsMemory) ⊎ (fault_in (taken told (items entries)) entries ≡ Some fault) →
      HasNotOpened keeps obeys file clock since failures plan disk told fault back
  not_rebuilt told fault back same why = record {
    cause = ⊎_elim (λ memory. inl memory) (λ is. inr (inr (reason is))) why;
    any_moment = λ keep. subst (λ d. LeavesOnly clock since disk d (LeavesOpening (surface (file disk)))) (sym same)
        (weaker clock since disk mid (MayLeave (surface (file disk))) (LeavesOpening (surface (file disk))) (found.moment keep) (λ image left. inl left));
    begins = λ keep. subst (λ d. LeavesOnly clock since disk d (BeginsAsBefore (surface (file disk)))) (sym same)
        (weaker clock since disk mid (MayLeave (surface (file disk))) (BeginsAsBefore (surface (file disk))) (found.moment keep) (λ image left. inl left));
    unchanged = inr (λ keep. ap (λ d. (surface (file d)).seen) same ∙ ap (λ s. s.seen) (found.clean keep));
    tried = inr (λ keep. subst (λ d. LeavesOnly clock since disk d (MayLeave (surface (file disk)))) (sym same) (found.moment keep));
    synced = inr (inr (λ keep. ap (λ d. surface (file d)) same ∙ found.clean keep));
    armed = λ call records obey keep is read. (λ device. absurd (no_device device why), λ device. absurd (no_device device why));
    planned = λ obey never. ⊎_elim (λ memory. inl memory) (λ is. inr (reason is)) why;
  }
    where
      reason : fault_in (taken told (items entries)) entries ≡ Some fault → IsToldReason keeps told (surface (file disk)) fault
      reason is = (verdict_is_reason (taken told (items entries)) entries fault is, λ keep. inl (ap (fault_of told) (found.entries_are keep) ∙ is))

      no_device : fault ≡ Device → (fault ≡ WantsMemory) ⊎ (fault_in (taken told (items entries)) entries ≡ Some fault) → ⊥
      no_device device (inl memory) = cc
      no_device device (inr is) =
          false≢true (subst (λ f. IsTrue (is_reason f)) device (verdict_is_reason (taken told (items entries)) entries fault is))
