-- The next opening behind what a log leaves.
use Rattle.std.proofs.Common.{◌≡◌, ◌∙◌, ℕ, ◌+◌, ◌<◌, true, IsFalse, IsTrue, List, [], ◌∷◌, Option, Some, Ok, Err, ⊎_elim, inl, inr, refl, sym, ap, subst, arith}
use Rattle.std.proofs.Math.Logic.{∥∥₁_elim, ∥∥₁_map}
use Rattle.shard.proofs.Plans.{by_id-prop}
use Rattle.std.proofs.lemmas.Bool.Decides.{nat_tests}
use Rattle.record.specs.Facts.{Facts, facts_of, learn}
use Rattle.record.specs.Installs.{installs_of}
use Rattle.record.specs.declared.record.Record.{Record}
use Rattle.facts.specs.Rules.{follows_facts}
use Rattle.protocol.specs.Plan as protocol
use Rattle.protocol.specs.Rows.{Memory, Row, rebuilt}
use Rattle.protocol.specs.Plan.{carried, ended_by, after_change}
use Rattle.protocol.specs.Step.{Does, facts_after}
use Rattle.protocol.specs.Sound.{FreshIsSound, IsSound, OpeningKeepsSound}
use Rattle.protocol.proofs.RowChanges.{by_id-claims}
use Rattle.memory.specs.Carry.{IsFit, MayFollow, MayInstall}
use Rattle.memory.specs.Kept.{Kept}
use Rattle.memory.specs.Plans.{plan_of}
use Rattle.memory.specs.declared.plan.Step.{Step}
use Rattle.protocol.specs.Showable.{IsShowable, rises_by_key}
use Rattle.ledger.specs.Keeps.{IsLasting}
use Rattle.shard.specs.Due.{IsDue}
use Rattle.units.specs.declared.setup.Setup.{Setup}
use Rattle.disk.specs.File.{File, surface}
use Rattle.disk.specs.Image.{MayLeave}
use Rattle.units.specs.declared.fault.Fault.{Fault}
use Rattle.units.specs.declared.fault.Fault.TheVariants.{TimeSpent}
use Rattle.disk.specs.declared.plan.FailurePlan.{FailurePlan}
use Rattle.message.specs.declared.message.Envelope.{Envelope}
use Rattle.shard.specs.Logs.{KeepsRecords, and_logged, facts_logged, records_in}
use Rattle.gatelog.specs.Frames.{IsFull}
use Rattle.shard.specs.On.{CoreView, HasStepped, HasWritten, IsCause}
use Rattle.shard.specs.Opened.{HasAppended, HasLawfulEpoch, HasNotAppended}
use Rattle.shard.proofs.Appends.{no-time}
use Rattle.shard.proofs.Showable.{opening-showable}

-- one opening is learnt as an opening finds it
pub first-learnt : facts_logged (and_logged (Ok []) (Some (Record.Opened 1))) ≡ Some (facts_of (Record.Opened 1 ∷ []))
unfolding facts_of installs_of learn
first-learnt = λ i. Some (facts_of (Record.Opened 1 ∷ []))

-- what it tells may be renewed
pub first-lasting : IsLasting (facts_of (Record.Opened 1 ∷ []))
unfolding facts_of installs_of rises_by_key
first-lasting = record {
  regular = record { order = tt; placed = tt; rising = refl; covered = tt; under = omega arith; kept = tt };
  entries = refl;
}

-- the shard is sound as it starts
pub first-sound : (told setup : Setup) (facts : Facts) (memory : Memory) → FreshIsSound → setup ≡ told → facts ≡ facts_of (Record.Opened 1 ∷ [])
    → memory ≡ record { last = 0; rows = []; ended = [] } → IsSound setup.shard facts memory
first-sound told setup facts memory law is_setup is_facts is_memory =
    subst (λ (f : Facts). IsSound setup.shard f memory) (sym is_facts)
    (subst (IsSound setup.shard (facts_of (Record.Opened 1 ∷ []))) (sym is_memory) (law setup.shard))

-- the opening that comes next
abbrev pub next : Facts → Record
next f = Record.Opened (f.epoch + 1)

pub follows_next : (shard : ℕ) (f : Facts) → follows_facts shard f (next f) ≡ true
unfolding follows_facts
follows_next shard f = grind (arith, nat_tests)

-- its plan leaves what the log with it leaves
pub opened_memory : (k : Kept) (p : protocol.Plan) (last : ℕ) (logged : Option Record) → k.memory ≡ rebuilt k.facts → last ≡ k.memory.last
    → p ≡ record { wounded = []; change = protocol.Keeps; logged = logged; last = last; outbox = [] } →
    carried p k.memory ≡ rebuilt (learn k.facts (next k.facts))
unfolding carried after_change ended_by rebuilt learn
opened_memory k p last logged again same plan =
    ap (λ q. carried q k.memory) plan
    ∙ ap (λ n. record { last = n; rows = k.memory.rows; ended = k.memory.ended }) same
    ∙ ap (λ m. record { last = m.last; rows = m.rows; ended = m.ended }) again

-- and may be logged and carried out
pub opening_due : OpeningKeepsSound → (k : Kept) (p : Step) (last : ℕ) → k.memory ≡ rebuilt k.facts → ∥ IsSound k.setup.shard k.facts k.memory ∥₁ →
    IsShowable k.facts k.memory → last ≡ k.memory.last → IsFit k p
    → plan_of k.memory.rows p ≡ record { wounded = []; change = protocol.Keeps; logged = Some (next k.facts); last = last; outbox = [] } → IsDue k p
opening_due law k p last again sound showable same fit plan = record {
  order = ∥∥₁_elim sound (by_id-prop (λ (r : Row). r.txn) k.memory.rows) (λ s. by_id-claims k.memory.rows s.table.order);
  fit = fit;
  follows = subst (MayFollow k.setup.shard k.facts) (sym logged) (follows_next k.setup.shard k.facts);
  installs = subst (MayInstall k.facts) (sym logged) tt;
  sound = ∥∥₁_map sound (λ s.
      subst (λ o. IsSound k.setup.shard (facts_after k.facts o) (carried (plan_of k.memory.rows p) k.memory)) (sym logged)
      (subst (IsSound k.setup.shard (learn k.facts (next k.facts))) (sym (opened_memory k (plan_of k.memory.rows p) last (Some (next k.facts)) again same plan))
      (law k.setup.shard k.facts k.memory s)));
  showable =
      subst (λ o. IsShowable (facts_after k.facts o) (carried (plan_of k.memory.rows p) k.memory)) (sym logged)
      (subst (IsShowable (learn k.facts (next k.facts))) (sym (opened_memory k (plan_of k.memory.rows p) last (Some (next k.facts)) again same plan))
      (opening-showable k.facts (k.facts.epoch + 1) (subst (IsShowable k.facts) again showable)));
}
  where
    logged : p.logged ≡ Some (next k.facts)
    logged = ap (λ (q : protocol.Plan). q.logged) plan

-- the record that was written is the opening, which is appended then
pub appended_by : {D : Type 0} (keeps obeys : Type 0) (file : D → File) (clock : D → ℕ) (since : D → ℕ → List ℕ → Type 0) (failures : D → ℕ)
    (plan : D → FailurePlan) (old new : CoreView D) (item : Record) (logged : Option Record) (out : List Envelope) → logged ≡ Some item
    → IsFalse old.stopped → IsFalse new.stopped → HasLawfulEpoch item
    → HasWritten keeps obeys file clock since failures plan old new logged (Ok out)
    → HasAppended keeps obeys file clock since failures plan old.disk old.gate item new
appended_by keeps obeys file clock since failures plan old new item logged out is ran runs lawful written =
    let it = subst (λ l. HasWritten keeps obeys file clock since failures plan old new l (Ok out)) is written in
    record {
      running = runs;
      any_moment = it.any_moment ran;
      begins = it.begins ran;
      durable = it.durable;
      read = it.read;
      gate = (it.gate.0, it.place);
      epoch = lawful;
      failures_stay = it.failures_stay;
      planned = λ obey never. (it.planned obey never).0;
      armed = λ call obey keep armed. (it.armed call ran obey keep armed).0;
    }

-- it is not, where the step is refused
pub not_appended_by : {D : Type 0} (keeps obeys : Type 0) (file : D → File) (clock : D → ℕ) (since : D → ℕ → List ℕ → Type 0) (failures : D → ℕ)
    (plan : D → FailurePlan) (old new : CoreView D) (item : Record) (logged : Option Record) (memory : Memory) (out : List Envelope) (full : Type 0)
    (fault : Fault) (back : D) → back ≡ new.disk → logged ≡ Some item → IsFalse old.stopped → HasLawfulEpoch item → (IsFull old.gate item → full)
    → HasStepped keeps obeys file clock since failures plan old new (Does logged memory out) (Err fault)
    → HasNotAppended keeps obeys file clock since failures plan old.disk old.gate item full fault back
not_appended_by keeps obeys file clock since failures plan old new item logged memory out full fault back same is ran lawful fills stepped =
    let it = subst (λ l. HasStepped keeps obeys file clock since failures plan old new (Does l memory out) (Err fault)) is stepped in
    let why = subst (λ b. IsCause b (Does (Some item) memory out) fault (IsFull old.gate item) ((failures old.disk < failures new.disk)
    × IsTrue new.stopped)) ran it.cause in
    subst (HasNotAppended keeps obeys file clock since failures plan old.disk old.gate item full fault) (sym same) (record {
      cause = ⊎_elim (λ wants. inl wants)
          (λ else. ⊎_elim (λ spent. inr (inr (spent.0, fills spent.1))) (λ device. inr (inl (device.0, device.1.0))) else) why;
      any_moment = it.written.any_moment ran;
      begins = it.written.begins ran;
      unchanged = ⊎_elim (λ device. inl device) (λ kept. inr kept.2) it.written.kept.2;
      tried = it.written.tried;
      epoch = λ device. lawful;
      planned = λ obey never. (it.written.planned obey never).1;
      armed = λ call obey keep armed. (it.written.armed call ran obey keep armed).1;
    })

-- a log for whose opening no epoch is left is given back as it was
pub not_appended_at_once : {D : Type 0} (keeps obeys : Type 0) (file : D → File) (clock : D → ℕ) (since : D → ℕ → List ℕ → Type 0) (failures : D → ℕ)
    (plan : D → FailurePlan) → ((d : D) (image : List ℕ) → since d (clock d) image → MayLeave (surface (file d)) image)
    → (disk back : D) (gate : ℕ) (item : Record) (full : Type 0) (fault : Fault) → back ≡ disk → fault ≡ TimeSpent → full
    → (keeps → KeepsRecords (surface (file disk)) (records_in (surface (file disk)).seen))
    → HasNotAppended keeps obeys file clock since failures plan disk gate item full fault back
not_appended_at_once keeps obeys file clock since failures plan only_now disk back gate item full fault same spent late stands =
    subst (HasNotAppended keeps obeys file clock since failures plan disk gate item full fault) (sym same) (record {
      cause = inr (inr (spent, late));
      any_moment = λ keep. record {
        later = omega arith;
        each = λ image left. inl (stands keep image (only_now disk image left));
        before = λ moment image le left. inl left;
      };
      begins = λ keep. record {
        later = omega arith;
        each = λ image left. inl (only_now disk image left);
        before = λ moment image le left. inl left;
      };
      unchanged = inr refl;
      tried = inr ((λ device. cc), no-time file clock since only_now disk);
      epoch = λ device. absurd (cc);
      planned = λ obey never device. cc;
      armed = λ call obey keep is device. absurd (cc);
    })
