-- A formatted disk that is opened has the first opening as its log.
use Rattle.std.proofs.Common.{◌≡◌, ◌⊎◌, inl, inr, ◌+◌, ◌≤◌, ◌^◌, List, [], ◌∷◌}
use Rattle.std.proofs.Common.{Some, Result, Ok, Err, IfOk, IfErr, refl, ap, ◌∙◌, subst, arith}
use Rattle.units.specs.declared.fault.Fault.{Fault}
use Rattle.units.specs.declared.fault.Fault.TheVariants.{Memory}
use Rattle.disk.specs.File.{surface}
use Rattle.disk.specs.declared.plan.FailurePlan.TheVariants.{Never}
use Rattle.gatelog.specs.Frames.{IsFull, end_from, end_of, next_gate}
use Rattle.gatelog.specs.Gates.{first_gate}
use Rattle.gatelog.specs.Slots.{Beginning, begins_in}
use Rattle.gatelog.specs.Log.{log as scanned_log}
use Rattle.frames.specs.Placed.{Placed}
use Rattle.protocol.specs.Rows.{rebuilt}
use Rattle.record.specs.Accepted.{taken}
use Rattle.record.specs.Facts.{facts_of, learn}
use Rattle.record.specs.Installs.{installs_of}
use Rattle.record.specs.declared.record.Record.{Record}
use Rattle.shard.specs.Logs.{KeepsRecords, and_logged, items_of, learned, records_in}
use Rattle.shard.specs.On.{CoreView}
use Rattle.shard.specs.Opened.{HasNotOpened, HasOpened, IsReason, IsTaken, IsToldReason, end_in, fault_of, next_opening, opening_of}
use Rattle.record.specs.Records.{epoch_of}
use Rattle.simdisk.specs.State.{LeftSince, disk_clock, disk_failures, disk_file, disk_plan}
use Rattle.simdisk.specs.declared.simdisk.SimDisk.{SimDisk}
use Rattle.once.specs.Shards.{HasLog, new_log, only_setup}

-- what holds of what is answered holds in other words
pub ok_map : {A E : Type 0} (P Q : A → Type 0) (r : Result A E) → IfOk r P → ((x : A) → P x → Q x) → IfOk r Q
ok_map P Q (Ok x) h f = f x h
ok_map P Q (Err e) h f = tt

pub err_map : {A E : Type 0} (P Q : E → Type 0) (r : Result A E) → IfErr r P → ((e : E) → P e → Q e) → IfErr r Q
err_map P Q (Ok x) h f = tt
err_map P Q (Err e) h f = f e h

-- read or learnt, its facts are the same
first_facts : facts_of (next_opening [] ∷ []) ≡ learned new_log
unfolding facts_of installs_of learn
first_facts = refl

module _ (disk : SimDisk) (never : disk_plan disk ≡ Never) (empty : records_in (surface (disk_file disk)).seen ≡ Ok [])
    (begins : begins_in (surface (disk_file disk)).seen ≡ record { at = first_gate; slots = 0 }) where
  pub is_opened : (core : CoreView SimDisk)
      → HasOpened (Unit {0}) (Unit {0}) disk_file disk_clock LeftSince disk_failures disk_plan disk only_setup core → HasLog new_log core
  is_opened core h =
      let facts : core.facts ≡ learned new_log = (subst (λ x. IsTaken only_setup x core.facts) empty (h.taken tt)).1 ∙ first_facts in
      let whole : and_logged (records_in (surface (disk_file disk)).seen) (opening_of (records_in (surface (disk_file disk)).seen)) ≡ Ok new_log =
      ap (λ x. and_logged x (opening_of x)) empty in
      let gate : core.gate ≡ next_gate (end_of []) (next_opening []) =
      (h.gate [] tt empty).0 ∙ ap (λ (b : Beginning). next_gate (end_from b.at []) (next_opening [])) begins in
      record {
        setup = h.setup;
        facts = facts;
        memory = h.memory ∙ ap rebuilt facts;
        gate = omega (arith, gate);
        running = h.running;
        plan = h.planned tt never;
        read = h.read tt ∙ whole;
        durable = subst (KeepsRecords (surface (disk_file core.disk))) whole (h.durable tt);
      }

  no_entry : (found : List Placed) (fault : Fault) → items_of (Ok found) ≡ Ok [] → fault_of only_setup (Ok found) ≡ Some fault → ⊥
  unfolding taken
  no_entry [] fault same is = cc
  no_entry (e ∷ es) fault same is = cc

  no_fault : (found : Result (List Placed) Fault) (fault : Fault) → items_of found ≡ Ok [] → fault_of only_setup found ≡ Some fault → ⊥
  no_fault (Ok entries) fault same is = no_entry entries fault same is
  no_fault (Err why) fault same is = cc

  no_spent : (2 ^ 62 ≤ epoch_of [] + 1) ⊎ IsFull (end_of []) (next_opening []) → ⊥
  no_spent (inl spent) = omega (arith, spent)
  no_spent (inr full) = omega (arith, full.0)

  pub is_refused : (fault : Fault) (back : SimDisk)
      → HasNotOpened (Unit {0}) (Unit {0}) disk_file disk_clock LeftSince disk_failures disk_plan disk only_setup fault back → fault ≡ Memory
  is_refused fault back h = by_cause (h.planned tt never)
    where
      by_reason : IsReason only_setup (surface (disk_file disk)) fault → fault ≡ Memory
      by_reason (inl found) = absurd (no_fault (scanned_log (surface (disk_file disk)).seen) fault empty found)
      by_reason (inr (is, (others, spent))) =
          let none : others ≡ [] = ok_same others [] (records_in (surface (disk_file disk)).seen) spent.read empty in
          absurd (no_spent (subst (λ (b : Beginning). (2 ^ 62 ≤ epoch_of [] + 1) ⊎ IsFull (end_from b.at []) (next_opening [])) begins
          (subst (λ l. (2 ^ 62 ≤ epoch_of l + 1) ⊎ IsFull (end_in (surface (disk_file disk)).seen l) (next_opening l)) none spent.spent)))
        where
          ok_same : (a b : List Record) (x : Result (List Record) Fault) → x ≡ Ok a → x ≡ Ok b → a ≡ b
          ok_same a b x p q = cc

      by_cause : (fault ≡ Memory) ⊎ IsToldReason (Unit {0}) only_setup (surface (disk_file disk)) fault → fault ≡ Memory
      by_cause (inl memory) = memory
      by_cause (inr told) = by_reason (told.1 tt)
