-- What a core knows goes on to agree with its log.
use Rattle.std.proofs.Common.{◌≡◌, ◌∙◌, ◌⊎◌, inl, inr, ⊎_elim, ℕ, Bool, true, false, IsTrue, IsFalse, ◌≤◌, List, [], ◌∷◌, ◌++◌, fold, Option, Some, None}
use Rattle.std.proofs.Common.{Result, Ok, Err, refl, sym, ap, subst}
use Rattle.std.proofs.Math.Logic.{∥∥₁_map}
use Rattle.disk.specs.File.{File, surface}
use Rattle.disk.specs.Image.{Surface, MayLeave}
use Rattle.disk.specs.Moments.{LeavesOnly}
use Rattle.record.specs.FactLaws.{learnt}
use Rattle.record.specs.Facts.{Facts, learn, no_facts}
use Rattle.record.specs.declared.record.Record.{Record}
use Rattle.units.specs.declared.fault.Fault.{Fault}
use Rattle.gatelog.specs.Slots.{begins_in}
use Rattle.ledger.specs.Keeps.{Alike, IsLasting, IsRegular}
use Rattle.ledger.specs.Laws.{AlikeStays, TurnedKeeps}
use Rattle.ledger.specs.Turned.{held_facts, turned, versions_held}
use Rattle.ledger.proofs.Again.{held-lasting}
use Rattle.ledger.proofs.Alike.{alike-refl}
use Rattle.ledger.proofs.One.{one-turnover}
use Rattle.ledger.proofs.Said.{held-keeps}
use Rattle.versions.proofs.Same.{same-back, same-then}
use Rattle.shard.specs.Agrees.{AgreesWithLog, AreHeld, HoldsRenewed}
use Rattle.shard.specs.Logs.{KeepsRecords, HoldsOldOrWith, and_logged, facts_logged, learned, records_in}
use Rattle.shard.specs.Turned.{IsOldOrTurned, turned_to}

-- they are learnt one by one
pub fold_is : (f : Facts) (rs : List Record) → fold learn f rs ≡ learnt f rs
fold_is f [] = refl
fold_is f (r ∷ rs) = fold_is (learn f r) rs

-- one more record is learnt behind the others
pub learned-append : (f : Facts) (rs : List Record) (r : Record) → fold learn f (rs ++ r ∷ []) ≡ learn (fold learn f rs) r
learned-append f [] r = refl
learned-append f (q ∷ qs) r = learned-append (learn f q) qs r

abbrev given : Option Facts → Facts
given (Some f) = f
given None = learned []

-- facts are alike to those of the records that a read gives
abbrev pub IsKnown : Result (List Record) Fault → Facts → Type 0
IsKnown (Ok records) facts = Alike facts (learned records)
IsKnown (Err fault) facts = ⊥

-- so are those that are learnt of them
pub known-logged : (read : Result (List Record) Fault) (facts : Facts) → facts_logged read ≡ Some facts → IsKnown read facts
known-logged (Ok records) facts is = subst (Alike facts) (sym (ap given is)) (alike-refl facts)
known-logged (Err fault) facts is = absurd (cc)

-- with one more
pub known-more : AlikeStays → (read : Result (List Record) Fault) (facts : Facts) (r : Record) → IsKnown read facts
    → IsKnown (and_logged read (Some r)) (learn facts r)
known-more law (Ok records) facts r known =
    subst (Alike (learn facts r)) (sym (learned-append no_facts records r)) (law facts (learned records) r known)
known-more law (Err fault) facts r known = known

-- those of a renewed log are known
pub turned-known : TurnedKeeps → (facts : Facts) → IsRegular facts → IsKnown (Ok (turned facts)) facts
turned-known law facts regular = subst (Alike facts) (sym (fold_is no_facts (turned facts))) (law facts regular)

-- the records of a running core are those that a read gives
pub known-held : (stopped : Bool) (disk : Surface) (facts : Facts) → IsFalse stopped → MayLeave disk disk.seen → ∥ AgreesWithLog stopped disk facts ∥₁
    → ∥ IsKnown (records_in disk.seen) facts ∥₁
known-held stopped disk facts running now agrees =
    ∥∥₁_map agrees (λ a.
    let held : AreHeld false disk facts a.records = subst (λ b. AreHeld b disk facts a.records) running a.held in
    subst (λ read. IsKnown read facts) (sym (held disk.seen now)) a.learnt)

-- every image has the records that are known
pub agrees_kept : (stopped : Bool) (disk : Surface) (read : Result (List Record) Fault) (facts : Facts) → IsFalse stopped → KeepsRecords disk read
    → IsKnown read facts → AgreesWithLog stopped disk facts
agrees_kept stopped disk (Ok records) facts running keeps known = record {
  records = records;
  learnt = known;
  held = subst (λ b. AreHeld b disk facts records) (sym running) keeps;
}
agrees_kept stopped disk (Err fault) facts running keeps known = absurd known

-- nothing was done to the log
pub agrees_still : (was stopped : Bool) (before disk : Surface) (known facts : Facts) → stopped ≡ was → disk ≡ before → facts ≡ known
    → ∥ AgreesWithLog was before known ∥₁ → ∥ AgreesWithLog stopped disk facts ∥₁
agrees_still was stopped before disk known facts same file is agrees =
    subst (λ b. ∥ AgreesWithLog b disk facts ∥₁) (sym same)
    (subst (λ d. ∥ AgreesWithLog was d facts ∥₁) (sym file)
    (subst (λ f. ∥ AgreesWithLog was before f ∥₁) (sym is) agrees))

-- a record was not logged: the log is as it was, or the core is stopped
pub agrees_refused : {D : Type 0} (file : D → File) (clock : D → ℕ) (since : D → ℕ → List ℕ → Type 0)
    → ((d : D) (moment : ℕ) (image : List ℕ) → moment ≤ clock d → MayLeave (surface (file d)) image → since d moment image)
    → (old new : D) (was stopped : Bool) (known facts : Facts) (r : Record) → IsFalse was → MayLeave (surface (file old)) (surface (file old)).seen
    → facts ≡ known → IsTrue stopped ⊎ ((stopped ≡ was) × (file new ≡ file old))
    → LeavesOnly clock since old new (HoldsOldOrWith (records_in (surface (file old)).seen) (Some r))
    → ∥ AgreesWithLog was (surface (file old)) known ∥₁ → ∥ AgreesWithLog stopped (surface (file new)) facts ∥₁
agrees_refused file clock since counts_now old new was stopped known facts r running now is (inl stops) moments agrees =
    ∥∥₁_map agrees (λ a.
    let held : AreHeld false (surface (file old)) known a.records = subst (λ b. AreHeld b (surface (file old)) known a.records) running a.held in
    record {
      records = a.records;
      learnt = subst (λ f. Alike f (learned a.records)) (sym is) a.learnt;
      held = subst (λ b. AreHeld b (surface (file new)) facts a.records) (sym stops) (inl (
        r,
        λ image may. subst (λ records. HoldsOldOrWith records (Some r) image) (held (surface (file old)).seen now)
            (moments.each image (counts_now new (clock old) image moments.later may)),
      ));
    })
agrees_refused file clock since counts_now old new was stopped known facts r running now is (inr same) moments agrees =
    agrees_still was stopped (surface (file old)) (surface (file new)) known facts same.0 (ap surface same.1) is agrees

-- a turnover failed: the core is stopped, and has the old records where they began, or those of the renewed log
pub agrees_unturned : {D : Type 0} (file : D → File) (clock : D → ℕ) (since : D → ℕ → List ℕ → Type 0)
    → ((d : D) (moment : ℕ) (image : List ℕ) → moment ≤ clock d → MayLeave (surface (file d)) image → since d moment image)
    → (old new : D) (was stopped : Bool) (facts : Facts) (gate slot : ℕ) → IsFalse was → MayLeave (surface (file old)) (surface (file old)).seen
    → IsTrue stopped → LeavesOnly clock since old new (IsOldOrTurned (surface (file old)) gate slot (turned facts))
    → ∥ AgreesWithLog was (surface (file old)) facts ∥₁ → ∥ AgreesWithLog stopped (surface (file new)) facts ∥₁
agrees_unturned file clock since counts_now old new was stopped facts gate slot running now stops moments agrees =
    ∥∥₁_map agrees (λ a.
    let held : AreHeld false (surface (file old)) facts a.records = subst (λ b. AreHeld b (surface (file old)) facts a.records) running a.held in
    record {
      records = a.records;
      learnt = a.learnt;
      held = subst (λ b. AreHeld b (surface (file new)) facts a.records) (sym stops) (inr (record {
        began = begins_in (surface (file old)).seen;
        begins = turned_to gate slot;
        each = λ image may.
            ⊎_elim (λ same. inl (same.0 ∙ held (surface (file old)).seen now, same.1)) (λ new. inr new)
            (moments.each image (counts_now new (clock old) image moments.later may));
      }));
    })

-- the versions that are held alone agree with the log as all do
pub agrees_held : (stopped : Bool) (disk : Surface) (facts : Facts) → IsLasting facts → AgreesWithLog stopped disk facts
    → AgreesWithLog stopped disk (held_facts facts)
agrees_held stopped disk facts lasting agrees = record {
  records = agrees.records;
  learnt = record {
    epoch = agrees.learnt.epoch;
    floor = agrees.learnt.floor;
    horizon = agrees.learnt.horizon;
    retired = agrees.learnt.retired;
    entries = agrees.learnt.entries;
    versions =
        same-then facts.horizon (versions_held facts) facts.installs (learned agrees.records).installs
        (same-back facts.horizon facts.installs (versions_held facts) keeps.versions) agrees.learnt.versions;
  };
  held = by_test stopped agrees.held;
}
  where
    keeps : Alike facts (held_facts facts)
    keeps = held-keeps facts lasting.regular

    same : turned facts ≡ turned (held_facts facts)
    same = one-turnover facts (held_facts facts) keeps lasting.regular (held-lasting facts lasting).regular

    by_test : (b : Bool) → AreHeld b disk facts agrees.records → AreHeld b disk (held_facts facts) agrees.records
    by_test false held = held
    by_test true (inl stepped) = inl stepped
    by_test true (inr renewed) = inr (subst (HoldsRenewed disk agrees.records) same renewed)
