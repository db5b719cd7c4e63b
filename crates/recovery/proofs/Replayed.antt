-- A record that has its place can be made once more, and leaves what the log with it leaves.
use Rattle.std.proofs.Common.{◌≡◌, ℕ, ◌≤◌, ◌<◌, nat_le, true, false, not, refl, List, [], ◌∷◌, Some, sym, ap, subst, ◌∙◌}
use Rattle.std.specs.Prelude.{IsTrue}
use Rattle.std.proofs.lemmas.Bool.{false≢true}
use Rattle.units.specs.LockLaws.{IsLawfulTable}
use Rattle.std.specs.List.{AllByRecursion, list_all}
use Rattle.units.specs.ById.{IsById}
use Rattle.record.specs.Facts.{TxnStatus, Facts, learn}
use Rattle.record.specs.declared.record.Record.{Record}
use Rattle.facts.specs.Rules.{follows_facts}
use Rattle.facts.specs.Stages.{is_head, past_head, stage_after}
use Rattle.facts.specs.declared.stage.Stage.{Stage}
use Rattle.facts.specs.declared.stage.Stage.TheVariants.{Head}
use Rattle.protocol.specs.Rows.{Memory, Row, claims, rebuilt}
use Rattle.protocol.specs.Plan.{carried}
use Rattle.protocol.specs.Step.{facts_after}
use Rattle.protocol.proofs.OpenedRows.{by_id-gather}
use Rattle.memory.specs.Carry.{AdmissionIsUnseen, IsCarriable, IsFit, HasMemoryFor, ReadyIsCarriable, stage_behind}
use Rattle.memory.specs.Kept.{Kept}
use Rattle.memory.specs.Ledger.{CanInstall}
use Rattle.memory.specs.Plans.{plan_of}
use Rattle.memory.specs.declared.plan.Plan.{Plan}
use Rattle.memory.specs.declared.plan.Step.{Step}
use Rattle.protocol.specs.Beside.{fits_facts}
use Rattle.recovery.specs.Recovered.{IsGood, IsOwn, IsRecovered, head_is_bare}
use Rattle.recovery.proofs.Again.{learn_order, learn_own}
use Rattle.recovery.proofs.Beside.{rows_are}
use Rattle.recovery.proofs.Soundness.{taken_more}
use Rattle.recovery.proofs.StandingRows.{own_rows}

rows_by_id : (k : Kept) → IsRecovered k → IsById (λ r. r.txn) k.memory.rows
rows_by_id k recovered =
    subst (IsById (λ (r : Row). r.txn)) (sym (rows_are k recovered)) (by_id-gather k.facts.entries recovered.order (own_rows k.facts.entries recovered.own))

-- what it installs is above the versions of its keys
installs_again : (facts : Facts) (item : Record) → fits_facts facts item ≡ true → CanInstall facts item
installs_again facts (Record.Outcome t (Some s)) fits = fits
installs_again facts _ fits = tt

-- a plan with a record beside it
abbrev pub with_record : Plan → Record → Step
with_record p item = record { plan = p; logged = Some item }

pub can_carry_again : (old new : Kept) (p : Plan) (item : Record) → IsRecovered old →
    follows_facts old.setup.shard old.facts item ≡ true → fits_facts old.facts item ≡ true
    → IsFit old (with_record p item) → HasMemoryFor old new p → ReadyIsCarriable → IsCarriable new (with_record p item)
can_carry_again old new p item recovered follows fits fit ready law =
    law old new (with_record p item) (rows_by_id old recovered) fit ready follows (installs_again old.facts item fits)

-- the memory after it
memory_again : (old new : Kept) (s : Step) (after : Memory) → IsRecovered old → IsFit old s → HasMemoryFor old new s.plan → AdmissionIsUnseen
    → after ≡ carried (plan_of new.memory.rows s) new.memory → after ≡ carried (plan_of old.memory.rows s) old.memory
memory_again old new s after recovered fit ready law same =
    same ∙ ap (λ m. carried (plan_of m.rows s) m) ready.memory ∙ law old.memory s (rows_by_id old recovered) fit.0

none_in_head : (es : List TxnStatus) (s : Stage) → is_head s ≡ false → head_is_bare s es ≡ true
none_in_head [] s out = refl
none_in_head (e ∷ es) s out = ap (λ b. not b) out

past_is_none : (s : Stage) → is_head (past_head s) ≡ false
past_is_none Head = refl
past_is_none _ = refl

-- behind a record that a step may log one is past the head
behind_step : (shard : ℕ) (facts : Facts) (r : Record) (s : Stage) → follows_facts shard facts r ≡ true → is_head (stage_after s r) ≡ false
unfolding follows_facts
behind_step shard facts (Record.Opened e) s follows = refl
behind_step shard facts (Record.Base e f n) s follows = absurd (false≢true follows)
behind_step shard facts (Record.Version i) s follows = absurd (false≢true follows)
behind_step shard facts (Record.Settled t at parts) s follows = absurd (false≢true follows)
behind_step shard facts (Record.Closed t coordinator o) s follows = absurd (false≢true follows)
behind_step shard facts _ s follows = past_is_none s

pub recovered_again : (old new later : Kept) (p : Plan) (item : Record) → IsRecovered old → IsLawfulTable (claims old.memory.rows) →
    follows_facts old.setup.shard old.facts item ≡ true → fits_facts old.facts item ≡ true
    → IsFit old (with_record p item) → HasMemoryFor old new p → AdmissionIsUnseen
    → carried (plan_of old.memory.rows (with_record p item)) old.memory ≡ rebuilt (learn old.facts item)
    → later.facts ≡ facts_after new.facts (Some item) → later.stage ≡ stage_behind new.stage (Some item) → later.memory
    ≡ carried (plan_of new.memory.rows (with_record p item)) new.memory
    → (later.facts ≡ learn old.facts item) × (later.stage ≡ stage_after old.stage item) × IsRecovered later
recovered_again old new later p item recovered lawful follows fits fit ready law again facts stage memory =
    let then : later.facts ≡ learn old.facts item = facts ∙ ap (λ f. facts_after f (Some item)) ready.facts in
    let at : later.stage ≡ stage_after old.stage item = stage ∙ ap (λ s. stage_after s item) ready.stage in
    let taken = taken_more old.setup.shard old.facts item recovered.order recovered.own
    (subst (λ rows. IsLawfulTable (claims rows)) (rows_are old recovered) lawful) follows fits
    (record { opened = recovered.opened; good = recovered.good; covered = recovered.covered; horizon = recovered.horizon }) in (
      then,
      at,
      record {
        memory = memory_again old new (with_record p item) later.memory recovered fit ready law memory ∙ again ∙ ap rebuilt (sym then);
        opened = subst (λ (f : Facts). 0 < f.epoch) (sym then) taken.opened;
        order = subst (λ (f : Facts). IsById (λ (e : TxnStatus). e.txn) f.entries) (sym then) (learn_order old.facts item recovered.order);
        own = subst (λ (f : Facts). AllByRecursion IsOwn f.entries) (sym then) (learn_own old.setup.shard old.facts item follows recovered.own);
        good = subst (λ (f : Facts). AllByRecursion (IsGood f) f.entries) (sym then) taken.good;
        covered = subst (λ (f : Facts). IsTrue (list_all (λ i. nat_le i.at f.floor) f.installs)) (sym then) taken.covered;
        horizon = subst (λ (f : Facts). f.horizon ≤ f.floor) (sym then) taken.horizon;
        bare = subst (λ (s : Stage). head_is_bare s later.facts.entries ≡ true) (sym at)
            (none_in_head later.facts.entries (stage_after old.stage item) (behind_step old.setup.shard old.facts item old.stage follows));
      },
    )
