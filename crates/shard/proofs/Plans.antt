-- The plan of an input may be logged and carried out.
use Rattle.std.proofs.Common.{◌≡◌, ℕ, true, List, [], ◌∷◌, Option, Some, None, Ok, refl}
use Rattle.std.proofs.Math.Logic.{∥∥₁_elim, ∥∥₁_map}
use Rattle.std.proofs.Props.{props}
use mathlib.Core.HLevel.{×_prop, Unit-prop}
use Rattle.units.specs.Limits.{most_rows}
use Rattle.units.specs.Ids.{Id}
use Rattle.units.specs.ById.{IsById}
use Rattle.units.specs.Versions.{above_versions}
use Rattle.truetime.specs.Interval.{Interval}
use Rattle.record.specs.Facts.{Facts, recorded}
use Rattle.record.specs.declared.record.Record.{Record}
use Rattle.message.specs.declared.message.Input.{Input}
use Rattle.facts.specs.Rules.{follows_facts}
use Rattle.protocol.specs.Sound.{writes_standing}
use Rattle.protocol.specs.Rows.{Memory, Row}
use Rattle.protocol.specs.Plan.{carried}
use Rattle.protocol.specs.Step.{IsInLimit, facts_after, plan_input}
use Rattle.protocol.proofs.RowChanges.{by_id-claims}
use Rattle.protocol.specs.Sound.{IsSound, StepKeepsSound, LoggedFollows, InstallsAbove}
use Rattle.memory.specs.Carry.{IsFit, MayFollow, MayInstall}
use Rattle.memory.specs.Kept.{Kept, start_of}
use Rattle.memory.specs.Plans.{plan_of}
use Rattle.memory.specs.declared.plan.Step.{Step}
use Rattle.protocol.specs.Showable.{IsShowable}
use Rattle.shard.specs.Due.{IsDue}

may_follow : (shard : ℕ) (facts : Facts) (logged : Option Record) → ((r : Record) → logged ≡ Some r → MayFollow shard facts (Some r)) →
    MayFollow shard facts logged
may_follow shard facts None follows = tt
may_follow shard facts (Some r) follows = follows r refl

may_install : (facts : Facts) (logged : Option Record)
    → ((t : Id) (s : ℕ) → logged ≡ Some (Record.Outcome t (Some s)) → MayInstall facts (Some (Record.Outcome t (Some s))))
    → MayInstall facts logged
may_install facts (Some (Record.Outcome t (Some s))) installs = installs t s refl
may_install facts _ installs = tt

pub by_id-prop : {A : Type 0} (id : A → Id) (xs : List A) → IsProp (IsById id xs)
by_id-prop id [] = Unit-prop
by_id-prop id (x ∷ xs) = ×_prop (hlevel props) (by_id-prop id xs)

-- the rows of a sound shard ascend by id
pub ascending : (shard : ℕ) (facts : Facts) (memory : Memory) → ∥ IsSound shard facts memory ∥₁ → IsById (λ r. r.txn) memory.rows
ascending shard facts memory sound = ∥∥₁_elim sound (by_id-prop (λ (r : Row). r.txn) memory.rows) (λ s. by_id-claims memory.rows s.table.order)

module _ (k : Kept) (now : Interval) (i : Input) (p : Step) (limit : IsInLimit i) (planned : plan_input k.setup (start_of k) now i ≡
    Ok (plan_of k.memory.rows p)) where
  follows_next : LoggedFollows → ∥ IsSound k.setup.shard k.facts k.memory ∥₁ → (r : Record) → p.logged ≡ Some r → follows_facts k.setup.shard k.facts r ≡ true
  follows_next follows sound r e =
      ∥∥₁_elim sound (hlevel props) (λ s. follows most_rows k.setup k.facts k.memory now i (plan_of k.memory.rows p) r s planned e)

  installs_next : InstallsAbove → ∥ IsSound k.setup.shard k.facts k.memory ∥₁ → (t : Id) (s : ℕ) → p.logged ≡ Some (Record.Outcome t (Some s))
      → above_versions k.facts.installs s (writes_standing (recorded k.facts t)) ≡ true
  installs_next installs sound t s e =
      ∥∥₁_elim sound (hlevel props) (λ o. installs most_rows k.setup k.facts k.memory now i (plan_of k.memory.rows p) t s o planned e)

  -- a plan of an input that fits is due
  pub is_due : StepKeepsSound → LoggedFollows → InstallsAbove → ∥ IsSound k.setup.shard k.facts k.memory ∥₁ → IsFit k p
      → IsShowable (facts_after k.facts p.logged) (carried (plan_of k.memory.rows p) k.memory) → IsDue k p
  is_due keeps follows installs sound fit showable = record {
    order = ascending k.setup.shard k.facts k.memory sound;
    fit = fit;
    follows = may_follow k.setup.shard k.facts p.logged (follows_next follows sound);
    installs = may_install k.facts p.logged (installs_next installs sound);
    sound = ∥∥₁_map sound (λ s. keeps most_rows k.setup k.facts k.memory now i (plan_of k.memory.rows p) limit s planned);
    showable = showable;
  }
