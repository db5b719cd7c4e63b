-- A plan that was made ready and carried out, and what a core keeps then.
use Rattle.std.proofs.Common.{◌≡◌, ◌∙◌, ℕ, Option, Some, None, sym, ap, subst}
use Rattle.std.proofs.Math.Logic.{∥∥₁_map}
use Rattle.units.specs.declared.setup.Setup.{Setup}
use Rattle.record.specs.Facts.{Facts}
use Rattle.record.specs.declared.record.Record.{Record}
use Rattle.protocol.specs.Rows.{Memory}
use Rattle.protocol.specs.Plan.{carried}
use Rattle.protocol.specs.Step.{facts_after}
use Rattle.protocol.specs.Sound.{IsSound}
use Rattle.memory.specs.Carry.{AdmissionIsUnseen, ReadyIsCarriable, HasMemoryFor, IsCarriable, MayFollow}
use Rattle.memory.specs.Kept.{Kept}
use Rattle.memory.specs.Plans.{plan_of}
use Rattle.memory.specs.declared.plan.Step.{Step}
use Rattle.protocol.specs.Showable.{IsShowable}
use Rattle.ledger.specs.Keeps.{IsLasting}
use Rattle.ledger.specs.Laws.{LastingFollows}
use Rattle.shard.specs.Due.{IsDue}

-- what may be renewed may be renewed behind it
lasts-behind : LastingFollows → (shard : ℕ) (facts : Facts) (memory : Memory) (logged : Option Record) → MayFollow shard facts logged
    → IsShowable (facts_after facts logged) memory → IsLasting facts → IsLasting (facts_after facts logged)
lasts-behind law shard facts memory None follows showable lasts = lasts
lasts-behind law shard facts memory (Some r) follows showable lasts = law shard facts memory r lasts follows showable

-- its plan is carried out once its record is logged
module _ (k ready : Kept) (s : Step) (due : IsDue k s) (made : HasMemoryFor k ready s.plan) where
  -- it can be carried out
  pub can_carry : ReadyIsCarriable → IsCarriable ready s
  can_carry law = law k ready s due.order due.fit made due.follows due.installs

  -- and makes of the memory what the plan says, told from the state before
  pub memory_after : AdmissionIsUnseen → (after : Memory) → after ≡ carried (plan_of ready.memory.rows s) ready.memory →
      after ≡ carried (plan_of k.memory.rows s) k.memory
  memory_after unseen after e =
      e ∙ ap (λ (m : Memory). carried (plan_of m.rows s) m) made.memory ∙ unseen k.memory s due.order (due.fit).0

  pub facts_then : (after : Facts) → after ≡ facts_after ready.facts s.logged → after ≡ facts_after k.facts s.logged
  facts_then after e = e ∙ ap (λ (f : Facts). facts_after f s.logged) made.facts

  -- the shard is sound then
  pub sound_then : (setup : Setup) (facts : Facts) (memory : Memory) → setup ≡ k.setup → facts ≡ facts_after k.facts s.logged
      → memory ≡ carried (plan_of k.memory.rows s) k.memory → ∥ IsSound setup.shard facts memory ∥₁
  sound_then setup facts memory is_setup is_facts is_memory =
      ∥∥₁_map due.sound (λ o.
      subst (λ (t : Setup). IsSound t.shard facts memory) (sym is_setup)
      (subst (λ f. IsSound k.setup.shard f memory) (sym is_facts)
      (subst (IsSound k.setup.shard (facts_after k.facts s.logged)) (sym is_memory) o)))

  -- and its facts may be renewed
  pub lasting_then : LastingFollows → (facts : Facts) → facts ≡ facts_after k.facts s.logged → ∥ IsLasting k.facts ∥₁ → ∥ IsLasting facts ∥₁
  lasting_then law facts is_facts lasting =
      ∥∥₁_map lasting (λ l.
      subst IsLasting (sym is_facts)
      (lasts-behind law k.setup.shard k.facts (carried (plan_of k.memory.rows s) k.memory) s.logged due.follows due.showable l))
