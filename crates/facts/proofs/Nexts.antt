-- What follows of a record that may come next, and the last of some versions.
use Rattle.std.proofs.Common.{◌≡◌, ◌-◌, ◌∙◌, arith, ℕ, suc, true, List, [], ◌∷◌, length, Option, Some, sym, ap}
use Rattle.std.specs.Prelude.{slice_get}
use Rattle.std.proofs.Math.Bool.{or-false}
use Rattle.units.specs.Ids.{Id}
use Rattle.units.specs.Versions.{version_before}
use Rattle.units.specs.declared.writes.Install.{Install}
use Rattle.record.specs.Facts.{Facts}
use Rattle.record.specs.declared.record.Record.TheVariants.{Outcome}
use Rattle.facts.specs.Rules.{follows_facts}
use Rattle.facts.specs.Stages.{comes_behind, follows_next, follows_head}
use Rattle.facts.specs.declared.stage.Stage.{Stage}

-- an outcome is of a kind that steps log
pub outcome_next : (shard : ℕ) (stage : Stage) (facts : Facts) (t : Id) (o : Option ℕ) → follows_next shard stage facts (Outcome t o) ≡ true →
    follows_facts shard facts (Outcome t o) ≡ true
unfolding follows_next follows_head
outcome_next shard stage facts t o h = sym (or-false _) ∙ h

some_is : (x y : Install) → ◌≡◌ {A = Option Install} (Some x) (Some y) → x ≡ y
some_is x y e = cc

-- the last is the one by its place
pub behind_placed : (installs : List Install) (last install : Install) → slice_get installs (length installs - 1) ≡ Some last →
    comes_behind installs install ≡ version_before last install
behind_placed [] last install e = cc
behind_placed (x ∷ []) last install e = ap (λ y. version_before y install) (some_is x last e)
behind_placed (x ∷ y ∷ rest) last install e =
    behind_placed (y ∷ rest) last install (ap (slice_get (x ∷ y ∷ rest)) (one_more (length rest)) ∙ e)
  where
    one_more : (n : ℕ) → suc (suc n - 1) ≡ suc (suc n) - 1
    one_more n = omega arith
