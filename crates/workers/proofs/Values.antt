-- Values that are short enough.
use Rattle.std.specs.Prelude.{◌≡◌, ◌⊎◌, ◌≤◌, ◌<◌, ℕ, Result, Ok, Err, MatchResult, IfErr}
use Rattle.std.proofs.Common.{arith, inl, inr}
use Rattle.units.specs.declared.fault.Fault.{Fault}
use Rattle.units.specs.declared.fault.Fault.TheVariants.{BadRequest, Memory}
use Rattle.units.specs.declared.fault.Reason.TheVariants as reason

-- a value within its limit is refused for memory alone
pub only_memory : {A : Type 0} (P : A → Type 0) (n : ℕ) (r : Result A Fault) → n ≤ 4096
    → MatchResult r P (λ fault. ((fault ≡ Memory) × (n ≤ 4096)) ⊎ ((fault ≡ BadRequest reason.Value) × (4096 < n)))
    → IfErr r (λ fault. fault ≡ Memory)
only_memory P n (Ok a) few h = tt
only_memory P n (Err fault) few h = elim h [ inl m ↦ m.0 | inr m ↦ absurd (omega (arith, m.1, few)) ]
