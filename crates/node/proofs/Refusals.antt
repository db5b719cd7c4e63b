-- Why there is no node over a disk, and why shards are not opened.
use Rattle.std.proofs.Common.{◌≡◌, ◌⊎◌, ⊎_elim, inl, inr, ◌<◌, ◌≤◌, ℕ, List, Option, Some, None, arith}
use Rattle.std.specs.Prelude.{IfSome, IfNone}
use Rattle.units.specs.Keys.{Bytes}
use Rattle.units.specs.declared.fault.Fault.{Fault}
use Rattle.units.specs.declared.fault.Fault.TheVariants.{BadRequest, Memory}
use Rattle.units.specs.declared.fault.Reason.TheVariants.{Settings}
use Rattle.disk.specs.File.{File}
use Rattle.node.specs.InStep.{IsNoDesk}
use Rattle.node.specs.Unopened.{IsFirst, IsRefusedFirst, IsUnmade}
use Rattle.node.specs.declared.unopened.Unopened.{Unopened}

-- with a number of viewers that a board may have, a desk is refused for memory alone
pub no_desk : (n : ℕ) (fault : Fault) → 0 < n → n ≤ 64 → IsNoDesk n fault → fault ≡ Memory
no_desk n fault some few (inl memory) = memory.1
no_desk n fault some few (inr (inl none, many)) = absurd (omega (arith, some, none))
no_desk n fault some few (inr (inr more, many)) = absurd (omega (arith, few, more))

module _ {D : Type 0} (keeps : Type 0) (file : D → File) (splits : List Bytes) (stride : ℕ) (disks : List D) where
  refused_shard : (number : ℕ) (fault : Fault) → IsRefusedFirst keeps file splits stride disks number fault → IsUnmade fault
  refused_shard number fault is =
      ⊎_elim (λ memory. inr (inl memory)) (λ else. ⊎_elim (λ failed. inr (inr (inl failed))) (λ told. inr (inr (inr told.2.0))) else) is.cause

  -- a shard that is refused, or the settings, or want of memory
  pub not_made : (u : Unopened) → IsFirst keeps file splits stride disks u → IsUnmade u.fault
  not_made u is = by_shard u.shard is.0 is.1
    where
      by_shard : (o : Option ℕ) → IfSome o (λ number. IsRefusedFirst keeps file splits stride disks number u.fault)
          → IfNone o ((u.fault ≡ BadRequest Settings) ⊎ (u.fault ≡ Memory)) → IsUnmade u.fault
      by_shard (Some n) first none = refused_shard n u.fault first
      by_shard None first none = ⊎_elim (λ settings. inl settings) (λ memory. inr (inl memory)) none
