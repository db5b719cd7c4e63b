-- The versions of a core that its horizon passed went, or none did.
use Rattle.std.proofs.Common.{◌≡◌, Result, Ok, Err, IfErr, sym, subst}
use Rattle.std.specs.Prelude.{OnOk}
use Rattle.units.specs.declared.fault.Fault.{Fault}
use Rattle.units.specs.declared.fault.Fault.TheVariants.{Memory as WantsMemory}
use Rattle.record.specs.Facts.{Facts}
use Rattle.ledger.specs.Turned.{held_facts}

pub gone_or_not : {T : Type 0} (P : Facts → Type 0) (old new : Facts) (result : Result T Fault) → OnOk result (new ≡ held_facts old)
    → IfErr result (λ fault. (fault ≡ WantsMemory) × (new ≡ old)) → P (held_facts old) → P old → P new
gone_or_not P old new (Ok x) went kept held all = subst P (sym went) held
gone_or_not P old new (Err fault) went kept held all = subst P (sym kept.1) all
