-- What a drive comes to, and what is printed of it.
use Rattle.std.specs.Prelude.{◌≡◌, ℕ, List, Result, Ok, string_bytes}
use Rattle.units.specs.declared.line.Verdict.{Verdict}
use Rattle.system.specs.declared.asked.Driven.{Driven}
use Rattle.system.specs.declared.asked.NoVerdict.{NoVerdict}

-- what may be printed of a drive, and the verdict on it, in this order
abbrev pub Driving : Type 1
Driving = List ℕ → Verdict → Type 0

-- a call by some settings gave this text and this verdict
abbrev pub IsDrivenBy : {S : Type 0} → (S → Result Driven NoVerdict → Type 0) → Driving
IsDrivenBy {S} call text verdict =
    (settings : S) × (driven : Driven) × call settings (Ok driven) × (string_bytes driven.text ≡ text) × (driven.verdict ≡ verdict)
