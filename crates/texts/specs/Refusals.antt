-- Why a text is not read.
use Rattle.std.specs.Prelude.{◌≡◌, ◌⊎◌, ℕ}
use Rattle.units.specs.declared.fault.Fault.{Fault}
use Rattle.units.specs.declared.fault.Fault.TheVariants.{BadRequest, Memory}
use Rattle.units.specs.declared.fault.Reason.TheVariants.{Command, Syntax}

-- memory is wanting, or a line, which has a number, is outside the grammar
abbrev pub IsNoText : Fault → Type 0
IsNoText fault = (fault ≡ Memory) ⊎ ((line : ℕ) × (fault ≡ BadRequest (Syntax line)))

-- memory is wanting, or a word spells no bytes
abbrev pub IsNoSpelling : Fault → Type 0
IsNoSpelling fault = (fault ≡ Memory) ⊎ (fault ≡ BadRequest Command)
