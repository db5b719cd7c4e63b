-- What is answered to a command: what it prints, and its status.
use Rattle.std.specs.Prelude.{◌≡◌, ℕ, List, Option, Some, None, Result}
use Rattle.units.specs.declared.fault.Fault.{Fault}

-- a text, and a status
abbrev pub Reply : Type 0
Reply = List ℕ × ℕ

-- what is answered, where it is known beforehand
abbrev pub Expected : Type 0
Expected = Option (Result Reply Fault)

-- it is what is expected
abbrev pub Is : Expected → Result Reply Fault → Type 0
Is None found = Unit {0}
Is (Some expected) found = expected ≡ found
