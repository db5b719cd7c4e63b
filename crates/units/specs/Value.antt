-- The bytes of a value, in one block or in a list of their own.
use Rattle.std.specs.Prelude.{ℕ, ◌≤◌, List, length, take}
use Rattle.std.specs.Arc.{arc_value}
use Rattle.units.specs.declared.value.Text.{Text}
use Rattle.units.specs.declared.value.Text.TheVariants.{Short, Long}

-- the bytes of a text
abbrev pub bytes_of : Text → List ℕ
bytes_of (Short bytes len) = take len (arc_value bytes)
bytes_of (Long bytes) = (arc_value bytes).items

-- there are at most 4,096, and in the block not more than there is space for
abbrev pub IsText : Text → Type 0
IsText (Short bytes len) = (len ≤ 24) × (len ≤ length (arc_value bytes))
IsText (Long bytes) = length (arc_value bytes).items ≤ 4096
