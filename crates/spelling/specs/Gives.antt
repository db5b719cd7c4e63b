-- What a reader of the code returned, against the reading that defines it.
use Rattle.std.specs.Prelude.{◌≡◌, Option, Some, None, Result, Ok, Err}
use Rattle.spelling.specs.declared.unread.Unread.{Unread}
use Rattle.spelling.specs.declared.unread.Unread.TheVariants.{Memory, Malformed}

-- nothing is read here, or memory ran out
abbrev pub Fails : {Y : Type 0} → Unread → Option Y → Type 0
Fails Memory read = Unit {0}
Fails Malformed read = read ≡ None

-- a reader read what the definition reads, seen by a view, or failed
abbrev pub Gives : {X Y : Type 0} → (X → Y) → Result X Unread → Option Y → Type 0
Gives view (Ok x) read = read ≡ Some (view x)
Gives view (Err unread) read = Fails unread read

-- the same of a reader that takes no memory
abbrev pub Finds : {X Y : Type 0} → (X → Y) → Option X → Option Y → Type 0
Finds view (Some x) read = read ≡ Some (view x)
Finds view None read = read ≡ None
