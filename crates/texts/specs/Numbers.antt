-- Words that are numbers.
use Rattle.std.specs.Prelude.{ℕ, Bool, false, not, ◌==◌, ◌&&◌, ◌^◌, List, [], ◌∷◌}
use Rattle.std.specs.Prelude.{Result, Ok, Err, if◌then◌else◌, nat_le, nat_lt}
use Rattle.std.specs.Str.{all_ascii_digits}
use Rattle.std.specs.Str.Parse.{digits_value}
use Rattle.truetime.specs.Interval.{Interval}
use Rattle.units.specs.declared.fault.Fault.{Fault}
use Rattle.units.specs.declared.fault.Fault.TheVariants.{BadRequest}
use Rattle.units.specs.declared.fault.Reason.TheVariants as reason

-- f of the value, where there is one
abbrev pub and_then : {A B : Type 0} → Result A Fault → (A → Result B Fault) → Result B Fault
and_then (Ok a) f = f a
and_then (Err fault) f = Err fault

-- one digit, or digits of which the first is not `0` (48)
abbrev pub is_decimal : List ℕ → Bool
is_decimal [] = false
is_decimal (d ∷ []) = all_ascii_digits (d ∷ [])
is_decimal (d ∷ e ∷ rest) = not (d == 48) && all_ascii_digits (d ∷ e ∷ rest)

-- the number below a limit that the word spells
abbrev pub number_below : ℕ → List ℕ → Result ℕ Fault
number_below limit word = if is_decimal word
    then (if nat_lt (digits_value 10 word) limit then Ok (digits_value 10 word) else Err (BadRequest reason.Stamp))
    else Err (BadRequest reason.Command)

-- the number of 64 bits
abbrev pub number_of : List ℕ → Result ℕ Fault
number_of = number_below (2 ^ 64)

-- the timestamp
abbrev pub stamp_of : List ℕ → Result ℕ Fault
stamp_of = number_below (2 ^ 62)

-- the reading between two words
abbrev pub interval_of : List ℕ → List ℕ → Result Interval Fault
interval_of earliest latest = and_then (stamp_of earliest) (λ e. and_then (stamp_of latest) (λ l.
    if nat_le e l then Ok (record { earliest = e; latest = l }) else Err (BadRequest reason.Stamp)))
