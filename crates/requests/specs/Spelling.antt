-- How words spell bytes: printable ASCII but blank and backslash stands for itself, and each other byte is two hexadecimal digits behind `\x`.
use Rattle.std.specs.Prelude.{◌&&◌, ◌==◌, ◌+◌, ◌-◌, ◌*◌, ◌/◌, ◌%◌, ◌<◌, ℕ, Bool, not, List, [], ◌∷◌, Option, Some, None, flat_map, nat_le, if◌then◌else◌, ◌≡◌}
use Rattle.std.specs.Char.{digit_char}
use Rattle.units.specs.Keys.{Bytes}
use Rattle.requests.specs.declared.spelled.Passed.{Passed}
use Rattle.requests.specs.declared.spelled.Place.{Place}
use Rattle.requests.specs.declared.spelled.Place.TheVariants.{Between, Behind, Opened, Half}

-- the byte stands for itself: it is printable ASCII, and neither blank (32) nor backslash (92)
abbrev pub is_plain : ℕ → Bool
is_plain byte = nat_le 33 byte && nat_le byte 126 && not (byte == 92)

abbrev pub byte_word : ℕ → List ℕ
byte_word byte =
    if is_plain byte then byte ∷ [] else 92 ∷ 120 ∷ digit_char (byte / 16) ∷ digit_char (byte % 16) ∷ []

-- the word that spells some bytes
abbrev pub spelled : Bytes → List ℕ
spelled = flat_map byte_word

-- the number of a hexadecimal digit of either case
abbrev pub digit_of : ℕ → Option ℕ
digit_of c =
    if nat_le 48 c && nat_le c 57 then Some (c - 48)
    else (if nat_le 97 c && nat_le c 102 then Some (c - 87)
    else (if nat_le 65 c && nat_le c 70 then Some (c - 55) else None))

-- the digit that a place holds is one
abbrev pub IsPlace : Place → Type 0
IsPlace (Half d) = d < 16
IsPlace _ = Unit {0}

abbrev pub half : Option ℕ → Option Passed
half (Some d) = Some (record { place = Half d; byte = None })
half None = None

abbrev pub whole : ℕ → Option ℕ → Option Passed
whole h (Some d) = Some (record { place = Between; byte = Some (16 * h + d) })
whole h None = None

abbrev pub pass : Place → ℕ → Option Passed
pass Between c = if c == 92 then Some (record { place = Behind; byte = None }) else Some (record { place = Between; byte = Some c })
pass Behind c = if c == 120 then Some (record { place = Opened; byte = None }) else None
pass Opened c = half (digit_of c)
pass (Half h) c = whole h (digit_of c)

abbrev pub with_byte : Option ℕ → Option Bytes → Option Bytes
with_byte byte None = None
with_byte None (Some bytes) = Some bytes
with_byte (Some b) (Some bytes) = Some (b ∷ bytes)

-- the bytes that the rest of a word spells from a place on, where it spells any
abbrev pub spells : List ℕ → Place → Option Bytes
spells [] Between = Some []
spells [] _ = None
spells (c ∷ rest) place = elim (pass place c) [ Some p ↦ with_byte p.byte (spells rest p.place) | None ↦ None ]

-- the bytes that a word spells
abbrev pub unspelled : List ℕ → Option Bytes
unspelled word = spells word Between

abbrev pub AreBytes : Bytes → Type 0
AreBytes [] = Unit {0}
AreBytes (b ∷ bytes) = (b < 256) × AreBytes bytes

-- what is spelled is read back
abbrev pub SpelledIsRead : Type 0
SpelledIsRead = (bytes : Bytes) → AreBytes bytes → unspelled (spelled bytes) ≡ Some bytes
