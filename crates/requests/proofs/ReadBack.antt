-- What is spelled is read back.
use Rattle.std.proofs.Common.{◌≡◌, refl, sym, ap, ◌∙◌, arith, true, false, Bool, ◌==◌, ℕ, ◌+◌, ◌*◌, ◌/◌, ◌%◌, ◌<◌, List, [], ◌∷◌, ◌++◌, Option, Some, None, if◌then◌else◌}
use Rattle.std.specs.Char.{digit_char}
use Rattle.std.proofs.lemmas.Bool.Decides.{nat_tests}
use Rattle.units.specs.Keys.{Bytes}
use Rattle.requests.specs.Spelling.{SpelledIsRead, byte_word, digit_of, half, is_plain, spelled, spells, whole, with_byte}
use Rattle.requests.specs.declared.spelled.Passed.{Passed}
use Rattle.requests.specs.declared.spelled.Place.TheVariants.{Between, Behind, Opened, Half}

-- a digit is the number that it spells
digit_read : (n : ℕ) → n < 16 → digit_of (digit_char n) ≡ Some n
digit_read n small = grind (arith, nat_tests)

-- what the rest of a word spells from where a byte of it has led
after : List ℕ → Option Passed → Option Bytes
after rest o = elim o [ Some p ↦ with_byte p.byte (spells rest p.place) | None ↦ None ]

no_byte : (o : Option Bytes) → with_byte None o ≡ o
no_byte None = refl
no_byte (Some bytes) = refl

both_digits : (c d high low : ℕ) (rest : List ℕ) → digit_of c ≡ Some high → digit_of d ≡ Some low
    → spells (c ∷ d ∷ rest) Opened ≡ with_byte (Some (16 * high + low)) (spells rest Between)
unfolding after
both_digits c d high low rest first second =
    ap (λ o. after (d ∷ rest) (half o)) first
    ∙ (ap (λ o. with_byte None (after rest (whole high o))) second ∙ no_byte (with_byte (Some (16 * high + low)) (spells rest Between)))

-- a byte that is spelled in front of a rest is read, and then the rest
escaped : (b : ℕ) (rest : List ℕ) → b < 256
    → spells (92 ∷ 120 ∷ digit_char (b / 16) ∷ digit_char (b % 16) ∷ rest) Between ≡ with_byte (Some b) (spells rest Between)
escaped b rest small =
    let byte : 16 * (b / 16) + b % 16 ≡ b = omega arith in
    no_byte (with_byte None (spells (digit_char (b / 16) ∷ digit_char (b % 16) ∷ rest) Opened))
    ∙ (no_byte (spells (digit_char (b / 16) ∷ digit_char (b % 16) ∷ rest) Opened)
    ∙ (both_digits (digit_char (b / 16)) (digit_char (b % 16)) (b / 16) (b % 16) rest (digit_read (b / 16) (omega arith)) (digit_read (b % 16) (omega arith))
    ∙ ap (λ c. with_byte (Some c) (spells rest Between)) byte))

between : Bool → ℕ → Option Passed
between escapes b = if escapes then Some (record { place = Behind; byte = None }) else Some (record { place = Between; byte = Some b })

plain : (b : ℕ) (rest : List ℕ) → (b == 92) ≡ false → spells (b ∷ rest) Between ≡ with_byte (Some b) (spells rest Between)
unfolding after between
plain b rest is = ap (λ escapes. after rest (between escapes b)) is

byte_read : (b : ℕ) (rest : List ℕ) → b < 256 → spells (byte_word b ++ rest) Between ≡ with_byte (Some b) (spells rest Between)
byte_read b rest small = by_kind (is_plain b) refl
  where
    by_kind : (shows : Bool) → is_plain b ≡ shows
        → spells ((if shows then b ∷ [] else 92 ∷ 120 ∷ digit_char (b / 16) ∷ digit_char (b % 16) ∷ []) ++ rest) Between
        ≡ with_byte (Some b) (spells rest Between)
    by_kind true is = plain b rest (grind (arith, nat_tests))
    by_kind false is = escaped b rest small

pub is_read : SpelledIsRead
is_read [] all = refl
is_read (b ∷ bytes) all = byte_read b (spelled bytes) all.0 ∙ ap (with_byte (Some b)) (is_read bytes all.1)
