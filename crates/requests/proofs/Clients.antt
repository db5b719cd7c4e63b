-- Whose line it is.
use Rattle.std.proofs.Common.{◌≡◌, ◌≤◌, ◌<◌, ◌==◌, refl, arith, ℕ, zero, suc, Bool, true, false, not, List, [], ◌∷◌, length, nat_eq}
use Rattle.std.proofs.Common.{get_or}
use Rattle.std.specs.Prelude.{Option, None}
use Rattle.std.specs.Char.{is_ascii_digit}
use Rattle.std.specs.List.{position_or_len}
use Rattle.std.specs.Str.{IsAscii, IsUtf8, all_ascii_digits}
use Rattle.std.proofs.lemmas.Bool.{and_parts}
use Rattle.std.proofs.lemmas.Bool.Decides.{nat_tests}
use Rattle.std.proofs.lemmas.List.Sums.{position_or_len_is}
use Rattle.std.proofs.lemmas.Str.{IsUtf8-from_ascii}
use Rattle.texts.specs.Numbers.{is_decimal}
use Rattle.requests.specs.Requests.{number_in}

digit_below : (c : ℕ) → is_ascii_digit c ≡ true → c < 128
digit_below c is = grind (arith, nat_tests)

digits_below : (word : List ℕ) → all_ascii_digits word ≡ true → IsAscii word
digits_below [] all i = omega arith
digits_below (c ∷ cs) all zero = digit_below c (and_parts (is_ascii_digit c) _ all).0
digits_below (c ∷ cs) all (suc i) = digits_below cs (and_parts (is_ascii_digit c) _ all).1 i

decimal_digits : (word : List ℕ) → is_decimal word ≡ true → all_ascii_digits word ≡ true
decimal_digits [] is = refl
decimal_digits (d ∷ []) is = is
decimal_digits (d ∷ f ∷ rest) is = (and_parts (not (nat_eq d 48)) _ is).1

-- bytes that are no text are no number
pub no_number : (word : List ℕ) → (IsUtf8 word → ⊥) → ◌≡◌ {A = Option ℕ} None (number_in word)
no_number word no_text = go (is_decimal word) refl
  where
    go : (decimal : Bool) → is_decimal word ≡ decimal → ◌≡◌ {A = Option ℕ} None (number_in word)
    go true is = absurd (no_text (IsUtf8-from_ascii word (digits_below word (decimal_digits word is))))
    go false is = rw is refl

-- the first place that has such a byte, or the end
pub first_is : (mark : ℕ) (line : List ℕ) (at : ℕ) → at ≤ length line → ((k : ℕ) → k < at → (get_or line k 0 == mark) ≡ false)
    → (at < length line → (get_or line at 0 == mark) ≡ true) → position_or_len (λ c. c == mark) line ≡ at
first_is mark line at within before is = position_or_len_is (λ c. c == mark) line at 0 within before is
