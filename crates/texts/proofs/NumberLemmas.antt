-- Numbers that words spell.
use Rattle.std.proofs.Common.{◌≡◌, ◌∙◌, ◌<◌, ◌^◌, ◌&&◌, ℕ, Bool, true, false, true≢false, not, refl, sym, ap, arith, [], ◌∷◌, List, length, nat_eq}
use Rattle.std.proofs.Common.{get_or, ne_eqb, ◌≤◌}
use Rattle.std.specs.Prelude.{Result, Ok, Err, if◌then◌else◌, nat_lt, is_err}
use Rattle.std.specs.Char.{is_ascii_digit}
use Rattle.std.specs.List.{list_all}
use Rattle.std.specs.Str.{all_ascii_digits}
use Rattle.std.specs.Str.Parse.{ParsesUnsigned, digits_value}
use Rattle.std.proofs.lemmas.Bool.{and_parts, ltb-true, lt-ltb}
use Rattle.std.proofs.lemmas.Str.Parse.{IsNumeralModel, numerals_by_value, parse_gives, tells_all_ascii_digits}
use Rattle.units.specs.declared.fault.Fault.{Fault}
use Rattle.units.specs.declared.fault.Fault.TheVariants.{BadRequest}
use Rattle.units.specs.declared.fault.Reason.TheVariants as reason
use Rattle.texts.specs.Numbers.{is_decimal, number_of, stamp_of}

pub all_digits : (word : List ℕ) → list_all is_ascii_digit word ≡ all_ascii_digits word
all_digits [] = refl
all_digits (c ∷ cs) = ap (λ b. is_ascii_digit c && b) (all_digits cs)

-- digits of which the first is not `0`
pub decimal_long : (word : List ℕ) → 2 ≤ length word → (get_or word 0 0 ≡ 48 → ⊥) → list_all is_ascii_digit word ≡ is_decimal word
decimal_long [] long first = absurd (omega arith)
decimal_long (d ∷ []) long first = absurd (omega arith)
decimal_long (d ∷ f ∷ rest) long first =
    all_digits (d ∷ f ∷ rest) ∙ ap (λ b. not b && all_ascii_digits (d ∷ f ∷ rest)) (sym (ne_eqb d 48 first))

own : IsNumeralModel (λ ds. all_ascii_digits ds ≡ true) (digits_value 10)
own = numerals_by_value _ tells_all_ascii_digits

digits_of : (word : List ℕ) → is_decimal word ≡ true → (all_ascii_digits word ≡ true) × (0 < length word)
digits_of [] e = (refl, absurd (cc))
digits_of (d ∷ []) e = (e, omega arith)
digits_of (d ∷ f ∷ rest) e = ((and_parts (not (nat_eq d 48)) _ e).1, omega arith)

-- a word that is too great for `u64`
pub too_great : {E : Type 0} (word : List ℕ) (r : Result ℕ E) → ParsesUnsigned 64 10 word r → is_decimal word ≡ true → is_err r ≡ true
    → ◌≡◌ {A = Result ℕ Fault} (Err (BadRequest reason.Stamp)) (number_of word)
too_great word r parses decimal fails =
    let digits = digits_of word decimal in
    go (nat_lt (digits_value 10 word) (2 ^ 64)) refl digits.0 digits.1
  where
    go : (b : Bool) → nat_lt (digits_value 10 word) (2 ^ 64) ≡ b → all_ascii_digits word ≡ true → 0 < length word
        → ◌≡◌ {A = Result ℕ Fault} (Err (BadRequest reason.Stamp)) (number_of word)
    go true e digits some =
        let small : digits_value 10 word < 2 ^ 64 = ltb-true _ _ e in
        let gives : r ≡ Ok (digits_value 10 word) = parse_gives own 64 word r parses digits some (omega arith) in
        let wrong = rw gives at fails in
        absurd (cc)
    go false e digits some = rw (decimal, e) refl

-- a word that is no number is no timestamp
pub refused_too : (word : List ℕ) (fault : Fault) → number_of word ≡ Err fault → ◌≡◌ {A = Result ℕ Fault} (Err fault) (stamp_of word)
refused_too word fault refused = go (is_decimal word) (nat_lt n (2 ^ 64)) (nat_lt n (2 ^ 62)) small refused
  where
    n : ℕ
    n = digits_value 10 word

    small : nat_lt n (2 ^ 62) ≡ true → nat_lt n (2 ^ 64) ≡ true
    small e = let below : n < 2 ^ 62 = ltb-true _ _ e in lt-ltb _ _ (omega arith)

    go : (decimal fits below : Bool) → (below ≡ true → fits ≡ true)
        → ◌≡◌ {A = Result ℕ Fault} (if decimal then (if fits then Ok n else Err (BadRequest reason.Stamp)) else Err (BadRequest reason.Command)) (Err fault)
        → ◌≡◌ {A = Result ℕ Fault} (Err fault) (if decimal then (if below then Ok n else Err (BadRequest reason.Stamp)) else Err (BadRequest reason.Command))
    go false fits below small e = sym e
    go true false false small e = sym e
    go true false true small e = absurd (true≢false (sym (small refl)))
    go true true below small e = cc
