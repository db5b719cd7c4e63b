-- A line of a key and a value is read back.
use Rattle.std.proofs.Common.{◌≡◌, refl, ap, ◌∙◌, arith, true, false, Bool, ◌==◌, ℕ, ◌/◌, ◌%◌, ◌≤◌, ◌<◌, List, [], ◌∷◌, ◌++◌, Option, Some, None, Ok, Err, Result, cond, codes, length, nat_le, if◌then◌else◌}
use Rattle.std.specs.Char.{digit_char}
use Rattle.std.specs.List.{onto_first}
use Rattle.std.proofs.lemmas.Bool.Decides.{nat_tests}
use Rattle.units.specs.Keys.{Bytes}
use Rattle.units.specs.declared.fault.Fault.{Fault}
use Rattle.texts.specs.Numbers.{and_then}
use Rattle.requests.specs.Requests.{Asked, put, put_of, key_in, key_of, value_in, value_of, words_of}
use Rattle.requests.specs.Spelling.{AreBytes, byte_word, is_plain, spelled, unspelled}
use Rattle.requests.proofs.ReadBack.{is_read}
use Rattle.pairs.specs.Lines.{LinesAreRead}

-- there is no blank among some bytes
HasNoBlank : List ℕ → Type 0
HasNoBlank [] = Unit {0}
HasNoBlank (c ∷ cs) = ((c == 32) ≡ false) × HasNoBlank cs

digit_shows : (n : ℕ) → n < 16 → (digit_char n == 32) ≡ false
digit_shows n small = grind (arith, nat_tests)

byte_shows : (b : ℕ) (rest : List ℕ) → b < 256 → HasNoBlank rest → HasNoBlank (byte_word b ++ rest)
unfolding HasNoBlank
byte_shows b rest small none = by_kind (is_plain b) refl
  where
    by_kind : (shows : Bool) → is_plain b ≡ shows
        → HasNoBlank ((if shows then b ∷ [] else 92 ∷ 120 ∷ digit_char (b / 16) ∷ digit_char (b % 16) ∷ []) ++ rest)
    by_kind true is = (grind (arith, nat_tests), none)
    by_kind false is = (refl, (refl, (digit_shows (b / 16) (omega arith), (digit_shows (b % 16) (omega arith), none))))

spelled_shows : (bytes : Bytes) → AreBytes bytes → HasNoBlank (spelled bytes)
unfolding HasNoBlank
spelled_shows [] are = tt
spelled_shows (b ∷ bytes) are = byte_shows b (spelled bytes) are.0 (spelled_shows bytes are.1)

-- a blank parts what has none from the rest
parted : (xs rest : List ℕ) → HasNoBlank xs → words_of (xs ++ 32 ∷ rest) ≡ xs ∷ words_of rest
unfolding HasNoBlank
parted [] rest none = refl
parted (c ∷ xs) rest none =
    ap (λ b. cond b ([] ∷ words_of (xs ++ 32 ∷ rest)) (onto_first c (words_of (xs ++ 32 ∷ rest)))) none.0
    ∙ ap (onto_first c) (parted xs rest none.1)

alone : (xs : List ℕ) → HasNoBlank xs → words_of xs ≡ xs ∷ []
unfolding HasNoBlank
alone [] none = refl
alone (c ∷ xs) none = ap (λ b. cond b ([] ∷ words_of xs) (onto_first c (words_of xs))) none.0 ∙ ap (onto_first c) (alone xs none.1)

key_read : (key : Bytes) → AreBytes key → 1 ≤ length key → length key ≤ 64 → key_of (spelled key) ≡ Ok key
key_read key are some few = ap key_in (is_read key are) ∙ grind (arith, nat_tests)

value_read : (value : Bytes) → AreBytes value → length value ≤ 4096 → value_of (spelled value) ≡ Ok value
value_read value are few = ap value_in (is_read value are) ∙ grind (arith, nat_tests)

pub are_read : LinesAreRead
are_read key value keys values some few less =
    ap put_of (parted (spelled key) (spelled value) (spelled_shows key keys)
    ∙ ap (λ ws. spelled key ∷ ws) (alone (spelled value) (spelled_shows value values)))
    ∙ (ap (λ r. and_then r (λ k. and_then (value_of (spelled value)) (λ v. Ok (put k v)))) (key_read key keys some few)
    ∙ ap (λ r. and_then r (λ v. Ok (put key v))) (value_read value values less))
