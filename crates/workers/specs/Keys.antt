-- The keys of a turn, and what is written to them.
use Rattle.std.specs.Prelude.{ℕ, ◌+◌, ◌*◌, ◌/◌, ◌%◌, List, [], ◌∷◌, nat_eq, if◌then◌else◌}

-- the last decimal digit of a number, as a character; 48 is `0`
abbrev pub digit : ℕ → ℕ
digit n = 48 + n % 10

-- a key of this number below 10,000: `k` (107) and four digits, with leading zeros
abbrev pub key_text : ℕ → List ℕ
key_text n = 107 ∷ digit (n / 1000) ∷ digit (n / 100) ∷ digit (n / 10) ∷ digit n ∷ []

-- the number of a turn's first key, by the worker and the turn, of so many keys
abbrev pub first_key : ℕ → ℕ → ℕ → ℕ
first_key keys worker turn = (worker + turn) % keys

-- that of its other key
abbrev pub second_key : ℕ → ℕ → ℕ → ℕ
second_key keys worker turn = (7 * worker + 3 * turn) % keys

-- keys of two numbers, once where they are equal
abbrev pub keys_once : ℕ → ℕ → List (List ℕ)
keys_once n m = if nat_eq n m then key_text n ∷ [] else key_text n ∷ key_text m ∷ []

-- the keys of a turn
abbrev pub turn_keys : ℕ → ℕ → ℕ → List (List ℕ)
turn_keys keys worker turn = keys_once (first_key keys worker turn) (second_key keys worker turn)
