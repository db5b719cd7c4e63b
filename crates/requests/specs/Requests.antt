-- What lines ask for.
use Rattle.std.specs.Prelude.{◌&&◌, ◌==◌, ◌^◌, ◌||◌, ℕ, List, [], ◌∷◌, Option, Some, None, Result, Ok, Err, codes, length, nat_le, nat_lt, if◌then◌else◌}
use Rattle.std.specs.List.{after_first, before_first, slice_split}
use Rattle.std.specs.Result.{result_ok}
use Rattle.std.specs.Str.{bytes_eq}
use Rattle.units.specs.Ids.{Id}
use Rattle.units.specs.Keys.{Bytes}
use Rattle.units.specs.declared.fault.Fault.{Fault}
use Rattle.units.specs.declared.fault.Fault.TheVariants.{BadRequest}
use Rattle.units.specs.declared.fault.Reason.TheVariants as reason
use Rattle.texts.specs.Numbers.{and_then, number_of, stamp_of}
use Rattle.requests.specs.Spelling.{unspelled}
use Rattle.requests.specs.declared.asked.Request.{Request}
use Rattle.requests.specs.declared.asked.Request.TheVariants.{Begin, Get, Put, Erase, Commit, Abort, View, ViewAt, Keys, End, Outcome, Stats, Help, Quit}

-- the bytes of a word
abbrev pub Word : Type 0
Word = List ℕ

-- what a line may ask for: as `Request`, with bytes for keys and values
pub data Asked : Type 0 where
  begin : Asked
  gets : List Bytes → Asked
  put : Bytes → Bytes → Asked
  erase : Bytes → Asked
  commit : Asked
  give_up : Asked
  view : Asked
  view_at : ℕ → Asked
  listing : Bytes → Option Bytes → ℕ → Asked
  close : Asked
  outcome : Id → Asked
  stats : Asked
  help : Asked
  quit : Asked

-- the key that a word spells
abbrev pub key_in : Option Bytes → Result Bytes Fault
key_in None = Err (BadRequest reason.Command)
key_in (Some bytes) = if nat_le 1 (length bytes) && nat_le (length bytes) 64 then Ok bytes else Err (BadRequest reason.Key)

abbrev pub key_of : Word → Result Bytes Fault
key_of word = key_in (unspelled word)

-- the value that a word spells
abbrev pub value_in : Option Bytes → Result Bytes Fault
value_in None = Err (BadRequest reason.Command)
value_in (Some bytes) = if nat_le (length bytes) 4096 then Ok bytes else Err (BadRequest reason.Value)

abbrev pub value_of : Word → Result Bytes Fault
value_of word = value_in (unspelled word)

-- the keys of some words, of which the first bad one counts
abbrev pub keys_of : List Word → Result (List Bytes) Fault
keys_of [] = Ok []
keys_of (word ∷ rest) = and_then (key_of word) (λ k. and_then (keys_of rest) (λ ks. Ok (k ∷ ks)))

-- KEY.., 1 to 128
abbrev pub get_of : List Word → Result Asked Fault
get_of [] = Err (BadRequest reason.Command)
get_of words = if nat_lt 128 (length words) then Err (BadRequest reason.Many) else and_then (keys_of words) (λ ks. Ok (gets ks))

-- KEY VALUE
abbrev pub put_of_words : Word → Word → Result Asked Fault
put_of_words key value = and_then (key_of key) (λ k. and_then (value_of value) (λ v. Ok (put k v)))

abbrev pub put_of : List Word → Result Asked Fault
put_of (key ∷ value ∷ []) = put_of_words key value
put_of _ = Err (BadRequest reason.Command)

-- KEY
abbrev pub erase_of : List Word → Result Asked Fault
erase_of (key ∷ []) = and_then (key_of key) (λ k. Ok (erase k))
erase_of _ = Err (BadRequest reason.Command)

-- AT, or nothing for the present
abbrev pub view_of : List Word → Result Asked Fault
view_of [] = Ok view
view_of (at ∷ []) = and_then (stamp_of at) (λ s. Ok (view_at s))
view_of _ = Err (BadRequest reason.Command)

-- how many keys a page has at most, 1 to 1,000
abbrev pub limit_of : Word → Result ℕ Fault
limit_of word = and_then (number_of word) (λ n. if nat_le 1 n && nat_le n 1000 then Ok n else Err (BadRequest reason.Many))

-- the end of a range, or the empty word if there is none
abbrev pub end_of : Word → Result (Option Bytes) Fault
end_of [] = Ok None
end_of (c ∷ rest) = and_then (key_of (c ∷ rest)) (λ k. Ok (Some k))

-- FROM TO LIMIT
abbrev pub list_of_words : Word → Word → Word → Result Asked Fault
list_of_words from to limit = and_then (key_of from) (λ f. and_then (end_of to) (λ t. and_then (limit_of limit) (λ n. Ok (listing f t n))))

abbrev pub list_last : Word → Word → Word → List Word → Result Asked Fault
list_last from to limit [] = list_of_words from to limit
list_last from to limit _ = Err (BadRequest reason.Command)

abbrev pub list_to : Word → Word → List Word → Result Asked Fault
list_to from to [] = Err (BadRequest reason.Command)
list_to from to (limit ∷ rest) = list_last from to limit rest

abbrev pub list_from : Word → List Word → Result Asked Fault
list_from from [] = Err (BadRequest reason.Command)
list_from from (to ∷ rest) = list_to from to rest

abbrev pub list_of : List Word → Result Asked Fault
list_of [] = Err (BadRequest reason.Command)
list_of (from ∷ rest) = list_from from rest

-- the number that a word spells, if it is one
abbrev pub number_in : Word → Option ℕ
number_in word = result_ok (number_of word)

-- the id of these numbers: the run's, from 1 on, and that in the run, both below 2 ^ 62
abbrev pub id_in : Option ℕ → Option ℕ → Option Id
id_in (Some run) (Some number) =
    if nat_le 1 run && (nat_lt run (2 ^ 62) && nat_lt number (2 ^ 62)) then Some (record { run = run; number = number }) else None
id_in _ _ = None

-- the id that a word spells: two numbers with a dot (46) between them
abbrev pub id_of : Word → Option Id
id_of word = id_in (number_in (before_first (λ c. c == 46) word)) (number_in (after_first (λ c. c == 46) word))

abbrev pub outcome_in : Option Id → Result Asked Fault
outcome_in (Some t) = Ok (outcome t)
outcome_in None = Err (BadRequest reason.Command)

-- ID
abbrev pub outcome_of : List Word → Result Asked Fault
outcome_of (word ∷ []) = outcome_in (id_of word)
outcome_of _ = Err (BadRequest reason.Command)

-- nothing
abbrev pub alone : Asked → List Word → Result Asked Fault
alone asked [] = Ok asked
alone asked _ = Err (BadRequest reason.Command)

-- what a verb asks for, with the words behind it
abbrev pub asked_by : Word → List Word → Result Asked Fault
asked_by verb rest =
    if bytes_eq (codes "begin") verb then alone begin rest
    else (if bytes_eq (codes "get") verb then get_of rest
    else (if bytes_eq (codes "put") verb then put_of rest
    else (if bytes_eq (codes "erase") verb then erase_of rest
    else (if bytes_eq (codes "commit") verb then alone commit rest
    else (if bytes_eq (codes "abort") verb then alone give_up rest
    else (if bytes_eq (codes "view") verb then view_of rest
    else (if bytes_eq (codes "keys") verb then list_of rest
    else (if bytes_eq (codes "end") verb then alone close rest
    else (if bytes_eq (codes "outcome") verb then outcome_of rest
    else (if bytes_eq (codes "stats") verb then alone stats rest
    else (if bytes_eq (codes "help") verb then alone help rest
    else (if bytes_eq (codes "quit") verb then alone quit rest
    else Err (BadRequest reason.Command)))))))))))))

-- what some words ask for
abbrev pub asked_of : List Word → Result Asked Fault
asked_of [] = Err (BadRequest reason.Command)
asked_of (verb ∷ rest) = asked_by verb rest

-- a request as what is asked
abbrev pub asked_as : Request → Asked
asked_as Begin = begin
asked_as (Get keys) = gets keys.items
asked_as (Put key value) = put key value
asked_as (Erase key) = erase key
asked_as Commit = commit
asked_as Abort = give_up
asked_as View = view
asked_as (ViewAt at) = view_at at
asked_as (Keys from to limit) = listing from to limit
asked_as End = close
asked_as (Outcome t) = outcome t
asked_as Stats = stats
asked_as Help = help
asked_as Quit = quit

-- the words of a line, which one blank (32) parts
abbrev pub words_of : List ℕ → List Word
words_of line = slice_split (λ c. c == 32) line

-- whose line it is, and what it asks: the number of its first word, and what stands behind the blank; or client 0's, and all of it
abbrev pub addressed : Option ℕ → List ℕ → ℕ × List ℕ
addressed (Some n) line = (n, after_first (λ c. c == 32) line)
addressed None line = (0, line)

abbrev pub of_client : List ℕ → ℕ × List ℕ
of_client line = addressed (number_in (before_first (λ c. c == 32) line)) line
