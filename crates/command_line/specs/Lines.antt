-- The command lines of the program, as lists of words.
use Rattle.std.specs.Prelude.{ℕ, Bool, true, false, not, ◌==◌, ◌||◌, List, [], ◌∷◌, Option, Some, None}
use Rattle.std.specs.Prelude.{codes, if◌then◌else◌, length, nat_lt}
use Rattle.std.specs.List.{list_all, list_any, take_while}
use Rattle.std.specs.Str.{bytes_eq}
use Rattle.command_line.specs.declared.marks.Marks.{Marks}

-- the bytes of a word
abbrev pub Word : Type 0
Word = List ℕ

-- a command, with its words
pub data CommandLine : Type 0 where
  once : Word → Word → Word → Word → Word → Word → CommandLine
  format : Word → CommandLine
  play : Word → CommandLine
  inspect : Word → List Word → CommandLine
  drive : Word → CommandLine
  dump : Word → CommandLine
  history : Word → Word → CommandLine
  get : Word → Word → Option Word → CommandLine
  put : Word → Word → Word → CommandLine
  stats : List Word → CommandLine
  migrate : Word → Word → CommandLine
  compact : Word → Word → CommandLine

-- the word does not begin with `-` (45), or is no more than that
abbrev pub is_plain : Word → Bool
is_plain [] = true
is_plain (c ∷ []) = true
is_plain (c ∷ d ∷ cs) = not (c == 45)

-- no word begins with `-`
abbrev pub are_plain : List Word → Bool
are_plain = list_all is_plain

-- it is not the word that ends the flags
abbrev pub is_ahead : Word → Bool
is_ahead word = not (bytes_eq word (codes "--"))

-- the word is an option
abbrev pub is_mark : Word → Bool
is_mark word = bytes_eq word (codes "--raw") || (bytes_eq word (codes "--bytes")
    || (bytes_eq word (codes "--json") || bytes_eq word (codes "--table")))

-- an option is there, before any `--`
abbrev pub has_mark : Word → List Word → Bool
has_mark mark words = list_any (λ word. bytes_eq word mark) (take_while is_ahead words)

-- the options that are there
abbrev pub marks_of : List Word → Marks
marks_of words = record {
  raw = has_mark (codes "--raw") words;
  bytes = has_mark (codes "--bytes") words;
  json = has_mark (codes "--json") words;
  table = has_mark (codes "--table") words;
}

-- the words without the options before any `--`, where one was read or not
unfoldable pub unmarked_from : Bool → List Word → List Word
unmarked_from ended [] = []
unmarked_from ended (word ∷ words) =
    if ended || bytes_eq word (codes "--") then word ∷ unmarked_from true words
    else (if is_mark word then unmarked_from false words else word ∷ unmarked_from false words)

-- the words without the options
abbrev pub unmarked : List Word → List Word
unmarked words = unmarked_from false words

-- KEY VALUE E1 L1 E2 L2
abbrev pub once_of : List Word → Option CommandLine
once_of (key ∷ value ∷ e1 ∷ l1 ∷ e2 ∷ l2 ∷ []) = Some (once key value e1 l1 e2 l2)
once_of _ = None

-- FILE
abbrev pub one_file : (Word → CommandLine) → List Word → Option CommandLine
one_file command (file ∷ []) = Some (command file)
one_file command _ = None

-- LINES and 1 to 16 LOGs
abbrev pub inspect_of : List Word → Option CommandLine
inspect_of (lines ∷ log ∷ logs) = if nat_lt 16 (length (log ∷ logs)) then None else Some (inspect lines (log ∷ logs))
inspect_of _ = None

-- DIR KEY
abbrev pub history_of : List Word → Option CommandLine
history_of (dir ∷ key ∷ []) = Some (history dir key)
history_of _ = None

-- DIR KEY, and AT or nothing
abbrev pub get_of : List Word → Option CommandLine
get_of (dir ∷ key ∷ []) = Some (get dir key None)
get_of (dir ∷ key ∷ at ∷ []) = Some (get dir key (Some at))
get_of _ = None

-- DIR KEY VALUE
abbrev pub put_of : List Word → Option CommandLine
put_of (dir ∷ key ∷ value ∷ []) = Some (put dir key value)
put_of _ = None

-- 1 to 16 LOGs
abbrev pub stats_of : List Word → Option CommandLine
stats_of (log ∷ logs) = if nat_lt 16 (length (log ∷ logs)) then None else Some (stats (log ∷ logs))
stats_of [] = None

-- OLD NEW
abbrev pub two_files : (Word → Word → CommandLine) → List Word → Option CommandLine
two_files command (old ∷ new ∷ []) = Some (command old new)
two_files command _ = None

-- the command line that the words are
abbrev pub line_of : List Word → Option CommandLine
line_of [] = None
line_of (name ∷ rest) =
    if bytes_eq (codes "once") name then once_of rest
    else (if bytes_eq (codes "format") name then one_file format rest
    else (if bytes_eq (codes "play") name then one_file play rest
    else (if bytes_eq (codes "inspect") name then inspect_of rest
    else (if bytes_eq (codes "drive") name then one_file drive rest
    else (if bytes_eq (codes "dump") name then one_file dump rest
    else (if bytes_eq (codes "history") name then history_of rest
    else (if bytes_eq (codes "get") name then get_of rest
    else (if bytes_eq (codes "put") name then put_of rest
    else (if bytes_eq (codes "stats") name then stats_of rest
    else (if bytes_eq (codes "migrate") name then two_files migrate rest
    else (if bytes_eq (codes "compact") name then two_files compact rest
    else None)))))))))))
