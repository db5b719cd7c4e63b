-- The commands that the words of a command line ask for.
use Rattle.std.specs.Prelude.{◌&&◌, ◌||◌, ℕ, Bool, true, false, not, List, Option, Some, None, Result, Ok, Err, codes, is_some, length, if◌then◌else◌, nat_le}
use Rattle.std.specs.Str.{bytes_eq}
use Rattle.units.specs.declared.fault.Fault.{Fault}
use Rattle.units.specs.declared.fault.Fault.TheVariants.{BadRequest}
use Rattle.units.specs.declared.fault.Reason.TheVariants as reason
use Rattle.truetime.specs.Interval.{Interval}
use Rattle.command_line.specs.Lines.{CommandLine, Word, are_plain, line_of, marks_of, unmarked, once, format, play, inspect, drive, dump, history, get, put, stats}
use Rattle.command_line.specs.Lines.{migrate, compact}
use Rattle.command_line.specs.Help.{told_of}
use Rattle.command_line.specs.Parser.{entry_of}
use Rattle.command_line.specs.declared.marks.Marks.{Marks}
use Rattle.command_line.specs.declared.commands.Form.{Form}
use Rattle.command_line.specs.declared.commands.Form.TheVariants.{Line, Raw, Json}
use Rattle.requests.specs.Spelling.{unspelled}
use Rattle.texts.specs.Numbers.{and_then, interval_of, stamp_of}

-- where the value of a write comes from: a word told these bytes, or standard input has it
pub data Given : Type 0 where
  word_given : Word → Given
  input_given : Given

-- what words may ask for: a text, which is printed; a write of a value to a key at the readings of its commit and of its settling; a new log
-- file; the report of a schedule in a file; the verdict on a file of lines and some logs; a drive by settings in a file; what a
-- log in a file holds; what the log of a store in a folder says of a key; the value of a key there, at a timestamp or the latest, in a form;
-- a write of a value to a key there; what some logs hold in figures; a new file with the log of a file of version 1;
-- a new file with the records of a log alone. A drive may tell its table, and what logs hold may be told as JSON
pub data Asked : Type 0 where
  told_asked : List ℕ → Asked
  once_asked : Word → Word → Interval → Interval → Asked
  format_asked : Word → Asked
  play_asked : Word → Asked
  inspect_asked : Word → List Word → Asked
  drive_asked : Word → Bool → Asked
  dump_asked : Word → Bool → Asked
  history_asked : Word → Word → Bool → Asked
  get_asked : Word → Word → Option ℕ → Form → Asked
  put_asked : Word → Word → Given → Asked
  stats_asked : List Word → Bool → Asked
  migrate_asked : Word → Word → Asked
  compact_asked : Word → Word → Asked

-- a key is the bytes of its word
abbrev pub key_of : Word → Result Word Fault
key_of word = if nat_le 1 (length word) && nat_le (length word) 64 then Ok word else Err (BadRequest reason.Key)

-- a value is the bytes of its word
abbrev pub value_of : Word → Result Word Fault
value_of word = if nat_le (length word) 4096 then Ok word else Err (BadRequest reason.Value)

-- the bytes that a word spells, where it spells any
abbrev pub or_no_word : Option Word → Result Word Fault
or_no_word (Some bytes) = Ok bytes
or_no_word None = Err (BadRequest reason.Command)

abbrev pub spelled_of : Word → Result Word Fault
spelled_of word = or_no_word (unspelled word)

-- a key of a store is what its word spells
abbrev pub spelled_key_of : Word → Result Word Fault
spelled_key_of word = and_then (spelled_of word) key_of

-- the words of `once` from the left: a key, a value, and the readings of the commit and of its settling
abbrev pub once_of_words : Word → Word → Word → Word → Word → Word → Result Asked Fault
once_of_words key value e1 l1 e2 l2 =
    and_then (key_of key) (λ k. and_then (value_of value) (λ v. and_then (interval_of e1 l1) (λ first. and_then (interval_of e2 l2) (λ second.
    Ok (once_asked k v first second)))))

-- a timestamp, where there is a word for it
abbrev pub at_of : Option Word → Result (Option ℕ) Fault
at_of None = Ok None
at_of (Some word) = and_then (stamp_of word) (λ at. Ok (Some at))

-- the words of `history`: a folder and a key
abbrev pub history_of_words : Bool → Word → Word → Result Asked Fault
history_of_words json dir key = and_then (spelled_key_of key) (λ k. Ok (history_asked dir k json))

-- the form that the options choose
abbrev pub form_of : Marks → Form
form_of marks = if marks.raw then Raw else (if marks.json then Json else Line)

-- the words of `get`: a folder, a key and a timestamp
abbrev pub get_of_words : Form → Word → Word → Option Word → Result Asked Fault
get_of_words form dir key at = and_then (spelled_key_of key) (λ k. and_then (at_of at) (λ s. Ok (get_asked dir k s form)))

-- the bytes that the word of a value tells: its own, or those that it spells
abbrev pub told_bytes : Bool → Word → Result Word Fault
told_bytes raw word = if raw then Ok word else spelled_of word

-- where the word of a value has it come from
abbrev pub given_of : Bool → Word → Result Given Fault
given_of raw word = if bytes_eq word (codes "-") then Ok input_given
    else and_then (and_then (told_bytes raw word) value_of) (λ v. Ok (word_given v))

-- the words of `put`: a folder, a key and a value
abbrev pub put_of_words : Bool → Word → Word → Word → Result Asked Fault
put_of_words raw dir key value = and_then (spelled_key_of key) (λ k. and_then (given_of raw value) (λ v. Ok (put_asked dir k v)))

-- options: those of `get`, of `put`, of what tells of logs, and of `drive`
abbrev pub get_marks : Marks
get_marks = record { raw = true; bytes = false; json = true; table = false }

abbrev pub put_marks : Marks
put_marks = record { raw = true; bytes = true; json = false; table = false }

abbrev pub log_marks : Marks
log_marks = record { raw = false; bytes = false; json = true; table = false }

abbrev pub drive_marks : Marks
drive_marks = record { raw = false; bytes = false; json = false; table = true }

abbrev pub no_marks : Marks
no_marks = record { raw = false; bytes = false; json = false; table = false }

-- the options that a command takes
abbrev pub marks_for : Word → Marks
marks_for name =
    if bytes_eq name (codes "get") then get_marks
    else (if bytes_eq name (codes "put") then put_marks
    else (if bytes_eq name (codes "history") then log_marks
    else (if bytes_eq name (codes "dump") then log_marks
    else (if bytes_eq name (codes "stats") then log_marks
    else (if bytes_eq name (codes "drive") then drive_marks
    else no_marks)))))

-- each of some options is among others
abbrev pub are_within : Marks → Marks → Bool
are_within marks others =
    (not marks.raw || others.raw) && ((not marks.bytes || others.bytes) && ((not marks.json || others.json) && (not marks.table || others.table)))

-- they choose no two forms
abbrev pub choose_one : Marks → Bool
choose_one marks = not (marks.raw && (marks.bytes || marks.json))

-- a command takes these options
abbrev pub takes : Marks → Word → Bool
takes marks name = choose_one marks && are_within marks (marks_for name)

-- the command of a line
abbrev pub command_of_line : Marks → CommandLine → Result Asked Fault
command_of_line marks (once key value e1 l1 e2 l2) = once_of_words key value e1 l1 e2 l2
command_of_line marks (format file) = Ok (format_asked file)
command_of_line marks (play file) = Ok (play_asked file)
command_of_line marks (inspect lines logs) = Ok (inspect_asked lines logs)
command_of_line marks (drive file) = Ok (drive_asked file marks.table)
command_of_line marks (dump file) = Ok (dump_asked file marks.json)
command_of_line marks (history dir key) = history_of_words marks.json dir key
command_of_line marks (get dir key at) = get_of_words (form_of marks) dir key at
command_of_line marks (put dir key value) = put_of_words marks.raw dir key value
command_of_line marks (stats logs) = Ok (stats_asked logs marks.json)
command_of_line marks (migrate old new) = Ok (migrate_asked old new)
command_of_line marks (compact old new) = Ok (compact_asked old new)

-- and what is no line, or has an option that its command does not take, is refused
abbrev pub command_or_refusal : Marks → Option CommandLine → Result Asked Fault
command_or_refusal marks None = Err (BadRequest reason.Command)
command_or_refusal marks (Some line) =
    if takes marks (entry_of line).0 then command_of_line marks line else Err (BadRequest reason.Command)

-- a text is printed, where there is one, and else the command is carried out
abbrev pub told_or : Option (List ℕ) → Result Asked Fault → Result Asked Fault
told_or (Some text) asked = Ok (told_asked text)
told_or None asked = asked

-- the command that the words ask for
abbrev pub command_of : List Word → Result Asked Fault
command_of words = told_or (told_of words) (command_or_refusal (marks_of words) (line_of (unmarked words)))

-- the words of which it is said what they ask for: beside their options none begins with `-`, or they ask for a text
abbrev pub are_covered : List Word → Bool
are_covered words = are_plain (unmarked words) || is_some (told_of words)
