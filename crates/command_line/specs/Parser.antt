-- What the parser of command lines is made of, and what it finds in a line.
use Rattle.std.specs.Prelude.{ℕ, List, [], ◌∷◌, Some, None, true, codes, fold, max, nat_lt}
use Rattle.clap.specs.Words.{App, Row, Rule, Shape, Text, new_app, new_rule, with_rule, with_subcommand}
use Rattle.clap.specs.declared.parser.matches.ValueSource.TheVariants.{CommandLine as given}
use Rattle.clap.specs.declared.builder.value_parser.Reading.TheVariants.{AsWritten}
use Rattle.command_line.specs.Lines.{CommandLine, Word, once, format, play, inspect, drive, dump, history, get, put, stats, migrate, compact}

-- an argument of which 1 to `most` words have to be given, or one that may be left out where that is 0
abbrev pub needed : Text × ℕ → Rule
needed word = record (new_rule word.0) {
  required = nat_lt 0 word.1;
  range = Some (record { start_inclusive = 1; end_inclusive = max word.1 1 });
}

-- a command with its arguments
abbrev pub command_app : Text → List (Text × ℕ) → App
command_app name words = fold (λ app word. with_rule app (needed word)) (new_app name) words

-- KEY VALUE E1 L1 E2 L2
abbrev pub once_app : App
once_app = command_app (codes "once")
    ((codes "key", 1) ∷ (codes "value", 1) ∷ (codes "e1", 1) ∷ (codes "l1", 1) ∷ (codes "e2", 1) ∷ (codes "l2", 1) ∷ [])

-- FILE
abbrev pub file_app : Text → App
file_app name = command_app name ((codes "file", 1) ∷ [])

-- LINES and 1 to 16 LOGs
abbrev pub inspect_app : App
inspect_app = command_app (codes "inspect") ((codes "lines", 1) ∷ (codes "logs", 16) ∷ [])

-- DIR KEY
abbrev pub history_app : App
history_app = command_app (codes "history") ((codes "dir", 1) ∷ (codes "key", 1) ∷ [])

-- DIR KEY, and AT or nothing
abbrev pub get_app : App
get_app = command_app (codes "get") ((codes "dir", 1) ∷ (codes "key", 1) ∷ (codes "at", 0) ∷ [])

-- DIR KEY VALUE
abbrev pub put_app : App
put_app = command_app (codes "put") ((codes "dir", 1) ∷ (codes "key", 1) ∷ (codes "value", 1) ∷ [])

-- 1 to 16 LOGs
abbrev pub stats_app : App
stats_app = command_app (codes "stats") ((codes "logs", 16) ∷ [])

-- OLD NEW
abbrev pub pair_app : Text → App
pair_app name = command_app name ((codes "old", 1) ∷ (codes "new", 1) ∷ [])

-- the commands
abbrev pub shapes : List Shape
shapes = once_app.top ∷ (file_app (codes "format")).top ∷ (file_app (codes "play")).top ∷ inspect_app.top ∷ (file_app (codes "drive")).top
    ∷ (file_app (codes "dump")).top ∷ history_app.top ∷ get_app.top ∷ put_app.top ∷ stats_app.top
    ∷ (pair_app (codes "migrate")).top ∷ (pair_app (codes "compact")).top ∷ []

-- the program: one command is wanted
abbrev pub bare_app : App
bare_app = record (new_app (codes "shards")) {
  top = record (new_app (codes "shards")).top {
    no_binary_name = true;
    disable_help_subcommand = true;
    subcommand_required = true;
  };
}

-- the program with its commands
abbrev pub shards_app : App
shards_app = fold with_subcommand bare_app shapes

-- an argument with its words
abbrev pub row_with : Text → List Word → Row
row_with id words = record {
  id = id;
  values = words;
  count = None;
  source = Some given;
  reading = AsWritten;
}

-- an argument with its word
abbrev pub row : Text → Word → Row
row id word = row_with id (word ∷ [])

-- the command that the parser enters, with its arguments
abbrev pub entry_of : CommandLine → Text × List Row
entry_of (once key value e1 l1 e2 l2) = (
  codes "once",
  row (codes "key") key ∷ row (codes "value") value ∷ row (codes "e1") e1 ∷ row (codes "l1") l1
      ∷ row (codes "e2") e2 ∷ row (codes "l2") l2 ∷ [],
)
entry_of (format file) = (codes "format", row (codes "file") file ∷ [])
entry_of (play file) = (codes "play", row (codes "file") file ∷ [])
entry_of (inspect lines logs) = (codes "inspect", row (codes "lines") lines ∷ row_with (codes "logs") logs ∷ [])
entry_of (drive file) = (codes "drive", row (codes "file") file ∷ [])
entry_of (dump file) = (codes "dump", row (codes "file") file ∷ [])
entry_of (history dir key) = (codes "history", row (codes "dir") dir ∷ row (codes "key") key ∷ [])
entry_of (get dir key None) = (codes "get", row (codes "dir") dir ∷ row (codes "key") key ∷ [])
entry_of (get dir key (Some at)) = (codes "get", row (codes "dir") dir ∷ row (codes "key") key ∷ row (codes "at") at ∷ [])
entry_of (put dir key value) = (codes "put", row (codes "dir") dir ∷ row (codes "key") key ∷ row (codes "value") value ∷ [])
entry_of (stats logs) = (codes "stats", row_with (codes "logs") logs ∷ [])
entry_of (migrate old new) = (codes "migrate", row (codes "old") old ∷ row (codes "new") new ∷ [])
entry_of (compact old new) = (codes "compact", row (codes "old") old ∷ row (codes "new") new ∷ [])
