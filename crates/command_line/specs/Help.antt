-- What is printed to whoever asks for help or for the version.
use Rattle.std.specs.Prelude.{ℕ, Bool, false, ◌||◌, List, [], ◌∷◌, Option, Some, None, codes, if◌then◌else◌}
use Rattle.std.specs.Str.{bytes_eq}
use Rattle.command_line.specs.Lines.{Word, has_mark}
use Rattle.command_line.specs.declared.usage.TheConstants.{PAGE, VERSION, GET, PUT, HISTORY, STATS, DUMP, INSPECT, DRIVE, FORMAT}
use Rattle.command_line.specs.declared.usage.TheConstants.{MIGRATE, COMPACT, PLAY, ONCE, MAKE, SERVE, EXPORT, IMPORT, BACKUP, RENEW}

-- what is told of a command, or the page where the word is none
abbrev pub paragraph_of : Word → List ℕ
paragraph_of name =
    if bytes_eq name (codes "get") then GET.now
    else (if bytes_eq name (codes "put") then PUT.now
    else (if bytes_eq name (codes "history") then HISTORY.now
    else (if bytes_eq name (codes "stats") then STATS.now
    else (if bytes_eq name (codes "dump") then DUMP.now
    else (if bytes_eq name (codes "inspect") then INSPECT.now
    else (if bytes_eq name (codes "drive") then DRIVE.now
    else (if bytes_eq name (codes "format") then FORMAT.now
    else (if bytes_eq name (codes "migrate") then MIGRATE.now
    else (if bytes_eq name (codes "compact") then COMPACT.now
    else (if bytes_eq name (codes "play") then PLAY.now
    else (if bytes_eq name (codes "once") then ONCE.now
    else (if bytes_eq name (codes "make") then MAKE.now
    else (if bytes_eq name (codes "serve") then SERVE.now
    else (if bytes_eq name (codes "export") then EXPORT.now
    else (if bytes_eq name (codes "import") then IMPORT.now
    else (if bytes_eq name (codes "backup") then BACKUP.now
    else (if bytes_eq name (codes "renew") then RENEW.now
    else PAGE.now)))))))))))))))))

-- one of the words, before any `--`, is `-h` or `--help`
abbrev pub asks_help : List Word → Bool
asks_help words = has_mark (codes "-h") words || has_mark (codes "--help") words

-- the first word is this one
abbrev pub begins_with : Word → List Word → Bool
begins_with text [] = false
begins_with text (word ∷ words) = bytes_eq word text

-- the first word, and the second one where the first is `help`, `-h` or `--help`
abbrev pub topic_of : List Word → Word
topic_of [] = []
topic_of (word ∷ []) = word
topic_of (word ∷ next ∷ words) = if bytes_eq word (codes "help") || (bytes_eq word (codes "-h") || bytes_eq word (codes "--help")) then next else word

-- what is printed to whoever asks for help or for the version, and does nothing else
abbrev pub told_of : List Word → Option (List ℕ)
told_of words =
    if begins_with (codes "help") words || asks_help words then Some (paragraph_of (topic_of words))
    else (if begins_with (codes "--version") words || begins_with (codes "version") words then Some VERSION.now else None)
