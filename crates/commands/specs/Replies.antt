-- What the commands print, and their status.
use Rattle.std.specs.Prelude.{◌≡◌, ◌⊎◌, ◌++◌, ◌∷◌, ℕ, zero, suc, Bool, List, [], Option, Some, None, true, false, Result, Ok, Err, codes}
use Rattle.std.specs.Fmt.{decimal}
use Rattle.units.specs.Keys.{Bytes}
use Rattle.units.specs.declared.fault.Fault.{Fault}
use Rattle.units.specs.declared.line.Verdict.{Verdict}
use Rattle.command_line.specs.Commands.{Asked, command_of, told_asked, once_asked, format_asked, play_asked, inspect_asked, drive_asked, dump_asked}
use Rattle.command_line.specs.Commands.{history_asked, get_asked, put_asked, stats_asked, migrate_asked, compact_asked}
use Rattle.command_line.specs.Lines.{Word}
use Rattle.command_line.specs.declared.commands.Form.{Form}
use Rattle.command_line.specs.declared.commands.Form.TheVariants.{Line, Raw, Json}
use Rattle.client.specs.declared.ended.Ended.{Ended}
use Rattle.commands.specs.Drives.{Driving}
use Rattle.commands.specs.Puts.{IsGiven, Said, put_status, put_text}
use Rattle.once.specs.Replies.{once_reply}
use Rattle.output.specs.Replies.{Expected}
use Rattle.output.specs.Verdicts.{exit_status, text_of}
use Rattle.showing.specs.Dumps.{IsADump}
use Rattle.showing.specs.HistoryTexts.{IsAHistory, IsAValue}
use Rattle.showing.specs.Json.{IsAJsonHistory, IsAJsonValue}
use Rattle.showing.specs.JsonTexts.{AreJsonStats, IsAJsonDump}
use Rattle.showing.specs.StatsTexts.{AreStats}

-- what a command prints, where its words tell it; the rest is told by files
abbrev pub reply_of : Asked → Expected
reply_of (told_asked text) = Some (Ok (text, 0))
reply_of (once_asked key value first second) = Some (once_reply first second)
reply_of (format_asked file) = None
reply_of (play_asked file) = None
reply_of (inspect_asked lines logs) = None
reply_of (drive_asked file table) = None
reply_of (dump_asked file json) = None
reply_of (history_asked dir key json) = None
reply_of (get_asked dir key at form) = None
reply_of (put_asked dir key value) = None
reply_of (stats_asked logs json) = None
reply_of (migrate_asked old new) = None
reply_of (compact_asked old new) = None

-- and what is no command is refused
abbrev pub reply_or_refusal : Result Asked Fault → Expected
reply_or_refusal (Ok asked) = reply_of asked
reply_or_refusal (Err fault) = Some (Err fault)

-- what a command line is answered
abbrev pub reply_to : List Word → Expected
reply_to words = reply_or_refusal (command_of words)

-- the bytes of a value alone, where there is one, and the status
abbrev pub raw_text : Option Bytes → List ℕ
raw_text (Some bytes) = bytes
raw_text None = []

abbrev pub raw_status : Option Bytes → ℕ
raw_status (Some bytes) = 0
raw_status None = 1

-- what is told of the value of a key: a line of text or of JSON; or its bytes alone
abbrev pub IsToldOf : Form → ℕ → List ℕ → Type 0
IsToldOf Line status text = (status ≡ 0) × IsAValue text
IsToldOf Json status text = (status ≡ 0) × IsAJsonValue text
IsToldOf Raw status text = (value : Option Bytes) × (status ≡ raw_status value) × (text ≡ raw_text value)

-- a history, as JSON or not
abbrev pub IsHistoryAs : Bool → List ℕ → Type 0
IsHistoryAs false text = IsAHistory text
IsHistoryAs true text = IsAJsonHistory text

-- a dump, as JSON or not
abbrev pub IsDumpAs : Bool → List ℕ → Type 0
IsDumpAs false text = IsADump text
IsDumpAs true text = IsAJsonDump text

-- the log of a shard in a folder, and those of so many shards
abbrev pub log_name : Word → ℕ → Word
log_name folder shard = folder ++ (codes "/shard-" ++ (decimal shard ++ codes ".log"))

unfoldable pub log_names : Word → ℕ → List Word
log_names folder zero = []
log_names folder (suc shards) = log_names folder shards ++ log_name folder shards ∷ []

abbrev pub AreLogsOf : Word → List Word → Type 0
AreLogsOf folder names = (shards : ℕ) × (names ≡ log_names folder shards)

-- the logs that some words name: themselves, or those in the one folder
abbrev pub AreNamed : List Word → List Word → Type 0
AreNamed words names = (names ≡ words) ⊎ ((folder : Word) × (words ≡ folder ∷ []) × AreLogsOf folder names)

-- the numbers of the logs of these names, as JSON or not
abbrev pub AreStatsIn : Bool → List Word → List ℕ → Type 0
AreStatsIn false names text = AreStats names text
AreStatsIn true names text = AreJsonStats names text

abbrev pub AreStatsAs : Bool → List Word → List ℕ → Type 0
AreStatsAs json words text = (names : List Word) × AreNamed words names × AreStatsIn json names text

-- what a command has printed that was carried out, whatever files hold: nothing, a verdict that goes with its status, or the
-- lines of a dump, of a history or of a value, or numbers of logs by their names; or what came of a drive, whose verdict its status goes with,
-- and what became of a write, by what may come of one and become of the other
abbrev pub Tells : Driving → Said → Asked → ℕ → List ℕ → Type 0
Tells drives puts (told_asked words) status text = Unit {0}
Tells drives puts (once_asked key value first second) status text = Unit {0}
Tells drives puts (format_asked file) status text = (status ≡ 0) × (text ≡ [])
Tells drives puts (play_asked file) status text = status ≡ 0
Tells drives puts (inspect_asked lines logs) status text =
    (verdict : Verdict) × (status ≡ exit_status verdict) × (text ≡ text_of verdict ++ codes "\n")
Tells drives puts (drive_asked file table) status text = (verdict : Verdict) × drives text verdict × (status ≡ exit_status verdict)
Tells drives puts (dump_asked file json) status text = (status ≡ 0) × IsDumpAs json text
Tells drives puts (history_asked dir key json) status text = (status ≡ 0) × IsHistoryAs json text
Tells drives puts (get_asked dir key at form) status text = IsToldOf form status text
Tells drives puts (put_asked dir key given) status text =
    (value : List ℕ) × (ended : Ended) × IsGiven given value × puts dir key value ended × (status ≡ put_status ended) × (text ≡ put_text ended)
Tells drives puts (stats_asked logs json) status text = (status ≡ 0) × AreStatsAs json logs text
Tells drives puts (migrate_asked old new) status text = (status ≡ 0) × (text ≡ [])
Tells drives puts (compact_asked old new) status text = (status ≡ 0) × (text ≡ [])

-- what the command that some words ask for has printed
abbrev pub TellsTo : Driving → Said → Result Asked Fault → ℕ → List ℕ → Type 0
TellsTo drives puts (Ok asked) status text = Tells drives puts asked status text
TellsTo drives puts (Err fault) status text = ⊥
