-- Dumps and numbers of logs, as JSON.
use Rattle.std.specs.Prelude.{◌≡◌, ℕ, List, [], ◌∷◌, ◌++◌, Some, Ok, codes, flat_map, length, map, nat_lt, if◌then◌else◌}
use Rattle.std.specs.Fmt.{decimal}
use Rattle.disk.specs.File.{File, surface}
use Rattle.frames.specs.Placed.{Placed}
use Rattle.showing.specs.Dumps.{dump_of}
use Rattle.showing.specs.Json.{dated, txn_json}
use Rattle.showing.specs.StatsTexts.{AreNumbersOf, ToldLog, field_json, log_json, standing_word, sum_of, summed}
use Rattle.showing.specs.declared.reading.End.{End}
use Rattle.showing.specs.declared.reading.End.TheVariants.{Closed, Torn}
use Rattle.showing.specs.declared.stats.InDoubt.{InDoubt}
use Rattle.showing.specs.declared.stats.Numbers.{Numbers}

-- some texts, with a comma between two
abbrev pub after_comma : List ℕ → List ℕ
after_comma text = codes "," ++ text

abbrev pub commas : List (List ℕ) → List ℕ
commas [] = []
commas (text ∷ more) = text ++ flat_map after_comma more

-- what stands before the next one of so many
abbrev pub mark_after : ℕ → List ℕ
mark_after count = if nat_lt 0 count then codes "," else []

-- ---- dumps

-- an offset and what is told of its record, on a line
abbrev pub entry_json : ℕ × List ℕ → List ℕ
entry_json told = codes "{\"offset\":" ++ (decimal told.0 ++ (told.1 ++ codes "}\n"))

-- how a file ends, on a line
abbrev pub end_json : End → List ℕ
end_json (Closed gate) = codes "{\"closed at\":" ++ (decimal gate ++ codes "}\n")
end_json (Torn gate) = codes "{\"torn at\":" ++ (decimal gate ++ codes "}\n")

-- it is a line for each entry, in order, with its offset; how its record is told no definition says
pub record AreEntries (entries : List Placed) (text : List ℕ) : Type 0 where
  pub rows : List (ℕ × List ℕ)
  pub offsets : map (λ r. r.0) rows ≡ map (λ e. e.offset) entries
  pub lines : text ≡ flat_map entry_json rows

-- and then how the file ends
abbrev pub IsDumpJson : List Placed → End → List ℕ → Type 0
IsDumpJson entries end text = (lines : List ℕ) × AreEntries entries lines × (text ≡ lines ++ end_json end)

abbrev pub IsAJsonDump : List ℕ → Type 0
IsAJsonDump text = (entries : List Placed) × (end : End) × IsDumpJson entries end text

-- on disks that keep the model it is the text of a disk that was opened under this name
abbrev pub IsJsonDumpOf : {D : Type 0} → Type 0 → (D → File) → (List ℕ → D → Type 0) → List ℕ → List ℕ → Type 0
IsJsonDumpOf {D} keeps file named name text =
    (disk : D) × named name disk
    × (keeps → (entries : List Placed) × (end : End) × (dump_of (surface (file disk)).seen ≡ Ok (entries, end)) × IsDumpJson entries end text)

-- ---- numbers

-- a transaction in doubt, and the date of its timestamp
pub record DatedDoubt : Type 0 where
  pub doubt : InDoubt
  pub date : List ℕ

abbrev pub doubt_json : DatedDoubt → List ℕ
doubt_json one =
    codes "{" ++ (dated (codes "at") (codes "date") one.doubt.at one.date
    ++ (codes ",\"txn\":" ++ (txn_json (Some one.doubt.txn) ++ (codes ",\"standing\":\"" ++ (standing_word one.doubt.is_decided ++ codes "\"}")))))

-- it is what is told of some transactions in doubt, with dates
pub record AreDoubts (doubts : List InDoubt) (text : List ℕ) : Type 0 where
  pub rows : List DatedDoubt
  pub told : map (λ r. r.doubt) rows ≡ doubts
  pub whole : text ≡ commas (map doubt_json rows)

-- it is what is told of a log
abbrev pub IsLogJson : ToldLog → List ℕ → Type 0
IsLogJson one text =
    (doubts : List ℕ) × AreDoubts one.in_doubt doubts
    × (text ≡ log_json one.name one.numbers (codes "\"doubts\":[" ++ (doubts ++ codes "]}")))

pub record LogJson : Type 0 where
  pub told : ToldLog
  pub text : List ℕ
  pub is : IsLogJson told text

-- the sums over some logs, and how many there are, as a member
abbrev pub sums_json : List Numbers → List ℕ
sums_json logs =
    codes ",\"sums\":{" ++ (flat_map (λ f. field_json f (sum_of f logs)) summed ++ (codes "\"logs\":" ++ (decimal (length logs) ++ codes "}")))

-- where they are several
abbrev pub several_json : List Numbers → List ℕ
several_json logs = if nat_lt 1 (length logs) then sums_json logs else []

-- it is what is told of each of some logs, and the sums
abbrev pub AreLogsJson : List ToldLog → List ℕ → Type 0
AreLogsJson told text =
    (rows : List LogJson) × (map (λ r. r.told) rows ≡ told)
    × (text ≡ codes "{\"logs\":[" ++ (commas (map (λ r. r.text) rows)
    ++ (codes "]" ++ (several_json (map (λ r. r.told.numbers) rows) ++ codes "}\n"))))

-- it is what is told of the logs of these names
abbrev pub AreJsonStats : List (List ℕ) → List ℕ → Type 0
AreJsonStats names text = (told : List ToldLog) × (map (λ t. t.name) told ≡ names) × AreLogsJson told text

-- and on disks that keep the model of disks that were opened under these names
abbrev pub AreJsonStatsOf : {D : Type 0} → Type 0 → (D → File) → (List ℕ → D → Type 0) → List (List ℕ) → List ℕ → Type 0
AreJsonStatsOf keeps file named names text = (told : List ToldLog) × AreNumbersOf keeps file named names told × AreLogsJson told text
