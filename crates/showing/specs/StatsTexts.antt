-- How the numbers of logs are printed.
use Rattle.std.specs.Prelude.{◌≡◌, ◌-◌, ℕ, Bool, true, false, List, [], ◌∷◌, ◌++◌, Ok, codes, flat_map, length, map, sum_by, nat_lt, if◌then◌else◌}
use Rattle.std.specs.Fmt.{decimal}
use Rattle.units.specs.Texts.{txn_text}
use Rattle.disk.specs.File.{File, surface}
use Rattle.system.specs.Named.{AreNamed}
use Rattle.showing.specs.Json.{quoted}
use Rattle.showing.specs.Stats.{stats_in}
use Rattle.showing.specs.declared.figure.Figure.{Figure}
use Rattle.showing.specs.declared.figure.Figure.TheVariants.{Bytes, DeadBytes, Turnovers, TurnoversLeft, Records, Opened, Ceilings, Prepares, Commits, Aborts, Outcomes, Horizons}
use Rattle.showing.specs.declared.figure.Figure.TheVariants.{Bases, VersionRecords, Settled, Closed, Retired, Keys, Versions, Epoch, Floor, InDoubt}
use Rattle.showing.specs.declared.stats.Numbers.{Numbers}
use Rattle.showing.specs.declared.stats.InDoubt as doubts

-- a number of a log
abbrev pub number_of : Figure → Numbers → ℕ
number_of Bytes numbers = numbers.file.bytes
number_of DeadBytes numbers = numbers.file.dead
number_of Turnovers numbers = numbers.file.turnovers
number_of TurnoversLeft numbers = 1024 - numbers.file.turnovers
number_of Records numbers = numbers.records
number_of Opened numbers = numbers.kinds.opened
number_of Ceilings numbers = numbers.kinds.ceilings
number_of Prepares numbers = numbers.kinds.prepares
number_of Commits numbers = numbers.kinds.commits
number_of Aborts numbers = numbers.kinds.aborts
number_of Outcomes numbers = numbers.kinds.outcomes
number_of Horizons numbers = numbers.kinds.horizons
number_of Bases numbers = numbers.kinds.bases
number_of VersionRecords numbers = numbers.kinds.versions
number_of Settled numbers = numbers.kinds.settled
number_of Closed numbers = numbers.kinds.closed
number_of Retired numbers = numbers.kinds.retired
number_of Keys numbers = numbers.keys
number_of Versions numbers = numbers.versions
number_of Epoch numbers = numbers.epoch
number_of Floor numbers = numbers.floor
number_of InDoubt numbers = numbers.in_doubt

-- what stands before it
abbrev pub word_of : Figure → List ℕ
word_of Bytes = codes "bytes"
word_of DeadBytes = codes "dead bytes"
word_of Turnovers = codes "turnovers"
word_of TurnoversLeft = codes "turnovers left"
word_of Records = codes "records"
word_of Opened = codes "opened"
word_of Ceilings = codes "ceiling"
word_of Prepares = codes "prepare"
word_of Commits = codes "commit"
word_of Aborts = codes "abort"
word_of Outcomes = codes "outcome"
word_of Horizons = codes "horizon"
word_of Bases = codes "base"
word_of VersionRecords = codes "version"
word_of Settled = codes "settled"
word_of Closed = codes "closed"
word_of Retired = codes "retired"
word_of Keys = codes "keys"
word_of Versions = codes "versions"
word_of Epoch = codes "epoch"
word_of Floor = codes "floor"
word_of InDoubt = codes "in doubt"

-- the numbers of which there are sums
abbrev pub summed : List Figure
summed =
    Bytes ∷ DeadBytes ∷ Turnovers ∷ Records ∷ Opened ∷ Ceilings ∷ Prepares ∷ Commits ∷ Aborts ∷ Outcomes ∷ Horizons ∷ Bases ∷ VersionRecords
    ∷ Settled ∷ Closed ∷ Retired ∷ Keys ∷ Versions ∷ InDoubt ∷ []

-- all of them
abbrev pub figures : List Figure
figures =
    Bytes ∷ DeadBytes ∷ Turnovers ∷ TurnoversLeft ∷ Records ∷ Opened ∷ Ceilings ∷ Prepares ∷ Commits ∷ Aborts ∷ Outcomes ∷ Horizons ∷ Bases
    ∷ VersionRecords ∷ Settled ∷ Closed ∷ Retired ∷ Keys ∷ Versions ∷ Epoch ∷ Floor ∷ InDoubt ∷ []

-- a number on a line
abbrev pub number_line : Figure → ℕ → List ℕ
number_line figure number = word_of figure ++ (codes " " ++ (decimal number ++ codes "\n"))

-- a number, as a member of a JSON object
abbrev pub field_json : Figure → ℕ → List ℕ
field_json figure number = codes "\"" ++ (word_of figure ++ (codes "\":" ++ (decimal number ++ codes ",")))

-- how a transaction in doubt stands
abbrev pub standing_word : Bool → List ℕ
standing_word true = codes "decided"
standing_word false = codes "promised"

-- a transaction in doubt, on a line
abbrev pub doubt_line : doubts.InDoubt → List ℕ
doubt_line doubt = standing_word doubt.is_decided
    ++ (codes " " ++ (txn_text doubt.txn ++ (codes " " ++ (decimal doubt.at ++ codes "\n"))))

-- what is told of a log: its name, its numbers, and what is in doubt
pub record ToldLog : Type 0 where
  pub name : List ℕ
  pub numbers : Numbers
  pub in_doubt : List doubts.InDoubt

abbrev pub log_text : ToldLog → List ℕ
log_text told = (codes "log " ++ (told.name ++ codes "\n"))
    ++ (flat_map (λ f. number_line f (number_of f told.numbers)) figures ++ flat_map doubt_line told.in_doubt)

-- the same as a JSON object, up to what is in doubt
abbrev pub log_json : List ℕ → Numbers → List ℕ → List ℕ
log_json name numbers rest =
    (codes "{\"log\":" ++ (quoted name ++ codes ",")) ++ (flat_map (λ f. field_json f (number_of f numbers)) figures ++ rest)

-- a sum over some logs
abbrev pub sum_of : Figure → List Numbers → ℕ
sum_of figure logs = sum_by (number_of figure) logs

-- how many logs there are, and the sums of their numbers
abbrev pub sums_text : List Numbers → List ℕ
sums_text logs = (codes "all " ++ (decimal (length logs) ++ codes "\n")) ++ flat_map (λ f. number_line f (sum_of f logs)) summed

-- where they are several
abbrev pub several_text : List Numbers → List ℕ
several_text logs = if nat_lt 1 (length logs) then sums_text logs else []

-- what is told of each log, and where they are several the sums
abbrev pub stats_text : List ToldLog → List ℕ
stats_text told = flat_map log_text told ++ several_text (map (λ t. t.numbers) told)

-- it is what is told of the logs of these names
abbrev pub AreStats : List (List ℕ) → List ℕ → Type 0
AreStats names text = (told : List ToldLog) × (map (λ t. t.name) told ≡ names) × (text ≡ stats_text told)

-- what is told of some logs are the numbers of some disks, and what is in doubt on them, in order
abbrev pub AreOfDisks : {D : Type 0} → (D → File) → List D → List ToldLog → Type 0
AreOfDisks file disks told = map (λ d. stats_in (surface (file d)).seen) disks ≡ map (λ t. Ok (t.numbers, t.in_doubt)) told

-- It is told of logs of these names, and on disks that keep the model of disks that were opened under the names.
abbrev pub AreNumbersOf : {D : Type 0} → Type 0 → (D → File) → (List ℕ → D → Type 0) → List (List ℕ) → List ToldLog → Type 0
AreNumbersOf {D} keeps file named names told =
    (map (λ t. t.name) told ≡ names) × (disks : List D) × AreNamed named names disks × (keeps → AreOfDisks file disks told)

abbrev pub AreStatsOf : {D : Type 0} → Type 0 → (D → File) → (List ℕ → D → Type 0) → List (List ℕ) → List ℕ → Type 0
AreStatsOf keeps file named names text = (told : List ToldLog) × AreNumbersOf keeps file named names told × (text ≡ stats_text told)
