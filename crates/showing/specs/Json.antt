-- What is told, as JSON.
use Rattle.std.specs.Prelude.{◌≡◌, ℕ, Bool, true, false, List, [], ◌++◌, Option, Some, None, Ok, codes, flat_map, map, if◌then◌else◌, nat_lt}
use Rattle.std.specs.Fmt.{decimal}
use Rattle.serde_json.specs.Data.{string}
use Rattle.serde_json.specs.Written.{compact_text}
use Rattle.units.specs.Ids.{Id}
use Rattle.units.specs.Keys.{Bytes}
use Rattle.units.specs.Texts.{txn_text}
use Rattle.units.specs.declared.setup.Setup.{Setup}
use Rattle.requests.specs.Spelling.{spelled}
use Rattle.showing.specs.Histories.{history_in, value_in}
use Rattle.showing.specs.HistoryTexts.{stamp_of}
use Rattle.showing.specs.declared.shard_log.Found.{Found}
use Rattle.showing.specs.declared.told.Standing.{Standing}
use Rattle.showing.specs.declared.told.Standing.TheVariants.{Installed, Decided, Promised}
use Rattle.showing.specs.declared.told.Told.{Told}

-- a text as a JSON string
abbrev pub quoted : List ℕ → List ℕ
quoted text = compact_text (string text)

-- a value, spelled, or null
abbrev pub value_json : Option Bytes → List ℕ
value_json (Some bytes) = quoted (spelled bytes)
value_json None = codes "null"

-- the id of a transaction, or null
abbrev pub txn_json : Option Id → List ℕ
txn_json (Some t) = codes "\"" ++ (txn_text t ++ codes "\"")
txn_json None = codes "null"

-- a timestamp and its date, by these names
abbrev pub dated : List ℕ → List ℕ → ℕ → List ℕ → List ℕ
dated name date_name at date =
    codes "\"" ++ (name ++ (codes "\":" ++ (decimal at ++ (codes ",\"" ++ (date_name ++ (codes "\":" ++ date))))))

-- how a write stands
abbrev pub standing_json : Standing → List ℕ
standing_json (Installed at) = codes "version"
standing_json (Decided at) = codes "decided"
standing_json (Promised at) = codes "in doubt"

-- a write, and the date of its timestamp
pub record Dated : Type 0 where
  pub told : Told
  pub date : List ℕ

-- on a line
abbrev pub line_json : Dated → List ℕ
line_json one =
    codes "{" ++ (dated (codes "at") (codes "date") (stamp_of one.told.standing) one.date
    ++ (codes ",\"txn\":" ++ (txn_json one.told.txn ++ (codes ",\"value\":" ++ (value_json one.told.value
    ++ (codes ",\"standing\":\"" ++ (standing_json one.told.standing ++ codes "\"}\n")))))))

-- from when on it is whole, on a line, unless that is from the first
abbrev pub from_json : Option ℕ → List ℕ → List ℕ
from_json (Some from) date =
    if nat_lt 0 from then codes "{" ++ (dated (codes "whole from") (codes "date") from date ++ codes "}\n") else []
from_json None date = []

-- it is what is told of some writes of a key, with dates
pub record AreWrites (writes : List Told) (text : List ℕ) : Type 0 where
  pub rows : List Dated
  pub told : map (λ r. r.told) rows ≡ writes
  pub lines : text ≡ flat_map line_json rows

-- and from when on that is whole
pub record IsHistoryOf (from : Option ℕ) (writes : List Told) (text : List ℕ) : Type 0 where
  pub date : List ℕ
  pub rows : List ℕ
  pub told : AreWrites writes rows
  pub whole : text ≡ from_json from date ++ rows

abbrev pub IsAJsonHistory : List ℕ → Type 0
IsAJsonHistory text = (from : Option ℕ) × (writes : List Told) × IsHistoryOf from writes text

-- it is that of a key by what a file holds, as a shard takes it
abbrev pub IsJsonHistoryIn : Setup → Bytes → List ℕ → List ℕ → Type 0
IsJsonHistoryIn setup k image text =
    (from : Option ℕ) × (writes : List Told) × (history_in setup k image ≡ Ok (from, writes)) × IsHistoryOf from writes text

-- the timestamp that was asked for
abbrev pub asked_json : Option ℕ → List ℕ → List ℕ
asked_json (Some at) date = dated (codes "at") (codes "date") at date ++ codes ","
asked_json None date = []

abbrev pub bool_json : Bool → List ℕ
bool_json true = codes "true"
bool_json false = codes "false"

-- what is found of a key, on a line
abbrev pub found_json : Option ℕ → List ℕ → Found → List ℕ
found_json at date found =
    codes "{" ++ (asked_json at date ++ (codes "\"value\":" ++ (value_json found.value
    ++ (codes ",\"settled\":" ++ (bool_json found.is_settled ++ codes "}\n")))))

abbrev pub IsAJsonValue : List ℕ → Type 0
IsAJsonValue text = (at : Option ℕ) × (date : List ℕ) × (found : Found) × (text ≡ found_json at date found)

-- it is what is found of a key by what a file holds, as a shard takes it
abbrev pub IsJsonValueIn : Setup → Bytes → Option ℕ → List ℕ → List ℕ → Type 0
IsJsonValueIn setup k at image text =
    (date : List ℕ) × (found : Found) × (value_in setup k at image ≡ Ok found) × (text ≡ found_json at date found)
