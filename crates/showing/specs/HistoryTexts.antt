-- How a history and a value are printed.
use Rattle.std.specs.Prelude.{◌≡◌, ◌⊎◌, ℕ, Bool, true, false, IsTrue, List, [], ◌++◌, Option, Some, None, Ok, codes, flat_map, nat_lt}
use Rattle.std.specs.Prelude.{if◌then◌else◌}
use Rattle.std.specs.Fmt.{decimal}
use Rattle.units.specs.Ids.{Id}
use Rattle.units.specs.Keys.{Bytes}
use Rattle.units.specs.Texts.{txn_text}
use Rattle.units.specs.declared.fault.Fault.{Fault}
use Rattle.units.specs.declared.fault.Fault.TheVariants.{BadRequest, Device, Memory, TooOld}
use Rattle.units.specs.declared.fault.Reason.TheVariants as reason
use Rattle.requests.specs.Spelling.{spelled}
use Rattle.units.specs.declared.setup.Setup.{Setup}
use Rattle.showing.specs.Histories.{history_in, is_no_shard_log, value_in}
use Rattle.showing.specs.declared.shard_log.Found.{Found}
use Rattle.showing.specs.declared.told.Standing.{Standing}
use Rattle.showing.specs.declared.told.Standing.TheVariants.{Installed, Decided, Promised}
use Rattle.showing.specs.declared.told.Told.{Told}

-- a value, or what stands for none
abbrev pub value_text : Option Bytes → List ℕ
value_text (Some bytes) = codes "=" ++ spelled bytes
value_text None = codes "none"

-- the timestamp
abbrev pub stamp_of : Standing → ℕ
stamp_of (Installed at) = at
stamp_of (Decided at) = at
stamp_of (Promised at) = at

-- what stands behind a write that is no version
abbrev pub mark_of : Standing → List ℕ
mark_of (Installed at) = []
mark_of (Decided at) = codes " decided"
mark_of (Promised at) = codes " in doubt"

-- a transaction, or what stands for one that is not known
abbrev pub txn_word : Option Id → List ℕ
txn_word (Some t) = txn_text t
txn_word None = codes "-"

-- a write of a key, as a line
abbrev pub told_line : Told → List ℕ
told_line told =
    decimal (stamp_of told.standing)
    ++ (codes " " ++ (txn_word told.txn ++ (codes " " ++ (value_text told.value ++ (mark_of told.standing ++ codes "\n")))))

-- from when on it is whole, as a line, where that is not from the first
abbrev pub from_line : Option ℕ → List ℕ
from_line (Some from) = if nat_lt 0 from then codes "whole from " ++ (decimal from ++ codes "\n") else []
from_line None = []

-- a line for each write of a key
abbrev pub told_lines : List Told → List ℕ
told_lines told = flat_map told_line told

-- from when on it is whole, and the writes
abbrev pub history_text : Option ℕ → List Told → List ℕ
history_text from told = from_line from ++ told_lines told

-- it is the text of some history
abbrev pub IsAHistory : List ℕ → Type 0
IsAHistory text = (from : Option ℕ) × (told : List Told) × (text ≡ history_text from told)

-- it is that of a key by what a file holds, as a shard takes it
abbrev pub IsHistoryIn : Setup → Bytes → List ℕ → List ℕ → Type 0
IsHistoryIn setup k image text =
    (from : Option ℕ) × (told : List Told) × (history_in setup k image ≡ Ok (from, told)) × (text ≡ history_text from told)

-- what stands behind a value that is not settled
abbrev pub settled_mark : Bool → List ℕ
settled_mark true = []
settled_mark false = codes " not settled yet"

-- what is found of a key, as a line
abbrev pub found_text : Found → List ℕ
found_text found = value_text found.value ++ (settled_mark found.is_settled ++ codes "\n")

-- it is what is found of some key, on a line
abbrev pub IsAValue : List ℕ → Type 0
IsAValue text = (found : Found) × (text ≡ found_text found)

-- it is what is found of a key by what a file holds, as a shard takes it
abbrev pub IsValueIn : Setup → Bytes → Option ℕ → List ℕ → List ℕ → Type 0
IsValueIn setup k at image text = (found : Found) × (value_in setup k at image ≡ Ok found) × (text ≡ found_text found)

-- why nothing is told of a key: memory is wanting, the system refuses a file, the folder has no manifest, its log is not taken, or is not
-- whole from the timestamp on
abbrev pub IsNotTold : Fault → Type 0
IsNotTold fault = (fault ≡ Memory) ⊎ ((fault ≡ Device) ⊎ ((fault ≡ BadRequest reason.Settings) ⊎ (IsTrue (is_no_shard_log fault) ⊎ (fault ≡ TooOld))))
