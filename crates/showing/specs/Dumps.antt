-- What the file of a log holds, and its text.
use Rattle.std.specs.Prelude.{◌≡◌, ◌⊎◌, ℕ, List, [], ◌∷◌, ◌++◌, IsTrue, Result, Ok, Err, codes, drop, if◌then◌else◌, map, bytes_eq}
use Rattle.std.specs.Fmt.{decimal}
use Rattle.std.specs.Prelude.{flat_map}
use Rattle.units.specs.declared.fault.Fault.{Fault}
use Rattle.units.specs.declared.fault.Fault.TheVariants.{Device, Memory}
use Rattle.disk.specs.File.{File, surface}
use Rattle.gatelog.specs.Log.{scan, is_no_log}
use Rattle.frames.specs.Placed.{Placed}
use Rattle.showing.specs.declared.reading.End.{End}
use Rattle.showing.specs.declared.reading.End.TheVariants.{Closed, Torn}

-- what stands at a gate that is not open: a byte of zeros that ends the file, or more
abbrev pub end_behind : ℕ → List ℕ → End
end_behind gate image = if bytes_eq (drop gate image) (0 ∷ []) then Closed gate else Torn gate

-- the entries that a scan found, and what stands at the gate behind them
abbrev pub dumped : List ℕ → Result (List Placed × ℕ) Fault → Result (List Placed × End) Fault
dumped image (Ok found) = Ok (found.0, end_behind found.1 image)
dumped image (Err fault) = Err fault

-- what a file holds: the entries of its log, in order, and how it ends; or why it holds no log
abbrev pub dump_of : List ℕ → Result (List Placed × End) Fault
dump_of image = dumped image (scan image)

-- how a file ends, as text
abbrev pub end_text : End → List ℕ
end_text (Closed gate) = codes "closed at " ++ decimal gate
end_text (Torn gate) = codes "torn at " ++ decimal gate

-- an offset and a record, as a line
abbrev pub dump_line : ℕ × List ℕ → List ℕ
dump_line told = decimal told.0 ++ (codes " " ++ (told.1 ++ codes "\n"))

-- A line for each entry, in order, with its offset, and then how the file ends. How its record is told no definition says.
abbrev pub IsDumpText : List Placed → End → List ℕ → Type 0
IsDumpText entries end text =
    (told : List (ℕ × List ℕ)) × (map (λ t. t.0) told ≡ map (λ e. e.offset) entries)
    × (text ≡ flat_map dump_line told ++ (end_text end ++ codes "\n"))

-- it is the text of some file
abbrev pub IsADump : List ℕ → Type 0
IsADump text = (entries : List Placed) × (end : End) × IsDumpText entries end text

-- on disks that keep the model it is the text of a disk that was opened under this name
abbrev pub IsDumpOf : {D : Type 0} → Type 0 → (D → File) → (List ℕ → D → Type 0) → List ℕ → List ℕ → Type 0
IsDumpOf {D} keeps file named name text =
    (disk : D) × named name disk
    × (keeps → (entries : List Placed) × (end : End) × (dump_of (surface (file disk)).seen ≡ Ok (entries, end)) × IsDumpText entries end text)

-- why nothing is shown of a file: memory is wanting, the system refuses it, or it holds no log
abbrev pub IsNotShown : Fault → Type 0
IsNotShown fault = (fault ≡ Memory) ⊎ ((fault ≡ Device) ⊎ IsTrue (is_no_log fault))
