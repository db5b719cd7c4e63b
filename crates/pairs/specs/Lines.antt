-- Lines are read back.
use Rattle.std.specs.Prelude.{◌≡◌, ◌≤◌, ◌++◌, codes, length, Ok}
use Rattle.units.specs.Keys.{Bytes}
use Rattle.requests.specs.Requests.{put, put_of, words_of}
use Rattle.requests.specs.Spelling.{AreBytes, spelled}

-- a line of a key and a value within their limits, without its end, tells these
abbrev pub LinesAreRead : Type 0
LinesAreRead = (key value : Bytes) → AreBytes key → AreBytes value → 1 ≤ length key → length key ≤ 64 → length value ≤ 4096
    → put_of (words_of (spelled key ++ (codes " " ++ spelled value))) ≡ Ok (put key value)
