-- What was read ahead of a scan.
use Rattle.std.specs.Prelude.{◌≡◌, ℕ, ◌+◌, List, ◌++◌, length, drop}

-- the offset of the next byte, the bytes from there on that were read, and how many of the file were not
pub record Ahead : Type 0 where
  pub at : ℕ
  pub bytes : List ℕ
  pub left : ℕ

-- the offset behind what was read
abbrev pub read_to : Ahead → ℕ
read_to a = a.at + length a.bytes

-- it is what a file holds there
pub record IsAhead (image : List ℕ) (a : Ahead) : Type 0 where
  pub bytes : a.bytes ++ drop (read_to a) image ≡ drop a.at image
  pub size : read_to a + a.left ≡ length image

-- what is left to do: each byte is read and passed
abbrev pub ToDo : Ahead → ℕ
ToDo a = a.left + (a.left + length a.bytes)
