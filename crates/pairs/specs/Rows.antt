-- How keys and values stand in a text.
use Rattle.std.specs.List.{list_all}
use Rattle.std.specs.Prelude.{◌≡◌, ◌++◌, ◌&&◌, ◌==◌, ℕ, Bool, not, List, [], ◌∷◌, Some, codes, flat_map, if◌then◌else◌}
use Rattle.std.specs.Str.{is_utf8}
use Rattle.units.specs.Keys.{Bytes}
use Rattle.csv.specs.Writing.{default_writer, row_text, with_style}
use Rattle.csv.specs.declared.writer.QuoteStyle.TheVariants as style
use Rattle.csv.specs.declared.writer.WriterBuilder.{WriterBuilder}
use Rattle.requests.specs.Spelling.{AreBytes, spelled, unspelled}
use Rattle.pairs.specs.declared.pair.Pair.{Pair}

-- the key, a blank and the value, both spelled
abbrev pub line_of : Pair → List ℕ
line_of pair = spelled pair.key ++ (codes " " ++ (spelled pair.value ++ codes "\n"))

abbrev pub lines_of : List Pair → List ℕ
lines_of = flat_map line_of

-- all fields stand in quotes
abbrev pub setup : WriterBuilder
setup = with_style default_writer style.Always

-- the byte is neither 0 nor a backslash (92)
abbrev pub shows_itself : ℕ → Bool
shows_itself byte = not (byte == 0) && not (byte == 92)

-- the bytes are a text in UTF-8, without the byte 0 and without a backslash
abbrev pub is_plain : Bytes → Bool
is_plain bytes = is_utf8 bytes && list_all shows_itself bytes

-- how some bytes stand in a field: such a text as it is, and all else spelled
abbrev pub field : Bytes → List ℕ
field bytes = if is_plain bytes then bytes else spelled bytes

-- the field of some bytes tells these
abbrev pub FieldsAreRead : Type 0
FieldsAreRead = (bytes : Bytes) → AreBytes bytes → unspelled (field bytes) ≡ Some bytes

abbrev pub row_of : Pair → List ℕ
row_of pair = row_text setup (field pair.key ∷ field pair.value ∷ [])

abbrev pub header : List ℕ
header = row_text setup (codes "key" ∷ codes "value" ∷ [])

abbrev pub rows_of : List Pair → List ℕ
rows_of = flat_map row_of
