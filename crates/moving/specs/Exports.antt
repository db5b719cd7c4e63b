-- What is exported of a view: pages of keys, each with its value.
use Rattle.std.specs.Prelude.{◌≡◌, ℕ, List, [], ◌∷◌, map, flat_map, Option, Some, None}
use Rattle.units.specs.Keys.{Bytes, shard_of}
use Rattle.board.specs.Views.{Viewing}
use Rattle.store.specs.Ranges.{IsListedBy}
use Rattle.store.specs.Views.{IsShown, LookedAt}
use Rattle.pairs.specs.Rows.{header, lines_of, rows_of}
use Rattle.pairs.specs.declared.pair.Pair.{Pair}
use Rattle.moving.specs.declared.form.Form.{Form}
use Rattle.moving.specs.declared.form.Form.TheVariants.{Lines, Rows}

-- what stands before the first pair, and the text of some pairs
abbrev pub head : Form → List ℕ
head Lines = []
head Rows = header

abbrev pub text : Form → List Pair → List ℕ
text Lines pairs = lines_of pairs
text Rows pairs = rows_of pairs

-- the value of each key was told at a timestamp, one after the other: the viewers were these before and are those after
abbrev pub AreTold : List Bytes → ℕ → List Viewing → List Pair → List Viewing → Type 0
AreTold splits at before [] after = after ≡ before
AreTold splits at before (pair ∷ pairs) after =
    (next : List Viewing)
    × LookedAt before next (shard_of splits pair.key) (λ viewer later. IsShown viewer later pair.key at (Some pair.value))
    × AreTold splits at next pairs after

-- the pairs of a page from a key on, and where the next one begins: the page has exactly the keys up to there that have a value
pub record Page : Type 0 where
  pub pairs : List Pair
  pub next : Option Bytes

abbrev pub IsPageFrom : List Bytes → ℕ → List Viewing → Bytes → Page → List Viewing → Type 0
IsPageFrom splits at before first page after =
    (listed : List Viewing)
    × LookedAt before listed (shard_of splits first)
    (λ viewer later. IsListedBy splits viewer later first None at (map (λ pair. pair.key) page.pairs) page.next)
    × AreTold splits at listed page.pairs after

-- pages one after the other, each from where the one before says
abbrev pub ArePages : List Bytes → ℕ → List Viewing → Option Bytes → List Page → Option Bytes → List Viewing → Type 0
ArePages splits at before first [] next after = (next ≡ first) × (after ≡ before)
ArePages splits at before first (page ∷ pages) next after =
    (key : Bytes) × (first ≡ Some key)
    × ((later : List Viewing) × IsPageFrom splits at before key page later × ArePages splits at later page.next pages next after)

-- all pairs of some pages
abbrev pub pairs_on : List Page → List Pair
pairs_on = flat_map (λ page. page.pairs)

-- the least key
abbrev pub least : Bytes
least = 0 ∷ []
