-- The table of how long things took, in columns.
use Rattle.std.specs.Prelude.{◌≡◌, ℕ, ◌-◌, List, [], ◌∷◌, ◌++◌, Option, Some, None, codes, length, replicate}
use Rattle.std.specs.Fmt.{decimal}
use Rattle.progress.specs.Tally.{AreFiguresOf, Tally}
use Rattle.progress.specs.declared.series.Figures.{Figures}

-- a word at the right end of so many columns
abbrev pub right : ℕ → List ℕ → List ℕ
right width word = replicate (width - length word) 32 ++ word

-- a word at the right end of a column, with a blank before it
abbrev pub cell : List ℕ → List ℕ
cell word = codes " " ++ right 7 word

-- how long they took, or dashes where it is not known of any
abbrev pub figures_cells : Option Figures → List ℕ
figures_cells (Some figures) =
    cell (decimal figures.half) ++ (cell (decimal figures.ninety) ++ (cell (decimal figures.ninety_nine) ++ cell (decimal figures.most)))
figures_cells None = cell (codes "-") ++ (cell (codes "-") ++ (cell (codes "-") ++ cell (codes "-")))

-- a line: what it is of, how many there were, and how long they took
abbrev pub row_text : List ℕ → ℕ → Option Figures → List ℕ
row_text word count figures = right 7 word ++ (cell (decimal count) ++ (figures_cells figures ++ codes "\n"))

-- the words above the columns
abbrev pub head_text : List ℕ
head_text = right 7 (codes "us")
    ++ (cell (codes "count") ++ (cell (codes "half") ++ (cell (codes "90%") ++ (cell (codes "99%") ++ (cell (codes "most") ++ codes "\n")))))

-- the whole table
abbrev pub table_text : Tally → Option Figures → Option Figures → Option Figures → List ℕ
table_text tally commits aborts looks = head_text ++ (row_text (codes "commits") tally.commits.count commits
    ++ (row_text (codes "aborts") tally.aborts.count aborts ++ row_text (codes "looks") tally.looks.count looks))

-- it is the table of what was counted
abbrev pub IsTable : Tally → List ℕ → Type 0
IsTable tally text = (commits aborts looks : Option Figures) × AreFiguresOf tally.commits.micros commits
    × AreFiguresOf tally.aborts.micros aborts × AreFiguresOf tally.looks.micros looks × (text ≡ table_text tally commits aborts looks)
