-- How far a drive is, and how that is printed.
use Rattle.std.specs.Prelude.{◌≡◌, ℕ, List, [], ◌∷◌, ◌++◌, Option, Some, None, codes}
use Rattle.std.specs.Fmt.{decimal}
use Rattle.progress.specs.Figures.{IsPercentile, rate_of}
use Rattle.progress.specs.declared.series.Figures.{Figures}
use Rattle.progress.specs.declared.turn.Ended.{Ended}
use Rattle.progress.specs.declared.turn.Ended.TheVariants.{Committed, Aborted, Unknown}

-- how many there were of one kind, and how many microseconds those took of which it is known, in the order in which they were counted
pub record Taken : Type 0 where
  pub count : ℕ
  pub micros : List ℕ

-- how many turns there are, how many of them are done, and those that committed, those that were aborted, and the answered looks
pub record Tally : Type 0 where
  pub turns : ℕ
  pub done : ℕ
  pub commits : Taken
  pub aborts : Taken
  pub looks : Taken

-- how long a turn took, where it committed
abbrev pub commit_of : Ended → ℕ → List ℕ
commit_of Committed micros = micros ∷ []
commit_of Aborted micros = []
commit_of Unknown micros = []

-- how long a turn took, where it was aborted
abbrev pub abort_of : Ended → ℕ → List ℕ
abort_of Committed micros = []
abort_of Aborted micros = micros ∷ []
abort_of Unknown micros = []

-- half of these, 90 of 100, 99 of 100 and all of them took at most that
pub record AreTold (micros : List ℕ) (figures : Figures) : Type 0 where
  pub half : IsPercentile 50 micros figures.half
  pub ninety : IsPercentile 90 micros figures.ninety
  pub ninety_nine : IsPercentile 99 micros figures.ninety_nine
  pub most : IsPercentile 100 micros figures.most

-- what is told of some durations: nothing where there is none
abbrev pub AreFiguresOf : List ℕ → Option Figures → Type 0
AreFiguresOf micros None = micros ≡ []
AreFiguresOf micros (Some figures) = AreTold micros figures

-- the line after so many microseconds
abbrev pub line_text : Tally → ℕ → List ℕ
line_text tally micros = decimal tally.done ++ (codes " of " ++ (decimal tally.turns
    ++ (codes " done, " ++ (decimal (rate_of tally.commits.count micros) ++ codes " commits a second"))))
