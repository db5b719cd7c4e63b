-- Viewers that are dealt to workers.
use Rattle.std.specs.Prelude.{◌≡◌, List, All, map}
use Rattle.board.specs.Views.{Viewing}
use Rattle.board.specs.declared.viewers.Viewers.{Viewers}

-- what each worker has
abbrev pub lists_of : Viewers → List (List Viewing)
lists_of viewers = map (λ own. own.items) viewers.by_worker.items

-- each has these, by shard
abbrev pub AreDealt : List Viewing → List (List Viewing) → Type 0
AreDealt all lists = All (λ own. own ≡ all) lists
