-- What a look tells.
use Rattle.std.proofs.Common.{◌≡◌, ℕ, ◌≤◌, true, List, [], ◌∷◌, length, Result, Err, IsOk, ap, sym, subst, arith, ◌∙◌}
use mathlib.Core.List.{IsPrefix}
use Rattle.board.specs.declared.entry.BoardEntry.{BoardEntry}
use Rattle.units.specs.declared.fault.Fault.{Fault}
use Rattle.units.specs.declared.fault.Fault.TheVariants.{NotYet}
use Rattle.units.specs.declared.line.Seen.{Seen}
use Rattle.board.specs.Board.{safe_on, is_board}
use Rattle.board.specs.Look.{look_answer, look_buffer}
use Rattle.board.proofs.Longer.{stays, ok_in_time, not_yet_late, safe_on-more}
use Rattle.board.specs.State.{Page, board_state}
use Rattle.board.specs.OneList.{SeenStates, IsFair}
use Rattle.board.specs.Views.{Viewing, LookedBy, newest_of}

module _ (viewer : Viewing) (page : Page) (key : List ℕ) (t : ℕ) (buffer : List ℕ) (result : Result Seen Fault) where
  pub looked : (known : SeenStates) (buffer' : List ℕ) → known ≡ board_state page ∷ [] → IsPrefix viewer.seen page.list
      → IsPrefix viewer.told page.list → IsFair page
      → result ≡ look_answer viewer.home page.list key t (length buffer) → buffer' ≡ look_buffer viewer.home page.list key t buffer
      → LookedBy viewer key t buffer result (record viewer { seen = newest_of known }) buffer'
  looked known buffer' is later told fair answered filled =
      subst (λ (list : List BoardEntry). LookedBy viewer key t buffer result (record viewer { seen = list }) buffer') (sym (ap newest_of is)) record {
        later = later;
        told = told;
        lawful = fair.list;
        answered = answered;
        filled = filled;
        stays = λ ok. stays key t page.list fair.safe (ok_in_time viewer.home page.list key t (length buffer) (subst IsOk answered ok));
      }

  pub never_early : IsPrefix viewer.told page.list → is_board page.list ≡ true → result ≡ look_answer viewer.home page.list key t (length buffer)
      → t ≤ safe_on viewer.told → result ≡ Err NotYet → ⊥
  never_early told lawful answered in_time late =
      let less = not_yet_late viewer.home page.list key t (length buffer) (sym answered ∙ late) in
      let more = safe_on-more viewer.told told.0 (ap is_board told.1 ∙ lawful) in
      let same = ap safe_on told.1 in
      absurd (omega (arith, less, more, same, in_time))
