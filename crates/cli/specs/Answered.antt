-- What the program comes to for some words.
use Rattle.std.specs.Prelude.{◌≡◌, ◌≢◌, ◌⊎◌, ℕ, true, List, Some, Ok, Err}
use Rattle.units.specs.declared.fault.Fault.{Fault}
use Rattle.units.specs.declared.fault.Fault.TheVariants.{Memory}
use Rattle.command_line.specs.Commands.{are_covered, command_of}
use Rattle.output.specs.Replies.{Is}
use Rattle.output.specs.Streams.{fault_line}
use Rattle.commands.specs.Faults.{MayRefuseTo}
use Rattle.commands.specs.Replies.{TellsTo, reply_to}
use Rattle.drive.specs.Told.{HasNoVerdict}
use Rattle.cli.specs.Ends.{IsDriven}
use Rattle.cli.specs.Written.{IsUnwritten, IsWritten}

-- A status, by what was printed on standard output and noted on standard error. `unprinted` and `unnoted` say that a write there failed, `untouched` and
-- `unheard` that nothing was written there.
pub record Answered (words : List (List ℕ)) (result : ℕ) (prints notes : List ℕ → Type 0) (unprinted unnoted untouched unheard : Type 0) : Type 0 where
  pub status : (result ≡ 0) ⊎ (result ≡ 1) ⊎ (result ≡ 2)
  pub printed : are_covered words ≡ true → result ≢ 2 → (text : List ℕ) × Is (reply_to words) (Ok (text, result)) × prints text
  pub refused : are_covered words ≡ true → (fault : Fault) → reply_to words ≡ Some (Err fault) → (result ≡ 2) × untouched
  -- What files tell: a format and a migration print nothing, an inspection a verdict, which its status goes with, and a dump lines of records.
  -- What becomes of a write is what the attempts to put it came to.
  pub tells : are_covered words ≡ true → result ≢ 2 → (text : List ℕ) × TellsTo IsDriven IsWritten (command_of words) result text × prints text
  pub quiet : result ≢ 2 → unheard
  -- A status of 2 has a reason: a write to standard output that failed, or a fault, whose line is on standard error.
  pub told : are_covered words ≡ true → result ≡ 2 → unprinted ⊎ ((fault : Fault) × ((fault ≡ Memory) ⊎ Is (reply_to words) (Err fault))
      × (unnoted ⊎ notes (fault_line fault)))
  -- The fault of a command over files is one of its own, and so are that of a drive and that of a put.
  pub numbered : are_covered words ≡ true → result ≡ 2 → unprinted ⊎ ((fault : Fault) × MayRefuseTo HasNoVerdict IsUnwritten (command_of words) fault
      × (unnoted ⊎ notes (fault_line fault)))
  -- So it is for any words.
  pub explained : result ≡ 2 → unprinted ⊎ ((fault : Fault) × (unnoted ⊎ notes (fault_line fault)))
  pub silent : unprinted → unheard
