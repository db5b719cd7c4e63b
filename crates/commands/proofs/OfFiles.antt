-- What commands tell of the files that they name.
use Rattle.std.proofs.Common.{◌≡◌, ℕ, List, [], Option, None, Some, Result, Ok, Err, append-nil, subst, sym}
use Rattle.std.specs.Io.KnownBytes.{Appends}
use Rattle.std.specs.Prelude.{IfOk, MatchResult, OnOk}
use Rattle.units.specs.declared.fault.Fault.{Fault}
use Rattle.command_line.specs.Commands.{Asked}
use Rattle.disk.specs.File.{File}
use Rattle.output.specs.declared.failure.Failure.{Failure}
use Rattle.output.specs.declared.failure.Failure.TheVariants.{Refused}
use Rattle.commands.specs.OnDisks.{IsOfNamedFiles}

-- what some words tell, by their command
pub named_for : {D : Type 0} (keeps : Type 0) (file : D → File) (named : List ℕ → D → Type 0) (clock : D → ℕ) (since : D → ℕ → List ℕ → Type 0)
    (Printed : List ℕ → Type 0) (x : Result ℕ Failure) {a b : Result Asked Fault} → a ≡ b
    → IfOk x (λ status. (text : List ℕ) × IsOfNamedFiles keeps file named clock since a status text × Printed text)
    → IfOk x (λ status. (text : List ℕ) × IsOfNamedFiles keeps file named clock since b status text × Printed text)
named_for keeps file named clock since Printed x e h =
    subst (λ (r : Result Asked Fault). IfOk x (λ status. (text : List ℕ) × IsOfNamedFiles keeps file named clock since r status text × Printed text)) e h

-- where nothing is printed, no byte is known that was not before
pub appends_nothing : (bytes : Option (List ℕ)) → Appends bytes bytes []
appends_nothing None = tt
appends_nothing (Some xs) = sym (append-nil xs)

-- what holds once a command that prints nothing is done
pub of_done : {T : Type 0} (P : Type 0) (made : Result T Fault) (done : Result ℕ Failure) → OnOk made P
    → MatchResult made (λ _. done ≡ Ok 0) (λ fault. done ≡ Err (Refused fault)) → IfOk done (λ _. P)
of_done P (Ok t) (Ok status) holds is = holds
of_done P (Ok t) (Err failure) holds is = tt
of_done P (Err fault) done holds is = subst (λ (r : Result ℕ Failure). IfOk r (λ _. P)) (sym is) tt
