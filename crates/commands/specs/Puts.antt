-- What a write comes to, and what is printed of it.
use Rattle.std.specs.Prelude.{◌≡◌, ℕ, List, ◌++◌, codes, Result, Ok}
use Rattle.std.specs.Fmt.{decimal}
use Rattle.units.specs.Texts.{txn_text}
use Rattle.units.specs.declared.fault.Fault.{Fault}
use Rattle.client.specs.declared.ended.Ended.{Ended}
use Rattle.client.specs.declared.ended.Ended.TheVariants.{Aborted, Committed, Unknown}
use Rattle.command_line.specs.Commands.{Given, word_given, input_given}
use Rattle.commands.specs.declared.engine.Put.{Put}

-- what became of it
abbrev pub put_text : Ended → List ℕ
put_text (Committed at) = codes "committed " ++ (decimal at ++ codes "\n")
put_text Aborted = codes "aborted\n"
put_text (Unknown txn) = codes "unknown " ++ (txn_text txn ++ codes "\n")

-- 0 where it stands, and else 1
abbrev pub put_status : Ended → ℕ
put_status (Committed at) = 0
put_status Aborted = 1
put_status (Unknown txn) = 1

-- it is the value that was given: what a word told, or some value
abbrev pub IsGiven : Given → List ℕ → Type 0
IsGiven (word_given word) value = value ≡ word
IsGiven input_given value = Unit {0}

-- what may become of the write of a value to a key in a folder, in this order: the folder, the key, the value
abbrev pub Said : Type 1
Said = List ℕ → List ℕ → List ℕ → Ended → Type 0

-- a call that is to write this value to this key, in the store in this folder, gave this
abbrev pub IsPutBy : (Put → Result Ended Fault → Type 0) → Said
IsPutBy call folder key value ended =
    (write : Put) × (write.folder.now ≡ folder) × (write.key.now ≡ key) × (write.value.now ≡ value) × call write (Ok ended)
