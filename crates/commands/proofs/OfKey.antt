-- What is told of a key is so of the log of its shard.
use Rattle.std.proofs.Common.{◌≡◌, List, ℕ, Result, Ok, Err}
use Rattle.std.specs.Prelude.{IfOk}
use Rattle.units.specs.Keys.{Bytes, shard_of}
use Rattle.units.specs.declared.setup.Setup.{Setup}
use Rattle.disk.specs.File.{File, surface}
use Rattle.command_line.specs.Lines.{Word}
use Rattle.commands.specs.OnDisks.{IsOfKey}
use Rattle.commands.specs.Replies.{log_name}

pub of-key : {D T E : Type 0} {keeps : Type 0} (file : D → File) (named : List ℕ → D → Type 0) (folder : Word) (k : Bytes)
    (P : Setup → List ℕ → T → Type 0) (setup : Setup) (disk : D) → shard_of setup.splits k ≡ setup.shard → named (log_name folder setup.shard) disk
    → (r : Result T E) → (keeps → IfOk r (P setup (surface (file disk)).seen))
    → IfOk r (λ t. IsOfKey keeps file named folder k (λ s image. P s image t))
of-key file named folder k P setup disk owned is (Ok t) holds = (setup, disk, owned, is, holds)
of-key file named folder k P setup disk owned is (Err e) holds = tt
