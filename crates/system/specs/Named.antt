-- Disks of files that were opened under some names.
use Rattle.std.specs.Prelude.{ℕ, List, [], ◌∷◌}
use Rattle.disk.specs.File.{File, surface}
use Rattle.gatelog.specs.First.{HasCopied}

-- each is that of the file of its name, and there are no others
abbrev pub AreNamed : {D : Type 0} → (List ℕ → D → Type 0) → List (List ℕ) → List D → Type 0
AreNamed named [] [] = Unit {0}
AreNamed named (name ∷ names) (disk ∷ disks) = named name disk × AreNamed named names disks
AreNamed named _ _ = ⊥

-- A file of version 1 that was opened under one name, a file that was made under another, and what is on its disk now: on disks that keep the
-- model the log of the first was copied there.
pub record WasMigrated {D : Type 0} (keeps : Type 0) (file : D → File) (clock : D → ℕ) (since : D → ℕ → List ℕ → Type 0)
    (named : List ℕ → D → Type 0) (old new : List ℕ) : Type 0 where
  pub from : D
  pub opened : named old from
  pub to : D
  pub made : named new to
  pub disk : D
  pub copied : keeps → (gate : ℕ) × (entries : _) × HasCopied file clock since (surface (file from)).seen to disk gate entries
