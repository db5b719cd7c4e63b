use Rattle.std.proofs.Common.{◌≡◌, map, take}
use Rattle.board.specs.declared.entry.BoardEntry.TheVariants.{Installed}
use Rattle.board.proofs.making.note_all.Given as goal

-- the installs so far
abbrev pub invariant-loop-install : goal.invariant-loop-install
invariant-loop-install l = record {
  first : l.first.entries ≡ map Installed (take l.install-index l.installs);
  second : l.second.entries ≡ map Installed (take l.install-index l.installs);
}
