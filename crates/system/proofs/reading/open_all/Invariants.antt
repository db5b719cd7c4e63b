use Rattle.std.proofs.Common.{◌≡◌, length, map, take}
use Rattle.system.specs.Named.{AreNamed}
use Rattle.system.proofs.reading.open_all.Given as goal

abbrev pub invariant-loop-path : goal.invariant-loop-path
invariant-loop-path g l = (length l.opened.items ≡ l.path-index)
    × AreNamed (g.F.Files.is_named l.files) (map (λ path. path.now) (take l.path-index l.paths)) l.opened.items
