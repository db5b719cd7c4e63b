use Rattle.std.proofs.Common.{◌≡◌, ℕ, ◌≤◌, ◌++◌, length, take, drop}
use Rattle.versions.specs.Arranged.{arranged, AreWithin}
use Rattle.versions.specs.Heads.{AreHeads}
use Rattle.versions.proofs.Passed.{left_of}
use Rattle.versions.proofs.forgetting.forget.Given as goal

abbrev pub invariant-loop-at : goal.invariant-loop-at
invariant-loop-at l = record {
  behind : l.kept ≤ l.at;
  within : (known : ℕ) → AreWithin l.fn.places.places known → AreWithin l.places.places known;
  long : length l.places.places ≡ length l.fn.places.places;
  heads : AreHeads l.fn.places.prefix (arranged l.installs l.places.places) l.places.heads;
  prefix : l.places.prefix ≡ l.fn.places.prefix;
  room : l.places.room ≡ l.fn.places.room;
  left : take l.kept (arranged l.installs l.places.places) ++ left_of l.horizon (drop l.at (arranged l.installs l.places.places))
      ≡ left_of l.horizon (arranged l.installs l.fn.places.places);
}
