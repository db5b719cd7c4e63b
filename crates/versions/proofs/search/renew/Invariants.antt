use Rattle.std.proofs.Common.{◌≡◌, ◌<◌, ℕ, length, get_or}
use Rattle.versions.specs.Arranged.{arranged, no_install}
use Rattle.versions.specs.Heads.{head}
use Rattle.versions.proofs.search.renew.Given as goal

abbrev pub invariant-loop-at : goal.invariant-loop-at
invariant-loop-at l = record {
  places : l.places.places ≡ l.fn.places.places;
  room : l.places.room ≡ l.fn.places.room;
  len : l.len ≡ length l.fn.places.places;
  long : length l.places.heads ≡ length l.fn.places.places;
  done : (k : ℕ) → k < l.at → get_or l.places.heads k 0 ≡ head l.places.prefix (get_or (arranged l.installs l.fn.places.places) k no_install).key;
}
