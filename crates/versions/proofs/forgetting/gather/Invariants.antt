use Rattle.std.proofs.Common.{◌≡◌, length, vec_len, vec_capacity}
use Rattle.versions.specs.Arranged.{arranged, AreWithin}
use Rattle.versions.specs.Gathered.{AreSettled}
use Rattle.versions.proofs.forgetting.gather.Given as goal

abbrev pub invariant-loop-at : goal.invariant-loop-at
invariant-loop-at l = record {
  items : arranged l.installs.items l.places.places ≡ arranged l.fn.installs.items l.fn.places.places;
  within : AreWithin l.places.places (length l.installs.items);
  settled : AreSettled l.places.places l.at;
  heads : l.places.heads ≡ l.fn.places.heads;
  prefix : l.places.prefix ≡ l.fn.places.prefix;
  room : l.places.room ≡ l.fn.places.room;
  places : length l.places.places ≡ length l.fn.places.places;
  len : vec_len l.installs ≡ vec_len l.fn.installs;
  capacity : vec_capacity l.installs ≡ vec_capacity l.fn.installs;
}
