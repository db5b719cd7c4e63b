use Rattle.std.proofs.Common.{◌≡◌, ◌≤◌, drop, take, max, vec_len, vec_capacity}
use Rattle.simdisk.specs.Fates.{made_by}
use Rattle.simdisk.specs.Replay.{kept, file_at, bytes_in_all, furthest}
use Rattle.simdisk.proofs.tear.make_changes.Given as goal

abbrev pub invariant-loop-made : goal.invariant-loop-made
invariant-loop-made l = record {
  image : l.image.items ≡ made_by l.fates (file_at (kept l.initial.image.items l.changes l.store) l.made);
  rest : l.rest ≡ drop (bytes_in_all (take l.made l.changes)) l.store;
  len : vec_len l.image ≤ max (vec_len l.initial.image) (furthest l.changes);
  capacity : vec_capacity l.initial.image ≤ vec_capacity l.image;
}
