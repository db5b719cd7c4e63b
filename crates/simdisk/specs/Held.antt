-- What buffers hold, and for how much more they have room.
use Rattle.std.specs.Prelude.{ℕ, ◌+◌, ◌≤◌, vec_len, vec_capacity}
use Rattle.std.proofs.Common.{arith}
use Rattle.disk.specs.File.{File}
use Rattle.simdisk.specs.Replay.{History, kept, file_of}
use Rattle.simdisk.specs.declared.buffers.Buffers.{Buffers}

-- the history that buffers hold
abbrev pub held : Buffers → History
held b = kept b.durable.items b.changes.items b.store.items

-- the file that buffers hold
abbrev pub held_file : Buffers → File
held_file b = file_of (held b)

-- so many changes and syncs, of so many bytes in all, need no more memory
pub record HasRoomFor (b : Buffers) (calls bytes : ℕ) : Type 0 where
  pub changes : vec_len b.changes + calls ≤ vec_capacity b.changes
  pub store : vec_len b.store + bytes ≤ vec_capacity b.store
  pub seen : vec_len b.seen + bytes ≤ vec_capacity b.seen
  pub durable : vec_len b.seen + bytes ≤ vec_capacity b.durable

-- one write at this offset, of so many bytes, needs no more memory, nor does a crash behind it
pub record IsReadyForWrite (b : Buffers) (at count : ℕ) : Type 0 where
  pub changes : vec_len b.changes + 1 ≤ vec_capacity b.changes
  pub store : vec_len b.store + count ≤ vec_capacity b.store
  pub seen : at + count ≤ vec_capacity b.seen
  pub durable : at + count ≤ vec_capacity b.durable

-- room for more is room for less
pub room_less : (b : Buffers) (calls bytes fewer less : ℕ) → fewer ≤ calls → less ≤ bytes → HasRoomFor b calls bytes → HasRoomFor b fewer less
room_less b calls bytes fewer less few small room = record {
  changes = omega (arith, few, room.changes);
  store = omega (arith, small, room.store);
  seen = omega (arith, small, room.seen);
  durable = omega (arith, small, room.durable);
}
