-- What a view tells of a range of keys.
use Rattle.std.specs.Prelude.{◌≡◌, ◌⊎◌, ℕ, true, false, List, Option, Some}
use Rattle.units.specs.Keys.{Bytes, key_before, shard_of}
use Rattle.units.specs.declared.fault.Fault.{Fault}
use Rattle.units.specs.declared.fault.Fault.TheVariants.{Memory}
use Rattle.board.specs.Look.{AnswerStays}
use Rattle.board.specs.Pages.{IsPage, IsServed, IsWithin, is_before, value_at_home}
use Rattle.board.specs.Views.{Viewing}
use Rattle.store.specs.Views.{IsNewest, IsUnseenBy}

-- The keys of a range that are before the split belong to the shard of the first. The split comes after that and before the end of the range. If
-- there is none, all keys of the range belong to that shard.
pub record IsShardEnd (splits : List Bytes) (first : Bytes) (to split : Option Bytes) : Type 0 where
  pub same : (key : Bytes) → IsWithin first to split key → shard_of splits key ≡ shard_of splits first
  pub ahead : (key : Bytes) → split ≡ Some key → (key_before first key ≡ true) × (is_before key to ≡ true)

-- The page of a range of keys at a timestamp by the list of a shard's board that the viewer has seen last, which serves the timestamp and has not
-- forgotten it. Every longer list of the board gives the same values.
pub record IsListing (viewer after : Viewing) (first : Bytes) (to : Option Bytes) (at : ℕ) (keys : List Bytes) (next : Option Bytes) : Type 0 where
  pub newest : IsNewest viewer after
  pub served : IsServed viewer.home after.seen first at
  pub page : IsPage (value_at_home viewer.home after.seen at) first to keys next
  pub stays : (key : Bytes) → AnswerStays key at after.seen

-- The same of a store: each key of the range before the next page belongs to the shard whose board this is.
pub record IsListedBy (splits : List Bytes) (viewer after : Viewing) (first : Bytes) (to : Option Bytes) (at : ℕ) (keys : List Bytes) (next : Option Bytes)
    : Type 0 where
  pub listing : IsListing viewer after first to at keys next
  pub same : (key : Bytes) → IsWithin first to next key → shard_of splits key ≡ shard_of splits first

-- Why a view lists no keys: there is no memory, or it would not tell the value of the first key either.
abbrev pub IsUnlistedBy : Viewing → Viewing → Bytes → ℕ → Fault → Type 0
IsUnlistedBy viewer after first at fault = (fault ≡ Memory) ⊎ IsUnseenBy viewer after first at fault
