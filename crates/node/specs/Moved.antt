-- What a desk is after a move of its log into another disk.
use Rattle.std.specs.Prelude.{◌≡◌, ℕ, Bool, true, false, IsTrue, IsFalse, Some, Err}
use Rattle.units.specs.declared.fault.Fault.{Fault}
use Rattle.units.specs.declared.fault.Fault.TheVariants.{Device}
use Rattle.disk.specs.File.{File, surface}
use Rattle.shard.specs.Beginnings.{begun_anew}
use Rattle.shard.specs.Moved.{HoldsRenewal, IsUnmade, moved_to}
use Rattle.node.specs.InStep.{DeskView}
use Rattle.node.specs.Renewed.{found_at, has_grown, lies_far, measured}
use Rattle.node.specs.Restart.{PlaceView, RestView, Serving, Resting}

-- the log of a desk has grown by so many bytes at least, and begins more than so many bytes into its file
abbrev pub IsLong : {D : Type 0} → DeskView D → ℕ → ℕ → Type 0
IsLong desk least beyond = IsTrue (has_grown desk.measure desk.core.gate least) × IsTrue (lies_far desk.measure beyond)

-- A disk alone is left of a desk, which ran: its own disk, as it was, and its board.
abbrev pub IsLeftOf : {D : Type 0} → DeskView D → RestView D → Type 0
IsLeftOf desk rest = IsFalse desk.core.stopped × (rest.disk ≡ desk.core.disk) × (rest.board ≡ Some desk.board)

-- a desk whose log is measured as after a turnover that was refused
abbrev pub tried_of : {D : Type 0} → DeskView D → Fault → DeskView D
tried_of desk fault = record desk { measure = measured desk.measure desk.core.gate desk.core.gate (Err fault) }

-- The renewed log was not made. The desk stays, and its log is measured as after a turnover that was refused.
abbrev pub IsUnmoved : {D : Type 0} → DeskView D → DeskView D → Fault → Type 0
IsUnmoved old new fault = (new ≡ tried_of old fault) × IsUnmade old.core.stopped fault

module _ {D : Type 0} (keeps : Type 0) (file : D → File) where
  -- The core went on in another disk. Every crash from then on leaves the renewed log of its facts there. The board and the book stay.
  pub record HasMovedOn (old new : DeskView D) : Type 0 where
    pub running : IsFalse old.core.stopped
    pub core : new.core ≡ moved_to old.core new.core.disk new.core.gate 1
    pub durable : keeps → HoldsRenewal (surface (file new.core.disk)) old.core.facts
    pub book : new.book ≡ old.book
    pub board : new.board ≡ old.board
    pub measure : new.measure ≡ found_at (begun_anew new.core.gate)

  -- it went on there, or nothing happened
  abbrev pub HasMovedIf : Bool → DeskView D → DeskView D → Type 0
  HasMovedIf true old new = HasMovedOn old new
  HasMovedIf false old new = new ≡ old

  -- the same, and it goes on there only where its log is long
  abbrev pub HasMoved : ℕ → ℕ → Bool → DeskView D → DeskView D → Type 0
  HasMoved least beyond moved old new = (IsTrue moved → IsLong old least beyond) × HasMovedIf moved old new

  -- the same of what lies under a node's lock: a disk alone moves nothing
  abbrev pub HasMovedIn : ℕ → ℕ → Bool → PlaceView D → PlaceView D → Type 0
  HasMovedIn least beyond moved (Serving old) (Serving new) = HasMoved least beyond moved old new
  HasMovedIn least beyond moved (Resting old) (Resting new) = (moved ≡ false) × (new ≡ old)
  HasMovedIn least beyond moved _ _ = ⊥

-- the desk stays, since the renewed log was not made; or it is left as a disk alone, since nobody knows which disk a crash leaves
abbrev pub HasNotMovedIn : {D : Type 0} → ℕ → ℕ → Fault → PlaceView D → PlaceView D → Type 0
HasNotMovedIn least beyond fault (Serving old) (Serving new) = IsLong old least beyond × IsUnmoved old new fault
HasNotMovedIn least beyond fault (Serving old) (Resting new) = IsLong old least beyond × (fault ≡ Device) × IsLeftOf old new
HasNotMovedIn least beyond fault _ _ = ⊥
