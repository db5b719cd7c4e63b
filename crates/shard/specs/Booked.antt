-- What an input makes of a core's book.
use Rattle.std.specs.Prelude.{◌≡◌, ◌⊎◌, ℕ, Bool, true, false, List, Option, Result, Ok, Err}
use Rattle.units.specs.declared.fault.Fault.{Fault}
use Rattle.units.specs.declared.fault.Fault.TheVariants.{Memory as WantsMemory, Stopped, TimeSpent, BookFull}
use Rattle.truetime.specs.Interval.{Interval}
use Rattle.message.specs.declared.message.Envelope.{Envelope}
use Rattle.message.specs.declared.message.Input.{Input}
use Rattle.protocol.specs.Replay.{Stand}
use Rattle.protocol.specs.Step.{Stepped, Refuses, Does}
use Rattle.book.specs.Books.{BookView, and_page}
use Rattle.gatelog.specs.Frames.{IsNearLimit}
use Rattle.shard.specs.On.{CoreView, IsLogFull}

-- where a core stands
abbrev pub stand_of : {D : Type 0} → CoreView D → Stand
stand_of core = record { facts = core.facts; memory = core.memory }

-- an input that is taken is a page more, where a book is kept; a refused one leaves the book as it was
abbrev pub HasEntered : Option BookView → Option BookView → Interval → Input → Result (List Envelope) Fault → Type 0
HasEntered old new now i (Ok out) = new ≡ and_page old (record { input = i; now = now; outbox = out })
HasEntered old new now i (Err fault) = new ≡ old

-- Why an input is refused by a core whose book is full. A stopped core refuses all. Else it is the step's own refusal; or, where
-- the step would be done: the log would pass its limit, or the book is full. A growth that was refused is answered only near the
-- log's limit, where the record may not have been made, so that its length is not known.
abbrev pub IsFullCause : Bool → ℕ → Stepped → Fault → Type 0
IsFullCause true gate step fault = fault ≡ Stopped
IsFullCause false gate (Refuses why) fault = fault ≡ why
IsFullCause false gate (Does logged memory outbox) fault =
    ((fault ≡ WantsMemory) × IsNearLimit gate)
    ⊎ (((fault ≡ TimeSpent) × IsLogFull gate logged) ⊎ ((fault ≡ BookFull) × (IsLogFull gate logged → ⊥)))

-- what a core whose book is full answers where the plan of an input was refused so
abbrev pub IsFirst : ℕ → Fault → Fault → Type 0
IsFirst gate planned fault =
    ((planned ≡ WantsMemory) × (fault ≡ BookFull) × (IsNearLimit gate → ⊥))
    ⊎ ((fault ≡ planned) × (planned ≡ WantsMemory → IsNearLimit gate))

-- a core whose book is full takes no input, and all stays as it was
abbrev pub IsCrowded : {D : Type 0} → CoreView D → CoreView D → Stepped → Result (List Envelope) Fault → Type 0
IsCrowded old new step (Ok out) = ⊥
IsCrowded old new step (Err fault) = (new ≡ old) × IsFullCause old.stopped old.gate step fault
