-- How a session in the code stands for one of the definitions, and how a step of it does for a step there.
use Rattle.std.specs.Prelude.{◌≡◌, ◌⊎◌, List, Option, Result, Ok, Err, option_to_list}
use Rattle.units.specs.Keys.{Bytes}
use Rattle.units.specs.declared.fault.Fault.{Fault}
use Rattle.units.specs.declared.fault.Fault.TheVariants.{Memory, Stranger}
use Rattle.units.specs.declared.line.Line.{Line}
use Rattle.message.specs.declared.message.Envelope.{Envelope}
use Rattle.message.specs.declared.message.ReadAnswer.{ReadAnswer}
use Rattle.session.specs.Sessions.{Client, IsOpen, IsClosing, IsOver, Moved, Denies, Goes, reads, buffers, closes, gives_up, finishes, hears}
use Rattle.world.specs.World.{read_lines}
use Rattle.world.specs.declared.begun.Begun.{Begun}
use Rattle.world.specs.declared.begun.Held.{Held}
use Rattle.world.specs.declared.begun.Leave.{Leave}
use Rattle.world.specs.declared.begun.Step.{Step}
use Rattle.world.specs.declared.begun.Held.TheVariants.{Open, Closing, Over}

-- what is held of a session: all of it while it goes on, and nothing once it is over
abbrev pub IsHeld : List Bytes → Held → Client → Type 0
IsHeld splits (Open tx) c = (tx ≡ record { splits = splits; client = c }) × (c.stage ≡ IsOpen)
IsHeld splits (Closing tx) c = (tx ≡ record { splits = splits; client = c }) × (c.stage ≡ IsClosing)
IsHeld splits Over c = c.stage ≡ IsOver

-- the session that has begun
pub record IsBegun (splits : List Bytes) (b : Begun) (c : Client) : Type 0 where
  pub txn : c.txn ≡ b.txn
  pub held : IsHeld splits b.held c

-- an open session takes a step; any other is a stranger to it
abbrev pub when_open : (Client → Moved) → Client → Moved
when_open f c = elim c.stage [ IsOpen ↦ f c | _ ↦ Denies Stranger ]

-- a session that is not over takes a step
abbrev pub when_not_over : (Client → Moved) → Client → Moved
when_not_over f c = elim c.stage [ IsOver ↦ Denies Stranger | _ ↦ f c ]

-- a closing session hears the end
abbrev pub when_closing : Client → Moved
when_closing c = elim c.stage [ IsClosing ↦ finishes c | _ ↦ Denies Stranger ]

-- how it goes on to its end
abbrev pub ends : List Bytes → Leave → Client → Moved
ends splits Leave.Close c = when_open (closes splits) c
ends splits Leave.Quit c = when_not_over (gives_up splits) c
ends splits (Leave.Hear outcome) c = when_closing c

-- the step that it is asked for, or that it takes when it hears its end
abbrev pub asks : List Bytes → Step → Client → Moved
asks splits (Step.Read k) c = when_open (reads splits k) c
asks splits (Step.Write k x) c = when_open (buffers (record { key = k; value = x.now })) c
asks splits (Step.Leave leave) c = ends splits leave c

-- what a step of a transaction answers: it is made, or refused for its own reason; or memory was refused
abbrev pub Steps : Moved → Client → Client → Result (List Envelope) Fault → Type 0
Steps m d c (Ok out) = m ≡ Goes d out
Steps m d c (Err fault) = (fault ≡ Memory) ⊎ ((m ≡ Denies fault) × (d ≡ c))

-- a step is made, or it is refused for its own reason, and the session is as it was; or memory was refused
abbrev pub Moves : List Bytes → Moved → Begun → Client → Result (List Envelope) Fault → Type 0
Moves splits m new c (Ok out) = (d : Client) × (m ≡ Goes d out) × (d.txn ≡ c.txn) × IsBegun splits new d
Moves splits m new c (Err fault) = (fault ≡ Memory) ⊎ ((m ≡ Denies fault) × IsBegun splits new c)

-- an answer is heard by an open session, and refused by any other; or memory was refused
abbrev pub Hears : List Bytes → ReadAnswer → Begun → Client → Result (Option Line) Fault → Type 0
Hears splits a new c (Ok line) =
    (d : Client) × (c.stage ≡ IsOpen) × (d ≡ hears a.from a.key a.epoch a.answer c) × (option_to_list line ≡ read_lines c d a.key a.answer)
    × IsBegun splits new d
Hears splits a new c (Err fault) = (fault ≡ Memory) ⊎ ((fault ≡ Stranger) × (when_open finishes c ≡ Denies Stranger) × IsBegun splits new c)
