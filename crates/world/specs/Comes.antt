-- What the parts of a run in the code answer.
use Rattle.std.specs.Prelude.{ℕ, Bool, true, false, ◌≡◌, ◌≢◌, ◌⊎◌, List, ◌++◌, Option, None, Result, Ok, Err, option_to_list}
use Rattle.units.specs.Keys.{Bytes}
use Rattle.units.specs.declared.fault.Fault.{Fault}
use Rattle.units.specs.declared.fault.Fault.TheVariants.{Memory}
use Rattle.units.specs.declared.line.Line.{Line}
use Rattle.message.specs.declared.message.Envelope.{Envelope}
use Rattle.message.specs.declared.message.Message.{Message}
use Rattle.session.specs.Sessions.{Client}
use Rattle.world.specs.World.{World, After, look_noted, put_out, refused, set_client, to_session}
use Rattle.world.specs.Hosts.{Hosts, with_client}
use Rattle.world.specs.Passed.{IsOutput}
use Rattle.world.specs.declared.event.Act.{Act}
use Rattle.world.specs.declared.event.Reply.{Reply}
use Rattle.world.specs.declared.hosting.Sessions.{Sessions}
use Rattle.world.specs.declared.output.RunOutput.{RunOutput}

-- messages are put out, or a refusal is the reply
abbrev pub HasReplied : World → Result (List Envelope) Fault → RunOutput → Result Reply Fault → Type 0
HasReplied w (Ok out) new (Ok reply) = (reply ≡ Reply.Done) × IsOutput new (put_out out w)
HasReplied w (Err fault) new (Ok reply) = (fault ≢ Memory) × (reply ≡ Reply.Refused fault) × IsOutput new w
HasReplied w answer new (Err fault) = fault ≡ Memory

-- with a line more, where there is one
abbrev pub with_line : Option Line → World → World
with_line line w = record w { lines = w.lines ++ option_to_list line }

-- a line is written, or a refusal is the reply
abbrev pub HasHeard : World → Result (Option Line) Fault → RunOutput → Result Reply Fault → Type 0
HasHeard w (Ok line) new (Ok reply) = (reply ≡ Reply.Done) × IsOutput new (with_line line w)
HasHeard w (Err fault) new (Ok reply) = (fault ≢ Memory) × (reply ≡ Reply.Refused fault) × IsOutput new w
HasHeard w answer new (Err fault) = fault ≡ Memory

-- an answered look is a line
abbrev pub Notes : World → Bytes → ℕ → Reply → RunOutput → Result Reply Fault → Type 0
Notes w k at shows new (Ok reply) = (reply ≡ (look_noted w k at shows).1) × IsOutput new (look_noted w k at shows).0
Notes w k at shows new (Err fault) = fault ≡ Memory

-- an end is no line
abbrev pub no_line : Result (List Envelope) Fault → Result (Option Line) Fault
no_line (Ok out) = Ok None
no_line (Err fault) = Err fault

-- a message comes to a session: it is taken, and may be a line; or it is refused; or memory was
abbrev pub TakesMessage : World → Message → Sessions → Result (Option Line) Fault → Type 0
TakesMessage w m new (Ok line) = (d : Client) × (to_session w m ≡ (with_line line (set_client d w), Reply.Done))
    × Hosts w.config.splits new (with_client d w.clients)
TakesMessage w m new (Err fault) = (fault ≡ Memory) ⊎ ((to_session w m ≡ refused w fault) × Hosts w.config.splits new w.clients)

-- the act of a session
abbrev pub is_of_session : Act → Bool
is_of_session (Act.Begin t) = true
is_of_session (Act.Read t k) = true
is_of_session (Act.Write t k x) = true
is_of_session (Act.Close t) = true
is_of_session (Act.Quit t) = true
is_of_session _ = false

-- the sessions and what was put out are those of the world after it, with its reply, and it leaves the rest; or memory was refused
abbrev pub ComesOf : World → After → Sessions → RunOutput → Result Reply Fault → Type 0
ComesOf w after s p (Ok reply) = (reply ≡ after.1) × Hosts w.config.splits s after.0.clients × IsOutput p after.0
    × (after.0.config ≡ w.config) × (after.0.shards ≡ w.shards) × (after.0.time ≡ w.time)
ComesOf w after s p (Err fault) = fault ≡ Memory
