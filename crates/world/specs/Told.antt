-- Acknowledgements, from the transactions whose commit was told before and the number of the event.
use Rattle.std.specs.Prelude.{ℕ, cond, List, [], ◌∷◌, Option, Some, None, option_to_list, option_map}
use Rattle.units.specs.Ids.{Id}
use Rattle.units.specs.declared.line.Line.{Line}
use Rattle.message.specs.declared.message.Envelope.{Envelope}
use Rattle.message.specs.declared.message.Message.{Message}
use Rattle.world.specs.Among.{is_among}

-- the transaction whose commit a message tells to its session
abbrev pub told_in : Envelope → List Id
told_in e = elim e.message [ Message.Done d ↦ option_to_list (option_map (λ s. d.txn) d.outcome) | _ ↦ [] ]

-- the acknowledgement of an end
abbrev pub ack_by : List Id → ℕ → Id → Option ℕ → List Line
ack_by told event t None = []
ack_by told event t (Some s) = cond (is_among told t) [] (Line.Ack t s event ∷ [])

-- the acknowledgement that a message is
abbrev pub ack_in : List Id → ℕ → Envelope → List Line
ack_in told event e = elim e.message [ Message.Done d ↦ ack_by told event d.txn d.outcome | _ ↦ [] ]
