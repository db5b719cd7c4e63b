-- The replay of a book: a shard's accepted inputs, from the records that its opening found.
use Rattle.std.specs.Prelude.{◌≡◌, List, [], ◌∷◌, Option, Some, None}
use Rattle.truetime.specs.Interval.{Interval}
use Rattle.units.specs.declared.setup.Setup.{Setup}
use Rattle.record.specs.declared.record.Record.{Record}
use Rattle.record.specs.Facts.{Facts, facts_of}
use Rattle.message.specs.declared.message.Envelope.{Envelope}
use Rattle.message.specs.declared.message.Input.{Input}
use Rattle.protocol.specs.Rows.{Memory, rebuilt}
use Rattle.protocol.specs.Step.{Stepped, Refuses, Does, facts_after, step}

-- an accepted input, with the reading at which it came and the messages that were put out
pub record BookEntry : Type 0 where
  pub input : Input
  pub now : Interval
  pub outbox : List Envelope

-- where a shard stands: the facts of its log, and what it remembers
pub record Stand : Type 0 where
  pub facts : Facts
  pub memory : Memory

-- where an opening with these records leaves it
abbrev pub opened_with : List Record → Stand
opened_with records = record { facts = facts_of records; memory = rebuilt (facts_of records) }

-- where a step leaves it; a refused one where it was
abbrev pub after_step : Stand → Stepped → Stand
after_step s (Refuses fault) = s
after_step s (Does logged memory outbox) = record { facts = facts_after s.facts logged; memory = memory }

-- what a step puts out, where it is done
abbrev pub outbox_put_out : Stepped → Option (List Envelope)
outbox_put_out (Refuses fault) = None
outbox_put_out (Does logged memory outbox) = Some outbox

-- one input of the book
abbrev pub step_kept : Setup → Stand → BookEntry → Stepped
step_kept setup s k = step setup s.facts s.memory k.now k.input

-- where the inputs of a book lead
abbrev pub replayed : Setup → Stand → List BookEntry → Stand
replayed setup s [] = s
replayed setup s (k ∷ ks) = replayed setup (after_step s (step_kept setup s k)) ks

-- each input of the book is accepted, and puts out what was kept of it
abbrev pub IsReplay : Setup → Stand → List BookEntry → Type 0
IsReplay setup s [] = Unit {0}
IsReplay setup s (k ∷ ks) =
    (outbox_put_out (step_kept setup s k) ≡ Some k.outbox) × IsReplay setup (after_step s (step_kept setup s k)) ks
