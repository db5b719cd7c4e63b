-- What a step logs and what it puts out: the records, and the messages with their addresses.
use Rattle.std.specs.Prelude.{ℕ, List, [], ◌∷◌, Option, Some, None}
use Rattle.units.specs.Ids.{Id}
use Rattle.units.specs.Keys.{Bytes}
use Rattle.protocol.specs.Rows.{Row, WaitsPrepare}
use Rattle.units.specs.declared.writes.Write.{Write}
use Rattle.record.specs.declared.record.Record.{Record}
use Rattle.message.specs.declared.message.Message.{Message}
use Rattle.message.specs.declared.message.Envelope.{Envelope}
use Rattle.message.specs.declared.message.Address.TheVariants.{Shard, Session}
use Rattle.message.specs.declared.message.Answer.{Answer}

-- the record of a promise
abbrev pub promise : Id → ℕ → ℕ → List Bytes → List Write → Record
promise t c p rs ws = Record.Prepare (record { txn = t; coordinator = c; at = p; reads = rs; writes = ws })

-- the record of a decision
abbrev pub decision : Id → ℕ → List ℕ → List Bytes → List Write → Record
decision t s ps rs ws = Record.Commit (record { txn = t; at = s; parts = ps; reads = rs; writes = ws })

-- a vote, to the coordinator
abbrev pub vote_to : ℕ → ℕ → Id → Option ℕ → Envelope
vote_to from coordinator t vote = record { to = Shard coordinator; message = Message.Vote (record { from = from; txn = t; vote = vote }) }

-- the answer to a read: the value, or a refusal
abbrev pub answer_to : ℕ → Id → Bytes → ℕ → Answer → Envelope
answer_to from t k epoch answer =
    record { to = Session t; message = Message.ReadAnswer (record { from = from; txn = t; key = k; epoch = epoch; answer = answer }) }

-- the end of a transaction, to its session
abbrev pub done_to : Id → Option ℕ → Envelope
done_to t outcome = record { to = Session t; message = Message.Done (record { txn = t; outcome = outcome }) }

-- the outcome, to a shard that takes part
abbrev pub outcome_to : ℕ → Id → Option ℕ → ℕ → Envelope
outcome_to from t outcome n = record { to = Shard n; message = Message.Outcome (record { from = from; txn = t; outcome = outcome }) }

-- the question for an outcome, to the coordinator
abbrev pub ask_to : ℕ → ℕ → Id → Envelope
ask_to from coordinator t = record { to = Shard coordinator; message = Message.Ask (record { from = from; txn = t }) }

-- the refused vote of a row that waited with a prepare
abbrev pub refused_vote : ℕ → Option Row → List Envelope
refused_vote n None = []
refused_vote n (Some r) = elim r.phase [ WaitsPrepare c rs ws ↦ vote_to n c r.txn None ∷ [] | _ ↦ [] ]
