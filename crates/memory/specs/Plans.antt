-- A step of the code as a plan of the protocol.
use Rattle.std.specs.Prelude.{ℕ, List, [], ◌∷◌, Option, Some, None}
use Rattle.units.specs.Ids.{Id}
use Rattle.units.specs.declared.lock.Lock.{Lock}
use Rattle.record.specs.declared.record.Record.{Record}
use Rattle.message.specs.declared.message.Envelope.{Envelope}
use Rattle.rows.specs.CodeRows.{phase_of_wait}
use Rattle.rows.specs.RowTable.{phase_by}
use Rattle.rows.specs.declared.wait.CommitRequest.{CommitRequest}
use Rattle.protocol.specs.Rows.{Phase, Row, Voted, Idle, Collecting, find_row, with_vote}
use Rattle.protocol.specs.Outputs.{vote_to}
use Rattle.protocol.specs.Plan as protocol
use Rattle.memory.specs.declared.plan.Step.{Step}
use Rattle.memory.specs.declared.plan.Change.{Change}

-- a commit that collects votes, with those that came
abbrev pub collecting : CommitRequest → List Voted → Phase
collecting c votes = Collecting c.latest c.parts c.reads c.writes votes

-- the phase of a row that stands by a record
abbrev pub phase_logged : Option Record → Phase
phase_logged None = Idle
phase_logged (Some r) = phase_by r

-- the phase of a row that collects, with one vote more
abbrev pub counted : ℕ → ℕ → Option Row → Phase
counted n p None = Idle
counted n p (Some r) = elim r.phase [ Collecting l ps rs ws votes ↦ Collecting l ps rs ws (with_vote n p votes) | _ ↦ r.phase ]

-- a change as one of the protocol, with the locks that are asked for and the record that is logged
abbrev pub change_of : List Row → List Lock → Option Record → Change → protocol.Change
change_of rows needs logged Change.Keeps = protocol.Keeps
change_of rows needs logged (Change.Ends t) = protocol.Ends t
change_of rows needs logged (Change.Drops t) = protocol.Drops t
change_of rows needs logged (Change.Reads t) = protocol.Puts t needs Idle
change_of rows needs logged (Change.Waits t w) = protocol.Puts t [] (phase_of_wait (Some w))
change_of rows needs logged (Change.Collects t c) = protocol.Puts t needs (collecting c [])
change_of rows needs logged (Change.Counts t n p) = protocol.Puts t [] (counted n p (find_row rows t))
change_of rows needs logged (Change.Stands t) = protocol.Puts t needs (phase_logged logged)
change_of rows needs logged (Change.Decides t) = protocol.Puts t [] (phase_logged logged)
change_of rows needs logged (Change.Retires below) = protocol.Retires below

-- a step's plan with its record as one of the protocol, where these are the rows before it
abbrev pub plan_of : List Row → Step → protocol.Plan
plan_of rows s =
    record {
      wounded = s.plan.wounded;
      change = change_of rows s.plan.needs.items s.logged s.plan.change;
      logged = s.logged;
      last = s.plan.last;
      outbox = s.plan.outbox;
    }

-- the refused vote of a transaction, to the coordinator that awaits one
abbrev pub refusal : ℕ → Id → Option ℕ → List Envelope
refusal n t None = []
refusal n t (Some coordinator) = vote_to n coordinator t None ∷ []
