-- How the sessions of a run in the code stand for those of the definitions.
use Rattle.std.specs.List.{list_any}
use Rattle.std.specs.Prelude.{◌≡◌, ◌⊎◌, Bool, true, not, ◌&&◌, cond, List, [], ◌∷◌, map, Option, Some, None, Result, Ok, Err, option_to_list}
use Rattle.units.specs.Ids.{same_id}
use Rattle.units.specs.Keys.{Bytes}
use Rattle.units.specs.declared.fault.Fault.{Fault}
use Rattle.units.specs.declared.fault.Fault.TheVariants.{Memory, Stranger}
use Rattle.units.specs.declared.line.Line.{Line}
use Rattle.message.specs.declared.message.Envelope.{Envelope}
use Rattle.message.specs.declared.message.ReadAnswer.{ReadAnswer}
use Rattle.session.specs.Sessions.{Client, IsOpen, Moved, Denies, Goes, finishes, hears}
use Rattle.world.specs.World.{read_lines}
use Rattle.world.specs.Held.{IsBegun, when_open}
use Rattle.world.specs.declared.begun.Begun.{Begun}
use Rattle.world.specs.declared.hosting.Sessions.{Sessions}

-- one by one
abbrev pub AreBegun : List Bytes → List Begun → List Client → Type 0
AreBegun splits [] [] = Unit {0}
AreBegun splits (b ∷ bs) (c ∷ cs) = IsBegun splits b c × AreBegun splits bs cs
AreBegun splits _ _ = ⊥

-- no id has two sessions
abbrev pub are_once : List Client → Bool
are_once [] = true
are_once (c ∷ cs) = not (list_any (λ d. same_id d.txn c.txn) cs) && are_once cs

-- the sessions of a run, which are found by their ids
pub record Hosts (splits : List Bytes) (s : Sessions) (cs : List Client) : Type 0 where
  pub splits_are : s.splits.now ≡ splits
  pub ids_are : s.ids.keys ≡ map (λ b. b.txn) s.begun.items
  pub begun : AreBegun splits s.begun.items cs
  pub once : are_once cs ≡ true

-- the sessions with another in a place
abbrev pub with_client : Client → List Client → List Client
with_client c cs = map (λ d. cond (same_id d.txn c.txn) c d) cs

-- the step of the session of an id, where it has begun
abbrev pub session_step : (Client → Moved) → Option Client → Moved
session_step f None = Denies Stranger
session_step f (Some c) = f c

-- a step of one session is made, or refused for its own reason; or memory was refused
abbrev pub MovesIn : List Bytes → Moved → Sessions → List Client → Result (List Envelope) Fault → Type 0
MovesIn splits m new cs (Ok out) = (d : Client) × (m ≡ Goes d out) × Hosts splits new (with_client d cs)
MovesIn splits m new cs (Err fault) = (fault ≡ Memory) ⊎ ((m ≡ Denies fault) × Hosts splits new cs)

-- an answer comes to a session
abbrev pub HearsIn : List Bytes → ReadAnswer → Sessions → List Client → Option Client → Result (Option Line) Fault → Type 0
HearsIn splits a new cs o (Ok line) =
    (c : Client) × (o ≡ Some c) × (c.stage ≡ IsOpen)
    × ((d : Client) × (d ≡ hears a.from a.key a.epoch a.answer c) × (option_to_list line ≡ read_lines c d a.key a.answer) × Hosts splits new (with_client d cs))
HearsIn splits a new cs o (Err fault) = (fault ≡ Memory) ⊎ ((fault ≡ Stranger) × (session_step (when_open finishes) o ≡ Denies Stranger) × Hosts splits new cs)
