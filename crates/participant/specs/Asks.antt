-- The plans of what a participant asks for.
use Rattle.std.specs.Prelude.{ℕ, cond, max, List, [], ◌∷◌, Some, None}
use Rattle.units.specs.Ids.{Id}
use Rattle.units.specs.Keys.{Bytes}
use Rattle.units.specs.Locks.{exclusive}
use Rattle.units.specs.declared.writes.Write.{Write}
use Rattle.protocol.specs.Rows.{Idle, WaitsRead, IsPrepared}
use Rattle.protocol.specs.Outputs.{promise, vote_to}
use Rattle.protocol.specs.Plan.{Before, Plan, puts, opens, in_way}
use Rattle.protocol.specs.Cells.{to_read, answers}

-- a shared lock is granted, and the read answered
abbrev pub granted_read : Before → List Id → Id → Bytes → Plan
granted_read b ended t k = puts b ended t (to_read k) Idle None b.memory.last (answers b t k ∷ [])

-- a wait for a shared lock
abbrev pub waits_read : Before → Id → Bytes → Plan
waits_read b t k = puts b (in_way b t (to_read k)) t [] (WaitsRead k) None b.memory.last []

-- a shared lock and the answer, or a wait
abbrev pub read_asks : Before → Id → Bytes → Plan
read_asks b t k = cond (opens b t (to_read k)) (granted_read b (in_way b t (to_read k)) t k) (waits_read b t k)

-- the promise at a timestamp, and the vote
abbrev pub promised_by : Before → List Id → Id → ℕ → ℕ → List Bytes → List Write → Plan
promised_by b ended t p c rs ws =
    puts b ended t (exclusive ws) (IsPrepared c p) (Some (promise t c p rs ws)) (max b.memory.last p) (vote_to b.shard c t (Some p) ∷ [])
