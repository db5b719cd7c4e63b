-- How a run in the code stands for a world of the definitions, and what its events come to.
use Rattle.std.specs.Prelude.{ℕ, ◌≡◌, ◌⊎◌, true, false, Option, None, Some, Result, Ok, Err}
use Rattle.units.specs.declared.fault.Fault.{Fault}
use Rattle.units.specs.declared.fault.Fault.TheVariants.{Memory, BadRequest}
use Rattle.units.specs.declared.fault.Reason.TheVariants.{Unlawful}
use Rattle.world.specs.World.{World, After, at_shard, did_with_failure, do_at, effect, happens}
use Rattle.world.specs.Lawful.{may_happen}
use Rattle.world.specs.Hosts.{Hosts}
use Rattle.world.specs.Steady.{HasAreas, IsSteady}
use Rattle.world.specs.Passed.{IsOutput}
use Rattle.world.specs.declared.event.Doing.{Doing}
use Rattle.world.specs.declared.event.Event.{Event}
use Rattle.world.specs.declared.event.Reply.{Reply}
use Rattle.lives.specs.Fleet.{AreShards}
use Rattle.lives.specs.declared.run.Run.{Run}

-- its sessions, its shards, what was put out, and its time
pub record IsRun (r : Run) (w : World) : Type 0 where
  pub sessions : Hosts w.config.splits r.sessions w.clients
  pub shards : AreShards w.config r.shards w.shards
  pub output : IsOutput r.output w
  pub time : r.time ≡ w.time

-- what is known of each world of a lawful run
abbrev pub KeepsLaws : World → Type 0
KeepsLaws w = IsSteady w × HasAreas w

-- the run is the world after an event, with its reply; or memory was refused
abbrev pub ComesAfter : After → Run → Result Reply Fault → Type 0
ComesAfter after new (Ok reply) = (reply ≡ after.1) × IsRun new after.0
ComesAfter after new (Err fault) = fault ≡ Memory

-- a doing at a shard, with a call that fails or with none
abbrev pub act_at : World → ℕ → Option ℕ → Doing → After
act_at w n None doing = do_at w n doing
act_at w n (Some call) doing = at_shard w n (λ setup s. did_with_failure w n s call doing (effect setup w.bag s doing))

-- the event may happen, and the run is the world after it; or it may not; or memory was refused
abbrev pub TakesEvent : World → Event → Run → Result Reply Fault → Type 0
TakesEvent w e new (Ok reply) = (may_happen w e ≡ true) × ComesAfter (happens w e) new (Ok reply)
TakesEvent w e new (Err fault) = (fault ≡ Memory) ⊎ ((fault ≡ BadRequest (Unlawful w.event)) × (may_happen w e ≡ false))
