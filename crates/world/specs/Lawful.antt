-- Which lists of events a network, honest clocks and honest clients can make.
use Rattle.std.specs.Prelude.{ℕ, Bool, true, false, not, cond, ◌&&◌, nat_eq, nat_lt, nat_le, List, [], ◌∷◌, length, slice_get, Option, Some, None}
use Rattle.units.specs.Lists.{when}
use Rattle.units.specs.Ids.{Id}
use Rattle.world.specs.World.{World, State, Runs, IsDown, start, happens, client_of}
use Rattle.truetime.specs.Reading.{is_honest}
use Rattle.message.specs.declared.message.Envelope.{Envelope}
use Rattle.protocol.specs.Plan.{time_limit}
use Rattle.message.specs.declared.message.Address.TheVariants.{Shard, Session}
use Rattle.world.specs.declared.event.Act.{Act}
use Rattle.world.specs.declared.event.Config.{Config}
use Rattle.world.specs.declared.event.Doing.{Doing}
use Rattle.world.specs.declared.event.Event.{Event}

-- the session of an id has begun
abbrev pub has_begun : World → Id → Bool
has_begun w t = when (λ c. true) (client_of w t)

-- a shard in some state
abbrev pub is_in : World → ℕ → (State → Bool) → Bool
is_in w n test = when (λ s. test s.state) (slice_get w.shards n)

-- it runs
abbrev pub is_up : State → Bool
is_up (Runs m) = true
is_up _ = false

-- it is down
abbrev pub is_down : State → Bool
is_down IsDown = true
is_down _ = false

-- the message goes to this shard
abbrev pub goes_to : ℕ → Envelope → Bool
goes_to n e = elim e.to [ Shard m ↦ nat_eq m n | Session t ↦ false ]

-- what a message is taken by: a shard, or a session that has begun
abbrev pub can_come : World → Envelope → Bool
can_come w e = elim e.to [ Shard m ↦ true | Session t ↦ has_begun w t ]

-- a doing at a shard: its reading is honest, its message was put out for this shard, the time that it advances to or forgets is
-- within the limit, an opening is of one that is not up
abbrev pub may_do : World → ℕ → ℕ → Doing → Bool
may_do w time n (Doing.Take m now) = is_honest time now && when (goes_to n) (slice_get w.bag m)
may_do w time n (Doing.Resume now) = is_honest time now
may_do w time n (Doing.Settle t now) = is_honest time now
may_do w time n (Doing.Advance at now) = is_honest time now && nat_le at time_limit
may_do w time n (Doing.Nudge t now) = is_honest time now
may_do w time n (Doing.Forget at now) = is_honest time now && nat_le at time_limit
may_do w time n (Doing.Retire below now) = is_honest time now
may_do w time n Doing.Turn = true
may_do w time n Doing.Open = is_in w n (λ s. not (is_up s))

-- a crash is of a shard that is up or stopped, but that of an opening is of one that is not up
abbrev pub may_crash : World → ℕ → Doing → Bool
may_crash w n Doing.Open = true
may_crash w n doing = is_in w n (λ s. not (is_down s))

-- one act at a time. A crash or a failure within an event is at the shard that the event names
unfoldable pub may_act : World → ℕ → Act → Bool
may_act w time (Act.Begin t) = not (has_begun w t)
may_act w time (Act.Read t k) = has_begun w t
may_act w time (Act.Write t k x) = has_begun w t
may_act w time (Act.Close t) = has_begun w t
may_act w time (Act.Quit t) = has_begun w t
may_act w time (Act.Deliver m now) = is_honest time now && when (can_come w) (slice_get w.bag m)
may_act w time (Act.At n doing) = nat_lt n (length w.shards) && may_do w time n doing
may_act w time (Act.Look n k at) = nat_lt n (length w.shards)
may_act w time (Act.View n v k at) = when (λ s. nat_lt v (length s.views)) (slice_get w.shards n)
may_act w time (Act.Crash n) = is_in w n (λ s. not (is_down s))
may_act w time (Act.CrashIn n call fate named doing) =
    nat_lt n (length w.shards) && nat_eq n named && may_do w time n doing && may_crash w n doing
may_act w time (Act.FailIn n call named doing) = nat_lt n (length w.shards) && nat_eq n named && may_do w time n doing

-- the next event: true times do not fall
abbrev pub may_happen : World → Event → Bool
may_happen w e = nat_le w.time e.time && may_act w e.time e.act

-- each event may happen after those before it
abbrev pub lawful_from : World → List Event → Bool
lawful_from w [] = true
lawful_from w (e ∷ es) = may_happen w e && lawful_from ((happens w e).0) es

-- the whole list, from the beginning
unfoldable pub lawful : Config → List Event → Bool
lawful config es = lawful_from (start config) es

-- the number of the first event that may not happen
abbrev pub first_unlawful_from : World → List Event → Option ℕ
first_unlawful_from w [] = None
first_unlawful_from w (e ∷ es) =
    let rest : Option ℕ = first_unlawful_from ((happens w e).0) es in cond (may_happen w e) rest (Some w.event)
