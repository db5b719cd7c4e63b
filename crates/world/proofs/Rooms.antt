-- A step where its record has room, and where it has none.
use Rattle.std.proofs.Common.{◌≡◌, ℕ, ◌+◌, ◌^◌, ◌<◌, ◌≤◌, Bool, true, false, cond, nat_le, List, Option, Some, None, ap, arith}
use Rattle.std.proofs.lemmas.Bool.Decides.{nat_tests}
use Rattle.units.specs.declared.fault.Fault.TheVariants.{TimeSpent}
use Rattle.gatelog.specs.Frames.{IsFull, next_gate}
use Rattle.message.specs.declared.message.Envelope.{Envelope}
use Rattle.protocol.specs.Rows.{Memory}
use Rattle.protocol.specs.Step.{Stepped, Refuses, Does}
use Rattle.record.specs.declared.record.Record.{Record}
use Rattle.world.specs.World.{has_room, where_room}

pub done_wanted : (gate : ℕ) (st : Stepped) (logged : Option Record) (memory : Memory) (out : List Envelope) →
    where_room gate st ≡ Does logged memory out → st ≡ Does logged memory out
done_wanted gate (Refuses f) logged memory out e = e
done_wanted gate (Does None m o) logged memory out e = e
done_wanted gate (Does (Some r) m o) logged memory out e = by_test (has_room gate r) e
  where
    by_test : (b : Bool) → cond b (Does (Some r) m o) (Refuses TimeSpent) ≡ Does logged memory out → Does (Some r) m o ≡ Does logged memory out
    by_test true k = k
    by_test false k = cc

at_most : (a b : ℕ) → a ≤ b → nat_le a b ≡ true
at_most a b h = grind (arith, nat_tests)

above : (a b : ℕ) → b < a → nat_le a b ≡ false
above a b h = grind (arith, nat_tests)

pub room_is : (gate : ℕ) (r : Record) (memory : Memory) (out : List Envelope) → next_gate gate r + 1 ≤ 2 ^ 40 →
    where_room gate (Does (Some r) memory out) ≡ Does (Some r) memory out
room_is gate r memory out room =
    ap (λ b. cond b (Does (Some r) memory out) (Refuses TimeSpent)) (at_most (next_gate gate r + 1) (2 ^ 40) room)

pub full_is : (gate : ℕ) (r : Record) (memory : Memory) (out : List Envelope) → IsFull gate r →
    where_room gate (Does (Some r) memory out) ≡ Refuses TimeSpent
full_is gate r memory out full =
    ap (λ b. cond b (Does (Some r) memory out) (Refuses TimeSpent)) (above (next_gate gate r + 1) (2 ^ 40) full.0)
