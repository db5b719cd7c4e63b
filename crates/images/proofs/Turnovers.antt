-- What a turnover comes to: whether it has a slot and room.
use Rattle.std.proofs.Common.{◌≡◌, inl, inr, ℕ, ◌+◌, ◌<◌, ◌≤◌, ◌^◌, Bool, true, false, cond, nat_le, nat_lt, ◌&&◌, [], None}
use Rattle.std.proofs.Common.{refl, ap, ◌∙◌, arith}
use Rattle.std.proofs.lemmas.Bool.{and_from, false≢true}
use Rattle.std.proofs.lemmas.Bool.Decides.{nat_tests}
use Rattle.units.specs.declared.fault.Fault.TheVariants.{TimeSpent}
use Rattle.gatelog.specs.Slots.{slot_count}
use Rattle.protocol.specs.Rows.{Memory}
use Rattle.protocol.specs.Step.{Refuses, Does}
use Rattle.record.specs.Facts.{facts_of}
use Rattle.ledger.specs.Turned.{turned}
use Rattle.lives.specs.Turned.{HasNoTurnPlace}
use Rattle.world.specs.World.{ShardNow}
use Rattle.world.specs.World.{gate_of, new_area, read_area, read_log, step_of_turnover, turns}
use Rattle.world.specs.declared.event.Doing.{Doing}

below : (a b : ℕ) → a < b → nat_lt a b ≡ true
below a b h = grind (arith, nat_tests)

at_most : (a b : ℕ) → a ≤ b → nat_le a b ≡ true
at_most a b h = grind (arith, nat_tests)

not_below : (a b : ℕ) → b ≤ a → nat_lt a b ≡ false
not_below a b h = grind (arith, nat_tests)

above : (a b : ℕ) → b < a → nat_le a b ≡ false
above a b h = grind (arith, nat_tests)

and_false : (a : Bool) → (a && false) ≡ false
and_false true = refl
and_false false = refl

-- it has
pub has_a_place : (s : ShardNow) (m : Memory) → (read_area s).slot < slot_count → gate_of (new_area s) + 1 ≤ 2 ^ 40 → step_of_turnover s m ≡ Does None m []
has_a_place s m slot room = ap (λ b. cond b (Does None m []) (Refuses TimeSpent))
    (and_from _ _ (below (read_area s).slot slot_count slot) (at_most (gate_of (new_area s) + 1) (2 ^ 40) room))

-- it has not
pub has_no_place : (s : ShardNow) (m : Memory) → HasNoTurnPlace (read_area s).slot (gate_of (read_area s)) (turned (facts_of (read_log s))) →
    step_of_turnover s m ≡ Refuses TimeSpent
has_no_place s m (inl no_slot) = ap (λ b. cond (b && nat_le (gate_of (new_area s) + 1) (2 ^ 40)) (Does None m []) (Refuses TimeSpent))
    (not_below (read_area s).slot slot_count no_slot)
has_no_place s m (inr no_room) = ap (λ b. cond (nat_lt (read_area s).slot slot_count && b) (Does None m []) (Refuses TimeSpent))
    (above (gate_of (new_area s) + 1) (2 ^ 40) no_room)
    ∙ ap (λ b. cond b (Does None m []) (Refuses TimeSpent)) (and_false (nat_lt (read_area s).slot slot_count))

-- a doing by which a log is turned over
pub turn_of : (doing : Doing) → turns doing ≡ true → doing ≡ Doing.Turn
turn_of Doing.Turn is = refl
turn_of Doing.Open is = absurd (false≢true is)
turn_of (Doing.Take m now) is = absurd (false≢true is)
turn_of (Doing.Resume now) is = absurd (false≢true is)
turn_of (Doing.Settle t now) is = absurd (false≢true is)
turn_of (Doing.Advance at now) is = absurd (false≢true is)
turn_of (Doing.Forget at now) is = absurd (false≢true is)
turn_of (Doing.Retire below now) is = absurd (false≢true is)
turn_of (Doing.Nudge t now) is = absurd (false≢true is)
