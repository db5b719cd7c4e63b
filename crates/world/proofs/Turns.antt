-- The calls of a turnover in runs are those of a log's file.
use Rattle.std.proofs.Common.{◌≡◌, ℕ, refl}
use Rattle.disk.specs.declared.plan.Fate.{Fate}
use Rattle.gatelog.specs.ArmedTurn as file
use Rattle.gatelog.specs.Slots.{slot_count}
use Rattle.gatelog.specs.declared.frame.TheConstants.{SLOTS}
use Rattle.world.specs.World.{is_left_turn, is_read_turn}

pub same_read : (call : ℕ) → is_read_turn call ≡ file.is_read_turn call
same_read call = refl

pub same_left : (call : ℕ) (fate : Fate) → is_left_turn call fate ≡ file.is_left_turn call fate
same_left call fate = refl

pub same_slots : SLOTS ≡ slot_count
same_slots = refl
