-- What the nodes over some disks come to, one behind the other.
use Rattle.std.specs.Prelude.{◌≡◌, ◌⊎◌, ℕ, suc, List, [], ◌∷◌, ◌++◌, length, map, max, Some, Result, Ok, Err, IsOk}
use Rattle.units.specs.Keys.{Bytes}
use Rattle.units.specs.Lists.{greatest}
use Rattle.units.specs.declared.fault.Fault.{Fault}
use Rattle.units.specs.declared.fault.Fault.TheVariants.{BadRequest, Memory}
use Rattle.units.specs.declared.fault.Reason.TheVariants.{Settings}
use Rattle.units.specs.declared.setup.Setup.{Setup}
use Rattle.node.specs.Setups.{IsSetupOf}
use Rattle.node.specs.declared.fleet.Made.{Made}
use Rattle.node.specs.declared.unopened.Unopened.{Unopened}

-- each of some disks has the setup of its place, from a number on
abbrev pub AreSetups : {D : Type 0} → List Bytes → ℕ → ℕ → List (D × Setup) → Type 0
AreSetups splits stride n [] = Unit {0}
AreSetups splits stride n (one ∷ rest) = IsSetupOf splits stride n one.1 × AreSetups splits stride (suc n) rest

-- why no disk is opened: the settings are beyond their limits, or there is no memory
abbrev pub IsEarly : Fault → Type 0
IsEarly fault = (fault ≡ BadRequest Settings) ⊎ (fault ≡ Memory)

-- none of some nodes was refused
abbrev pub AreMade : {N : Type 0} → List (Result (Made N) Fault) → Type 0
AreMade [] = Unit {0}
AreMade (one ∷ rest) = IsOk one × AreMade rest

-- the epoch of the opening of a node that was made, and the greatest timestamp of its log
abbrev pub epoch_in : {N : Type 0} → Result (Made N) Fault → ℕ
epoch_in (Ok made) = made.epoch
epoch_in (Err fault) = 0

abbrev pub last_in : {N : Type 0} → Result (Made N) Fault → ℕ
last_in (Ok made) = made.last
last_in (Err fault) = 0

-- why a node does not stand beside the others: what it was refused for, or memory is wanting
abbrev pub IsCauseOf : {N : Type 0} → Result (Made N) Fault → Fault → Type 0
IsCauseOf (Ok made) fault = fault ≡ Memory
IsCauseOf (Err why) fault = fault ≡ why

-- so many nodes, none of which was refused; with the greatest epoch of their openings, and the greatest timestamp of their logs
pub record IsOpenedOver {N : Type 0} (all : List (Result (Made N) Fault)) (n e l : ℕ) : Type 0 where
  pub made : AreMade all
  pub nodes : n ≡ length all
  pub epoch : e ≡ max 1 (greatest (map epoch_in all))
  pub last : l ≡ greatest (map last_in all)

-- the first of some nodes that is refused
pub record IsFirstOf {N : Type 0} (all : List (Result (Made N) Fault)) (u : Unopened) : Type 0 where
  pub before : List (Result (Made N) Fault)
  pub one : Result (Made N) Fault
  pub behind : List (Result (Made N) Fault)
  pub whole : all ≡ before ++ one ∷ behind
  pub made : AreMade before
  pub place : u.shard ≡ Some (length before)
  pub cause : IsCauseOf one u.fault
