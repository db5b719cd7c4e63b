-- What is told of a plan, or of a refusal; and how it is told of a choice.
use Rattle.std.proofs.Common.{refl, subst}
use Rattle.std.specs.Prelude.{◌≡◌, Bool, true, false, cond, Ok, Err}
use Rattle.units.specs.declared.fault.Fault.{Fault}
use Rattle.units.specs.declared.fault.Fault.TheVariants.{RowsFull}
use Rattle.protocol.specs.Plan.{Plan, Planned, roomed}

-- this of the plan, or that of the refusal
abbrev pub OfPlanned : (Plan → Type 0) → (Fault → Type 0) → Planned → Type 0
OfPlanned Q R (Ok p) = Q p
OfPlanned Q R (Err fault) = R fault

pub record Each (Q : Plan → Type 0) (R : Fault → Type 0) (x : Planned) : Type 0 where
  pub each : OfPlanned Q R x

pub planned : {Q : Plan → Type 0} {R : Fault → Type 0} (p : Plan) → Q p → Each Q R (Ok p)
planned p h = record { each = h }

pub refused : {Q : Plan → Type 0} {R : Fault → Type 0} (fault : Fault) → R fault → Each Q R (Err fault)
refused fault h = record { each = h }

-- so of the plan that there is
pub told_plan : {Q : Plan → Type 0} {R : Fault → Type 0} {x : Planned} {p : Plan} → Each Q R x → x ≡ Ok p → Q p
told_plan {Q} {R} h e = (subst (Each Q R) e h).each

-- by a test that matters, and by one that does not
pub tested : {Q : Plan → Type 0} {R : Fault → Type 0} (test : Bool) (x y : Planned) → (test ≡ true → Each Q R x) → Each Q R y → Each Q R (cond test x y)
tested true x y h k = h refl
tested false x y h k = k

pub either : {Q : Plan → Type 0} {R : Fault → Type 0} (test : Bool) (x y : Planned) → Each Q R x → Each Q R y → Each Q R (cond test x y)
either test x y h k = tested test x y (λ _. h) k

-- a plan that may lack room
pub within_room : {Q : Plan → Type 0} {R : Fault → Type 0} (crowded : Bool) (x : Planned) → R RowsFull → Each Q R x → Each Q R (roomed crowded x)
within_room true (Ok p) full h = refused RowsFull full
within_room true (Err fault) full h = h
within_room false x full h = h
