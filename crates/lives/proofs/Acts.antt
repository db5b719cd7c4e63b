-- What an act is that is none of some.
use Rattle.std.proofs.Common.{◌≡◌, ℕ, true, Option, Some, None, refl}
use Rattle.units.specs.Ids.{Id}
use Rattle.units.specs.Keys.{Bytes}
use Rattle.truetime.specs.Interval.{Interval}
use Rattle.disk.specs.declared.plan.Fate.{Fate}
use Rattle.world.specs.Comes.{is_of_session}
use Rattle.world.specs.declared.event.Act.{Act}
use Rattle.world.specs.declared.event.Doing.{Doing}
use Rattle.lives.specs.Fleet.{act_shard}

-- it is of a session
pub of_session : (a : Act) → ((m : ℕ) (now : Interval) → a ≡ Act.Deliver m now → ⊥) → ((n : ℕ) (doing : Doing) → a ≡ Act.At n doing → ⊥)
    → ((n : ℕ) (k : Bytes) (at : ℕ) → a ≡ Act.Look n k at → ⊥) → ((n v : ℕ) (k : Bytes) (at : ℕ) → a ≡ Act.View n v k at → ⊥)
    → ((n : ℕ) → a ≡ Act.Crash n → ⊥) → ((n call : ℕ) (fate : Fate) (named : ℕ) (doing : Doing) → a ≡ Act.CrashIn n call fate named doing → ⊥)
    → ((n call named : ℕ) (doing : Doing) → a ≡ Act.FailIn n call named doing → ⊥)
    → is_of_session a ≡ true
of_session (Act.Deliver m now) f0 f1 f2 f3 f4 f5 f6 = absurd (f0 m now refl)
of_session (Act.At n doing) f0 f1 f2 f3 f4 f5 f6 = absurd (f1 n doing refl)
of_session (Act.Look n k at) f0 f1 f2 f3 f4 f5 f6 = absurd (f2 n k at refl)
of_session (Act.View n v k at) f0 f1 f2 f3 f4 f5 f6 = absurd (f3 n v k at refl)
of_session (Act.Crash n) f0 f1 f2 f3 f4 f5 f6 = absurd (f4 n refl)
of_session (Act.CrashIn n call fate named doing) f0 f1 f2 f3 f4 f5 f6 = absurd (f5 n call fate named doing refl)
of_session (Act.FailIn n call named doing) f0 f1 f2 f3 f4 f5 f6 = absurd (f6 n call named doing refl)
of_session _ f0 f1 f2 f3 f4 f5 f6 = refl

-- without a shard, it is one of these
pub has_shard : (a : Act) → act_shard a ≡ None
    → ((t : Id) → a ≡ Act.Begin t → ⊥) → ((t : Id) (k : Bytes) → a ≡ Act.Read t k → ⊥)
    → ((t : Id) (k : Bytes) (x : Option Bytes) → a ≡ Act.Write t k x → ⊥) → ((t : Id) → a ≡ Act.Close t → ⊥)
    → ((t : Id) → a ≡ Act.Quit t → ⊥) → ((m : ℕ) (now : Interval) → a ≡ Act.Deliver m now → ⊥)
    → ⊥
has_shard (Act.Begin t) is f0 f1 f2 f3 f4 f5 = f0 t refl
has_shard (Act.Read t k) is f0 f1 f2 f3 f4 f5 = f1 t k refl
has_shard (Act.Write t k x) is f0 f1 f2 f3 f4 f5 = f2 t k x refl
has_shard (Act.Close t) is f0 f1 f2 f3 f4 f5 = f3 t refl
has_shard (Act.Quit t) is f0 f1 f2 f3 f4 f5 = f4 t refl
has_shard (Act.Deliver m now) is f0 f1 f2 f3 f4 f5 = f5 m now refl
has_shard _ is f0 f1 f2 f3 f4 f5 = absurd (cc)

-- with a shard, it is one of these
pub has_no_shard : (a : Act) → (n : ℕ) → act_shard a ≡ Some n
    → ((n : ℕ) (doing : Doing) → a ≡ Act.At n doing → ⊥) → ((n : ℕ) (k : Bytes) (at : ℕ) → a ≡ Act.Look n k at → ⊥)
    → ((n v : ℕ) (k : Bytes) (at : ℕ) → a ≡ Act.View n v k at → ⊥) → ((n : ℕ) → a ≡ Act.Crash n → ⊥)
    → ((n call : ℕ) (fate : Fate) (named : ℕ) (doing : Doing) → a ≡ Act.CrashIn n call fate named doing → ⊥)
    → ((n call named : ℕ) (doing : Doing) → a ≡ Act.FailIn n call named doing → ⊥)
    → ⊥
has_no_shard (Act.At n doing) n0 is f0 f1 f2 f3 f4 f5 = f0 n doing refl
has_no_shard (Act.Look n k at) n0 is f0 f1 f2 f3 f4 f5 = f1 n k at refl
has_no_shard (Act.View n v k at) n0 is f0 f1 f2 f3 f4 f5 = f2 n v k at refl
has_no_shard (Act.Crash n) n0 is f0 f1 f2 f3 f4 f5 = f3 n refl
has_no_shard (Act.CrashIn n call fate named doing) n0 is f0 f1 f2 f3 f4 f5 = f4 n call fate named doing refl
has_no_shard (Act.FailIn n call named doing) n0 is f0 f1 f2 f3 f4 f5 = f5 n call named doing refl
has_no_shard _ n0 is f0 f1 f2 f3 f4 f5 = absurd (cc)
