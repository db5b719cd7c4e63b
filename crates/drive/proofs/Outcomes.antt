-- What is said of what went well, and of what is told without a verdict.
use Rattle.std.proofs.Common.{◌≡◌, ◌≤◌, ℕ, List, Option, Some, None, Result, Ok, Err, IfOk, subst, sym}
use Rattle.std.specs.Prelude.{IfSome}
use Rattle.units.specs.declared.fault.Fault.{Fault}
use Rattle.workers.specs.Summaries.{counts_text, tried}
use Rattle.workers.specs.declared.summary.Counts.{Counts}
use Rattle.drive.specs.Told.{AreCounts}

pub both_ok : {T E : Type 0} (P Q S : T → Type 0) (r : Result T E) → ((x : T) → P x → Q x → S x) → IfOk r P → IfOk r Q → IfOk r S
both_ok P Q S (Ok x) f p q = f x p q
both_ok P Q S (Err e) f p q = tt

-- a text without a verdict is of counts that are known
pub counted_in : {T : Type 0} (bytes : T → List ℕ) (n : ℕ) (counts : Option Counts) (text : Option T)
    → IfSome counts (λ c. (tried c ≡ n) × (c.looks ≤ tried c))
    → IfSome text (λ t. (c : Counts) × (counts ≡ Some c) × (bytes t ≡ counts_text c)) → IfSome text (λ t. AreCounts n (bytes t))
counted_in bytes n counts None known says = tt
counted_in bytes n counts (Some t) known says =
    let is = subst (λ (o : Option Counts). IfSome o (λ c. (tried c ≡ n) × (c.looks ≤ tried c))) says.1 known in
    record { counts = says.0; lines = says.2; all = is.0; looks = is.1 }

-- and why there is none is known then
pub unjudged_in : {T : Type 0} (bytes : T → List ℕ) (P : Fault → Type 0) (counts : Option Counts) (text : Option T) (fault other : Fault)
    → IfSome counts (λ c. P fault) → IfSome text (λ t. (c : Counts) × (counts ≡ Some c) × (bytes t ≡ counts_text c)) → other ≡ fault
    → IfSome text (λ t. P other)
unjudged_in bytes P counts None fault other known says same = tt
unjudged_in bytes P counts (Some t) fault other known says same =
    subst P (sym same) (subst (λ (o : Option Counts). IfSome o (λ c. P fault)) says.1 known)
