-- Calls that fail by a disk's plan.
use Rattle.std.proofs.Common.{◌≡◌, ◌||◌, ℕ, Bool, true, false, if◌then◌else◌, List, Result, Ok, Err, refl, sym, subst, ap, ◌∙◌}
use Rattle.std.specs.Prelude.{IfErr, OnOk, IsErr}
use Rattle.std.proofs.lemmas.Bool.{false≢true}
use Rattle.disk.specs.declared.plan.FailurePlan.{FailurePlan}
use Rattle.disk.specs.declared.plan.FailurePlan.TheVariants.{Never, After, AfterWrite}
use Rattle.disk.specs.File.{File, wrote, tried, with_change, synced}
use Rattle.disk.specs.Planned.{fails, next, IsAsPlanned}
use Rattle.frames.specs.Calls.{waits}

pub planned_ok : (E : Type 0) {T : Type 0} (failed : Bool) (value : T) → IsAsPlanned {T = T} {E = E} failed (Ok value) → failed ≡ false
planned_ok E true value is = absurd (false≢true is)
planned_ok E false value is = refl

pub planned_err : (T : Type 0) {E : Type 0} (failed : Bool) (error : E) → IsAsPlanned {T = T} {E = E} failed (Err error) → failed ≡ true
planned_err T true error is = refl
planned_err T false error is = absurd (false≢true is)

-- a call that is not to fail refuses nothing
pub no_err : {T E : Type 0} (failed : Bool) (result : Result T E) (Q : E → Type 0) → IsAsPlanned failed result → failed ≡ false → IfErr result Q
no_err failed (Ok value) Q planned is = tt
no_err {T = T} failed (Err error) Q planned is = absurd (false≢true (sym is ∙ planned_err T failed error planned))

-- what holds anyway holds after Ok
pub on_any : {T E : Type 0} (result : Result T E) (P : Type 0) → P → OnOk result P
on_any (Ok value) P holds = holds
on_any (Err error) P holds = tt

-- what holds of the fault that it was refused for
pub if_err : {T E : Type 0} (P : E → Type 0) (result : Result T E) (error : E) → result ≡ Err error → P error → IfErr result P
if_err P result error is holds = subst (λ r. IfErr r P) (sym is) holds

pub as_err : {T E : Type 0} (result : Result T E) (failed : Bool) → failed ≡ true → IsErr result → IsAsPlanned failed result
as_err result true is err = err
as_err result false is err = absurd (false≢true is)

-- what holds after Ok leads to what follows from it
pub on_map : {T E : Type 0} {A B : Type 0} (result : Result T E) → (A → B) → OnOk result A → OnOk result B
on_map (Ok value) f a = f a
on_map (Err error) f a = tt

pub on_ok : {T E : Type 0} {A : Type 0} (result : Result T E) → A → OnOk result A
on_ok (Ok value) a = a
on_ok (Err error) a = tt

pub on_err : (A : Type 0) {T E : Type 0} (result : Result T E) → IsErr result → OnOk result A
on_err A (Ok value) err = absurd (false≢true err)
on_err A (Err error) err = tt

-- what waits for a write does not fail before, and goes on waiting
pub waits_on : (plan : FailurePlan) → waits plan ≡ true → (fails plan ≡ false) × (next plan ≡ plan)
waits_on Never is = (refl, refl)
waits_on (After calls) is = absurd (false≢true is)
waits_on (AfterWrite calls) is = (refl, refl)

-- a sync that does not fail
pub synced_unless : (failed : Bool) (old mid new : File) → failed ≡ false → mid ≡ old → new ≡ (if failed then mid else synced mid) → new ≡ synced old
synced_unless true old mid new is same new-is = absurd (false≢true (sym is))
synced_unless false old mid new is same new-is = new-is ∙ ap synced same

-- the first of two calls fails
pub first_fails : {T E : Type 0} (result : Result T E) (one two : Bool) (at : ℕ) (bytes : List ℕ) (file mid : File) → one ≡ true → IsErr result →
    mid ≡ with_change (if one then tried at bytes else wrote at bytes) file
    → IsAsPlanned (one || two) result × (mid ≡ (if one then with_change (tried at bytes) file else
    (if two then with_change (wrote at bytes) file else synced (with_change (wrote at bytes) file))))
first_fails result true two at bytes file mid is err mid-is = (err, mid-is)
first_fails result false two at bytes file mid is err mid-is = absurd (false≢true is)

-- the first does not, and the second ends as planned
pub then_second : {T E : Type 0} (result : Result T E) (one two : Bool) (at : ℕ) (bytes : List ℕ) (file mid new : File) → one ≡ false →
    mid ≡ with_change (if one then tried at bytes else wrote at bytes) file
    → IsAsPlanned two result → new ≡ (if two then mid else synced mid)
    → IsAsPlanned (one || two) result × (new ≡ (if one then with_change (tried at bytes) file else
    (if two then with_change (wrote at bytes) file else synced (with_change (wrote at bytes) file))))
then_second result true two at bytes file mid new is mid-is planned new-is = absurd (false≢true (sym is))
then_second result false true at bytes file mid new is mid-is planned new-is = (planned, new-is ∙ mid-is)
then_second result false false at bytes file mid new is mid-is planned new-is = (planned, new-is ∙ ap synced mid-is)

-- the same of the two halves of an append
pub first_half : {T E : Type 0} (result : Result T E) (one two : Bool) (new half whole : File) → one ≡ true → IsErr result → new ≡ half →
    IsAsPlanned (one || two) result × (new ≡ (if one then half else whole))
first_half result true two new half whole is err new-is = (err, new-is)
first_half result false two new half whole is err new-is = absurd (false≢true is)

pub second_half : {T E : Type 0} (result : Result T E) (one two : Bool) (new half whole : File) → one ≡ false → IsAsPlanned two result →
    new ≡ whole → IsAsPlanned (one || two) result × (new ≡ (if one then half else whole))
second_half result true two new half whole is planned new-is = absurd (false≢true (sym is))
second_half result false two new half whole is planned new-is = (planned, new-is)
