-- For what a command is refused, by what drives and what puts, and what it tells.
use Rattle.std.proofs.Common.{◌≡◌, ◌⊎◌, ℕ, List, inl, inr, Result, Ok, Err, refl, subst, sym}
use Rattle.std.specs.Prelude.{IfErr, IfOk, MatchResult}
use Rattle.units.specs.declared.fault.Fault.{Fault}
use Rattle.units.specs.declared.fault.Fault.TheVariants.{Memory}
use Rattle.output.specs.Failures.{FailsFor}
use Rattle.output.specs.Replies.{Expected}
use Rattle.output.specs.declared.failure.Failure.{Failure}
use Rattle.output.specs.declared.failure.Failure.TheVariants.{Refused, Unwritten}
use Rattle.command_line.specs.Commands.{Asked, told_asked, once_asked, format_asked, play_asked, inspect_asked, drive_asked, dump_asked, history_asked}
use Rattle.command_line.specs.Commands.{get_asked, put_asked, stats_asked, migrate_asked, compact_asked}
use Rattle.system.specs.declared.asked.Driven.{Driven}
use Rattle.system.specs.declared.asked.NoVerdict.{NoVerdict}
use Rattle.commands.specs.Faults.{FailsAs, IsNotDriven, IsNotPut, IsRefusedBy, IsUnputBy, MayRefuse, MayRefuseTo}
use Rattle.commands.specs.declared.engine.Put.{Put}
use Rattle.client.specs.declared.ended.Ended.{Ended}
use Rattle.units.specs.declared.line.Verdict.{Verdict}
use Rattle.commands.specs.Drives.{Driving}
use Rattle.commands.specs.Puts.{Said}
use Rattle.commands.specs.Replies.{Tells, TellsTo}

-- what a call of what drives shards is refused for
pub refused_by : {S : Type 0} (call : S → Result Driven NoVerdict → Type 0) (settings : S) (r : Result Driven NoVerdict) → call settings r
    → IfErr r (λ none. IsNotDriven (IsRefusedBy call) none.fault)
refused_by call settings (Ok driven) is = tt
refused_by call settings (Err none) is = inr (inr (settings, none, is, refl))

-- and what comes of it
pub driven_by : {S : Type 0} (call : S → Result Driven NoVerdict → Type 0) (settings : S) (r : Result Driven NoVerdict) → call settings r
    → IfOk r (λ driven. (s : S) × call s (Ok driven))
driven_by call settings (Ok driven) is = (settings, is)
driven_by call settings (Err none) is = tt

-- what a call that puts a write is refused for
pub unput_by : (call : Put → Result Ended Fault → Type 0) (write : Put) (r : Result Ended Fault) → call write r → IfErr r (IsNotPut (IsUnputBy call))
unput_by call write (Ok ended) is = tt
unput_by call write (Err fault) is = inr (inr (write, is))

-- where an answer is refused for less
pub refused_more : {T : Type 0} {less more : Fault → Type 0} (r : Result T Fault) → ((fault : Fault) → less fault → more fault) → IfErr r less → IfErr r more
refused_more (Ok t) widens is = tt
refused_more (Err fault) widens is = widens fault is

-- what holds of an answer twice
pub both_hold : {T : Type 0} (P Q : T → Type 0) (r : Result T Fault) → IfOk r P → IfOk r Q → IfOk r (λ t. P t × Q t)
both_hold P Q (Ok t) p q = (p, q)
both_hold P Q (Err fault) p q = tt

module _ (drives puts : Fault → Type 0) where
  -- for less a command may be refused too
  of_asked : (drives' puts' : Fault → Type 0) (asked : Asked) (fault : Fault) → (drives fault → drives' fault) → (puts fault → puts' fault)
      → MayRefuse drives puts asked fault → MayRefuse drives' puts' asked fault
  of_asked drives' puts' (told_asked words) fault more some is = tt
  of_asked drives' puts' (once_asked key value first second) fault more some is = tt
  of_asked drives' puts' (format_asked file) fault more some is = is
  of_asked drives' puts' (play_asked file) fault more some is = is
  of_asked drives' puts' (inspect_asked lines logs) fault more some is = is
  of_asked drives' puts' (drive_asked file table) fault more some (inl unread) = inl unread
  of_asked drives' puts' (drive_asked file table) fault more some (inr (inl settings)) = inr (inl settings)
  of_asked drives' puts' (drive_asked file table) fault more some (inr (inr why)) = inr (inr (more why))
  of_asked drives' puts' (dump_asked file json) fault more some is = is
  of_asked drives' puts' (history_asked dir key json) fault more some is = is
  of_asked drives' puts' (get_asked dir key at form) fault more some is = is
  of_asked drives' puts' (put_asked dir key given) fault more some (inl none) = inl none
  of_asked drives' puts' (put_asked dir key given) fault more some (inr (inl unread)) = inr (inl unread)
  of_asked drives' puts' (put_asked dir key given) fault more some (inr (inr why)) = inr (inr (some why))
  of_asked drives' puts' (stats_asked logs json) fault more some is = is
  of_asked drives' puts' (migrate_asked old new) fault more some is = is
  of_asked drives' puts' (compact_asked old new) fault more some is = is

  pub of_command : (drives' puts' : Fault → Type 0) (asked : Result Asked Fault) (fault : Fault) → (drives fault → drives' fault) → (puts fault → puts' fault)
      → MayRefuseTo drives puts asked fault → MayRefuseTo drives' puts' asked fault
  of_command drives' puts' (Ok asked) fault more some is = of_asked drives' puts' asked fault more some is
  of_command drives' puts' (Err why) fault more some is = tt

  -- what words ask for, by their command
  pub fails_for : {T : Type 0} (x : Result T Failure) {a b : Result Asked Fault} → a ≡ b
      → IfErr x (FailsAs (MayRefuseTo drives puts a)) → IfErr x (FailsAs (MayRefuseTo drives puts b))
  fails_for x e h = subst (λ (r : Result Asked Fault). IfErr x (FailsAs (MayRefuseTo drives puts r))) e h

  -- memory may be wanting for any command
  any_asked : (asked : Asked) → MayRefuse drives puts asked Memory
  any_asked (told_asked words) = tt
  any_asked (once_asked key value first second) = tt
  any_asked (format_asked file) = inl refl
  any_asked (play_asked file) = inl (inl refl)
  any_asked (inspect_asked lines logs) = inl (inl refl)
  any_asked (drive_asked file table) = inl (inl refl)
  any_asked (dump_asked file json) = inl refl
  any_asked (history_asked dir key json) = inl refl
  any_asked (get_asked dir key at form) = inl refl
  any_asked (put_asked dir key given) = inl (inl (inl refl))
  any_asked (stats_asked logs json) = inl (inl refl)
  any_asked (migrate_asked old new) = inl refl
  any_asked (compact_asked old new) = inl refl

  any : (asked : Result Asked Fault) → MayRefuseTo drives puts asked Memory
  any (Ok asked) = any_asked asked
  any (Err why) = tt

  pub memory_of : (asked : Result Asked Fault) (fault : Fault) → fault ≡ Memory → MayRefuseTo drives puts asked fault
  memory_of asked fault is = subst (MayRefuseTo drives puts asked) (sym is) (any asked)

  -- words that are no command may be refused for anything
  pub none_of : (asked : Result Asked Fault) (fault why : Fault) → asked ≡ Err why → MayRefuseTo drives puts asked fault
  none_of asked fault why is = subst (λ (r : Result Asked Fault). MayRefuseTo drives puts r fault) (sym is) tt

-- what fails for what is expected fails for the same otherwise told
pub fails_as : {T : Type 0} (x : Result T Failure) (failed : Type 0) {a b : Expected} → a ≡ b → IfErr x (λ failure. FailsFor failed failure a)
    → IfErr x (λ failure. FailsFor failed failure b)
fails_as x failed e h = subst (λ (expected : Expected). IfErr x (λ failure. FailsFor failed failure expected)) e h

-- what holds of a text that was printed, by what holds of it
pub of_printed : {T : Type 0} (Holds : T → Type 0) (Goal : ℕ → Type 0) (Printed : T → ℕ → Type 0) (failed same : Type 0) (told : Result T Fault)
    (printed : Result ℕ Failure) → ((t : T) → Holds t → (status : ℕ) → Printed t status → Goal status) → IfOk told Holds
    → IfOk told (λ t. MatchResult printed (Printed t) (λ failure. (failure ≡ Unwritten) × failed))
    → IfErr told (λ fault. (printed ≡ Err (Refused fault)) × same) → IfOk printed Goal
of_printed Holds Goal Printed failed same (Ok t) (Ok status) so holds ended passed = so t holds status ended
of_printed Holds Goal Printed failed same (Ok t) (Err failure) so holds ended passed = tt
of_printed Holds Goal Printed failed same (Err fault) printed so holds ended passed =
    subst (λ (r : Result ℕ Failure). IfOk r Goal) (sym passed.0) tt

-- a refusal that was passed on in place of a text is that of whoever was to tell it
pub passed_on : {T : Type 0} (refuses : Fault → Type 0) (Printed : T → ℕ → Type 0) (failed same : Type 0) (told : Result T Fault) (printed : Result ℕ Failure)
    → IfErr told refuses → IfOk told (λ t. MatchResult printed (Printed t) (λ failure. (failure ≡ Unwritten) × failed))
    → IfErr told (λ fault. (printed ≡ Err (Refused fault)) × same) → IfErr printed (FailsAs refuses)
passed_on refuses Printed failed same (Ok t) (Ok status) why ended passed = tt
passed_on refuses Printed failed same (Ok t) (Err failure) why ended passed = inl ended.0
passed_on refuses Printed failed same (Err fault) printed why ended passed =
    subst (λ (r : Result ℕ Failure). IfErr r (FailsAs refuses)) (sym passed.0) (inr (fault, refl, why))

-- who says why there is no verdict fails for that, or for a write
pub fails_by : {T : Type 0} (drives : Fault → Type 0) (x : Result T Failure) (none : NoVerdict) → IsNotDriven drives none.fault
    → IfErr x (λ failure. (failure ≡ Unwritten) ⊎ (failure ≡ Refused none.fault)) → IfErr x (FailsAs (IsNotDriven drives))
fails_by drives (Ok x) none why told = tt
fails_by drives (Err failure) none why (inl unwritten) = inl unwritten
fails_by drives (Err failure) none why (inr refused) = inr (none.fault, refused, why)

module _ (drives drives' : Driving) (puts puts' : Said) where
  -- by what more may come of a drive and become of a write, no less is told
  tells_more : (asked : Asked) (status : ℕ) (text : List ℕ) → ((text : List ℕ) (verdict : Verdict) → drives text verdict → drives' text verdict)
      → ((folder key value : List ℕ) (ended : Ended) → puts folder key value ended → puts' folder key value ended)
      → Tells drives puts asked status text → Tells drives' puts' asked status text
  tells_more (told_asked words) status text more some is = tt
  tells_more (once_asked key value first second) status text more some is = tt
  tells_more (format_asked file) status text more some is = is
  tells_more (play_asked file) status text more some is = is
  tells_more (inspect_asked lines logs) status text more some is = is
  tells_more (drive_asked file table) status text more some is = (is.0, more text is.0 is.1, is.2)
  tells_more (dump_asked file json) status text more some is = is
  tells_more (history_asked dir key json) status text more some is = is
  tells_more (get_asked dir key at form) status text more some is = is
  tells_more (put_asked dir key given) status text more some is = (is.0, is.1, is.2, some dir key is.0 is.1 is.3, is.4, is.5)
  tells_more (stats_asked logs json) status text more some is = is
  tells_more (migrate_asked old new) status text more some is = is
  tells_more (compact_asked old new) status text more some is = is

  pub told_to : (asked : Result Asked Fault) (status : ℕ) (text : List ℕ)
      → ((text : List ℕ) (verdict : Verdict) → drives text verdict → drives' text verdict)
      → ((folder key value : List ℕ) (ended : Ended) → puts folder key value ended → puts' folder key value ended)
      → TellsTo drives puts asked status text → TellsTo drives' puts' asked status text
  told_to (Ok asked) status text more some is = tells_more asked status text more some is
  told_to (Err why) status text more some is = is
