-- What is printed, line by line, is the reply.
use Rattle.std.proofs.Common.{◌≡◌, ◌∙◌, ◌++◌, ℕ, Bool, true, false, sym, ap, ap₂, List}
use Rattle.std.specs.Prelude.{Result, Ok, if◌then◌else◌}
use Rattle.truetime.specs.Interval.{Interval}
use Rattle.truetime.specs.Reading.{surely_after}
use Rattle.units.specs.declared.fault.Fault.{Fault}
use Rattle.texts.specs.Numbers.{and_then}
use Rattle.output.specs.Replies.{Reply}
use Rattle.once.specs.Replies.{commit_line, first_stamp, done_line, early_line, once_reply}

abbrev printed : Reply → Result Reply Fault
printed r = Ok r

abbrev reply_by : ℕ → Bool → Result Reply Fault
reply_by s b = Ok (if b then (commit_line s ++ done_line s, 0) else (commit_line s ++ early_line, 1))

answered : (first second : Interval) (s : ℕ) (b : Bool) → first_stamp first ≡ Ok s → surely_after second s ≡ b → once_reply first second ≡ reply_by s b
answered first second s b is settles =
    ap (λ (r : Result ℕ Fault). and_then r (λ t. reply_by t (surely_after second t))) is ∙ ap (reply_by s) settles

pub reply_done : (first second : Interval) (s : ℕ) (commit done : List ℕ) → first_stamp first ≡ Ok s → surely_after second s ≡ true
    → commit ≡ commit_line s → done ≡ done_line s → once_reply first second ≡ Ok (commit ++ done, 0)
reply_done first second s commit done is settles a b =
    answered first second s true is settles ∙ sym (ap₂ (λ (x y : List ℕ). printed (x ++ y, 0)) a b)

pub reply_early : (first second : Interval) (s : ℕ) (commit : List ℕ) → first_stamp first ≡ Ok s → surely_after second s ≡ false
    → commit ≡ commit_line s → once_reply first second ≡ Ok (commit ++ early_line, 1)
reply_early first second s commit is settles a =
    answered first second s false is settles ∙ sym (ap (λ (x : List ℕ). printed (x ++ early_line, 1)) a)
