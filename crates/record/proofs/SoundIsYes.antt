-- Where nothing is wrong, the verdict is yes, since each no is right.
use Rattle.std.proofs.Common.{◌≡◌, refl, arith}
use Rattle.std.specs.Prelude.{ℕ, IsFalse, true, false, nat_lt, nat_le, List, slice_get, Some}
use Rattle.std.proofs.lemmas.Bool.Decides.{nat_tests}
use Rattle.units.specs.declared.line.Line.{Line}
use Rattle.units.specs.declared.line.Line.TheVariants.{Begin, Ack, Read, Look}
use Rattle.units.specs.declared.line.Verdict.{Verdict}
use Rattle.units.specs.declared.line.Verdict.TheVariants.{Yes, Torn, Lost, WrongRead, WrongOrder}
use Rattle.record.specs.History.{history}
use Rattle.record.specs.Verdict.{are_renewed, verdict}
use Rattle.record.specs.Lines.{is_in_at}
use Rattle.record.specs.VerdictLaws.{IsBorneOut}
use Rattle.record.specs.Whole.{is_whole}
use Rattle.record.specs.declared.record.Record.{Record}
use Rattle.record.specs.VerdictLaws.{IsRight, IsWrong, ReadsCommitted, SoundIsYes}
use Rattle.record.proofs.NoesAreRight.{each_no_is_right, not_both}

not_below : (x at : ℕ) → nat_le x at ≡ true → nat_lt at x ≡ false
not_below x at e = grind (arith, nat_tests)

right_line : (logs : List (List Record)) (lines : List Line) → IsBorneOut logs lines → ReadsCommitted logs lines → IsFalse (are_renewed logs)
    → (i : ℕ) (l : Line) → slice_get lines i ≡ Some l → ¬ (IsWrong (history logs) l)
right_line logs lines sound committed whole i (Begin t m) at wrong = wrong
right_line logs lines sound committed whole i (Ack t s m) at wrong = wrong
right_line logs lines sound committed whole i (Look k s x) at wrong = wrong (sound.looks whole k s x (i, at))
right_line logs lines sound committed whole i (Read t k x) at wrong =
    let u = committed whole t k x (i, at) in wrong u.0 u.1 (sound.reads whole t k x u.0 (i, at) u.1)

by_verdict : (logs : List (List Record)) (lines : List Line) → IsBorneOut logs lines → ReadsCommitted logs lines → (v : Verdict) → IsRight logs lines v
    → v ≡ Yes
by_verdict logs lines sound committed Yes right = refl
by_verdict logs lines sound committed (Torn t) right = absurd (not_both (is_whole t logs) (sound.whole t right.0) right.1)
by_verdict logs lines sound committed (Lost t) right = absurd (not_both (is_in_at (history logs) t right.at)
    (sound.acknowledged t right.at right.moment right.line right.kept) right.missing)
by_verdict logs lines sound committed (WrongRead i) right = absurd (right_line logs lines sound committed right.0 i right.1 right.2 right.3)
by_verdict logs lines sound committed (WrongOrder i j) right =
    absurd (not_both (nat_lt right.at right.txn.at) (sound.order right.told right.begun right.at right.told_at right.begun_at right.txn (j, right.ack)
    (i, right.begin) right.before right.found)
    (not_below right.txn.at right.at right.not_below))

pub sound_is_yes : SoundIsYes
sound_is_yes logs lines sound committed = by_verdict logs lines sound committed (verdict logs lines) (each_no_is_right logs lines)
