-- A file that is laid out: the bytes without the header, and then with it.
use Rattle.std.proofs.Common.{◌≡◌, inr, ℕ, ◌+◌, ◌-◌, ◌≤◌, false, List, [], ◌++◌, length, get_or, take, drop, refl, sym, ap, subst, ◌∙◌, append-nil, eqb, arith}
use Rattle.std.proofs.lemmas.Bool.{ne_eqb}
use Rattle.std.proofs.lemmas.List.{length-drop, nil_from_length}
use Rattle.disk.specs.declared.plan.FailurePlan.TheVariants.{AfterWrite}
use Rattle.disk.specs.Image.{Surface, MayLeave, IsUntouched, IsSynced, with_bytes, tried_write, after_write, after_cut, after_sync}
use Rattle.frames.specs.Calls.{fails_in_two}
use Rattle.gatelog.specs.Frames.{header}
use Rattle.gatelog.specs.Laid.{HoldsBehind}

-- what a crash leaves while the header is written
pub holds-behind : (file : Surface) (bytes : List ℕ) → IsSynced file → file.seen ≡ bytes → (image : List ℕ) → MayLeave (tried_write 0 8 file) image
    → HoldsBehind bytes image
holds-behind file bytes synced is image may = record {
  long = omega (arith, may.no_shorter, synced.whole, ap length is);
  same = λ i le lt. may.untouched i (omega (arith, lt, synced.whole, ap length is))
      (inr le, subst (λ ranges. IsUntouched i ranges) (sym synced.none) tt) ∙ ap (λ (l : List ℕ). get_or l i 0) is;
}

-- bytes that are written to an empty file are the file
pub over-nothing : (bytes rest : List ℕ) → with_bytes 0 bytes (take 0 rest) ≡ bytes
over-nothing bytes rest =
    let none : drop (0 + length bytes) (take 0 rest) ≡ [] =
    nil_from_length (drop (0 + length bytes) (take 0 rest)) (omega (arith, length-drop (0 + length bytes) (take 0 rest))) in
    ap (λ (l : List ℕ). bytes ++ l) none ∙ append-nil bytes

-- the file behind the first sync
pub laid-first : (bytes : List ℕ) (old cut mid : Surface) → cut ≡ after_cut 0 old → mid ≡ after_sync (after_write 0 bytes cut)
    → IsSynced mid × (mid.seen ≡ bytes)
laid-first bytes old cut mid cut-is mid-is = (
  subst IsSynced (sym mid-is) (record { whole = refl; none = refl; synced = refl }),
  ap (λ (f : Surface). f.seen) mid-is ∙ ap (λ (f : Surface). with_bytes 0 bytes f.seen) cut-is ∙ over-nothing bytes old.seen,
)

-- and behind the second
pub laid-last : (bytes : List ℕ) (mid new : Surface) → mid.seen ≡ bytes → new ≡ after_sync (after_write 0 header mid)
    → (new.seen ≡ header ++ drop 8 bytes) × IsSynced new
laid-last bytes mid new is new-is = (
  ap (λ (f : Surface). f.seen) new-is ∙ ap (λ (l : List ℕ). with_bytes 0 header l) is,
  subst IsSynced (sym new-is) (record { whole = refl; none = refl; synced = refl }),
)

-- neither of the first two calls fails where the count is greater
pub late-two : (call : ℕ) → 2 ≤ call → fails_in_two (AfterWrite call) ≡ false
late-two call le =
    let a : eqb call 0 ≡ false = ne_eqb call 0 (λ e. absurd (omega (arith, le, e))) in
    let b : eqb (call - 1) 0 ≡ false = ne_eqb (call - 1) 0 (λ e. absurd (omega (arith, le, e))) in
    rw (a, b) refl
