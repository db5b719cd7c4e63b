-- The reports of workers, one after the other.
use Rattle.std.specs.Prelude.{◌≡◌, ◌<◌, ◌≤◌, ◌+◌, ◌*◌, ◌^◌, ℕ, List, ◌∷◌, ◌++◌, length, get_or, Result, Err}
use Rattle.std.proofs.Common.{arith, ap, subst, sym}
use Rattle.std.proofs.Math.Nat.{suc-mul}
use Rattle.std.proofs.Math.Seq.{get_or-append_seam}
use Rattle.std.proofs.lemmas.List.{length-append}
use Rattle.std.proofs.lemmas.Nat.{mul-le}
use Rattle.units.specs.declared.fault.Fault.{Fault}
use Rattle.workers.specs.declared.worker.Report.{Report}
use Rattle.workers.specs.Refusals.{IsCutShort}
use Rattle.workers.specs.Reports.{AreCounted, IsCounted}

-- the next of some reports is counted as each is
pub next_counted : (turns : ℕ) (seen : List (Result Report Fault)) (x : Result Report Fault) (rest all : List (Result Report Fault))
    → seen ++ x ∷ rest ≡ all → AreCounted turns all → IsCounted turns x
next_counted turns seen x rest all whole each =
    let here : length seen < length all = omega (arith, ap length whole, length-append seen (x ∷ rest)) in
    let found = subst (λ xs. IsCounted turns (get_or xs (length seen) x)) (sym whole) (each (length seen) x here) in
    subst (IsCounted turns) (get_or-append_seam seen x rest x) found

-- what cuts one worker short cuts all short
pub cut_short : (turns : ℕ) (r : Result Report Fault) (fault : Fault) → r ≡ Err fault → IsCutShort fault → IsCounted turns r
cut_short turns r fault is why = subst (IsCounted turns) (sym is) why

-- a product with one more
pub next_product : (n turns : ℕ) → (n + 1) * turns ≡ n * turns + turns
next_product n turns = omega (arith, suc-mul n turns)

-- one more transaction of each fits where there are at most 64 workers
pub product_fits : (seen workers turns : ℕ) → seen + 1 ≤ workers → workers ≤ 64 → turns ≤ 100000 → seen * turns + turns < 2 ^ 64
product_fits seen workers turns some few most =
    let all : (seen + 1) * turns ≤ 64 * 100000 = mul-le (seen + 1) turns 64 100000 (omega (arith, some, few)) most in
    omega (arith, all, suc-mul seen turns)
