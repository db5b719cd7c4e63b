-- Percentiles of numbers in order, and of the same numbers in any order.
use Rattle.std.proofs.Common.{◌≡◌, ◌∙◌, ◌++◌, ap, append_assoc, sym, [], Option, Some, None, ℕ, zero, suc, ◌+◌, ◌-◌, ◌*◌, ◌/◌, ◌<◌, ◌≤◌, List, length}
use Rattle.std.proofs.Common.{get_or, take, drop, cond, arith, add-one}
use Rattle.std.specs.Prelude.{count_by, nat_le, nat_lt, All}
use Rattle.std.specs.List.Sorted.{IsNonDecreasing, IsPermutation}
use Rattle.std.proofs.lemmas.Bool.{le-leb, le-ltb}
use Rattle.std.proofs.lemmas.List.{nil_from_length, get_or-drop, length-drop, length-take-le}
use Rattle.std.proofs.lemmas.List.Elements.{All-from_get_or, Contains-get_or}
use Rattle.std.proofs.lemmas.List.Sorted.{Contains-permutation, IsPermutation-sym, length_permutation, sum_by-IsPermutation}
use Rattle.std.proofs.lemmas.List.Sums.{count_by-le-length, count_by_more_yes, sum_by-le, sum_by-take-drop, sum_by-take-le}
use Rattle.std.proofs.Math.Nat.{mul-le-mul_left}
use Rattle.progress.specs.Figures.{IsPercentile}
use Rattle.progress.specs.Tally.{AreFiguresOf, AreTold}
use Rattle.progress.specs.declared.series.Figures.{Figures}

-- the first numbers, of which each is at most this
count_of_low : (value d : ℕ) (xs : List ℕ) (i : ℕ) → i ≤ length xs → ((k : ℕ) → k < i → get_or xs k d ≤ value)
    → i ≤ count_by (λ x. nat_le x value) (take i xs)
count_of_low value d xs zero short low = omega arith
count_of_low value d xs (suc i) short low =
    let more = count_by_more_yes (λ x. nat_le x value) xs i d (omega arith) (le-leb (get_or xs i d) value (low i (omega arith))) in
    let more' = rw (add-one i) at more in
    omega (arith, more', count_of_low value d xs i (omega arith) (λ k h. low k (omega arith)))

-- no number behind the first ones is below this
none_below : (value d : ℕ) (xs : List ℕ) (i : ℕ) → ((k : ℕ) → i ≤ k → k < length xs → value ≤ get_or xs k d)
    → All (λ x. cond (nat_lt x value) 1 0 ≤ 0) (drop i xs)
none_below value d xs i high = All-from_get_or (λ x. cond (nat_lt x value) 1 0 ≤ 0) (drop i xs) d
    (λ k h.
    let high' = high (i + k) (omega arith) (omega (arith, length-drop i xs)) in
    rw (get_or-drop i xs k d) (rw (le-ltb (get_or xs (i + k) d) value high') (omega arith)))

-- so no more than the first ones are below it
count_below : (value d : ℕ) (xs : List ℕ) (i : ℕ) → i ≤ length xs → ((k : ℕ) → i ≤ k → k < length xs → value ≤ get_or xs k d)
    → count_by (λ x. nat_lt x value) xs ≤ i
count_below value d xs i short high =
    let parts = sum_by-take-drop (λ x. cond (nat_lt x value) 1 0) xs i in
    let rest = sum_by-le (λ x. cond (nat_lt x value) 1 0) 0 (drop i xs) (none_below value d xs i high) in
    omega (arith, parts, rest, count_by-le-length (λ x. nat_lt x value) (take i xs), length-take-le i xs short)

pub percentile_at : (percent : ℕ) (xs : List ℕ) (i d : ℕ) → IsNonDecreasing xs → i < length xs
    → percent * length xs ≤ 100 * (i + 1) → 100 * i < percent * length xs → IsPercentile percent xs (get_or xs i d)
percentile_at percent xs i d ascends within enough least = record {
  among = Contains-get_or xs i d within;
  enough =
      let low = count_of_low (get_or xs i d) d xs (i + 1) (omega arith) (λ k h. ascends k i d (omega arith) within) in
      omega (arith, low, sum_by-take-le (λ x. cond (nat_le x (get_or xs i d)) 1 0) xs (i + 1));
  least =
      let few = count_below (get_or xs i d) d xs i (omega arith) (λ k after inside. ascends i k d after inside) in
      omega (arith, few);
}

-- the order of the numbers does not matter
pub percentile_of_permuted : (percent : ℕ) (xs ys : List ℕ) (value : ℕ) → IsPermutation xs ys → IsPercentile percent ys value
    → IsPercentile percent xs value
percentile_of_permuted percent xs ys value permuted found = record {
  among = Contains-permutation ys xs value (IsPermutation-sym xs ys permuted) found.among;
  enough = rw (← length_permutation xs ys permuted, ← sum_by-IsPermutation (λ x. cond (nat_le x value) 1 0) xs ys permuted) found.enough;
  least = rw (← length_permutation xs ys permuted, ← sum_by-IsPermutation (λ x. cond (nat_lt x value) 1 0) xs ys permuted) found.least;
}

-- the place that is looked up: the last one of so many of a hundred
pub percentile_of_place : (percent : ℕ) (xs : List ℕ) (d : ℕ) → IsNonDecreasing xs → 1 ≤ percent → percent ≤ 100 → 0 < length xs
    → IsPercentile percent xs (get_or xs ((length xs * percent - 1) / 100) d)
percentile_of_place percent xs d ascends some few full =
    let at_most = mul-le-mul_left (length xs) few in
    let at_least = mul-le-mul_left (length xs) some in
    percentile_at percent xs ((length xs * percent - 1) / 100) d ascends
    (omega (arith, at_most, at_least)) (omega (arith, at_most, at_least)) (omega (arith, at_most, at_least))

-- what is told of numbers in order is told of the same numbers in any order
pub told_of_permuted : (xs ys : List ℕ) (figures : Figures) → IsPermutation xs ys → AreTold ys figures → AreTold xs figures
told_of_permuted xs ys figures permuted told = record {
  half = percentile_of_permuted 50 xs ys figures.half permuted told.half;
  ninety = percentile_of_permuted 90 xs ys figures.ninety permuted told.ninety;
  ninety_nine = percentile_of_permuted 99 xs ys figures.ninety_nine permuted told.ninety_nine;
  most = percentile_of_permuted 100 xs ys figures.most permuted told.most;
}

none_of_permuted : (xs ys : List ℕ) → IsPermutation xs ys → ys ≡ [] → xs ≡ []
none_of_permuted xs ys permuted none = nil_from_length xs (sym (length_permutation xs ys permuted) ∙ ap length none)

pub figures_of_permuted : (xs ys : List ℕ) (figures : Option Figures) → IsPermutation xs ys → AreFiguresOf ys figures → AreFiguresOf xs figures
figures_of_permuted xs ys None permuted none = none_of_permuted xs ys permuted none
figures_of_permuted xs ys (Some figures) permuted told = told_of_permuted xs ys figures permuted told

-- lines put one behind the other
pub stacked : (b0 b1 b2 b3 head r1 r2 r3 : List ℕ) → b0 ≡ head → b1 ≡ b0 ++ r1 → b2 ≡ b1 ++ r2 → b3 ≡ b2 ++ r3 → b3 ≡ head ++ (r1 ++ (r2 ++ r3))
stacked b0 b1 b2 b3 head r1 r2 r3 none one two three =
    three ∙ ap (λ b. b ++ r3) (two ∙ ap (λ b. b ++ r2) (one ∙ ap (λ b. b ++ r1) none))
    ∙ append_assoc (head ++ r1) r2 r3 ∙ append_assoc head r1 (r2 ++ r3)
