-- The logs from one number on.
use Rattle.std.specs.List.{list_all}
use Rattle.std.proofs.Common.{◌≡◌, ◌∙◌, ℕ, zero, suc, ◌+◌, ◌-◌, ◌<◌, Bool, true, false, ◌&&◌, List, ◌∷◌, flat_map, length, refl, sym, ap, arith}
use Rattle.units.specs.Ids.{Id}
use Rattle.units.specs.Lists.{numbered}
use Rattle.record.specs.Whole.{Decision}
use Rattle.record.specs.declared.record.Record.{Record}
use Rattle.inspector.specs.declared.whole.Tally.{Tally}
use Rattle.inspector.specs.Entries.{About, log_numbered, logs_from}
use Rattle.inspector.specs.Tallies.{after, decisions_here}
use Rattle.inspector.proofs.TallyLaws.{tally_step}

-- the first of those that are left
pub from_step : (count n : ℕ) (es : List About) → n < count → logs_from (count - n) n es ≡ log_numbered n es ∷ logs_from (count - (n + 1)) (n + 1) es
from_step count n es lt =
    let left : count - n ≡ suc (count - (n + 1)) = omega (arith, lt) in
    let next : suc n ≡ n + 1 = omega arith in
    ap (λ k. logs_from k n es) left ∙ ap (λ m. log_numbered n es ∷ logs_from (count - (n + 1)) m es) next

pub from_length : (count n : ℕ) (es : List About) → length (logs_from count n es) ≡ count
from_length zero n es = refl
from_length (suc count) n es = ap suc (from_length count (suc n) es)

-- where the first of them passes a test, all do exactly where the others do
pub all_step : (test : List Record → Bool) (count n : ℕ) (es : List About) → n < count → test (log_numbered n es) ≡ true
    → list_all test (logs_from (count - (n + 1)) (n + 1) es) ≡ list_all test (logs_from (count - n) n es)
all_step test count n es lt passes = sym (ap (list_all test) (from_step count n es lt)
    ∙ ap (λ b. b && list_all test (logs_from (count - (n + 1)) (n + 1) es)) passes)

pub all_numbered_step : (test : ℕ × List Record → Bool) (count n : ℕ) (es : List About) → n < count → test (n, log_numbered n es) ≡ true
    → list_all test (numbered (n + 1) (logs_from (count - (n + 1)) (n + 1) es)) ≡ list_all test (numbered n (logs_from (count - n) n es))
all_numbered_step test count n es lt passes =
    let next : n + 1 ≡ suc n = omega arith in
    let rest : List (List Record) = logs_from (count - (n + 1)) (n + 1) es in
    ap (λ m. list_all test (numbered m rest)) next
    ∙ sym (ap (λ ls. list_all test (numbered n ls)) (from_step count n es lt) ∙ ap (λ b. b && list_all test (numbered (suc n) rest)) passes)

-- where the first of them fails a test, not all pass it
pub all_numbered_stop : (test : ℕ × List Record → Bool) (count n : ℕ) (es : List About) → n < count → test (n, log_numbered n es) ≡ false
    → false ≡ list_all test (numbered n (logs_from (count - n) n es))
all_numbered_stop test count n es lt fails =
    let rest : List (List Record) = logs_from (count - (n + 1)) (n + 1) es in
    sym (ap (λ ls. list_all test (numbered n ls)) (from_step count n es lt) ∙ ap (λ b. b && list_all test (numbered (suc n) rest)) fails)

-- the decisions of one more log are found
pub tally_number : (fits : Decision → Bool) (found : Tally) (t : Id) (count n : ℕ) (es : List About) → n < count
    → after fits (after fits found (decisions_here t n (log_numbered n es)))
    (flat_map (λ q. decisions_here t q.0 q.1) (numbered (n + 1) (logs_from (count - (n + 1)) (n + 1) es)))
    ≡ after fits found (flat_map (λ q. decisions_here t q.0 q.1) (numbered n (logs_from (count - n) n es)))
tally_number fits found t count n es lt =
    let next : n + 1 ≡ suc n = omega arith in
    tally_step fits found t n (n + 1) (log_numbered n es) (logs_from (count - (n + 1)) (n + 1) es) next
    ∙ ap (λ ls. after fits found (flat_map (λ q. decisions_here t q.0 q.1) (numbered n ls))) (sym (from_step count n es lt))
