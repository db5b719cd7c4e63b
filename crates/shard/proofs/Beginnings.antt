-- What a sink finds of where a log begins, entry by entry.
use Rattle.std.proofs.Common.{◌≡◌, ◌∙◌, ℕ, List, [], ◌∷◌, ◌++◌, Option, Some, None, Result, Ok, IsTrue, refl, sym, ap, subst}
use Rattle.units.specs.declared.fault.Fault.{Fault}
use Rattle.frames.specs.Placed.{Placed}
use Rattle.gatelog.specs.Log.{entries_of, ends_with}
use Rattle.gatelog.proofs.Images.{ends_found}
use Rattle.shard.specs.Beginnings.{IsBegunBy, and_found, begun_in, first_in, found_in, growth_at, growth_in, or_else}
use Rattle.shard.specs.declared.begun.Begun.{Begun}

or_none : (o : Option ℕ) → or_else o None ≡ o
or_none (Some n) = refl
or_none None = refl

or_or : (a b c : Option ℕ) → or_else a (or_else b c) ≡ or_else (or_else a b) c
or_or (Some n) b c = refl
or_or None b c = refl

growth-behind : (es : List Placed) (e : Placed) → growth_in (es ++ e ∷ []) ≡ or_else (growth_in es) (growth_at e)
growth-behind [] e = or_none (growth_at e)
growth-behind (d ∷ es) e = ap (or_else (growth_at d)) (growth-behind es e) ∙ or_or (growth_at d) (growth_in es) (growth_at e)

first-behind : (es : List Placed) (e : Placed) → first_in (es ++ e ∷ []) ≡ or_else (first_in es) (Some e.offset)
first-behind [] e = refl
first-behind (d ∷ es) e = refl

-- with an entry more
pub found_behind : (es : List Placed) (e : Placed) → found_in (es ++ e ∷ []) ≡ and_found (found_in es) e
found_behind es e = λ i. record { first = first-behind es e i; growth = growth-behind es e i }

-- a scan that gave these entries and this end
pub begun_by : (scanned : Result (List Placed × ℕ) Fault) (es : List Placed) (gate : ℕ) (begun : Begun) → entries_of scanned ≡ Ok es
    → IsTrue (ends_with scanned gate) → begun ≡ begun_in es gate → IsBegunBy scanned begun
begun_by scanned es gate begun entries ends is = by_found (ends_found scanned gate ends)
  where
    entries_are : (fs : List Placed) (r : Result (List Placed) Fault) → r ≡ Ok fs → r ≡ Ok es → fs ≡ es
    entries_are fs r one other = cc

    by_found : (fs : List Placed) × (scanned ≡ Ok (fs, gate)) → IsBegunBy scanned begun
    by_found (fs, found) =
        subst (λ (r : Result (List Placed × ℕ) Fault). IsBegunBy r begun) (sym found)
        (is ∙ ap (λ (l : List Placed). begun_in l gate) (sym (entries_are fs (entries_of scanned) (ap entries_of found) entries)))
