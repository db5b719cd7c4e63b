-- The newest of some versions, in parts.
use Rattle.std.proofs.Common.{◌≡◌, Bool, true, false, cond, nat_lt, List, [], ◌∷◌, ◌++◌, Option, Some, None, refl, ap, ◌∙◌, arith}
use Rattle.std.proofs.Common.{filter}
use Rattle.std.proofs.lemmas.Bool.Decides.{nat_tests}
use Rattle.std.proofs.lemmas.List.Elements.{filter-append}
use Rattle.units.specs.Versions.{newest}
use Rattle.units.specs.declared.writes.Install.{Install}
use Rattle.versions.proofs.Newest.{newer}

-- the newer of two that were found, the first where they are of one timestamp
abbrev pub newer_of : Option Install → Option Install → Option Install
newer_of None b = b
newer_of (Some x) b = newer x b

newer-newer : (x : Install) (a b : Option Install) → newer x (newer_of a b) ≡ newer_of (newer x a) b
newer-newer x None b = refl
newer-newer x (Some y) None = by_test (nat_lt x.at y.at)
  where
    by_test : (c : Bool) → cond {A = Option Install} c (Some y) (Some x) ≡ newer_of (cond {A = Option Install} c (Some y) (Some x)) None
    by_test true = refl
    by_test false = refl
newer-newer x (Some y) (Some z) = by_tests (nat_lt x.at y.at) (nat_lt y.at z.at) (nat_lt x.at z.at) refl refl refl
  where
    by_tests : (a b c : Bool) → nat_lt x.at y.at ≡ a → nat_lt y.at z.at ≡ b → nat_lt x.at z.at ≡ c →
        newer x (cond {A = Option Install} b (Some z) (Some y)) ≡ newer_of (cond {A = Option Install} a (Some y) (Some x)) (Some z)
    by_tests true true true h k l = rw (k, l) refl
    by_tests true true false h k l = absurd (grind (arith, nat_tests))
    by_tests true false c h k l = rw (h, k) refl
    by_tests false true c h k l = refl
    by_tests false false true h k l = absurd (grind (arith, nat_tests))
    by_tests false false false h k l = rw (h, l) refl

newest-append : (a b : List Install) → newest (a ++ b) ≡ newer_of (newest a) (newest b)
newest-append [] b = refl
newest-append (x ∷ a) b = ap (newer x) (newest-append a b) ∙ newer-newer x (newest a) (newest b)

-- of those that pass a test
pub newest-more : (test : Install → Bool) (a b : List Install)
    → newest (filter test (a ++ b)) ≡ newer_of (newest (filter test a)) (newest (filter test b))
newest-more test a b = ap newest (filter-append test a b) ∙ newest-append (filter test a) (filter test b)
