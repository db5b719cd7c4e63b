-- Lists in ascending order by a test, ties allowed.
use Rattle.std.specs.List.{list_all}
use Rattle.std.specs.Prelude.{IsTrue, Bool, not, List, [], ◌∷◌}

-- no member comes before an earlier one
abbrev pub AscendsBy : {A : Type 0} → (A → A → Bool) → List A → Type 0
AscendsBy less [] = Unit {0}
AscendsBy less (x ∷ xs) = IsTrue (list_all (λ y. not (less y x)) xs) × AscendsBy less xs
