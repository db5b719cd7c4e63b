-- The front of a list, up to the first member that fails a test.
use Rattle.std.specs.Prelude.{ℕ, suc, Bool, cond, List, [], ◌∷◌}

-- how many at the front pass a test
abbrev pub front : {A : Type 0} → (A → Bool) → List A → ℕ
front test [] = 0
front test (x ∷ xs) = cond (test x) (suc (front test xs)) 0
