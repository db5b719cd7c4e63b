-- The statuses of commands.
use Rattle.std.proofs.Common.{◌≡◌, ◌⊎◌, inl, inr, ℕ, Result, Ok, Err}
use Rattle.std.specs.Prelude.{IfOk}

-- a status of two is one of three
pub one_of_three : {X : Type 0} (r : Result ℕ X) → IfOk r (λ status. (status ≡ 0) ⊎ (status ≡ 1))
    → IfOk r (λ status. (status ≡ 0) ⊎ ((status ≡ 1) ⊎ (status ≡ 2)))
one_of_three (Ok status) (inl done) = inl done
one_of_three (Ok status) (inr short) = inr (inl short)
one_of_three (Err why) is = tt
