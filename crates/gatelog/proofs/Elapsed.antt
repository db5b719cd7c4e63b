-- Time goes on over calls that leave a file as it is.
use Rattle.std.proofs.Common.{◌≡◌, ◌⊎◌, inl, inr, ℕ, ◌≤◌, List, sym, subst, arith}
use Rattle.disk.specs.File.{File, surface}
use Rattle.disk.specs.Image.{MayLeave}
use Rattle.disk.specs.Moments.{Elapses, LeavesOnly}
use Rattle.disk.proofs.Runs.{one_call}

pub elapses_on : {D : Type 0} (file : D → File) (clock : D → ℕ) (since : D → ℕ → List ℕ → Type 0) (failures : D → ℕ) (old mid new : D) →
    Elapses file clock since failures old mid → Elapses file clock since failures mid new → file new ≡ file mid → Elapses file clock since failures old new
elapses_on file clock since failures old mid new first second same = record {
  later = omega (arith, first.later, second.later);
  nothing_else = λ moment image le was. by_second moment image le (second.nothing_else moment image (omega (arith, le, first.later)) was);
  stays = λ moment image le was. second.stays moment image (omega (arith, le, first.later)) (first.stays moment image le was);
  failures_stay = omega (arith, first.failures_stay, second.failures_stay);
}
  where
    by_first : (moment : ℕ) (image : List ℕ) → since old moment image ⊎ MayLeave (surface (file mid)) image → since old moment image
        ⊎ MayLeave (surface (file new)) image
    by_first moment image (inl was) = inl was
    by_first moment image (inr may) = inr (subst (λ f. MayLeave (surface f) image) (sym same) may)

    by_second : (moment : ℕ) (image : List ℕ) → moment ≤ clock old → since mid moment image ⊎ MayLeave (surface (file new)) image
        → since old moment image ⊎ MayLeave (surface (file new)) image
    by_second moment image le (inl was) = by_first moment image (first.nothing_else moment image le was)
    by_second moment image le (inr may) = inr may

-- no time passes where nothing is done
pub elapses_none : {D : Type 0} (file : D → File) (clock : D → ℕ) (since : D → ℕ → List ℕ → Type 0) (failures : D → ℕ) (disk : D)
    → Elapses file clock since failures disk disk
elapses_none file clock since failures disk = record {
  later = omega arith;
  nothing_else = λ moment image le was. inl was;
  stays = λ moment image le was. was;
  failures_stay = omega arith;
}

-- a crash leaves of calls that leave a file as it is what it might leave
pub leaves_same : {D : Type 0} (file : D → File) (clock : D → ℕ) (since : D → ℕ → List ℕ → Type 0) (failures : D → ℕ) (old new : D) →
    Elapses file clock since failures old new → ((image : List ℕ) → since old (clock old) image → MayLeave (surface (file old)) image)
    → file new ≡ file old → LeavesOnly clock since old new (MayLeave (surface (file old)))
leaves_same file clock since failures old new time only_now same =
    one_call file clock since failures old new (MayLeave (surface (file old))) time only_now (λ image may. may)
    (λ image may. subst (λ f. MayLeave (surface f) image) same may)
