use Rattle.std.proofs.Common.{◌≡◌, ◌∙◌, ℕ, zero, suc, true, false, List, Option, Some, None, sym, ap, arith}
use Rattle.std.proofs.lemmas.Bool.Decides.{nat_tests}
use Rattle.std.specs.Prelude.{if◌then◌else◌, nat_eq, nat_le}
use Rattle.units.specs.Masks.{shards_of_mask}
use Rattle.spelling.specs.Reading.{◌>>=◌, only_if, parts_at}
use Rattle.spelling.proofs.reading.parts_of.Goals as goal

of_mask : (mask : ℕ) (rest : List ℕ) (parts : Option (List ℕ)) → parts ≡ (if nat_eq mask 0 then None else Some (shards_of_mask mask))
    → only_if {A = List ℕ × List ℕ} (nat_le 1 mask) (shards_of_mask mask, rest) ≡ (parts >>= λ p. Some (p, rest))
of_mask zero rest parts is = ap (λ (o : Option (List ℕ)). o >>= λ p. Some (p, rest)) (sym is)
of_mask (suc n) rest parts is =
    let some : nat_le 1 (suc n) ≡ true = grind (arith, nat_tests) in
    let none : nat_eq (suc n) 0 ≡ false = grind (arith, nat_tests) in
    ap (λ b. only_if {A = List ℕ × List ℕ} b (shards_of_mask (suc n), rest)) some
    ∙ ap (λ (o : Option (List ℕ)). o >>= λ p. Some (p, rest))
    (sym (is ∙ ap (λ b. if◌then◌else◌ {A = Option (List ℕ)} b None (Some (shards_of_mask (suc n)))) none))

pub returns-in-Some-from_mask : goal.returns-in-Some-from_mask
unfolding parts_at
returns-in-Some-from_mask c =
    ap (λ (o : Option (ℕ × List ℕ)). o >>= λ m. only_if {A = List ℕ × List ℕ} (nat_le 1 m.0) (shards_of_mask m.0, m.1)) c.in-Some.ensures
    ∙ of_mask c.in-Some.mask c.in-Some.rest.now (Some c.in-Some-from_mask.parts) c.in-Some-from_mask.ensures

pub returns-in-None : goal.returns-in-None
unfolding parts_at
returns-in-None c =
    ap (λ (o : Option (ℕ × List ℕ)). o >>= λ m. only_if {A = List ℕ × List ℕ} (nat_le 1 m.0) (shards_of_mask m.0, m.1)) c.in-Some.ensures
    ∙ of_mask c.in-Some.mask c.in-Some.rest.now None c.in-None.ensures
