-- The laws of ids and of their order by age.
use Rattle.std.proofs.Common.{◌≡◌, true, false, arith}
use Rattle.std.proofs.lemmas.Bool.Decides.{nat_tests}
use Rattle.units.specs.Ids.{Id, same_id, older}

pub same_id-refl : (a : Id) → same_id a a ≡ true
same_id-refl a = grind (arith, nat_tests)

pub same_id_comm : (a b : Id) → same_id a b ≡ same_id b a
same_id_comm a b = grind (arith, nat_tests)

pub same_id-trans : (a b c : Id) → same_id a b ≡ true → same_id b c ≡ true → same_id a c ≡ true
same_id-trans a b c h k = grind (arith, nat_tests)

-- of two ids that are one, each is with a third what the other is
pub same_id-along : (a b c : Id) → same_id a b ≡ true → same_id a c ≡ same_id b c
same_id-along a b c h = grind (arith, nat_tests)

pub older_not_same : (a b : Id) → older a b ≡ true → same_id a b ≡ false
older_not_same a b h = grind (arith, nat_tests)

pub older_not_younger : (a b : Id) → older a b ≡ true → older b a ≡ false
older_not_younger a b h = grind (arith, nat_tests)

-- of two ids that differ one is older
pub older_total : (a b : Id) → same_id a b ≡ false → older a b ≡ false → older b a ≡ true
older_total a b h k = grind (arith, nat_tests)

pub older-trans : (a b c : Id) → older a b ≡ true → older b c ≡ true → older a c ≡ true
older-trans a b c h k = grind (arith, nat_tests)

pub older-along : (a b c : Id) → same_id a b ≡ true → older a c ≡ older b c
older-along a b c h = grind (arith, nat_tests)

pub older-along_right : (a b c : Id) → same_id a b ≡ true → older c a ≡ older c b
older-along_right a b c h = grind (arith, nat_tests)

-- ids that are the same are equal
pub same_id-is : (a b : Id) → same_id a b ≡ true → a ≡ b
same_id-is a b h =
    let run : a.run ≡ b.run = grind (arith, nat_tests) in
    let number : a.number ≡ b.number = grind (arith, nat_tests) in
    λ i. record { run = run i; number = number i }
