-- What is taken of a staff, one of each.
use Rattle.std.proofs.Common.{◌≡◌, ◌+◌, List, ◌++◌, length, length-append, Option, Some, option_to_list, arith, ap}

one_less : {X : Type 0} (xs ys : List X) (r : Option X) (x : X) → xs ≡ ys ++ option_to_list r → r ≡ Some x → length ys + 1 ≡ length xs
one_less xs ys r x e is =
    let one : length (option_to_list r) ≡ 1 = ap (λ o. length (option_to_list o)) is in
    omega (arith, ap length e, length-append ys (option_to_list r), one)

-- lists of one length are so still once the last of each was taken
pub as_many : {X Y : Type 0} (xs fewer_xs : List X) (r : Option X) (x : X) (ys fewer_ys : List Y) (s : Option Y) (y : Y) → length ys ≡ length xs
    → xs ≡ fewer_xs ++ option_to_list r → r ≡ Some x → ys ≡ fewer_ys ++ option_to_list s → s ≡ Some y → length fewer_ys ≡ length fewer_xs
as_many xs fewer_xs r x ys fewer_ys s y same e is f at = omega (arith, same, one_less xs fewer_xs r x e is, one_less ys fewer_ys s y f at)
