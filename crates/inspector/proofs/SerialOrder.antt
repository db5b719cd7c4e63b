-- Transactions that were sorted stand in the serial order.
use Rattle.std.proofs.Common.{◌≡◌, ◌∙◌, Bool, true, false, List, is_lt, nat_cmp, sym, subst, arith}
use Rattle.std.proofs.lemmas.Bool.Decides.{nat_tests}
use Rattle.std.specs.Cmp.{IsStrictWeakOrder}
use Rattle.std.specs.List.Sorted.{IsSortedBy, IsStableBy}
use Rattle.std.specs.Ordering.{ordering_then}
use Rattle.record.specs.History.{Txn, serial, serial_before}
use Rattle.inspector.specs.Ascending.{AscendsBy}
use Rattle.inspector.proofs.Sorting.{ascends_from_sorted}
use Rattle.inspector.proofs.SortedLists.{ascends_sorted, one_ascends, stable_sorted}

one_way : (a b : Txn) → serial_before a b ≡ true → serial_before b a ≡ false
one_way a b h = grind (arith, nat_tests)

chain : (a b c : Txn) → serial_before a b ≡ false → serial_before b c ≡ false → serial_before a c ≡ false
chain a b c h k = grind (arith, nat_tests)

pub serial_order : IsStrictWeakOrder serial_before
serial_order = record { one_way = one_way; chain = chain }

pub serial_ascends : (h : List Txn) → AscendsBy serial_before (serial h)
serial_ascends h = ascends_sorted serial_before serial_order h

-- the serial order as a sort has it
abbrev pub is_less : Txn → Txn → Bool
is_less a b = is_lt (ordering_then (nat_cmp a.at b.at) (ordering_then (nat_cmp a.txn.run b.txn.run) (nat_cmp a.txn.number b.txn.number)))

less_is : (a b : Txn) → is_less a b ≡ serial_before a b
less_is a b = grind (arith, nat_tests)

same_order : is_less ≡ serial_before
same_order i a b = less_is a b i

-- what was sorted, ties in their order, is the serial order
pub serial_is : (h ts : List Txn) → IsSortedBy is_less ts → IsStableBy is_less h ts → ts ≡ serial h
serial_is h ts ascends stable =
    one_ascends serial_before serial_order ts (serial h)
    (ascends_from_sorted serial_before serial_order ts (subst (λ less. IsSortedBy less ts) same_order ascends))
    (serial_ascends h)
    (λ q. subst (λ less. IsStableBy less h ts) same_order stable q ∙ sym (stable_sorted serial_before serial_order q h))
