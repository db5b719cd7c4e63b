-- The values of the serial run, by the versions before a place.
use Rattle.std.specs.List.{list_all}
use Rattle.std.specs.List.Sorted.{IsPartitionedBy}
use Rattle.std.proofs.Common.{◌≡◌, ◌∙◌, ℕ, ◌+◌, Bool, true, false, not, List, [], ◌∷◌, None, nat_le, refl, sym, ap, subst, arith}
use Rattle.std.proofs.lemmas.Bool.{and_parts, and_from}
use Rattle.std.proofs.lemmas.Bool.Decides.{nat_tests}
use Rattle.units.specs.Fronts.{front}
use Rattle.units.specs.Keys.{Bytes}
use Rattle.record.specs.History.{Txn, serial, serial_before}
use Rattle.inspector.specs.Ascending.{AscendsBy}
use Rattle.inspector.specs.Versions.{shown}
use Rattle.inspector.specs.Versions.{PlacedWrite, before_place, last_value, placed_for, placed_from}
use Rattle.inspector.proofs.SerialOrder.{serial_ascends, serial_order}
use Rattle.inspector.proofs.Sorting.{before_partitioned}
use Rattle.inspector.proofs.VersionLaws.{Falls, shown_is}

pub serial_is_ascending : (h ts : List Txn) → ts ≡ serial h → AscendsBy serial_before ts
serial_is_ascending h ts is = subst (AscendsBy serial_before) (sym is) (serial_ascends h)

none_before : (u t : Txn) (ts : List Txn) → serial_before t u ≡ false → list_all (λ s. not (serial_before s t)) ts ≡ true
    → list_all (λ s. not (serial_before s u)) ts ≡ true
none_before u t [] here all = refl
none_before u t (s ∷ ts) here all =
    and_from _ _ (ap not (serial_order.chain s t u (is_false _ (and_parts _ _ all).0) here)) (none_before u t ts here (and_parts _ _ all).1)
  where
    is_false : (b : Bool) → not b ≡ true → b ≡ false
    is_false true e = cc
    is_false false e = refl

falls : (u : Txn) (ts : List Txn) → AscendsBy serial_before ts → Falls (λ t. serial_before t u) ts
falls u [] up = tt
falls u (t ∷ ts) up = ((λ here. none_before u t ts here up.0), falls u ts up.1)

pub partitioned_before : (u : Txn) (ts : List Txn) → AscendsBy serial_before ts → IsPartitionedBy (λ t. serial_before t u) ts
partitioned_before u ts up = before_partitioned serial_before serial_order u ts up

pub shown_before : (u : Txn) (ts : List Txn) (vs : List PlacedWrite) (k : Bytes) (p : ℕ) → AscendsBy serial_before ts
    → placed_for k vs ≡ placed_for k (placed_from 0 ts) → p ≡ front (λ t. serial_before t u) ts
    → last_value (before_place p (placed_for k vs)) None ≡ shown (λ t. serial_before t u) ts k None
shown_before u ts vs k p up same is =
    ap (λ ws. last_value (before_place p ws) None) same ∙ sym (shown_is (λ t. serial_before t u) ts k (falls u ts up) p is)

-- what comes after all of a timestamp
abbrev pub after_all : ℕ → Txn
after_all at = record { txn = record { run = 0; number = 0 }; at = at + 1; writes = [] }

up_to : (at : ℕ) (t : Txn) → serial_before t (after_all at) ≡ nat_le t.at at
up_to at t = grind (arith, nat_tests)

abbrev pub is_up_to : ℕ → Txn → Bool
is_up_to at t = nat_le t.at at

abbrev pub is_before : Txn → Txn → Bool
is_before u t = serial_before t u

same_test : (at : ℕ) → is_before (after_all at) ≡ is_up_to at
same_test at i t = up_to at t i

pub partitioned_up_to : (at : ℕ) (ts : List Txn) → AscendsBy serial_before ts → IsPartitionedBy (λ t. nat_le t.at at) ts
partitioned_up_to at ts up = subst (λ test. IsPartitionedBy test ts) (same_test at) (partitioned_before (after_all at) ts up)

pub shown_up_to : (at : ℕ) (ts : List Txn) (vs : List PlacedWrite) (k : Bytes) (p : ℕ) → AscendsBy serial_before ts
    → placed_for k vs ≡ placed_for k (placed_from 0 ts) → p ≡ front (λ t. nat_le t.at at) ts
    → last_value (before_place p (placed_for k vs)) None ≡ shown (λ t. nat_le t.at at) ts k None
shown_up_to at ts vs k p up same is =
    shown_before (after_all at) ts vs k p up same (is ∙ ap (λ (test : Txn → Bool). front test ts) (sym (same_test at)))
    ∙ ap (λ (test : Txn → Bool). shown test ts k None) (same_test at)
