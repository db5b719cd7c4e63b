-- The holds of the safe time beside the rows, as a row is put in or taken out.
use Rattle.std.proofs.Common.{◌≡◌, ℕ, suc, ◌+◌, ◌<◌, ◌≤◌, Bool, true, false, cond, nat_eq, not, List, [], ◌∷◌, ◌++◌, length, Option, Some, None, refl}
use Rattle.std.proofs.Common.{sym, ap, ◌∙◌, arith, filter, option_to_list}
use Rattle.std.proofs.lemmas.Bool.Decides.{nat_tests}
use Rattle.std.specs.List.{AllByRecursion}
use Rattle.units.specs.Lists.{count, follow, head}
use Rattle.units.specs.Ids.{Id, same_id, older}
use Rattle.units.specs.ById.{IsById}
use Rattle.units.proofs.IdLaws.{older_total, older-trans, older_not_same, same_id_comm}
use Rattle.units.proofs.ByIdLaws.{later_are_younger, later_differ}
use Rattle.units.proofs.ListLaws.{all_gives}
use Rattle.safetime.specs.Laws.{SameHolds}
use Rattle.safetime.specs.Safe.{lifted}
use Rattle.safetime.proofs.Orders.{order_does_not_matter, hold_adds_one, lift_takes_one}
use Rattle.protocol.specs.Rows.{Row, safe, find_row, without_row, with_row, held_stamp}
use Rattle.memory.specs.Served.{stamps_held, stamp_held}
use Rattle.memory.specs.ServedLaws.{SafeByHolds, HoldIsPut, NoneIsPut, HoldIsTaken, NoneIsTaken, HoldsAreFew}

pub holding_safe : SafeByHolds
unfolding safe
holding_safe last holds rows ended same = order_does_not_matter last holds (stamps_held rows) same

-- ---- how often rows hold a timestamp

abbrev held_by : (ℕ → Bool) → Option ℕ → ℕ
held_by p o = count p (option_to_list o)

abbrev held_in : (ℕ → Bool) → List Row → ℕ
held_in p rows = count p (stamps_held rows)

counted_one : (p : ℕ → Bool) (x : ℕ) (xs : List ℕ) → count p (x ∷ xs) ≡ count p (x ∷ []) + count p xs
counted_one p x xs = by_test (p x) (count p xs)
  where
    by_test : (b : Bool) (n : ℕ) → cond b (suc n) n ≡ cond b 1 0 + n
    by_test true n = omega arith
    by_test false n = omega arith

-- one more row in front
counted_row : (p : ℕ → Bool) (q : Row) (qs : List Row) → held_in p (q ∷ qs) ≡ held_by p (held_stamp q.phase) + held_in p qs
counted_row p q qs = by_stamp (held_stamp q.phase)
  where
    by_stamp : (o : Option ℕ) → count p (elim o as (λ _. List ℕ) [ None ↦ stamps_held qs | Some y ↦ y ∷ stamps_held qs ]) ≡ held_by p o + held_in p qs
    by_stamp None = omega arith
    by_stamp (Some at) = counted_one p at (stamps_held qs)

-- no row of an id, where each has another
none_of : (qs : List Row) (t : Id) → AllByRecursion (λ q. same_id q.txn t ≡ false) qs → find_row qs t ≡ None
none_of [] t all = refl
none_of (q ∷ qs) t all = rw all.0 (none_of qs t all.1)

-- a row that is put in gives its timestamp, and takes away that of the row in its place
counted_with : (p : ℕ → Bool) (rows : List Row) (r : Row) → IsById (λ q. q.txn) rows
    → held_in p (with_row rows r) + held_by p (stamp_held rows r.txn) ≡ held_in p rows + held_by p (held_stamp r.phase)
counted_with p [] r up = omega (arith, counted_row p r [])
counted_with p (q ∷ qs) r up = by_tests (same_id q.txn r.txn) (older q.txn r.txn) refl refl (counted_with p qs r up.1)
  where
    by_tests : (a b : Bool) → same_id q.txn r.txn ≡ a → older q.txn r.txn ≡ b
        → held_in p (with_row qs r) + held_by p (stamp_held qs r.txn) ≡ held_in p qs + held_by p (held_stamp r.phase)
        → held_in p (cond a (r ∷ qs) (cond b (q ∷ with_row qs r) (r ∷ q ∷ qs)))
        + held_by p (follow (head (cond a (q ∷ filter (λ x. same_id x.txn r.txn) qs) (filter (λ x. same_id x.txn r.txn) qs))) (λ x. held_stamp x.phase))
        ≡ held_in p (q ∷ qs) + held_by p (held_stamp r.phase)
    by_tests true b same before rest = omega (arith, counted_row p r qs, counted_row p q qs)
    by_tests false true same before rest = omega (arith, counted_row p q (with_row qs r), counted_row p q qs, rest)
    by_tests false false same before rest =
        let first : older r.txn q.txn ≡ true = older_total q.txn r.txn same before in
        let none : find_row qs r.txn ≡ None =
        none_of qs r.txn (all_gives (λ x. older q.txn x.txn ≡ true) (λ x. same_id x.txn r.txn ≡ false)
        (λ x young. same_id_comm x.txn r.txn ∙ older_not_same r.txn x.txn (older-trans r.txn q.txn x.txn first young)) qs
        (later_are_younger (λ (x : Row). x.txn) q qs up)) in
        let nothing : held_by p (stamp_held qs r.txn) ≡ 0 = ap (λ (o : Option Row). held_by p (follow o (λ x. held_stamp x.phase))) none in
        omega (arith, counted_row p r (q ∷ qs), nothing)

-- a row that is taken out takes its timestamp away
counted_without : (p : ℕ → Bool) (rows : List Row) (t : Id) → IsById (λ q. q.txn) rows
    → held_in p (without_row rows t) + held_by p (stamp_held rows t) ≡ held_in p rows
counted_without p [] t up = refl
counted_without p (q ∷ qs) t up = by_test (same_id q.txn t) refl (counted_without p qs t up.1)
  where
    by_test : (a : Bool) → same_id q.txn t ≡ a → held_in p (without_row qs t) + held_by p (stamp_held qs t) ≡ held_in p qs
        → held_in p (cond (not a) (q ∷ without_row qs t) (without_row qs t))
        + held_by p (follow (head (cond a (q ∷ filter (λ x. same_id x.txn t) qs) (filter (λ x. same_id x.txn t) qs))) (λ x. held_stamp x.phase))
        ≡ held_in p (q ∷ qs)
    by_test true same rest =
        let none : find_row qs t ≡ None = none_of qs t (later_differ (λ (x : Row). x.txn) t q qs same (later_are_younger (λ (x : Row). x.txn) q qs up)) in
        let nothing : held_by p (stamp_held qs t) ≡ 0 = ap (λ (o : Option Row). held_by p (follow o (λ x. held_stamp x.phase))) none in
        omega (arith, counted_row p q qs, rest, nothing)
    by_test false same rest = omega (arith, counted_row p q (without_row qs t), counted_row p q qs, rest)

held_none : (p : ℕ → Bool) (o : Option ℕ) → o ≡ None → held_by p o ≡ 0
held_none p o is = ap (held_by p) is

-- ---- holds

pub holding_with : HoldIsPut
holding_with holds rows r at up same none is = record { each = λ n. more n }
  where
    more : (n : ℕ) → count (nat_eq n) (holds ++ at ∷ []) ≡ held_in (nat_eq n) (with_row rows r)
    more n =
        let new : held_by (nat_eq n) (held_stamp r.phase) ≡ count (nat_eq n) (at ∷ []) = ap (held_by (nat_eq n)) is in
        omega (
          arith,
          counted_with (nat_eq n) rows r up,
          held_none (nat_eq n) _ none,
          same.each n,
          (hold_adds_one at holds).each n,
          counted_one (nat_eq n) at holds,
        )

pub holding_with_none : NoneIsPut
holding_with_none holds rows r up same none is = record { each = λ n. more n }
  where
    more : (n : ℕ) → count (nat_eq n) holds ≡ held_in (nat_eq n) (with_row rows r)
    more n =
        omega (arith, counted_with (nat_eq n) rows r up, held_none (nat_eq n) _ none, held_none (nat_eq n) _ is, same.each n)

pub holding_without : HoldIsTaken
holding_without holds rows t at up same is = record { each = λ n. less n }
  where
    held : (n : ℕ) → held_in (nat_eq n) (without_row rows t) + count (nat_eq n) (at ∷ []) ≡ count (nat_eq n) holds
    held n = ap (λ o. held_in (nat_eq n) (without_row rows t) + held_by (nat_eq n) o) (sym is) ∙ counted_without (nat_eq n) rows t up ∙ sym (same.each n)

    one : count (nat_eq at) (at ∷ []) ≡ 1
    one = grind (arith, nat_tests)

    some : 0 < count (nat_eq at) holds
    some = omega (arith, held at, one)

    less : (n : ℕ) → count (nat_eq n) (lifted at holds) ≡ held_in (nat_eq n) (without_row rows t)
    less n = omega (arith, held n, (lift_takes_one at holds some).each n, counted_one (nat_eq n) at (lifted at holds))

pub holding_without_none : NoneIsTaken
holding_without_none holds rows t up same none = record { each = λ n. more n }
  where
    more : (n : ℕ) → count (nat_eq n) holds ≡ held_in (nat_eq n) (without_row rows t)
    more n = omega (arith, counted_without (nat_eq n) rows t up, held_none (nat_eq n) _ none, same.each n)

-- ---- how many holds there are

lifted_length : (at : ℕ) (holds : List ℕ) → 0 < count (nat_eq at) holds → suc (length (lifted at holds)) ≡ length holds
lifted_length at [] some = absurd (omega (arith, some))
lifted_length at (x ∷ xs) some = grind (arith, nat_tests, lifted_length at xs)

counted_front : (at : ℕ) (xs : List ℕ) → 0 < count (nat_eq at) (at ∷ xs)
counted_front at xs = grind (arith, nat_tests)

counted_behind : (n at : ℕ) (xs ys : List ℕ) → count (nat_eq n) (at ∷ xs) ≡ count (nat_eq n) (at ∷ ys) → count (nat_eq n) xs ≡ count (nat_eq n) ys
counted_behind n at xs ys h = grind (arith, nat_tests)

-- holds that are the same are as many
pub same_length : (a b : List ℕ) → SameHolds a b → length a ≡ length b
same_length [] [] same = refl
same_length [] (y ∷ b) same = absurd (omega (arith, same.each y, counted_front y b))
same_length (x ∷ a) b same =
    let some : 0 < count (nat_eq x) b = omega (arith, same.each x, counted_front x a) in
    let rest : SameHolds a (lifted x b) = record { each = λ n. counted_behind n x a (lifted x b) (same.each n ∙ sym ((lift_takes_one x b some).each n)) } in
    ap suc (same_length a (lifted x b) rest) ∙ lifted_length x b some

stamps_few : (rows : List Row) → length (stamps_held rows) ≤ length rows
stamps_few [] = omega arith
stamps_few (q ∷ qs) = by_stamp (held_stamp q.phase) (stamps_few qs)
  where
    by_stamp : (o : Option ℕ) → length (stamps_held qs) ≤ length qs
        → length (elim o as (λ _. List ℕ) [ None ↦ stamps_held qs | Some y ↦ y ∷ stamps_held qs ]) ≤ suc (length qs)
    by_stamp None rest = omega (arith, rest)
    by_stamp (Some at) rest = omega (arith, rest)

pub holds_few : HoldsAreFew
holds_few holds rows same = omega (arith, same_length holds (stamps_held rows) same, stamps_few rows)
