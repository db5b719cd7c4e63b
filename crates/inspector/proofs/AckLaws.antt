-- Acknowledgements before a moment, by the last of those that were sorted and raised.
use Rattle.std.specs.List.{list_all, list_any}
use Rattle.std.specs.List.Sorted.{IsPartitionedBy, IsSortedBy}
use Rattle.std.specs.Cmp.{IsStrictWeakOrder}
use Rattle.std.proofs.Common.{◌≡◌, ◌∙◌, ℕ, zero, suc, ◌-◌, ◌<◌, Bool, true, false, not, cond, ◌&&◌, ◌||◌, List, [], ◌∷◌, Option, Some, None, get_or}
use Rattle.std.proofs.Common.{is_lt, length, max, nat_cmp, nat_le, nat_lt, take, refl, sym, ap, subst, arith, true≢false}
use Rattle.std.proofs.lemmas.Bool.{and_parts, and_from}
use Rattle.std.proofs.lemmas.Bool.Decides.{nat_tests}
use Rattle.units.specs.Fronts.{front}
use Rattle.units.specs.Lists.{gather, head, numbered}
use Rattle.units.specs.declared.line.Line.{Line}
use Rattle.units.specs.declared.line.Line.TheVariants as line
use Rattle.record.specs.Verdict.{is_late_ack}
use Rattle.inspector.specs.Acks.{AscendsByMoment, as_ack, came_earlier, is_before, is_late_by, last_reaches, raised_acks}
use Rattle.inspector.specs.declared.acks.Ack.{Ack}
use Rattle.inspector.proofs.Sorting.{ascends_from_sorted, before_partitioned}

-- ---- their order

pub moment_order : IsStrictWeakOrder came_earlier
moment_order = record { one_way = λ a b h. grind (arith, nat_tests); chain = λ a b c h k. grind (arith, nat_tests) }

-- as a sort has it
abbrev pub is_less : Ack → Ack → Bool
is_less a b = is_lt (nat_cmp a.moment b.moment)

less_is : (a b : Ack) → is_less a b ≡ came_earlier a b
less_is a b = grind (arith, nat_tests)

same_order : is_less ≡ came_earlier
same_order i a b = less_is a b i

pub sorted_ascends : (xs : List Ack) → IsSortedBy is_less xs → AscendsByMoment xs
sorted_ascends xs sorted = ascends_from_sorted came_earlier moment_order xs (subst (λ less. IsSortedBy less xs) same_order sorted)

-- some acknowledgement at a moment
abbrev at_moment : ℕ → Ack
at_moment moment = record { moment = moment; at = 0 }

pub earlier_first : (moment : ℕ) (xs : List Ack) → AscendsByMoment xs → IsPartitionedBy (λ a. nat_lt a.moment moment) xs
earlier_first moment xs up = before_partitioned came_earlier moment_order (at_moment moment) xs up

-- those that don't come before one, raised
still_after : (a b : Ack) (top : ℕ) (xs : List Ack) → b.moment ≡ a.moment → list_all (λ c. not (came_earlier c a)) xs ≡ true
    → list_all (λ c. not (came_earlier c b)) (raised_acks top xs) ≡ true
still_after a b top [] e all = refl
still_after a b top (c ∷ xs) e all =
    and_from _ _ (ap (λ m. not (nat_lt c.moment m)) e ∙ (and_parts _ _ all).0) (still_after a b (max c.at top) xs e (and_parts _ _ all).1)

pub raised_ascends : (top : ℕ) (xs : List Ack) → AscendsByMoment xs → AscendsByMoment (raised_acks top xs)
raised_ascends top [] up = tt
raised_ascends top (a ∷ xs) up =
    (still_after a (record { moment = a.moment; at = max a.at top }) (max a.at top) xs refl up.0, raised_ascends (max a.at top) xs up.1)

-- ---- an acknowledgement before a moment, at a timestamp that is not below one

abbrev pub is_late : ℕ → ℕ → Ack → Bool
is_late moment at a = nat_lt a.moment moment && nat_le at a.at

pub late_lines : (moment at : ℕ) (lines : List Line) → list_any (is_late moment at) (gather as_ack lines) ≡ list_any (is_late_ack moment at) lines
late_lines moment at [] = refl
late_lines moment at (line.Ack t s m ∷ lines) = ap (λ b. (nat_lt m moment && nat_le at s) || b) (late_lines moment at lines)
late_lines moment at (line.Begin t m ∷ lines) = late_lines moment at lines
late_lines moment at (line.Read t k x ∷ lines) = late_lines moment at lines
late_lines moment at (line.Look k s x ∷ lines) = late_lines moment at lines

none_later : (moment at : ℕ) (a : Ack) (xs : List Ack) → nat_lt a.moment moment ≡ false → list_all (λ c. not (came_earlier c a)) xs ≡ true
    → list_any (is_late moment at) xs ≡ false
none_later moment at a [] e all = refl
none_later moment at a (c ∷ xs) e all =
    let parts = and_parts (not (came_earlier c a)) (list_all (λ d. not (came_earlier d a)) xs) all in
    let here : nat_lt c.moment moment ≡ false = not_yet parts.0 in
    ap (λ b. (b && nat_le at c.at) || list_any (is_late moment at) xs) here ∙ none_later moment at a xs e parts.1
  where
    not_yet : not (came_earlier c a) ≡ true → nat_lt c.moment moment ≡ false
    not_yet h = grind (arith, nat_tests, e, h)

greater : (at a top : ℕ) → nat_le at (max a top) ≡ (nat_le at top || nat_le at a)
greater at a top = grind (arith, nat_tests)

or_assoc : (a b c : Bool) → ((a || b) || c) ≡ (a || (b || c))
or_assoc true b c = refl
or_assoc false b c = refl

or_none : (a : Bool) → (a || false) ≡ a
or_none true = refl
or_none false = refl

-- where some were gone over
late_behind : (moment at top : ℕ) (xs : List Ack) → AscendsByMoment xs
    → last_reaches at (nat_le at top) (take (front (is_before moment) (raised_acks top xs)) (raised_acks top xs)) ≡
    (nat_le at top || list_any (is_late moment at) xs)
late_behind moment at top [] up = sym (or_none (nat_le at top))
late_behind moment at top (a ∷ xs) up = by_test (nat_lt a.moment moment) refl (late_behind moment at (max a.at top) xs up.1)
  where
    rest : List Ack
    rest = raised_acks (max a.at top) xs

    by_test : (b : Bool) → nat_lt a.moment moment ≡ b
        → last_reaches at (nat_le at (max a.at top)) (take (front (is_before moment) rest) rest) ≡ (nat_le at (max a.at top) || list_any (is_late moment at) xs)
        → last_reaches at (nat_le at top) (take (cond b (suc (front (is_before moment) rest)) 0) (record { moment = a.moment; at = max a.at top } ∷ rest))
        ≡ (nat_le at top || ((b && nat_le at a.at) || list_any (is_late moment at) xs))
    by_test true e behind =
        behind
        ∙ ap (λ b. b || list_any (is_late moment at) xs) (greater at a.at top)
        ∙ or_assoc (nat_le at top) (nat_le at a.at) (list_any (is_late moment at) xs)
    by_test false e behind = sym (or_none (nat_le at top)) ∙ ap (λ b. nat_le at top || b) (sym (none_later moment at a xs e up.0))

pub late_is : (moment at : ℕ) (xs : List Ack) → AscendsByMoment xs → is_late_by moment at (raised_acks 0 xs) ≡ list_any (is_late moment at) xs
late_is moment at [] up = refl
late_is moment at (a ∷ xs) up = by_test (nat_lt a.moment moment) refl
  where
    rest : List Ack
    rest = raised_acks (max a.at 0) xs

    from_none : nat_le at (max a.at 0) ≡ nat_le at a.at
    from_none = grind (arith, nat_tests)

    by_test : (b : Bool) → nat_lt a.moment moment ≡ b
        → last_reaches at false (take (cond b (suc (front (is_before moment) rest)) 0) (record { moment = a.moment; at = max a.at 0 } ∷ rest))
        ≡ ((b && nat_le at a.at) || list_any (is_late moment at) xs)
    by_test true e = late_behind moment at (max a.at 0) xs up.1 ∙ ap (λ b. b || list_any (is_late moment at) xs) from_none
    by_test false e = sym (none_later moment at a xs e up.0)

-- ---- the last one

last_taken : (at n : ℕ) (xs : List Ack) (d : Ack) → n < length xs → nat_le at (get_or xs n d).at ≡ last_reaches at false (take (suc n) xs)
last_taken at n [] d lt = absurd (omega (arith, lt))
last_taken at zero (a ∷ xs) d lt = refl
last_taken at (suc n) (a ∷ xs) d lt = behind at n (nat_le at a.at) xs d (omega (arith, lt))
  where
    behind : (at n : ℕ) (known : Bool) (xs : List Ack) (d : Ack) → n < length xs → nat_le at (get_or xs n d).at ≡ last_reaches at known (take (suc n) xs)
    behind at n known [] d lt = absurd (omega (arith, lt))
    behind at zero known (a ∷ xs) d lt = refl
    behind at (suc n) known (a ∷ xs) d lt = behind at n (nat_le at a.at) xs d (omega (arith, lt))

pub last_of : (at count : ℕ) (xs : List Ack) (d : Ack) → 0 < count → count - 1 < length xs
    → nat_le at (get_or xs (count - 1) d).at ≡ last_reaches at false (take count xs)
last_of at zero xs d some lt = absurd (omega (arith, some))
last_of at (suc n) xs d some lt =
    let same : suc n - 1 ≡ n = omega arith in
    ap (λ m. nat_le at (get_or xs m d).at) same ∙ last_taken at n xs d (subst (λ (m : ℕ). m < length xs) same lt)

-- ---- where there is none

pub none_late : (moment at n : ℕ) (lines : List Line) → list_any (is_late_ack moment at) lines ≡ false
    → head (gather (λ (l : ℕ × Line). cond (is_late_ack moment at l.1) (Some (l.0)) None) (numbered n lines)) ≡ None
none_late moment at n [] none = refl
none_late moment at n (l ∷ lines) none = by_test (is_late_ack moment at l) none (none_late moment at (suc n) lines)
  where
    rest : Option ℕ
    rest = head (gather (λ (q : ℕ × Line). cond (is_late_ack moment at q.1) (Some (q.0)) None) (numbered (suc n) lines))

    by_test : (b : Bool) → (b || list_any (is_late_ack moment at) lines) ≡ false → (list_any (is_late_ack moment at) lines ≡ false → rest ≡ None)
        → head (elim (cond b (Some n) None) as (λ x. List ℕ) [
          | None ↦ gather (λ (q : ℕ × Line). cond (is_late_ack moment at q.1) (Some (q.0)) None) (numbered (suc n) lines)
          | Some y ↦ y ∷ gather (λ (q : ℕ × Line). cond (is_late_ack moment at q.1) (Some (q.0)) None) (numbered (suc n) lines)
        ]) ≡ None
    by_test true e others = absurd (true≢false e)
    by_test false e others = others e
