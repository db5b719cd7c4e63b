-- A draw keeps the rule of a ticket source.
use Rattle.std.proofs.Common.{◌≡◌, ◌≢◌, ℕ, zero, suc, ◌+◌, ◌*◌, ◌^◌, ◌%◌, ◌-◌, ◌<◌, ◌≤◌, List, [], ◌∷◌, ◌++◌, length, set, sum_by, slice_index}
use Rattle.std.proofs.Common.{nat_eq, if◌then◌else◌, refl, ap, sym, mod-eq_of_lt, ◌∙◌, subst, ⊎_elim, arith, length-append}
use Rattle.std.proofs.lemmas.List.Sums.{sum_by-cons, sum_by-append}
use mathlib.Core.Option.{some, some-injective, some-ne-none}
use lib.ListN.{get_elem?}
use Rattle.std.proofs.lemmas.Bool.Decides.{nat_tests}
use Rattle.atomic_table.specs.Table.{State, Allows, Splits, keeps}
use Rattle.atomic_table.proofs.Lists.{at_set, at_snoc, set_else}
use Rattle.tickets.specs.declared.rule.Hand.{Hand}
use Rattle.tickets.specs.Draws.{times, once_below, IsDrawn}
use Rattle.units.specs.Ids.{Id}
use Rattle.tickets.specs.EachOnce.{EachOnce, WordCounts, IdsDiffer, IdsStayApart, id_of}

total-set : {A : Type 0} (f : A → ℕ) (l : List A) (j : ℕ) (v w : A) → get_elem? l j ≡ some v → sum_by f (set l j w) + f v ≡ sum_by f l + f w
total-set f [] j v w e = absurd (some-ne-none v (sym e))
total-set f (x ∷ xs) zero v w e = omega (arith, ap f (some-injective x v e), sum_by-cons f x xs, sum_by-cons f w xs)
total-set f (x ∷ xs) (suc j) v w e = omega (arith, total-set f xs j v w e, sum_by-cons f x xs, sum_by-cons f x (set xs j w))

-- the lists are no longer than the drawers may make them
bounded : (views : List Hand) → ((seat : ℕ) (h : Hand) → get_elem? views seat ≡ some h → length h.drawn ≤ 2 ^ 40 * h.drawers) →
    sum_by (λ (h : Hand). length h.drawn) views ≤ 2 ^ 40 * sum_by (λ (h : Hand). h.drawers) views
bounded [] each = omega arith
bounded (x ∷ xs) each = omega (
  arith,
  sum_by-cons (λ (h : Hand). length h.drawn) x xs,
  sum_by-cons (λ (h : Hand). h.drawers) x xs,
  each 0 x refl,
  bounded xs (λ seat h at. each (suc seat) h at),
)

-- one more draw of n
times-snoc : (x n : ℕ) (hand : Hand) → times x record { drawers = hand.drawers; drawn = hand.drawn ++ n ∷ [] } ≡ times x hand + (if nat_eq x n then 1 else 0)
times-snoc x n hand = let f : ℕ → ℕ = λ (y : ℕ). if nat_eq x y then 1 else 0 in omega (arith, sum_by-append f hand.drawn (n ∷ []), sum_by-cons f n [])

once_more : (x n : ℕ) → once_below x (n + 1) ≡ once_below x n + (if nat_eq x n then 1 else 0)
once_more x n = grind (arith, nat_tests)

-- whatever the others have drawn, a drawer that may still draw gets the word
pub draws : (slots seat : ℕ) (hand : Hand) (held : List (ℕ × ℕ)) → length hand.drawn < 2 ^ 40 → hand.drawers ≡ 1
    → Allows IsDrawn slots seat (hand, held) 0 (λ n. (n + 1) % 2 ^ 64) (λ found me. (found ≤ 2 ^ 48)
    × (me ≡ (record { drawers = hand.drawers; drawn = hand.drawn ++ found ∷ [] }, held)))
draws slots seat hand held few one s is homes at fits =
    let n = is.word in
    let more : Hand = record { drawers = hand.drawers; drawn = hand.drawn ++ n ∷ [] } in
    let here : slice_index s.words 0 ≡ n = ap (λ ws. slice_index ws 0) is.words in
    let low : n ≤ 2 ^ 40 * 256 = omega (arith, is.counted, is.drawers, bounded s.views is.limits) in
    let next : (n + 1) % 2 ^ 64 ≡ n + 1 = mod-eq_of_lt (omega arith) in (
      more,
      keeps,
      tt,
      record {
        word = n + 1;
        words = ap (λ ws. set ws 0 ((slice_index ws 0 + 1) % 2 ^ 64)) is.words ∙ ap (λ (k : ℕ). k ∷ []) next;
        drawers = omega (arith, total-set (λ (h : Hand). h.drawers) s.views seat hand more at, is.drawers);
        limits = λ j h h_at.
            ⊎_elim
            (λ (t : (j ≡ seat) × (more ≡ h)). subst (λ (k : Hand). length k.drawn ≤ 2 ^ 40 * k.drawers) t.1
            (omega (arith, length-append hand.drawn (n ∷ []), few, one)))
            (λ (t : (j ≢ seat) × (get_elem? s.views j ≡ some h)). is.limits j h t.1)
            (at_set s.views seat j more h h_at);
        counted = omega (arith, total-set (λ (h : Hand). length h.drawn) s.views seat hand more at, is.counted, length-append hand.drawn (n ∷ []));
        once = λ x. omega (arith, total-set (times x) s.views seat hand more at, is.once x, times-snoc x n hand, once_more x n);
      },
      (
        subst (λ (k : ℕ). k ≤ 2 ^ 48) (sym here) (omega (arith, low)),
        ap (λ (k : ℕ). (record { drawers = hand.drawers; drawn = hand.drawn ++ k ∷ [] }, held)) (sym here),
      ),
    )

-- one drawer is cut off
pub splits : (seat : ℕ) (hand : Hand) → 0 < hand.drawers → hand.drawn ≡ [] → Splits IsDrawn seat hand
    (record { drawers = hand.drawers - 1; drawn = hand.drawn }) (record { drawers = 1; drawn = [] })
splits seat hand some_left none_drawn s is at =
    let left : Hand = record { drawers = hand.drawers - 1; drawn = hand.drawn } in
    let right : Hand = record { drawers = 1; drawn = [] } in
    let views = set s.views seat left in
    let moved : (f : Hand → ℕ) → sum_by f (views ++ right ∷ []) + f hand ≡ sum_by f s.views + f left + f right =
    λ f. omega (arith, total-set f s.views seat hand left at, sum_by-append f views (right ∷ []), sum_by-cons f right []) in
    record {
      word = is.word;
      words = is.words;
      drawers = omega (arith, moved (λ (h : Hand). h.drawers), is.drawers);
      limits = λ j h h_at.
          ⊎_elim
          (λ (there : get_elem? views j ≡ some h).
          ⊎_elim
          (λ (t : (j ≡ seat) × (left ≡ h)). subst (λ (k : Hand). length k.drawn ≤ 2 ^ 40 * k.drawers) t.1
          (subst (λ (d : List ℕ). length d ≤ 2 ^ 40 * (hand.drawers - 1)) (sym none_drawn) (omega arith)))
          (λ (t : (j ≢ seat) × (get_elem? s.views j ≡ some h)). is.limits j h t.1)
          (at_set s.views seat j left h there))
          (λ (e : right ≡ h). subst (λ (k : Hand). length k.drawn ≤ 2 ^ 40 * k.drawers) e (omega arith))
          (at_snoc views right h j h_at);
      counted = omega (arith, moved (λ (h : Hand). length h.drawn), is.counted);
      once = λ x. omega (arith, moved (times x), is.once x);
    }

-- the source at the start
pub opens : (s : State ℕ Hand) → s.words ≡ 0 ∷ [] → s.views ≡ record { drawers = 256; drawn = [] } ∷ [] → IsDrawn s
opens s words views = record {
  word = 0;
  words = words;
  drawers = rw views refl;
  limits = λ j h at. first j h (subst (λ vs. get_elem? vs j ≡ some h) views at);
  counted = rw views refl;
  once = λ x. rw views (sym (none_below x));
}
  where
    start : Hand
    start = record { drawers = 256; drawn = [] }

    first : (j : ℕ) (h : Hand) → get_elem? (start ∷ []) j ≡ some h → length h.drawn ≤ 2 ^ 40 * h.drawers
    first zero h at = subst (λ (k : Hand). length k.drawn ≤ 2 ^ 40 * k.drawers) (some-injective start h at) (omega arith)
    first (suc j) h at = absurd (some-ne-none h (sym at))

    none_below : (x : ℕ) → once_below x 0 ≡ 0
    none_below x = grind (arith, nat_tests)

member-le : {A : Type 0} (f : A → ℕ) (l : List A) (j : ℕ) (v : A) → get_elem? l j ≡ some v → f v ≤ sum_by f l
member-le f [] j v e = absurd (some-ne-none v (sym e))
member-le f (x ∷ xs) zero v e = omega (arith, ap f (some-injective x v e), sum_by-cons f x xs)
member-le f (x ∷ xs) (suc j) v e = omega (arith, member-le f xs j v e, sum_by-cons f x xs)

-- some member is above 0 by a function
abbrev HasMember : {A : Type 0} → (A → ℕ) → List A → Type 0
HasMember {A} f l = (j : ℕ) × (v : A) × (get_elem? l j ≡ some v) × (0 < f v)

-- of a sum above 0 some member is above 0
some_member : {A : Type 0} (f : A → ℕ) (l : List A) → 0 < sum_by f l → HasMember f l
some_member f [] h = absurd (omega (arith, h))
some_member {A} f (x ∷ xs) h = by_first (f x) refl (λ k. some_member f xs k)
  where
    by_first : (n : ℕ) → f x ≡ n → (0 < sum_by f xs → HasMember f xs) → HasMember f (x ∷ xs)
    by_first zero e rest =
        let more = rest (omega (arith, h, e, sum_by-cons f x xs)) in
        (suc more.0, more.1, more.2, more.3)
    by_first (suc n) e rest = (0, x, refl, omega (arith, e))

-- each number below the word was drawn once, and no other was
pub each_once : WordCounts
each_once s is =
    subst (λ n. EachOnce n s.views) (sym (ap (λ ws. slice_index ws 0) is.words)) record {
      apart = λ one two v w x other at_one at_two.
          let blank : Hand = record { drawers = 0; drawn = [] } in
          let without = set s.views two blank in
          let still : get_elem? without one ≡ some v = set_else s.views two one blank other ∙ at_one in
          omega (arith, member-le (times x) without one v still, total-set (times x) s.views two w blank at_two, is.once x, at_most x);
      once = λ seat v x at. omega (arith, member-le (times x) s.views seat v at, is.once x, at_most x);
      below = λ seat v x at some_time. is_below x (omega (arith, member-le (times x) s.views seat v at, is.once x, some_time));
      together = λ x less. some_member (times x) s.views (omega (arith, is.once x, has_one x less));
    }
  where
    at_most : (x : ℕ) → once_below x is.word ≤ 1
    at_most x = grind (arith, nat_tests)

    is_below : (x : ℕ) → 0 < once_below x is.word → x < is.word
    is_below x h = grind (arith, nat_tests)

    has_one : (x : ℕ) → x < is.word → once_below x is.word ≡ 1
    has_one x h = grind (arith, nat_tests)

-- the numbers of equal ids are equal
number_of : (run x y : ℕ) → id_of run x ≡ id_of run y → x ≡ y
number_of run x y same = ap (λ (t : Id). t.number) same

counts_itself : (x y : ℕ) → x ≡ y → 1 ≤ (if nat_eq x y then 1 else 0)
counts_itself x y same = grind (arith, nat_tests)

-- ids of numbers that are drawn once differ
pub ids_differ : IdsStayApart
ids_differ s is =
    let counts = each_once s is in
    record {
      drawers = λ one two v w run x y other at_one at_two in_one in_two same.
          let there : 0 < times x w = subst (λ (n : ℕ). 0 < times n w) (sym (number_of run x y same)) in_two in
          omega (arith, counts.apart one two v w x other at_one at_two, in_one, there);
      draws = λ seat v earlier run x y at last in_earlier same.
          let more : times x v ≡ times x earlier + (if nat_eq x y then 1 else 0) =
          ap (sum_by (λ (z : ℕ). if nat_eq x z then 1 else 0)) last ∙ times-snoc x y earlier in
          omega (arith, counts.once seat v x at, more, counts_itself x y (number_of run x y same), in_earlier);
    }
