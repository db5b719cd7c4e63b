-- Heads order as their keys do, where they differ.
use Rattle.std.proofs.Common.{◌≡◌, ℕ, zero, suc, ◌+◌, ◌*◌, ◌^◌, ◌-◌, ◌<◌, ◌≤◌, ◌≢◌, Bool, true, false, cond, nat_lt, List, [], ◌∷◌}
use Rattle.std.proofs.Common.{below_more, length, get_or, set, drop, map, refl, sym, ap, ◌∙◌, arith, nat_cmp, Less, Equal, Greater, Ordering, take}
use Rattle.std.proofs.Math.Nat.{mul-le-mul_right, pow-le-pow_right, pow-suc}
use Rattle.std.specs.List.{AllByRecursion, insert}
use Rattle.std.proofs.lemmas.Bool.Decides.{nat_tests}
use Rattle.std.proofs.lemmas.Cmp.{ranked}
use Rattle.std.specs.Cmp.Lexicographic.{slice_cmp}
use Rattle.std.specs.Ordering.{ordering_then}
use Rattle.std.specs.Prelude.{min, nat_eq}
use Rattle.units.specs.Keys.{same_key, key_before}
use Rattle.units.proofs.KeyLaws.{key_before-trans, key_before-irreflexive, same_key-not_before, same_key_comm}
use Rattle.units.specs.declared.writes.Install.{Install}
use Rattle.std.proofs.lemmas.List.{get_or-map, get_or_default, get_or-set_same, get_or-set_other, ext_get_or, length-map}
use Rattle.versions.specs.Halves.{AllUpTo, AllAfter}
use Rattle.versions.specs.Ordered.{is_not_after, AscendsByVersion}
use Rattle.versions.specs.Arranged.{no_install}
use Rattle.versions.proofs.Halves.{each_at, before_passes, after_passes}
use Rattle.versions.specs.Heads.{AreBytes, number, head, AreHeads}

pow_some : (n : ℕ) → 1 ≤ 256 ^ n
pow_some zero = omega arith
pow_some (suc n) = omega (arith, pow_some n)

-- a number of so many digits
pub number_bound : (n : ℕ) (key : List ℕ) → AreBytes key → number n key < 256 ^ n
unfolding number
number_bound zero key bytes = omega arith
number_bound (suc n) [] bytes = omega (arith, pow_some n)
number_bound (suc n) (b ∷ key) bytes =
    let less : b ≤ 255 = omega (arith, bytes 0) in
    omega (arith, mul-le-mul_right (256 ^ n) less, number_bound n key (λ k. bytes (suc k)))

-- what has the smaller number comes first
pub number_before : (n : ℕ) (a b : List ℕ) → AreBytes a → AreBytes b → number n a < number n b → key_before a b ≡ true
unfolding number
number_before zero a b bytes_a bytes_b lt = absurd (omega arith)
number_before (suc n) [] [] bytes_a bytes_b lt = absurd (omega arith)
number_before (suc n) [] (y ∷ ys) bytes_a bytes_b lt = refl
number_before (suc n) (x ∷ xs) [] bytes_a bytes_b lt = absurd (omega arith)
number_before (suc n) (x ∷ xs) (y ∷ ys) bytes_a bytes_b lt =
    by_test (nat_lt x y) refl (nat_lt y x) refl (number_before n xs ys (λ j. bytes_a (suc j)) (λ j. bytes_b (suc j)))
  where
    few : number n ys < 256 ^ n
    few = number_bound n ys (λ k. bytes_b (suc k))

    by_test : (b : Bool) → nat_lt x y ≡ b → (c : Bool) → nat_lt y x ≡ c → (number n xs < number n ys → key_before xs ys ≡ true)
        → key_before (x ∷ xs) (y ∷ ys) ≡ true
    by_test true h c k rest = rw h refl
    by_test false h true k rest =
        let above : y + 1 ≤ x = grind (arith, nat_tests) in
        absurd (omega (arith, mul-le-mul_right (256 ^ n) above, few, lt))
    by_test false h false k rest =
        let same : x ≡ y = grind (arith, nat_tests) in
        let before : key_before xs ys ≡ true = rest (omega (arith, ap (λ m. m * 256 ^ n) same, lt)) in
        grind (arith, nat_tests)

-- one more digit
number_none : (n : ℕ) → number n [] ≡ 0
unfolding number
number_none zero = refl
number_none (suc n) = refl

times : (so_far p q digit rest : ℕ) → q ≡ p * 256 → so_far * q + (digit * p + rest) ≡ (so_far * 256 + digit) * p + rest
times so_far p q digit rest is = omega (arith, ap (λ m. so_far * m) is)

none : (so_far n : ℕ) → so_far * 256 ^ suc n + 0 ≡ (so_far * 256 + 0) * 256 ^ n + number n []
none so_far n =
    let nothing : 0 ≡ 0 * 256 ^ n + number n [] = omega (arith, number_none n) in
    ap (λ r. so_far * 256 ^ suc n + r) nothing ∙ times so_far (256 ^ n) (256 ^ suc n) 0 (number n []) (pow-suc 256 n)

pub one_digit : (so_far n i : ℕ) (key : List ℕ) →
    so_far * 256 ^ suc n + number (suc n) (drop i key) ≡ (so_far * 256 + get_or key i 0) * 256 ^ n + number n (drop (suc i) key)
unfolding number
one_digit so_far n zero [] = none so_far n
one_digit so_far n zero (b ∷ key) = times so_far (256 ^ n) (256 ^ suc n) b (number n key) (pow-suc 256 n)
one_digit so_far n (suc i) [] = none so_far n
one_digit so_far n (suc i) (b ∷ key) = one_digit so_far n i key

-- eight digits fit a number
pub digits_more : (so_far digit i : ℕ) → so_far < 256 ^ i → digit < 256 → so_far * 256 + digit < 256 ^ (i + 1)
digits_more so_far digit i lt few =
    let next : i + 1 ≡ suc i = omega arith in
    let more : 256 ^ (i + 1) ≡ 256 ^ i * 256 = ap (λ n. 256 ^ n) next ∙ pow-suc 256 i in
    omega (arith, more)

pub digits_fit : (so_far digit i : ℕ) → i < 8 → so_far < 256 ^ i → digit < 256 → so_far * 256 + digit < 2 ^ 64
digits_fit so_far digit i less lt few =
    let all : 256 ^ (i + 1) ≤ 256 ^ 8 = pow-le-pow_right {n = 256} (omega arith) {i = i + 1} {j = 8} (omega arith) in
    omega (arith, all, digits_more so_far digit i lt few)

pub one_digit_more : (so_far digit i : ℕ) (key : List ℕ) → i < 8 → digit ≡ get_or key i 0 →
    (so_far * 256 + digit) * 256 ^ (8 - (i + 1)) + number (8 - (i + 1)) (drop (i + 1) key) ≡ so_far * 256 ^ (8 - i) + number (8 - i) (drop i key)
one_digit_more so_far digit i key less is =
    let left : 8 - i ≡ suc (8 - (i + 1)) = omega arith in
    let next : i + 1 ≡ suc i = omega arith in
    ap (λ d. (so_far * 256 + d) * 256 ^ (8 - (i + 1)) + number (8 - (i + 1)) (drop (i + 1) key)) is
    ∙ ap (λ n. (so_far * 256 + get_or key i 0) * 256 ^ (8 - (i + 1)) + number (8 - (i + 1)) (drop n key)) next
    ∙ sym (one_digit so_far (8 - (i + 1)) i key) ∙ ap (λ n. so_far * 256 ^ n + number n (drop i key)) (sym left)

pub no_digit_left : (so_far i : ℕ) (key : List ℕ) → 8 ≤ i → so_far * 256 ^ (8 - i) + number (8 - i) (drop i key) ≡ so_far
unfolding number
no_digit_left so_far i key le =
    let left : 8 - i ≡ 0 = omega arith in
    ap (λ n. so_far * 256 ^ n + number n (drop i key)) left ∙ none
  where
    none : so_far * 256 ^ 0 + number 0 (drop i key) ≡ so_far
    none = omega arith

pub head_bound : (prefix key : List ℕ) → AreBytes key → head prefix key ≤ 2 ^ 64 - 1
unfolding head
head_bound [] key bytes = omega (arith, number_bound 8 key bytes)
head_bound (p ∷ prefix) [] bytes = omega arith
head_bound (p ∷ prefix) (b ∷ key) bytes = by_tests (nat_lt b p) (nat_lt p b) (head_bound prefix key (λ k. bytes (suc k)))
  where
    by_tests : (c d : Bool) → head prefix key ≤ 2 ^ 64 - 1 → cond c 0 (cond d (2 ^ 64 - 1) (head prefix key)) ≤ 2 ^ 64 - 1
    by_tests true d rest = omega arith
    by_tests false true rest = omega arith
    by_tests false false rest = rest

-- what has the smaller head comes first
pub head_before : (prefix a b : List ℕ) → AreBytes a → AreBytes b → head prefix a < head prefix b → key_before a b ≡ true
unfolding head
head_before [] a b bytes_a bytes_b lt = number_before 8 a b bytes_a bytes_b lt
head_before (p ∷ prefix) [] [] bytes_a bytes_b lt = absurd (omega arith)
head_before (p ∷ prefix) [] (y ∷ ys) bytes_a bytes_b lt = refl
head_before (p ∷ prefix) (x ∷ xs) [] bytes_a bytes_b lt = absurd (omega arith)
head_before (p ∷ prefix) (x ∷ xs) (y ∷ ys) bytes_a bytes_b lt =
    by_tests (nat_lt x p) (nat_lt p x) (nat_lt y p) (nat_lt p y) refl refl refl refl lt (head_before prefix xs ys (λ j. bytes_a (suc j)) (λ j. bytes_b (suc j)))
  where
    most : head prefix ys ≤ 2 ^ 64 - 1
    most = head_bound prefix ys (λ j. bytes_b (suc j))

    by_tests : (c d e f : Bool) → nat_lt x p ≡ c → nat_lt p x ≡ d → nat_lt y p ≡ e → nat_lt p y ≡ f
        → cond c 0 (cond d (2 ^ 64 - 1) (head prefix xs)) < cond e 0 (cond f (2 ^ 64 - 1) (head prefix ys))
        → (head prefix xs < head prefix ys → key_before xs ys ≡ true) → key_before (x ∷ xs) (y ∷ ys) ≡ true
    by_tests c d true f hc hd he hf less rest = absurd (omega (arith, less))
    by_tests true d false f hc hd he hf less rest = grind (arith, nat_tests)
    by_tests false true false true hc hd he hf less rest = absurd (omega (arith, less))
    by_tests false true false false hc hd he hf less rest = absurd (omega (arith, less, most))
    by_tests false false false true hc hd he hf less rest = grind (arith, nat_tests)
    by_tests false false false false hc hd he hf less rest =
        let before : key_before xs ys ≡ true = rest less in
        grind (arith, nat_tests)

-- a head, told from a comparison of the prefix with as much of the key
abbrev pub head_by : Ordering → ℕ → ℕ
head_by Less n = 0
head_by Equal n = n
head_by Greater n = 2 ^ 64 - 1

pub head_compared : (prefix key : List ℕ) (n : ℕ) → n ≡ min (length prefix) (length key) →
    head prefix key ≡ head_by (slice_cmp nat_cmp (take n key) prefix) (number 8 (drop n key))
unfolding head
head_compared [] key zero is = refl
head_compared [] key (suc n) is = absurd (omega arith)
head_compared (p ∷ prefix) [] zero is = refl
head_compared (p ∷ prefix) [] (suc n) is = absurd (omega arith)
head_compared (p ∷ prefix) (b ∷ key) zero is = absurd (omega arith)
head_compared (p ∷ prefix) (b ∷ key) (suc n) is =
    by_tests (nat_lt b p) (nat_lt p b) refl refl (nat_eq b p) refl (head_compared prefix key n (omega arith))
  where
    by_tests : (c d : Bool) → nat_lt b p ≡ c → nat_lt p b ≡ d → (e : Bool) → nat_eq b p ≡ e
        → head prefix key ≡ head_by (slice_cmp nat_cmp (take n key) prefix) (number 8 (drop n key))
        → cond c 0 (cond d (2 ^ 64 - 1) (head prefix key)) ≡
        head_by (ordering_then (cond c Less (cond e Equal Greater)) (slice_cmp nat_cmp (take n key) prefix)) (number 8 (drop n key))
    by_tests true d hc hd e he rest = refl
    by_tests false true hc hd true he rest = absurd (grind (arith, nat_tests))
    by_tests false true hc hd false he rest = refl
    by_tests false false hc hd true he rest = rest
    by_tests false false hc hd false he rest = absurd (grind (arith, nat_tests))

-- where a head is smaller the key comes before the other, and the other does not
pub not_back : (a b : List ℕ) → key_before a b ≡ true → key_before b a ≡ false
not_back a b h = grind (arith, nat_tests, key_before-trans a b a, key_before-irreflexive a)

pub apart : (a b : List ℕ) → key_before a b ≡ true → same_key b a ≡ false
apart a b h = grind (arith, nat_tests, same_key-not_before a b, same_key_comm b a)

-- a version put in, with its head
map_insert : (f : Install → ℕ) (t : List Install) (k : ℕ) (x : Install) → map f (insert t k x) ≡ insert (map f t) k (f x)
map_insert f t zero x = refl
map_insert f [] (suc k) x = refl
map_insert f (y ∷ t) (suc k) x = ap (λ r. f y ∷ r) (map_insert f t k x)

all_insert : (P : Install → Type 0) (t : List Install) (k : ℕ) (x : Install) → P x → AllByRecursion P t → AllByRecursion P (insert t k x)
all_insert P t zero x here all = (here, all)
all_insert P [] (suc k) x here all = (here, tt)
all_insert P (y ∷ t) (suc k) x here all = (all.0, all_insert P t k x here all.1)

pub heads_insert : (prefix : List ℕ) (t : List Install) (heads : List ℕ) (k : ℕ) (x : Install) → AreBytes x.key → AreHeads prefix t heads
    → AreHeads prefix (insert t k x) (insert heads k (head prefix x.key))
heads_insert prefix t heads k x bytes are = record {
  bytes = all_insert (λ i. AreBytes i.key) t k x bytes are.bytes;
  each = ap (λ h. insert h k (head prefix x.key)) are.each ∙ sym (map_insert (λ i. head prefix i.key) t k x);
}

-- heads that are written anew one by one
pub written_more : (p q : List ℕ) (t : List Install) (heads new : List ℕ) (at h : ℕ) → q ≡ p → new ≡ set heads at h → at < length heads
    → h ≡ head p (get_or t at no_install).key → ((k : ℕ) → k < at → get_or heads k 0 ≡ head p (get_or t k no_install).key)
    → (k : ℕ) → k < at + 1 → get_or new k 0 ≡ head q (get_or t k no_install).key
written_more p q t heads new at h same made lt is before =
    below_more (λ k. get_or new k 0 ≡ head q (get_or t k no_install).key) at
    (λ k less.
    let other : k ≢ at = omega arith in
    ap (λ l. get_or l k 0) made ∙ get_or-set_other heads at k h 0 other ∙ before k less ∙ ap (λ r. head r (get_or t k no_install).key) (sym same))
    (ap (λ l. get_or l at 0) made ∙ get_or-set_same heads at h 0 lt ∙ is ∙ ap (λ r. head r (get_or t at no_install).key) (sym same))

pub written_all : (prefix : List ℕ) (t : List Install) (heads : List ℕ) → AllByRecursion (λ i. AreBytes i.key) t → length heads ≡ length t
    → ((k : ℕ) → k < length t → get_or heads k 0 ≡ head prefix (get_or t k no_install).key) → AreHeads prefix t heads
written_all prefix t heads bytes long done = record {
  bytes = bytes;
  each = ext_get_or 0 heads (map (λ i. head prefix i.key) t) (long ∙ sym (length-map t (λ i. head prefix i.key))) (λ k lt.
      let less : k < length t = omega (arith, lt, long) in
      done k less ∙ sym (get_or-map (λ i. head prefix i.key) t k no_install 0 less));
}

-- the head of a version there
head_at : (prefix : List ℕ) (t : List Install) (heads : List ℕ) (k : ℕ) → AreHeads prefix t heads → k < length t
    → get_or heads k 0 ≡ head prefix (get_or t k no_install).key
head_at prefix t heads k are lt = ap (λ h. get_or h k 0) are.each ∙ get_or-map (λ i. head prefix i.key) t k no_install 0 lt

-- a version whose head is smaller is not after the key, and one whose head is greater is
pub smaller_head : (prefix : List ℕ) (t : List Install) (heads key : List ℕ) (k at : ℕ) → AreHeads prefix t heads → k < length t → AreBytes key
    → get_or heads k 0 < head prefix key → is_not_after key at (get_or t k no_install) ≡ true
smaller_head prefix t heads key k at are lt bytes less =
    let there : AreBytes (get_or t k no_install).key = each_at (λ i. AreBytes i.key) t k no_install are.bytes lt in
    let before = head_before prefix (get_or t k no_install).key key there bytes (omega (arith, head_at prefix t heads k are lt, less)) in
    rw before refl

pub greater_head : (prefix : List ℕ) (t : List Install) (heads key : List ℕ) (k at : ℕ) → AreHeads prefix t heads → k < length t → AreBytes key
    → head prefix key < get_or heads k 0 → is_not_after key at (get_or t k no_install) ≡ false
greater_head prefix t heads key k at are lt bytes more =
    let there : AreBytes (get_or t k no_install).key = each_at (λ i. AreBytes i.key) t k no_install are.bytes lt in
    let before = head_before prefix key (get_or t k no_install).key bytes there (omega (arith, head_at prefix t heads k are lt, more)) in
    rw (not_back key (get_or t k no_install).key before, apart key (get_or t k no_install).key before) refl

-- what a comparison of two numbers says
pub less_by : (x y : ℕ) → nat_cmp x y ≡ Less → x < y
less_by x y h = ranked x y Less (sym h)

pub greater_by : (x y : ℕ) → nat_cmp x y ≡ Greater → y < x
greater_by x y h = ranked x y Greater (sym h)

-- in order, where the head before a place is smaller each version up to there is not after the key, and where the head at a place is greater
-- each version from there on is after it
pub smaller_up_to : (prefix : List ℕ) (t : List Install) (heads key : List ℕ) (low at : ℕ) → AreHeads prefix t heads → AscendsByVersion t → low ≤ length t
    → AreBytes key → (0 < low → get_or heads (low - 1) 0 < head prefix key) → AllUpTo key at t low
smaller_up_to prefix t heads key zero at are up le bytes less = λ k d lt. absurd (omega (arith, lt))
smaller_up_to prefix t heads key (suc low) at are up le bytes less = λ k d lt.
    before_passes key at t low up there
    (λ d. ap (is_not_after key at) (get_or_default t low d no_install there)
    ∙ smaller_head prefix t heads key low at are there bytes below) k d (omega (arith, lt))
  where
    there : low < length t
    there = omega (arith, le)

    below : get_or heads low 0 < head prefix key
    below =
        let one_less : suc low - 1 ≡ low = omega arith in
        omega (arith, less (omega arith), ap (λ n. get_or heads n 0) one_less)

pub greater_from : (prefix : List ℕ) (t : List Install) (heads key : List ℕ) (high at : ℕ) → AreHeads prefix t heads → AscendsByVersion t → AreBytes key
    → (high < length t → head prefix key < get_or heads high 0) → AllAfter key at t high
greater_from prefix t heads key high at are up bytes more = λ k d le lt.
    let there : high < length t = omega (arith, le, lt) in
    after_passes key at t high up there
    (λ d. ap (is_not_after key at) (get_or_default t high d no_install there)
    ∙ greater_head prefix t heads key high at are there bytes (more there)) k d le lt
