-- The newest version of a key, among installs in order.
use Rattle.std.proofs.Common.{◌≡◌, ℕ, zero, suc, ◌+◌, ◌<◌, Bool, ◌&&◌, true, false, cond, List, [], ◌∷◌, length, get_or, nat_lt, nat_le, Option, Some}
use Rattle.std.proofs.Common.{None, refl, sym, ap, ◌∙◌, arith, filter}
use Rattle.std.specs.List.{AllByRecursion, list_all}
use Rattle.std.proofs.lemmas.Bool.{false≢true}
use Rattle.std.proofs.lemmas.Bool.Decides.{nat_tests}
use Rattle.units.specs.Keys.{same_key, key_before}
use Rattle.units.proofs.KeyLaws.{same_key-is, same_key_comm, key_before-trans, key_before-irreflexive}
use Rattle.units.specs.declared.writes.Install.{Install}
use Rattle.units.specs.Lists.{follow}
use Rattle.units.specs.Versions.{of_key, newest, latest, at_time}
use Rattle.versions.specs.Ordered.{is_by, is_not_after, version_before, AscendsByVersion, IsInOrder}
use Rattle.versions.specs.Halves.{AllUpTo, AllAfter}
use Rattle.versions.proofs.Halves.{each_at}

-- the last of a list, or what was there
abbrev last_from : Option Install → List Install → Option Install
last_from found [] = found
last_from found (x ∷ xs) = last_from (Some x) xs

-- the stamps rise
abbrev IsRising : List Install → Type 0
IsRising [] = Unit {0}
IsRising (x ∷ xs) = AllByRecursion (λ y. x.at < y.at) xs × IsRising xs

-- the newest of one version and those behind it
abbrev pub newer : Install → Option Install → Option Install
newer x found = elim found [ None ↦ Some x | Some y ↦ cond (nat_lt x.at y.at) (Some y) (Some x) ]

-- what was found is above the timestamp
abbrev IsFoundAbove : ℕ → Option Install → Type 0
IsFoundAbove n None = ⊥
IsFoundAbove n (Some y) = n < y.at

newer_is : (x : Install) (found : Option Install) → IsFoundAbove x.at found → newer x found ≡ found
newer_is x None above = absurd above
newer_is x (Some y) above = by_test (nat_lt x.at y.at) refl
  where
    by_test : (b : Bool) → nat_lt x.at y.at ≡ b → cond {A = Option Install} b (Some y) (Some x) ≡ Some y
    by_test true k = refl
    by_test false k = absurd (grind (arith, nat_tests))

last_above : (n : ℕ) (y : Install) (f : List Install) → n < y.at → AllByRecursion (λ z. n < z.at) f → IsFoundAbove n (last_from (Some y) f)
last_above n y [] above all = above
last_above n y (z ∷ f) above all = last_above n z f all.0 all.1

newest_some : (x : Install) (f : List Install) → IsRising f → AllByRecursion (λ y. x.at < y.at) f → newest (x ∷ f) ≡ last_from (Some x) f
newest_some x [] up below = refl
newest_some x (y ∷ f) up below =
    ap (newer x) (newest_some y f up.1 up.0) ∙ newer_is x (last_from (Some y) f) (last_above x.at y f below.0 below.1)

newest_is_last : (f : List Install) → IsRising f → newest f ≡ last_from None f
newest_is_last [] up = refl
newest_is_last (x ∷ f) up = newest_some x f up.1 up.0

-- of two versions of one key the later one in order has the greater stamp
higher : (key : List ℕ) (at : ℕ) (x y : Install) → is_by key at x ≡ true → is_by key at y ≡ true → version_before x y ≡ true → x.at < y.at
higher key at x y k m before =
    let same_x : same_key x.key key ≡ true = grind (arith, nat_tests) in
    let same_y : same_key y.key key ≡ true = grind (arith, nat_tests) in
    let one : x.key ≡ y.key = same_key-is x.key key same_x ∙ sym (same_key-is y.key key same_y) in
    let level : key_before x.key y.key ≡ false = ap (key_before x.key) (sym one) ∙ key_before-irreflexive x.key in
    grind (arith, nat_tests)

-- the versions of one key rise, in order
rises : (key : List ℕ) (at : ℕ) (t : List Install) → AscendsByVersion t → IsRising (filter (is_by key at) t)
rises key at [] up = tt
rises key at (x ∷ t) up = by_test (is_by key at x) refl (rises key at t up.1)
  where
    above : (s : List Install) → is_by key at x ≡ true → AllByRecursion (λ next. version_before x next ≡ true) s →
        AllByRecursion (λ y. x.at < y.at) (filter (is_by key at) s)
    above [] k all = tt
    above (y ∷ s) k all = by (is_by key at y) refl (above s k all.1)
      where
        by : (b : Bool) → is_by key at y ≡ b → AllByRecursion (λ z. x.at < z.at) (filter (is_by key at) s) →
            AllByRecursion (λ z. x.at < z.at) (cond b (y ∷ filter (is_by key at) s) (filter (is_by key at) s))
        by true m rest = (higher key at x y k m all.0, rest)
        by false m rest = rest

    by_test : (b : Bool) → is_by key at x ≡ b → IsRising (filter (is_by key at) t) → IsRising (cond b (x ∷ filter (is_by key at) t) (filter (is_by key at) t))
    by_test true k rest = (above t k up.0, rest)
    by_test false k rest = rest

pub none_by : (key : List ℕ) (at : ℕ) (t : List Install) → AllAfter key at t 0 → filter (is_by key at) t ≡ []
none_by key at [] after = refl
none_by key at (x ∷ t) after =
    let none : is_by key at x ≡ false = grind (arith, nat_tests, after 0 x (omega arith) (omega arith)) in
    rw none (none_by key at t (λ k d le lt. after (suc k) d (omega arith) (omega arith)))

-- a version that is not after key and stamp is by them exactly where it is of the key
pub by_is_same : (key : List ℕ) (at : ℕ) (x : Install) → is_not_after key at x ≡ true → is_by key at x ≡ same_key x.key key
by_is_same key at x passes = by_test (same_key x.key key) refl
  where
    by_test : (b : Bool) → same_key x.key key ≡ b → is_by key at x ≡ b
    by_test false k = grind (arith, nat_tests)
    by_test true k =
        let level : key_before x.key key ≡ false = ap (key_before x.key) (sym (same_key-is x.key key k)) ∙ key_before-irreflexive x.key in
        grind (arith, nat_tests)

-- before a version of a smaller key there is none of the key
smaller_before : (key : List ℕ) (at : ℕ) (x y : Install) → version_before x y ≡ true → is_not_after key at y ≡ true → same_key y.key key ≡ false →
    is_by key at x ≡ false
smaller_before key at x y before passes differ = by_test (same_key x.key key) refl
  where
    by_test : (b : Bool) → same_key x.key key ≡ b → is_by key at x ≡ false
    by_test false k = grind (arith, nat_tests)
    by_test true k =
        let one : x.key ≡ key = same_key-is x.key key k in
        let below : key_before y.key key ≡ true = grind (arith, nat_tests) in
        let other : same_key x.key y.key ≡ false = ap (λ z. same_key z y.key) one ∙ same_key_comm key y.key ∙ differ in
        let above : key_before x.key y.key ≡ true = grind (arith, nat_tests) in
        let round : key_before key key ≡ true = key_before-trans key y.key key (ap (λ z. key_before z y.key) (sym one) ∙ above) below in
        absurd (false≢true (sym (key_before-irreflexive key) ∙ round))

-- The last version by key and stamp is the last that is not after them, where that is of the key.
last_by : (key : List ℕ) (at : ℕ) (t : List Install) (q : ℕ) (y : Install) (found : Option Install) → AscendsByVersion t → q < length t → y ≡ get_or t q y
    → AllUpTo key at t (q + 1) → AllAfter key at t (q + 1) → last_from found (filter (is_by key at) t) ≡ cond (same_key y.key key) (Some y) found
last_by key at [] q y found up lt is before after = absurd (omega arith)
last_by key at (x ∷ t) zero y found up lt is before after =
    let none = none_by key at t (λ k d le less. after (suc k) d (omega arith) (omega arith)) in
    let here : is_by key at x ≡ same_key y.key key = by_is_same key at x (before 0 x (omega arith)) ∙ ap (λ z. same_key z.key key) (sym is) in
    by_test (is_by key at x) refl (same_key y.key key) here none
  where
    by_test : (a : Bool) → is_by key at x ≡ a → (b : Bool) → is_by key at x ≡ b → filter (is_by key at) t ≡ [] →
        last_from found (cond a (x ∷ filter (is_by key at) t) (filter (is_by key at) t)) ≡ cond b (Some y) found
    by_test true k true m none = ap (last_from (Some x)) none ∙ ap Some (sym is)
    by_test true k false m none = absurd (false≢true (sym m ∙ k))
    by_test false k true m none = absurd (false≢true (sym k ∙ m))
    by_test false k false m none = ap (last_from found) none
last_by key at (x ∷ t) (suc q) y found up lt is before after =
    by_test (is_by key at x) refl (same_key y.key key) refl (λ f. last_by key at t q y f up.1 (omega arith) is
    (λ k d less. before (suc k) d (omega arith)) (λ k d le less. after (suc k) d (omega arith) (omega arith)))
  where
    passes : is_not_after key at y ≡ true
    passes = ap (is_not_after key at) is ∙ before (suc q) y (omega arith)

    behind : version_before x y ≡ true
    behind = ap (version_before x) is ∙ each_at (λ next. version_before x next ≡ true) t q y up.0 (omega arith)

    by_test : (a : Bool) → is_by key at x ≡ a → (b : Bool) → same_key y.key key ≡ b → ((f : Option Install) →
        last_from f (filter (is_by key at) t) ≡ cond (same_key y.key key) (Some y) f)
        → last_from found (cond a (x ∷ filter (is_by key at) t) (filter (is_by key at) t)) ≡ cond b (Some y) found
    by_test true k true m rest = rest (Some x) ∙ ap (λ z. cond z (Some y) (Some x)) m
    by_test true k false m rest = absurd (false≢true (sym (smaller_before key at x y behind passes m) ∙ k))
    by_test false k b m rest = rest found ∙ ap (λ z. cond z (Some y) found) m

-- the newest version by key and stamp, where something is not after them
pub newest_at : (key : List ℕ) (at : ℕ) (t : List Install) (q : ℕ) (y : Install) → AscendsByVersion t → q < length t → y ≡ get_or t q y
    → AllUpTo key at t (q + 1) → AllAfter key at t (q + 1) → newest (filter (is_by key at) t) ≡ cond (same_key y.key key) (Some y) None
newest_at key at t q y up lt is before after = newest_is_last (filter (is_by key at) t) (rises key at t up) ∙ last_by key at t q y None up lt is before after

-- and where everything is after them
pub newest_none : (key : List ℕ) (at : ℕ) (t : List Install) → AllAfter key at t 0 → newest (filter (is_by key at) t) ≡ None
newest_none key at t after = ap newest (none_by key at t after)

-- the versions of the key among those that are no later
pub of_key_by : (key : List ℕ) (at : ℕ) (t : List Install) → of_key (filter (λ i. nat_le i.at at) t) key ≡ filter (is_by key at) t
of_key_by key at [] = refl
of_key_by key at (x ∷ t) = by_tests (nat_le x.at at) (same_key x.key key) refl (of_key_by key at t)
  where
    by_tests : (a b : Bool) → same_key x.key key ≡ b → of_key (filter (λ i. nat_le i.at at) t) key ≡ filter (is_by key at) t
        → of_key (cond a (x ∷ filter (λ i. nat_le i.at at) t) (filter (λ i. nat_le i.at at) t)) key ≡
        cond (b && a) (x ∷ filter (is_by key at) t) (filter (is_by key at) t)
    by_tests true true k rest = rw k (ap (λ r. x ∷ r) rest)
    by_tests true false k rest = rw k rest
    by_tests false true k rest = rest
    by_tests false false k rest = rest

-- the value at a time, by the newest version of the key that is no later
pub at_time_is : (key : List ℕ) (at : ℕ) (t : List Install) → at_time t key at ≡ follow (newest (filter (is_by key at) t)) (λ i. i.value)
unfolding at_time latest
at_time_is key at t = ap (λ r. follow (newest r) (λ i. i.value)) (of_key_by key at t)

all_in_time : (greatest : ℕ) (t : List Install) → AllByRecursion (λ i. nat_le i.at greatest ≡ true) t → filter (λ i. nat_le i.at greatest) t ≡ t
all_in_time greatest [] all = refl
all_in_time greatest (x ∷ t) all = rw (all.0) (ap (λ r. x ∷ r) (all_in_time greatest t all.1))

-- the newest version of the key is that at the greatest timestamp
pub newest_is : (key : List ℕ) (greatest : ℕ) (t : List Install) → IsInOrder greatest t → newest (filter (is_by key greatest) t) ≡ newest (of_key t key)
newest_is key greatest t kept = sym (ap newest (of_key_by key greatest t)) ∙ ap (λ r. newest (of_key r key)) (all_in_time greatest t kept.in_time)

-- the latest value, by the newest version of the key
pub latest_is : (key : List ℕ) (t : List Install) → latest t key ≡ follow (newest (of_key t key)) (λ i. i.value)
unfolding latest
latest_is key t = refl

-- the newest was before the timestamp, where there is one
abbrev pub was_before : ℕ → Option Install → Bool
was_before n None = true
was_before n (Some i) = nat_lt i.at n

-- a timestamp is above all where it is above the newest
pub above_newest : (n : ℕ) (t : List Install) → list_all (λ i. nat_lt i.at n) t ≡ was_before n (newest t)
above_newest n [] = refl
above_newest n (x ∷ t) = by_found (newest t) (above_newest n t)
  where
    by_found : (found : Option Install) → list_all (λ i. nat_lt i.at n) t ≡ was_before n found →
        (nat_lt x.at n && list_all (λ i. nat_lt i.at n) t) ≡ was_before n (newer x found)
    by_found None h = rw h (and_true (nat_lt x.at n))
      where
        and_true : (b : Bool) → (b && true) ≡ b
        and_true true = refl
        and_true false = refl
    by_found (Some y) h = rw h (by_test (nat_lt x.at y.at) refl)
      where
        by_test : (b : Bool) → nat_lt x.at y.at ≡ b → (nat_lt x.at n && nat_lt y.at n) ≡ was_before n (cond {A = Option Install} b (Some y) (Some x))
        by_test true k = grind (arith, nat_tests)
        by_test false k = grind (arith, nat_tests)
