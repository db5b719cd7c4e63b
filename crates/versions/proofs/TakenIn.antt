-- One more version, in the place of one that the horizon passed.
use Rattle.std.specs.List.{AllByRecursion, insert}
use Rattle.std.proofs.Common.{◌≡◌, ◌≢◌, inl, inr, ℕ, zero, suc, ◌+◌, ◌-◌, ◌<◌, ◌≤◌, Bool, true, false, cond, nat_lt, List, [], ◌∷◌, ◌++◌}
use Rattle.std.proofs.Common.{Option, Some, None, map, length, length-append, length-take, length-drop, get_or, set, take, drop, filter}
use Rattle.std.proofs.Common.{refl, sym, ap, subst, ◌∙◌, arith}
use Rattle.std.proofs.lemmas.Bool.{and_parts, false≢true}
use Rattle.std.proofs.lemmas.Bool.Decides.{nat_tests}
use Rattle.std.proofs.lemmas.Grind.{get_or-set_at}
use Rattle.std.proofs.lemmas.List.{get_or-set_other}
use Rattle.units.specs.Keys.{same_key}
use Rattle.units.specs.Versions.{newest}
use Rattle.units.specs.declared.writes.Install.{Install}
use Rattle.units.proofs.KeyLaws.{same_key-is, same_key_comm}
use Rattle.versions.specs.Arranged.{arranged, no_install, AreWithin}
use Rattle.versions.specs.Halves.{AllUpTo, AllAfter}
use Rattle.versions.specs.Ordered.{is_by, installed, is_above, version_before, AscendsByVersion, IsInOrder}
use Rattle.versions.specs.Places.{SameFrom, SameVersions}
use Rattle.versions.specs.Pruned.{is_passed}
use Rattle.versions.specs.TakenIn.{without, IsPassedAt, TakesIn}
use Rattle.versions.specs.Heads.{AreBytes, AreHeads, head}
use Rattle.versions.proofs.Arranged.{insert_is_arranged, length_arranged, place_within}
use Rattle.versions.proofs.Heads.{heads_insert}
use Rattle.versions.proofs.Gathered.{one_place}
use Rattle.versions.proofs.Halves.{insert_is_installed}
use Rattle.versions.proofs.Kept.{kept-installed}
use Rattle.versions.proofs.Newest.{newer}
use Rattle.versions.proofs.OneMore.{place_does_not_matter_from}
use Rattle.versions.proofs.Passed.{earlier}
use Rattle.versions.proofs.Pruned.{same_trans}
use Rattle.versions.proofs.Same.{same-from, same-then}
use Rattle.versions.proofs.SameMore.{above-same, same-one}

-- ---- without one of them

module _ {X : Type 0} where
  abbrev pub gap : ℕ → List X → List X
  gap zero [] = []
  gap zero (x ∷ t) = t
  gap (suc k) [] = []
  gap (suc k) (x ∷ t) = x ∷ gap k t

  pub gap-is : (k : ℕ) (t : List X) → take k t ++ drop (k + 1) t ≡ gap k t
  gap-is k t = let next : k + 1 ≡ suc k = omega arith in ap (λ (n : ℕ). take k t ++ drop n t) next ∙ go k t
    where
      go : (k : ℕ) (t : List X) → take k t ++ drop (suc k) t ≡ gap k t
      go zero [] = refl
      go zero (x ∷ t) = refl
      go (suc k) [] = refl
      go (suc k) (x ∷ t) = ap (λ (r : List X). x ∷ r) (go k t)

  pub long-gap : (k : ℕ) (t : List X) → k < length t → length (gap k t) + 1 ≡ length t
  long-gap k [] lt = absurd (omega (arith, lt))
  long-gap zero (x ∷ t) lt = omega arith
  long-gap (suc k) (x ∷ t) lt = let rest = long-gap k t (omega (arith, lt)) in omega (arith, rest)

  pub all-gap : (P : X → Type 0) (k : ℕ) (t : List X) → AllByRecursion P t → AllByRecursion P (gap k t)
  all-gap P zero [] all = tt
  all-gap P zero (x ∷ t) all = all.1
  all-gap P (suc k) [] all = tt
  all-gap P (suc k) (x ∷ t) all = (all.0, all-gap P k t all.1)

  pub all-insert : (P : X → Type 0) (k : ℕ) (t : List X) (x : X) → P x → AllByRecursion P t → AllByRecursion P (insert t k x)
  all-insert P zero t x here all = (here, all)
  all-insert P (suc k) [] x here all = (here, tt)
  all-insert P (suc k) (y ∷ t) x here all = (all.0, all-insert P k t x here all.1)

  -- those behind one move forward by one, one after another
  pub none_moved : (from : ℕ) (t : List X) → take from (gap from t) ++ drop from t ≡ t
  none_moved zero t = refl
  none_moved (suc from) [] = refl
  none_moved (suc from) (x ∷ t) = ap (λ (r : List X). x ∷ r) (none_moved from t)

  pub long_moved : (from at : ℕ) (t : List X) → from ≤ at → at < length t → length (take at (gap from t) ++ drop at t) ≡ length t
  long_moved from at t le lt =
      omega (arith, length-append (take at (gap from t)) (drop at t), length-take at (gap from t), length-drop at t, long-gap from t (omega (arith, le, lt)))

  pub one_moved : (from at : ℕ) (t : List X) (d : X) → from ≤ at → suc at < length t
      → set (take at (gap from t) ++ drop at t) at (get_or (take at (gap from t) ++ drop at t) (suc at) d) ≡ take (suc at) (gap from t) ++ drop (suc at) t
  one_moved from at [] d le lt = absurd (omega (arith, lt))
  one_moved zero zero (x ∷ []) d le lt = absurd (omega (arith, lt))
  one_moved zero zero (x ∷ y ∷ t) d le lt = refl
  one_moved zero (suc at) (x ∷ []) d le lt = absurd (omega (arith, lt))
  one_moved zero (suc at) (x ∷ y ∷ t) d le lt = ap (λ (r : List X). y ∷ r) (one_moved zero at (y ∷ t) d (omega arith) (omega (arith, lt)))
  one_moved (suc from) zero (x ∷ t) d le lt = absurd (omega (arith, le))
  one_moved (suc from) (suc at) (x ∷ t) d le lt = ap (λ (r : List X). x ∷ r) (one_moved from at t d (omega (arith, le)) (omega (arith, lt)))

  -- and another is written behind them
  pub all_moved : (from to : ℕ) (t : List X) (x : X) → from ≤ to → to < length t
      → set (take to (gap from t) ++ drop to t) to x ≡ insert (gap from t) to x
  all_moved from to [] x le lt = absurd (omega (arith, lt))
  all_moved zero zero (y ∷ t) x le lt = refl
  all_moved zero (suc to) (y ∷ []) x le lt = absurd (omega (arith, lt))
  all_moved zero (suc to) (y ∷ z ∷ t) x le lt = ap (λ (r : List X). z ∷ r) (all_moved zero to (z ∷ t) x (omega arith) (omega (arith, lt)))
  all_moved (suc from) zero (y ∷ t) x le lt = absurd (omega (arith, le))
  all_moved (suc from) (suc to) (y ∷ t) x le lt = ap (λ (r : List X). y ∷ r) (all_moved from to t x (omega (arith, le)) (omega (arith, lt)))

pub map-gap : {X Y : Type 0} (f : X → Y) (k : ℕ) (t : List X) → map f (gap k t) ≡ gap k (map f t)
map-gap f zero [] = refl
map-gap f zero (x ∷ t) = refl
map-gap f (suc k) [] = refl
map-gap {X} {Y} f (suc k) (x ∷ t) = ap (λ (r : List Y). f x ∷ r) (map-gap f k t)

ascends-gap : (k : ℕ) (t : List Install) → AscendsByVersion t → AscendsByVersion (gap k t)
ascends-gap zero [] up = tt
ascends-gap zero (x ∷ t) up = up.1
ascends-gap (suc k) [] up = tt
ascends-gap (suc k) (x ∷ t) up = (all-gap (λ next. version_before x next ≡ true) k t up.0, ascends-gap k t up.1)

kept-without : (n : ℕ) (t : List Install) (k : ℕ) → IsInOrder n t → IsInOrder n (without k t)
kept-without n t k kept = subst (IsInOrder n) (sym (gap-is k t)) (record {
  order = ascends-gap k t kept.order;
  in_time = all-gap _ k t kept.in_time;
})

-- what is found behind a version of its key that is above it is found with it
module _ (test : Install → Bool) (x y : Install) (s : List Install) (lt : x.at < y.at) (also : test x ≡ true → test y ≡ true) where
  above-found : (found : Option Install) → newer x (newer y found) ≡ newer y found
  above-found None = by_test (nat_lt x.at y.at) refl
    where
      by_test : (b : Bool) → nat_lt x.at y.at ≡ b → cond {A = Option Install} b (Some y) (Some x) ≡ Some y
      by_test true k = refl
      by_test false k = absurd (grind (arith, nat_tests))
  above-found (Some z) = by_test (nat_lt y.at z.at) refl
    where
      higher : (w : Install) → x.at < w.at → newer x (Some w) ≡ Some w
      higher w less = by (nat_lt x.at w.at) refl
        where
          by : (b : Bool) → nat_lt x.at w.at ≡ b → cond {A = Option Install} b (Some w) (Some x) ≡ Some w
          by true k = refl
          by false k = absurd (grind (arith, nat_tests))

      by_test : (b : Bool) → nat_lt y.at z.at ≡ b
          → newer x (cond {A = Option Install} b (Some z) (Some y)) ≡ cond {A = Option Install} b (Some z) (Some y)
      by_test true k = higher z (grind (arith, nat_tests))
      by_test false k = higher y lt

  newest-behind : newest (filter test (y ∷ s)) ≡ newest (filter test (x ∷ y ∷ s))
  newest-behind = by_tests (test x) (test y) refl refl
    where
      by_tests : (a b : Bool) → test x ≡ a → test y ≡ b
          → newest (cond b (y ∷ filter test s) (filter test s))
          ≡ newest (cond a (x ∷ cond b (y ∷ filter test s) (filter test s)) (cond b (y ∷ filter test s) (filter test s)))
      by_tests false b k m = refl
      by_tests true true k m = sym (above-found (newest (filter test s)))
      by_tests true false k m = absurd (false≢true (sym m ∙ also k))

-- by a test that the next one passes too
newest-gap : (h : ℕ) (test : Install → Bool) → ((x y : Install) → is_by x.key h y ≡ true → test x ≡ true → test y ≡ true)
    → (k : ℕ) (t : List Install) → AscendsByVersion t → suc k < length t → is_passed h (get_or t k no_install) (drop (suc k) t) ≡ true
    → newest (filter test (gap k t)) ≡ newest (filter test t)
newest-gap h test also k [] up lt passed = absurd (omega (arith, lt))
newest-gap h test also zero (x ∷ []) up lt passed = absurd (omega (arith, lt))
newest-gap h test also zero (x ∷ y ∷ s) up lt passed =
    newest-behind test x y s (earlier x y up.0.0 (same_key_comm x.key y.key ∙ (and_parts _ _ passed).0)) (also x y passed)
newest-gap h test also (suc k) (x ∷ t) up lt passed =
    by_test (test x) (newest-gap h test also k t up.1 (omega (arith, lt)) passed)
  where
    by_test : (b : Bool) → newest (filter test (gap k t)) ≡ newest (filter test t)
        → newest (cond b (x ∷ filter test (gap k t)) (filter test (gap k t))) ≡ newest (cond b (x ∷ filter test t) (filter test t))
    by_test true rest = ap (newer x) rest
    by_test false rest = rest

pub same-without : (h : ℕ) (t : List Install) (k : ℕ) → AscendsByVersion t → IsPassedAt h t k → SameVersions h (without k t) t
same-without h t k up is = subst (λ (r : List Install). SameVersions h r t) (sym (gap-is k t)) (record {
  now = λ key. newest-gap h (λ i. same_key i.key key) (λ x y by here. along x y by key here) k t up lt passed;
  at = λ key n le. newest-gap h (is_by key n) (λ x y by here. both x y key n le by here) k t up lt passed;
})
  where
    next : k + 1 ≡ suc k
    next = omega arith

    lt : suc k < length t
    lt = omega (arith, is.0)

    passed : is_passed h (get_or t k no_install) (drop (suc k) t) ≡ true
    passed = subst (λ (n : ℕ). is_passed h (get_or t k no_install) (drop n t) ≡ true) next is.1

    along : (x y : Install) → is_by x.key h y ≡ true → (key : List ℕ) → same_key x.key key ≡ true → same_key y.key key ≡ true
    along x y by key here = ap (λ z. same_key z key) (same_key-is y.key x.key (and_parts _ _ by).0) ∙ here

    both : (x y : Install) (key : List ℕ) (n : ℕ) → h ≤ n → is_by x.key h y ≡ true → is_by key n x ≡ true → is_by key n y ≡ true
    both x y key n le by here =
        let one : same_key y.key key ≡ true = along x y by key (and_parts _ _ here).0 in
        grind (arith, nat_tests)

-- ---- in its place

up-gap : (key : List ℕ) (at k c : ℕ) (t : List Install) → k ≤ c → c < length t → AllUpTo key at t (suc c) → AllUpTo key at (gap k t) c
up-gap key at k c [] le lt before = absurd (omega (arith, lt))
up-gap key at zero c (x ∷ t) le lt before = λ i d less. before (suc i) d (omega (arith, less))
up-gap key at (suc k) zero (x ∷ t) le lt before = absurd (omega (arith, le))
up-gap key at (suc k) (suc c) (x ∷ t) le lt before =
    each (up-gap key at k c t (omega (arith, le)) (omega (arith, lt)) (λ i d less. before (suc i) d (omega (arith, less))))
  where
    each : AllUpTo key at (gap k t) c → AllUpTo key at (x ∷ gap k t) (suc c)
    each rest zero d less = before zero d (omega arith)
    each rest (suc i) d less = rest i d (omega (arith, less))

after-gap : (key : List ℕ) (at k c : ℕ) (t : List Install) → k ≤ c → c < length t → AllAfter key at t (suc c) → AllAfter key at (gap k t) c
after-gap key at k c [] le lt after = absurd (omega (arith, lt))
after-gap key at zero c (x ∷ t) le lt after = λ i d more less. after (suc i) d (omega (arith, more)) (omega (arith, less))
after-gap key at (suc k) zero (x ∷ t) le lt after = absurd (omega (arith, le))
after-gap key at (suc k) (suc c) (x ∷ t) le lt after =
    each (after-gap key at k c t (omega (arith, le)) (omega (arith, lt)) (λ i d more less. after (suc i) d (omega (arith, more)) (omega (arith, less))))
  where
    each : AllAfter key at (gap k t) c → AllAfter key at (x ∷ gap k t) (suc c)
    each rest zero d more less = absurd (omega (arith, more))
    each rest (suc i) d more less = rest i d (omega (arith, more)) (omega (arith, less))

-- a version that comes in behind so many, of which one went
gap_is_installed : (t : List Install) (k count : ℕ) (y : Install) → k + 1 < count → count ≤ length t → AllUpTo y.key y.at t count
    → AllAfter y.key y.at t count → insert (gap k t) (count - 1) y ≡ installed (without k t) y
gap_is_installed t k count y lt le before after =
    let is : count ≡ suc (count - 1) = omega (arith, lt) in
    insert_is_installed y (gap k t) (count - 1) (omega (arith, lt, le, long-gap k t (omega (arith, lt, le))))
    (up-gap y.key y.at k (count - 1) t (omega (arith, lt)) (omega (arith, lt, le)) (subst (AllUpTo y.key y.at t) is before))
    (after-gap y.key y.at k (count - 1) t (omega (arith, lt)) (omega (arith, lt, le)) (subst (AllAfter y.key y.at t) is after))
    ∙ ap (λ (r : List Install). installed r y) (sym (gap-is k t))

arranged-gap : (installs : List Install) (places : List ℕ) (k : ℕ) → arranged installs (gap k places) ≡ gap k (arranged installs places)
arranged-gap installs places k = map-gap (λ p. get_or installs p no_install) k places

-- so the places say, once those behind one moved forward, and the new one stands behind them
pub one_shifted : (installs : List Install) (places : List ℕ) (k to at : ℕ)
    → arranged installs (insert (take k places ++ drop (k + 1) places) to at) ≡ insert (gap k (arranged installs places)) to (get_or installs at no_install)
one_shifted installs places k to at =
    ap (λ (p : List ℕ). arranged installs (insert p to at)) (gap-is k places)
    ∙ insert_is_arranged installs (gap k places) to at
    ∙ ap (λ (r : List Install). insert r to (get_or installs at no_install)) (arranged-gap installs places k)

pub shifted_is_installed : (installs : List Install) (places : List ℕ) (k count at : ℕ) → k + 1 < count → count ≤ length places
    → AllUpTo (get_or installs at no_install).key (get_or installs at no_install).at (arranged installs places) count
    → AllAfter (get_or installs at no_install).key (get_or installs at no_install).at (arranged installs places) count
    → arranged installs (insert (take k places ++ drop (k + 1) places) (count - 1) at)
    ≡ installed (without k (arranged installs places)) (get_or installs at no_install)
shifted_is_installed installs places k count at lt le before after =
    one_shifted installs places k (count - 1) at
    ∙ gap_is_installed (arranged installs places) k count (get_or installs at no_install) lt (omega (arith, le, length_arranged installs places)) before after

-- ---- the heads, and that a version stands at each place

pub shifted_heads : (prefix : List ℕ) (t : List Install) (heads : List ℕ) (k to : ℕ) (y : Install) → AreBytes y.key → AreHeads prefix t heads
    → AreHeads prefix (insert (gap k t) to y) (insert (take k heads ++ drop (k + 1) heads) to (head prefix y.key))
shifted_heads prefix t heads k to y bytes are =
    subst (λ (h : List ℕ). AreHeads prefix (insert (gap k t) to y) (insert h to (head prefix y.key))) (sym (gap-is k heads))
    (heads_insert prefix (gap k t) (gap k heads) to y bytes (record {
      bytes = all-gap (λ i. AreBytes i.key) k t are.bytes;
      each = ap (gap k) are.each ∙ sym (map-gap (λ i. head prefix i.key) k t);
    }))

pub shifted_within : (places : List ℕ) (len k to p : ℕ) → p < len → AreWithin places len
    → AreWithin (insert (take k places ++ drop (k + 1) places) to p) len
shifted_within places len k to p lt within =
    subst (λ (q : List ℕ). AreWithin (insert q to p) len) (sym (gap-is k places))
    (all-insert (λ q. q < len) to (gap k places) p lt (all-gap (λ q. q < len) k places within))

-- ---- a list of versions in which the new one stands where the other stood

-- a place that none of these is
elsewhere : (items : List Install) (q : List ℕ) (freed : ℕ) (y : Install) → ((i : ℕ) → i < length q → get_or q i 0 ≢ freed)
    → arranged (set items freed y) q ≡ arranged items q
elsewhere items [] freed y other = refl
elsewhere items (p ∷ q) freed y other =
    ap (λ (x : Install). x ∷ arranged (set items freed y) q) (get_or-set_other items freed p y no_install (other 0 (omega arith)))
    ∙ ap (λ (r : List Install). get_or items p no_install ∷ r) (elsewhere items q freed y (λ i lt. other (suc i) (omega (arith, lt))))

-- each of those that are left stood at another place of the list
stood : (k i : ℕ) (q : List ℕ) → i < length (gap k q) → (j : ℕ) × (j ≢ k) × (j < length q) × (get_or (gap k q) i 0 ≡ get_or q j 0)
stood zero i [] lt = absurd (omega (arith, lt))
stood (suc k) i [] lt = absurd (omega (arith, lt))
stood zero i (p ∷ q) lt = (suc i, λ (same : suc i ≡ zero). absurd (omega (arith, same)), omega (arith, lt), refl)
stood (suc k) zero (p ∷ q) lt = (zero, λ (same : zero ≡ suc k). absurd (omega (arith, same)), omega arith, refl)
stood (suc k) (suc i) (p ∷ q) lt =
    let rest = stood k i q (omega (arith, lt)) in
    (suc rest.0, λ (same : suc rest.0 ≡ suc k). rest.1 (omega (arith, same)), omega (arith, rest.2), rest.3)

-- a version stands at one place, so none that is left stands where the one stood that went
pub replaced : (items : List Install) (places : List ℕ) (k to freed : ℕ) (y : Install) → AscendsByVersion (arranged items places)
    → AreWithin places (length items) → k < length places → freed ≡ get_or places k 0
    → arranged (set items freed y) (insert (take k places ++ drop (k + 1) places) to freed) ≡ insert (gap k (arranged items places)) to y
replaced items places k to freed y up within lt is =
    ap (λ (p : List ℕ). arranged (set items freed y) (insert p to freed)) (gap-is k places)
    ∙ insert_is_arranged (set items freed y) (gap k places) to freed
    ∙ ap (λ (r : List Install). insert r to (get_or (set items freed y) freed no_install))
    (elsewhere items (gap k places) freed y none ∙ arranged-gap items places k)
    ∙ ap (insert (gap k (arranged items places)) to) (get_or-set_at items freed freed y no_install refl there)
  where
    there : freed < length items
    there = omega (arith, is, place_within places (length items) k 0 within lt)

    none : (i : ℕ) → i < length (gap k places) → get_or (gap k places) i 0 ≢ freed
    none i less =
        let at = stood k i places less in
        λ (same : get_or (gap k places) i 0 ≡ freed). at.1 (one_place items places up at.0 k at.2 lt (sym at.3 ∙ same ∙ is))

pub replaced_is_installed : (items : List Install) (places : List ℕ) (k count freed : ℕ) (y : Install) → AscendsByVersion (arranged items places)
    → AreWithin places (length items) → k + 1 < count → count ≤ length places → freed ≡ get_or places k 0
    → AllUpTo y.key y.at (arranged items places) count → AllAfter y.key y.at (arranged items places) count
    → arranged (set items freed y) (insert (take k places ++ drop (k + 1) places) (count - 1) freed) ≡ installed (without k (arranged items places)) y
replaced_is_installed items places k count freed y up within lt le is before after =
    replaced items places k (count - 1) freed y up within (omega (arith, lt, le)) is
    ∙ gap_is_installed (arranged items places) k count y lt (omega (arith, le, length_arranged items places)) before after

-- ---- what is taken in

pub kept-taken : (n h : ℕ) (old : List Install) (i : Install) (new : List Install) → TakesIn h old i new → is_above old i.key i.at ≡ true → i.at ≤ n
    → IsInOrder n old → IsInOrder n new
kept-taken n h old i new (inl is) above le kept = subst (IsInOrder n) (sym is) (kept-installed n i old above le kept)
kept-taken n h old i new (inr gone) above le kept =
    subst (IsInOrder n) (sym gone.2) (kept-installed n i (without gone.0 old)
    (above-same h i (without gone.0 old) old above (same-without h old gone.0 kept.order gone.1)) le (kept-without n old gone.0 kept))

pub same-taken : (h : ℕ) (old : List Install) (i : Install) (new : List Install) → TakesIn h old i new → AscendsByVersion old
    → is_above old i.key i.at ≡ true → (log : List Install) → SameFrom h old log → SameFrom h new (log ++ i ∷ [])
same-taken h old i new (inl is) up above log same =
    subst (λ (t : List Install). SameFrom h t (log ++ i ∷ [])) (sym is)
    (place_does_not_matter_from h i old log (sym (same.above i.key i.at) ∙ above) same)
same-taken h old i new (inr gone) up above log same =
    subst (λ (t : List Install). SameFrom h t (log ++ i ∷ [])) (sym gone.2)
    (place_does_not_matter_from h i (without gone.0 old) log (sym (same.above i.key i.at) ∙ above)
    (same_trans h (without gone.0 old) old log (same-from h (without gone.0 old) old (same-without h old gone.0 up gone.1)) same))

pub newest-taken : (h : ℕ) (old : List Install) (i : Install) (new log : List Install) → TakesIn h old i new → AscendsByVersion old
    → is_above log i.key i.at ≡ true → SameVersions h old log → SameVersions h new (log ++ i ∷ [])
newest-taken h old i new log (inl is) up above same =
    subst (λ (t : List Install). SameVersions h t (log ++ i ∷ [])) (sym is) (same-one h i old log above same)
newest-taken h old i new log (inr gone) up above same =
    subst (λ (t : List Install). SameVersions h t (log ++ i ∷ [])) (sym gone.2)
    (same-one h i (without gone.0 old) log above (same-then h (without gone.0 old) old log (same-without h old gone.0 up gone.1) same))
