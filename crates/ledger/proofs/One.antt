-- Logs that are alike are turned over into the same records.
use Rattle.std.proofs.Common.{◌≡◌, ◌⊎◌, inl, inr, ℕ, ◌<◌, ◌≤◌, Bool, true, false, cond, nat_lt, nat_le, List, [], ◌∷◌, ◌++◌, map, Option, Some, None}
use Rattle.std.proofs.Common.{max, refl, sym, ap, subst, ◌∙◌, arith}
use Rattle.std.proofs.Common.{filter}
use Rattle.std.specs.List.{AllByRecursion}
use Rattle.std.proofs.lemmas.Bool.Decides.{nat_tests}
use Rattle.units.specs.Lists.{gather}
use Rattle.units.specs.Keys.{Bytes, same_key, key_before}
use Rattle.units.specs.Versions.{newest}
use Rattle.units.specs.declared.writes.Install.{Install}
use Rattle.units.proofs.KeyLaws.{same_key-is, same_key-refl, key_before-trans, key_before-irreflexive}
use Rattle.units.proofs.ListLaws.{all-keep, all_gives}
use Rattle.record.specs.Facts.{Facts}
use Rattle.record.specs.declared.record.Record.TheVariants.{Base, Version}
use Rattle.versions.specs.Ordered.{is_by, is_above, version_before, installed, all_installed, AscendsByVersion, IsInOrder}
use Rattle.versions.specs.Pruned.{at_of, pruned}
use Rattle.versions.proofs.Found.{from_on, newest-wider}
use Rattle.versions.proofs.Kept.{kept-installed}
use Rattle.versions.proofs.Newest.{newer}
use Rattle.protocol.specs.Showable.{rises_by_key}
use Rattle.protocol.proofs.Rising.{rise_parts}
use Rattle.versions.specs.Places.{SameVersions}
use Rattle.ledger.specs.Keeps.{Alike, IsRegular}
use Rattle.ledger.specs.Laws.{AlikeTurned, HeldInOrder}
use Rattle.ledger.specs.Turned.{ended_item, retired_item, standing_item, turned, versions_held}
use Rattle.versions.proofs.Pruned.{ascending-keep, pruned-part, same-pruned}
use Rattle.versions.proofs.SameMore.{above-same, same-one}
use Rattle.ledger.proofs.InOrder.{IsUnder, rising-some, same-in_order, under-last}

clash : ¬ (false ≡ true)
clash e = cc

-- ---- the newest by a narrower test

newer-over : (x : Install) (found : Option Install) → at_of found ≤ x.at → newer x found ≡ Some x
newer-over x None h = refl
newer-over x (Some y) h = by_test (nat_lt x.at y.at) refl
  where
    by_test : (c : Bool) → nat_lt x.at y.at ≡ c → cond {A = Option Install} c (Some y) (Some x) ≡ Some x
    by_test true k = absurd (grind (arith, nat_tests))
    by_test false k = refl

some-not : (x : Install) → ◌≡◌ {A = Option Install} None (Some x) → ⊥
some-not x e = cc

some-is : (x y : Install) → ◌≡◌ {A = Option Install} (Some x) (Some y) → x ≡ y
some-is x y e = cc

newer-some : (x : Install) (found : Option Install) → newer x found ≡ None → ⊥
newer-some x None e = cc
newer-some x (Some y) e = by_test (nat_lt x.at y.at) e
  where
    by_test : (c : Bool) → cond {A = Option Install} c (Some y) (Some x) ≡ None → ⊥
    by_test true e = cc
    by_test false e = cc

none-narrower : (p q : Install → Bool) → ((x : Install) → p x ≡ true → q x ≡ true) → (a : List Install) → newest (filter q a) ≡ None
    → newest (filter p a) ≡ None
none-narrower p q more [] h = refl
none-narrower p q more (x ∷ a) h = by_tests (p x) (q x) refl refl h (none-narrower p q more a)
  where
    by_tests : (c d : Bool) → p x ≡ c → q x ≡ d → newest (cond d (x ∷ filter q a) (filter q a)) ≡ None
        → (newest (filter q a) ≡ None → newest (filter p a) ≡ None)
        → newest (cond c (x ∷ filter p a) (filter p a)) ≡ None
    by_tests c true k l h rest = absurd (newer-some x (newest (filter q a)) h)
    by_tests true false k l h rest = absurd (clash (sym l ∙ more x k))
    by_tests false false k l h rest = rest h

narrower : (p q : Install → Bool) → ((x : Install) → p x ≡ true → q x ≡ true) → (a : List Install) (m : Install) → newest (filter q a) ≡ Some m → p m ≡ true
    → newest (filter p a) ≡ Some m
narrower p q more [] m h is = absurd (some-not m h)
narrower p q more (x ∷ a) m h is = by_tests (p x) (q x) refl refl h (narrower p q more a m)
  where
    by_found : (c : Bool) (found : Option Install) → p x ≡ c → newest (filter q a) ≡ found → newer x found ≡ Some m
        → (newest (filter q a) ≡ Some m → p m ≡ true → newest (filter p a) ≡ Some m)
        → newest (cond c (x ∷ filter p a) (filter p a)) ≡ Some m
    by_found true None k e f rest = ap (newer x) (none-narrower p q more a e) ∙ f
    by_found false None k e f rest = absurd (clash (sym k ∙ (ap p (some-is x m f) ∙ is)))
    by_found c (Some y) k e f rest = by_order c (nat_lt x.at y.at) refl k f
      where
        by_order : (c b : Bool) → nat_lt x.at y.at ≡ b → p x ≡ c → cond {A =
            Option Install} b (Some y) (Some x) ≡ Some m → newest (cond c (x ∷ filter p a) (filter p a)) ≡ Some m
        by_order true true o k f =
            ap (newer x) (rest (e ∙ f) is ∙ sym f) ∙ (ap (λ b. cond {A = Option Install} b (Some y) (Some x)) o ∙ f)
        by_order false true o k f = rest (e ∙ f) is
        by_order true false o k f =
            let wide : at_of (newest (filter p a)) ≤ at_of (newest (filter q a)) = newest-wider p q more a in
            let y-at : at_of (newest (filter q a)) ≡ y.at = ap at_of e in
            let le : y.at ≤ x.at = grind (arith, nat_tests) in
            newer-over x (newest (filter p a)) (omega (arith, wide, y-at, le)) ∙ f
        by_order false false o k f = absurd (clash (sym k ∙ (ap p (some-is x m f) ∙ is)))

    by_tests : (c d : Bool) → p x ≡ c → q x ≡ d → newest (cond d (x ∷ filter q a) (filter q a)) ≡ Some m
        → (newest (filter q a) ≡ Some m → p m ≡ true → newest (filter p a) ≡ Some m)
        → newest (cond c (x ∷ filter p a) (filter p a)) ≡ Some m
    by_tests c true k l h rest = by_found c (newest (filter q a)) k refl h rest
    by_tests true false k l h rest = absurd (clash (sym l ∙ more x k))
    by_tests false false k l h rest = rest h is

-- ---- ascending lists with the same newest versions are one

newest-all : (P : Install → Type 0) (a : List Install) (m : Install) → AllByRecursion P a → newest a ≡ Some m → P m
newest-all P [] m all h = absurd (some-not m h)
newest-all P (x ∷ a) m all h = by_found (newest a) refl h (newest-all P a m all.1)
  where
    by_found : (found : Option Install) → newest a ≡ found → newer x found ≡ Some m → (newest a ≡ Some m → P m) → P m
    by_found None e f rest = subst P (some-is x m f) all.0
    by_found (Some y) e f rest = by_order (nat_lt x.at y.at) f
      where
        by_order : (b : Bool) → cond {A = Option Install} b (Some y) (Some x) ≡ Some m → P m
        by_order true f = rest (e ∙ f)
        by_order false f = subst P (some-is x m f) all.0

found-all : (P : Install → Type 0) (test : Install → Bool) (a : List Install) (m : Install) → AllByRecursion P a → newest (filter test a) ≡ Some m → P m
found-all P test a m all h = newest-all P (filter test a) m (all-keep P test a all) h

abbrev AllBehind : Install → List Install → Type 0
AllBehind x a = AllByRecursion (λ y. version_before x y ≡ true) a

-- of those behind a version, one of its key is above it
higher : (k : Bytes) (t : ℕ) (x y : Install) → is_by k t x ≡ true → is_by k t y ≡ true → version_before x y ≡ true → x.at < y.at
higher k t x y f g before =
    let kx : x.key ≡ k = same_key-is x.key k (grind (arith, nat_tests)) in
    let ky : y.key ≡ k = same_key-is y.key k (grind (arith, nat_tests)) in
    let not : key_before x.key y.key ≡ false = ap (λ z. key_before x.key z) (ky ∙ sym kx) ∙ key_before-irreflexive x.key in
    grind (arith, nat_tests, not)

above-first : (x : Install) (found : Option Install) → ((y : Install) → found ≡ Some y → x.at < y.at) → (other : Option Install)
    → ((y : Install) → other ≡ Some y → x.at < y.at)
    → newer x found ≡ newer x other → found ≡ other
above-first x None f None g e = refl
above-first x None f (Some z) g e = by_test (nat_lt x.at z.at) refl e
  where
    by_test : (b : Bool) → nat_lt x.at z.at ≡ b → Some x ≡ cond {A = Option Install} b (Some z) (Some x) → ◌≡◌ {A = Option Install} None (Some z)
    by_test true k e =
        let lt : x.at < z.at = g z refl in let same : x.at ≡ z.at = ap (λ (i : Install). i.at) (some-is x z e) in absurd (omega (arith, lt, same))
    by_test false k e = let lt : x.at < z.at = g z refl in absurd (grind (arith, nat_tests))
above-first x (Some y) f None g e = by_test (nat_lt x.at y.at) refl e
  where
    by_test : (b : Bool) → nat_lt x.at y.at ≡ b → cond {A = Option Install} b (Some y) (Some x) ≡ Some x → ◌≡◌ {A = Option Install} (Some y) None
    by_test true k e =
        let lt : x.at < y.at = f y refl in let same : y.at ≡ x.at = ap (λ (i : Install). i.at) (some-is y x e) in absurd (omega (arith, lt, same))
    by_test false k e = let lt : x.at < y.at = f y refl in absurd (grind (arith, nat_tests))
above-first x (Some y) f (Some z) g e = by_tests (nat_lt x.at y.at) (nat_lt x.at z.at) refl refl e
  where
    by_tests : (b c : Bool) → nat_lt x.at y.at ≡ b → nat_lt x.at z.at ≡ c → cond {A =
        Option Install} b (Some y) (Some x) ≡ cond {A = Option Install} c (Some z) (Some x) → ◌≡◌ {A = Option Install} (Some y) (Some z)
    by_tests true true k l e = e
    by_tests false c k l e = let lt : x.at < y.at = f y refl in absurd (grind (arith, nat_tests))
    by_tests true false k l e = let lt : x.at < z.at = g z refl in absurd (grind (arith, nat_tests))

abbrev SameNewest : List Install → List Install → Type 0
SameNewest a b = (k : Bytes) (t : ℕ) → newest (filter (is_by k t) a) ≡ newest (filter (is_by k t) b)

by-self : (x : Install) → is_by x.key x.at x ≡ true
by-self x = let same : same_key x.key x.key ≡ true = same_key-refl x.key in grind (arith, nat_tests, same)

-- a version is the newest by its own key and timestamp where the others are behind it
self-newest : (x : Install) (a : List Install) → AllBehind x a → newest (filter (is_by x.key x.at) (x ∷ a)) ≡ Some x
self-newest x a behind = rw (by-self x) (ap (newer x) (none-by a behind))
  where
    none-by : (b : List Install) → AllBehind x b → newest (filter (is_by x.key x.at) b) ≡ None
    none-by [] all = refl
    none-by (y ∷ b) all = by_test (is_by x.key x.at y) refl (none-by b all.1)
      where
        by_test : (c : Bool) → is_by x.key x.at y ≡ c → newest (filter (is_by x.key x.at) b) ≡ None
            → newest (cond c (y ∷ filter (is_by x.key x.at) b) (filter (is_by x.key x.at) b)) ≡ None
        by_test true k rest =
            let lt : x.at < y.at = higher x.key x.at x y (by-self x) k all.0 in
            let le : nat_le y.at x.at ≡ true = grind (arith, nat_tests) in
            absurd (grind (arith, nat_tests))
        by_test false k rest = rest

before-self : (x : Install) → version_before x x ≡ true → ⊥
before-self x h = let not : key_before x.key x.key ≡ false = key_before-irreflexive x.key in absurd (grind (arith, nat_tests, not))

pub comes-trans : (x y z : Install) → version_before x y ≡ true → version_before y z ≡ true → version_before x z ≡ true
comes-trans x y z h k =
    let a : same_key x.key y.key ≡ true → key_before x.key z.key ≡ key_before y.key z.key = λ e. ap (λ l. key_before l z.key) (same_key-is x.key y.key e) in
    let b : same_key y.key z.key ≡ true → key_before x.key y.key ≡ key_before x.key z.key = λ e. ap (key_before x.key) (same_key-is y.key z.key e) in
    let c : same_key x.key y.key ≡ true → same_key x.key z.key ≡ same_key y.key z.key = λ e. ap (λ l. same_key l z.key) (same_key-is x.key y.key e) in
    grind (arith, nat_tests, key_before-trans x.key y.key z.key, a, b, c)

kept-pass : (test : Install → Bool) (a : List Install) → AllByRecursion (λ z. test z ≡ true) (filter test a)
kept-pass test [] = tt
kept-pass test (x ∷ a) = by_test (test x) refl (kept-pass test a)
  where
    by_test : (c : Bool) → test x ≡ c → AllByRecursion (λ z. test z ≡ true) (filter test a)
        → AllByRecursion (λ z. test z ≡ true) (cond c (x ∷ filter test a) (filter test a))
    by_test true k rest = (k, rest)
    by_test false k rest = rest

found-passes : (test : Install → Bool) (a : List Install) (m : Install) → newest (filter test a) ≡ Some m → test m ≡ true
found-passes test a m h = newest-all (λ z. test z ≡ true) (filter test a) m (kept-pass test a) h

same-tails : (x : Install) (xs ys : List Install) → AllBehind x xs → AllBehind x ys → SameNewest (x ∷ xs) (x ∷ ys) → SameNewest xs ys
same-tails x xs ys up vp same k t = by_test (is_by k t x) refl (same k t)
  where
    above : (zs : List Install) → AllBehind x zs → is_by k t x ≡ true → (y : Install) → newest (filter (is_by k t) zs) ≡ Some y → x.at < y.at
    above zs behind is y e = higher k t x y is (found-passes (is_by k t) zs y e) (found-all (λ z. version_before x z ≡ true) (is_by k t) zs y behind e)

    by_test : (c : Bool) → is_by k t x ≡ c
        → newest (cond c (x ∷ filter (is_by k t) xs) (filter (is_by k t) xs)) ≡ newest (cond c (x ∷ filter (is_by k t) ys) (filter (is_by k t) ys))
        → newest (filter (is_by k t) xs) ≡ newest (filter (is_by k t) ys)
    by_test true is e = above-first x _ (above xs up is) _ (above ys vp is) e
    by_test false is e = e

determined : (xs ys : List Install) → AscendsByVersion xs → AscendsByVersion ys → SameNewest xs ys → xs ≡ ys
determined [] [] up vp same = refl
determined [] (y ∷ ys) up vp same = absurd (some-not y (same y.key y.at ∙ self-newest y ys vp.0))
determined (x ∷ xs) [] up vp same = absurd (some-not x (sym (same x.key x.at) ∙ self-newest x xs up.0))
determined (x ∷ xs) (y ∷ ys) up vp same =
    one-head (λ zs up zp e. determined xs zs up zp e)
    (found-all (λ z. (z ≡ y) ⊎ (version_before y z ≡ true)) (is_by x.key x.at) (y ∷ ys) x (inl refl, all_gives _ _ (λ z h. inr h) ys vp.0) (sym
    (same x.key x.at) ∙ self-newest x xs up.0))
    (found-all (λ z. (z ≡ x) ⊎ (version_before x z ≡ true)) (is_by y.key y.at) (x ∷ xs) y (inl refl, all_gives _ _ (λ z h. inr h) xs up.0)
    (same y.key y.at ∙ self-newest y ys vp.0))
  where
    from-same : ((zs : List Install) → AscendsByVersion xs → AscendsByVersion zs → SameNewest xs zs → xs ≡ zs) → x ≡ y → x ∷ xs ≡ y ∷ ys
    from-same go e =
        let behind : AllBehind x ys = subst (λ z. AllBehind z ys) (sym e) vp.0 in
        let tails : SameNewest xs ys = same-tails x xs ys up.0 behind (subst (λ z. SameNewest (x ∷ xs) (z ∷ ys)) (sym e) same) in
        (λ i. e i ∷ go ys up.1 vp.1 tails i)

    one-head : ((zs : List Install) → AscendsByVersion xs → AscendsByVersion zs → SameNewest xs zs → xs ≡ zs) → (x ≡ y) ⊎ (version_before y x ≡ true)
        → (y ≡ x) ⊎ (version_before x y ≡ true) → x ∷ xs ≡ y ∷ ys
    one-head go (inl e) q = from-same go e
    one-head go (inr h) (inl e) = from-same go (sym e)
    one-head go (inr h) (inr k) = absurd (before-self x (comes-trans x y x k h))

-- ---- below the horizon

-- what was found, where it is not after a timestamp
abbrev until : ℕ → Option Install → Option Install
until t None = None
until t (Some m) = cond (nat_le m.at t) (Some m) None

too-low : (n t : ℕ) (found : Option Install) → t < n → ((y : Install) → found ≡ Some y → y.at ≤ t) → from_on n found ≡ None
too-low n t None lt h = refl
too-low n t (Some y) lt h = by_test (nat_le n y.at) refl
  where
    by_test : (c : Bool) → nat_le n y.at ≡ c → cond {A = Option Install} c (Some y) None ≡ None
    by_test true k = let le : y.at ≤ t = h y refl in absurd (grind (arith, nat_tests))
    by_test false k = refl

same-key : (k : Bytes) (t : ℕ) (x : Install) → is_by k t x ≡ true → same_key x.key k ≡ true
same-key k t x h = grind (arith, nat_tests)

low : (h : ℕ) (a : List Install) (k : Bytes) (t : ℕ) → t ≤ h → newest (filter (is_by k t) (pruned h a)) ≡ until t (newest (filter (is_by k h) a))
low h a k t le = pruned-part h a k (is_by k t) (same-key k t) ∙ by_found (newest (filter (is_by k h) a)) refl
  where
    more : (x : Install) → is_by k t x ≡ true → is_by k h x ≡ true
    more x e = grind (arith, nat_tests)

    by_found : (found : Option Install) → newest (filter (is_by k h) a) ≡ found → from_on (at_of found) (newest (filter (is_by k t) a)) ≡ until t found
    by_found None e = ap (from_on 0) (none-narrower (is_by k t) (is_by k h) more a e)
    by_found (Some m) e = by_test (nat_le m.at t) refl
      where
        by_test : (c : Bool) → nat_le m.at t ≡ c → from_on m.at (newest (filter (is_by k t) a)) ≡ cond {A = Option Install} c (Some m) None
        by_test true f =
            let key : same_key m.key k ≡ true = same-key k h m (found-passes (is_by k h) a m e) in
            let self : nat_le m.at m.at ≡ true = grind (arith, nat_tests) in
            ap (from_on m.at) (narrower (is_by k t) (is_by k h) more a m e (grind (arith, nat_tests)))
            ∙ ap (λ c. cond {A = Option Install} c (Some m) None) self
        by_test false f =
            too-low m.at t (newest (filter (is_by k t) a)) (grind (arith, nat_tests))
            (λ y g. let is : is_by k t y ≡ true = found-passes (is_by k t) a y g in grind (arith, nat_tests))

same-pruned-all : (h : ℕ) (a b : List Install) → SameVersions h a b → SameNewest (pruned h a) (pruned h b)
same-pruned-all h a b same k t = by_test (nat_le h t) refl
  where
    by_test : (c : Bool) → nat_le h t ≡ c → newest (filter (is_by k t) (pruned h a)) ≡ newest (filter (is_by k t) (pruned h b))
    by_test true e =
        let le : h ≤ t = grind (arith, nat_tests) in
        (same-pruned h a).at k t le ∙ same.at k t le ∙ sym ((same-pruned h b).at k t le)
    by_test false e =
        let le : t ≤ h = grind (arith, nat_tests) in
        low h a k t le ∙ ap (until t) (same.at k h (omega arith)) ∙ sym (low h b k t le)

-- ---- in order

kept-all : (n : ℕ) (a b acc xs : List Install) → SameVersions 0 a b → IsUnder b acc → rises_by_key acc xs ≡ true → AllByRecursion (λ i. i.at ≤ n) xs
    → IsInOrder n a → IsInOrder n (all_installed a xs)
kept-all n a b acc [] same under up all kept = kept
kept-all n a b acc (x ∷ xs) same under up all kept =
    let parts = rise_parts acc x xs up in
    let over : is_above b x.key x.at ≡ true = under x.key x.at parts.0 in
    kept-all n (installed a x) (b ++ x ∷ []) (x ∷ acc) xs (same-one 0 x a b over same) (under-last x b acc under) parts.1 all.1
    (kept-installed n x a (above-same 0 x a b over same) all.0 kept)

-- some timestamp covers them all
some-bound : (xs : List Install) → (n : ℕ) × AllByRecursion (λ i. i.at ≤ n) xs
some-bound [] = (0, tt)
some-bound (x ∷ xs) =
    let rest = some-bound xs in
    (max x.at rest.0, (omega arith, all_gives (λ (i : Install). i.at ≤ rest.0) (λ (i : Install). i.at ≤ max x.at rest.0) (λ i le. omega (arith, le)) xs rest.1))

in-order : (xs : List Install) → rises_by_key [] xs ≡ true → AscendsByVersion (all_installed [] xs)
in-order xs up =
    let bound = some-bound xs in
    (kept-all bound.0 [] [] [] xs (record { now = λ k. refl; at = λ k t le. refl }) (λ key at h. h) up bound.1 (record { order = tt; in_time = tt })).order

-- what is held of versions that rise
pruned-rises : (h : ℕ) (xs : List Install) → rises_by_key [] xs ≡ true → rises_by_key [] (pruned h xs) ≡ true
unfolding pruned
pruned-rises h xs up = rising-some _ xs up

pub held-rises : (facts : Facts) → IsRegular facts → rises_by_key [] (pruned facts.horizon facts.installs) ≡ true
held-rises facts r = pruned-rises facts.horizon facts.installs r.rising

pub held-covered : (facts : Facts) → IsRegular facts → AllByRecursion (λ i. i.at ≤ facts.floor) (pruned facts.horizon facts.installs)
unfolding pruned
held-covered facts r = all-keep _ _ facts.installs r.covered

pub ordered : (facts : Facts) → IsRegular facts → AscendsByVersion (versions_held facts)
ordered facts r = in-order (pruned facts.horizon facts.installs) (held-rises facts r)

-- the versions that are held are the same
one-versions : (a b : Facts) → Alike a b → IsRegular a → IsRegular b → versions_held a ≡ versions_held b
one-versions a b h r s =
    determined (versions_held a) (versions_held b) (ordered a r) (ordered b s)
    (λ k t. (same-in_order (pruned a.horizon a.installs) (held-rises a r)).at k t (omega arith)
    ∙ same-pruned-all a.horizon a.installs b.installs h.versions k t
    ∙ ap (λ n. newest (filter (is_by k t) (pruned n b.installs))) h.horizon
    ∙ sym ((same-in_order (pruned b.horizon b.installs) (held-rises b s)).at k t (omega arith)))

-- they are those of any list in order that has the same newest versions, without what the horizon lets go
pub pruned-ascends : (h : ℕ) (t : List Install) → AscendsByVersion t → AscendsByVersion (pruned h t)
unfolding pruned
pruned-ascends h t up = ascending-keep _ t up

pub held-in_order : HeldInOrder
held-in_order facts t rising up same =
    let held = pruned-rises facts.horizon facts.installs rising in
    determined (pruned facts.horizon t) (versions_held facts) (pruned-ascends facts.horizon t up) (in-order (pruned facts.horizon facts.installs) held)
    (λ k at. same-pruned-all facts.horizon t facts.installs same k at
    ∙ sym ((same-in_order (pruned facts.horizon facts.installs) held).at k at (omega arith)))

pub one-turnover : AlikeTurned
unfolding turned
one-turnover a b h r s =
    λ i. Base (h.epoch i) (h.floor i) (h.horizon i)
    ∷ (map Version (one-versions a b h r s i)
    ++ (retired_item (h.retired i) ++ (gather ended_item (h.entries i) ++ gather standing_item (h.entries i))))
