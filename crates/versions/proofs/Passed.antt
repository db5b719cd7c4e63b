-- Among versions in order those that a horizon lets go are those whose next one is of the same key and not above it.
use Rattle.std.specs.List.{list_all, AllByRecursion}
use Rattle.std.proofs.Common.{◌≡◌, ℕ, zero, ◌+◌, ◌<◌, ◌≤◌, Bool, true, false, not, ◌&&◌, ◌||◌, cond, nat_lt, nat_le, List, [], ◌∷◌, ◌++◌, Option, Some}
use Rattle.std.proofs.Common.{None, length, get_or, set, take, drop, filter, refl, sym, ap, ◌∙◌, arith}
use Rattle.std.proofs.lemmas.Bool.Decides.{nat_tests}
use Rattle.std.proofs.lemmas.List.{append_assoc, drop_more, drop_all, take_more_set, drop-set-lt}
use Rattle.units.specs.Keys.{same_key, key_before}
use Rattle.units.specs.Versions.{newest}
use Rattle.units.specs.declared.writes.Install.{Install}
use Rattle.units.proofs.KeyLaws.{same_key-is, same_key_comm, key_before-irreflexive}
use Rattle.units.proofs.ListLaws.{all_gives, keep-alike}
use Rattle.versions.specs.Arranged.{no_install}
use Rattle.versions.specs.Ordered.{is_by, is_not_after, version_before, AscendsByVersion}
use Rattle.versions.specs.Pruned.{at_of, pruned, is_passed, first_left}
use Rattle.versions.proofs.Halves.{after_passes}
use Rattle.versions.proofs.Heads.{not_back}
use Rattle.versions.proofs.Newest.{newer, none_by}

-- those that are not passed
abbrev pub left_of : ℕ → List Install → List Install
left_of h [] = []
left_of h (x ∷ t) = cond (is_passed h x t) (left_of h t) (x ∷ left_of h t)

-- no version of the key that is not above the horizon is above this one
abbrev stays : ℕ → List Install → Install → Bool
stays h u i = list_all (λ z. nat_le z.at i.at) (filter (is_by i.key h) u)

-- all are up to a timestamp where the newest is
all-newest : (n : ℕ) (t : List Install) → list_all (λ z. nat_le z.at n) t ≡ nat_le (at_of (newest t)) n
all-newest n [] = grind (arith, nat_tests)
all-newest n (x ∷ t) = by_found (newest t) (all-newest n t)
  where
    by_found : (found : Option Install) → list_all (λ z. nat_le z.at n) t ≡ nat_le (at_of found) n
        → (nat_le x.at n && list_all (λ z. nat_le z.at n) t) ≡ nat_le (at_of (newer x found)) n
    by_found None h = ap (λ b. nat_le x.at n && b) h ∙ none (nat_le x.at n)
      where
        none : (b : Bool) → (b && nat_le 0 n) ≡ b
        none true = grind (arith, nat_tests)
        none false = refl
    by_found (Some y) h = ap (λ b. nat_le x.at n && b) h ∙ by_test (nat_lt x.at y.at) refl
      where
        by_test : (b : Bool) → nat_lt x.at y.at ≡ b → (nat_le x.at n && nat_le y.at n) ≡ nat_le (at_of (cond {A = Option Install} b (Some y) (Some x))) n
        by_test true k = grind (arith, nat_tests)
        by_test false k = grind (arith, nat_tests)

pruned-stays : (h : ℕ) (t : List Install) → pruned h t ≡ filter (stays h t) t
unfolding pruned
pruned-stays h t = keep-alike _ _ (λ i. sym (all-newest i.at (filter (is_by i.key h) t))) t

keep-each : (p q : Install → Bool) (t : List Install) → AllByRecursion (λ x. p x ≡ q x) t → filter p t ≡ filter q t
keep-each p q [] all = refl
keep-each p q (x ∷ t) all = ap (λ b. cond b (x ∷ filter p t) (filter p t)) all.0 ∙ ap (λ r. cond (q x) (x ∷ r) r) (keep-each p q t all.1)

-- of two versions of one key, in order
pub earlier : (x y : Install) → version_before x y ≡ true → same_key x.key y.key ≡ true → x.at < y.at
earlier x y before same =
    let level : key_before x.key y.key ≡ false = ap (key_before x.key) (sym (same_key-is x.key y.key same)) ∙ key_before-irreflexive x.key in
    grind (arith, nat_tests)

-- a version before them does not matter to those behind it
before-stays : (h : ℕ) (x : Install) (t : List Install) (y : Install) → version_before x y ≡ true → stays h (x ∷ t) y ≡ stays h t y
before-stays h x t y before = by_test (is_by y.key h x) refl
  where
    by_test : (b : Bool) → is_by y.key h x ≡ b → list_all (λ z. nat_le z.at y.at) (cond b (x ∷ filter (is_by y.key h) t) (filter (is_by y.key h) t))
        ≡ stays h t y
    by_test true k =
        let same : same_key x.key y.key ≡ true = grind (arith, nat_tests) in
        let lt : x.at < y.at = earlier x y before same in
        let le : nat_le x.at y.at ≡ true = grind (arith, nat_tests) in
        ap (λ b. b && stays h t y) le
    by_test false k = refl

-- it stays where the next one does not pass it
self-stays : (h : ℕ) (x : Install) (t : List Install) → AscendsByVersion (x ∷ t) → stays h (x ∷ t) x ≡ not (is_passed h x t)
self-stays h x t up = own (is_by x.key h x) ∙ by_next t up
  where
    own : (b : Bool) → list_all (λ z. nat_le z.at x.at) (cond b (x ∷ filter (is_by x.key h) t) (filter (is_by x.key h) t)) ≡ stays h t x
    own true =
        let le : nat_le x.at x.at ≡ true = grind (arith, nat_tests) in
        ap (λ b. b && stays h t x) le
    own false = refl

    by_next : (s : List Install) → AscendsByVersion (x ∷ s) → stays h s x ≡ not (is_passed h x s)
    by_next [] up = refl
    by_next (y ∷ s) up = by_test (is_by x.key h y) refl
      where
        by_test : (b : Bool) → is_by x.key h y ≡ b
            → list_all (λ z. nat_le z.at x.at) (cond b (y ∷ filter (is_by x.key h) s) (filter (is_by x.key h) s)) ≡ not b
        by_test true k =
            let same : same_key x.key y.key ≡ true = same_key_comm x.key y.key ∙ sides (same_key y.key x.key) (nat_le y.at h) k in
            let lt : x.at < y.at = earlier x y up.0.0 same in
            let more : nat_le y.at x.at ≡ false = grind (arith, nat_tests) in
            ap (λ b. b && stays h s x) more
          where
            sides : (a b : Bool) → (a && b) ≡ true → a ≡ true
            sides true b h = refl
            sides false b h = h
        by_test false k =
            ap (λ (r : List Install). list_all (λ z. nat_le z.at x.at) r) (sym (ap (λ b. cond b (y ∷ filter (is_by x.key h) s) (filter (is_by x.key h) s)) k)
            ∙ none_by x.key h (y ∷ s) (after_passes x.key h (y ∷ s) zero up.1 (omega arith) (λ d. behind)))
          where
            back : key_before y.key x.key ≡ false
            back = by (key_before x.key y.key) refl
              where
                by : (b : Bool) → key_before x.key y.key ≡ b → key_before y.key x.key ≡ false
                by true e = not_back x.key y.key e
                by false e =
                    let same : same_key x.key y.key ≡ true = grind (arith, nat_tests) in
                    ap (λ z. key_before z x.key) (sym (same_key-is x.key y.key same)) ∙ key_before-irreflexive x.key

            behind : is_not_after x.key h y ≡ false
            behind = ap (λ b. b || is_by x.key h y) back ∙ k

-- so those that are not passed are those that the horizon leaves
pub left-is-pruned : (h : ℕ) (t : List Install) → AscendsByVersion t → left_of h t ≡ pruned h t
left-is-pruned h t up = by_stay t up ∙ sym (pruned-stays h t)
  where
    turned : (b : Bool) (x : Install) (r : List Install) → cond b r (x ∷ r) ≡ cond (not b) (x ∷ r) r
    turned true x r = refl
    turned false x r = refl

    by_stay : (s : List Install) → AscendsByVersion s → left_of h s ≡ filter (stays h s) s
    by_stay [] up = refl
    by_stay (x ∷ s) up =
        let rest : filter (stays h (x ∷ s)) s ≡ filter (stays h s) s = keep-each (stays h (x ∷ s)) (stays h s) s
        (all_gives (λ next. version_before x next ≡ true) (λ y. stays h (x ∷ s) y ≡ stays h s y) (before-stays h x s) s up.0) in
        ap (λ (r : List Install). cond (is_passed h x s) r (x ∷ r)) (by_stay s up.1 ∙ sym rest)
        ∙ turned (is_passed h x s) x (filter (stays h (x ∷ s)) s)
        ∙ ap (λ b. cond b (x ∷ filter (stays h (x ∷ s)) s) (filter (stays h (x ∷ s)) s)) (sym (self-stays h x s up))

-- told from the two that stand there
pub passed_by_next : (h : ℕ) (t : List Install) (at : ℕ) (x y : Install) → at + 1 < length t → get_or t at no_install ≡ x → get_or t (at + 1) no_install ≡ y
    → is_by x.key h y ≡ is_passed h (get_or t at no_install) (drop (at + 1) t)
passed_by_next h t at x y lt this next =
    ap (λ (z : Install). is_by z.key h y) (sym this)
    ∙ ap (λ (z : Install). is_by (get_or t at no_install).key h z) (sym next)
    ∙ sym (ap (is_passed h (get_or t at no_install)) (drop_more t (at + 1) no_install lt))

-- ---- one pass over them, by which those that are left come to the front

-- one that is passed
pub pass_over : (h : ℕ) (t : List Install) (at : ℕ) (d : Install) → at < length t → is_passed h (get_or t at d) (drop (at + 1) t) ≡ true
    → left_of h (drop (at + 1) t) ≡ left_of h (drop at t)
pass_over h t at d lt passed =
    sym (ap (left_of h) (drop_more t at d lt)
    ∙ ap (λ b. cond b (left_of h (drop (at + 1) t)) (get_or t at d ∷ left_of h (drop (at + 1) t))) passed)

-- one that is kept, behind so many
pub pass_kept : (h : ℕ) (t : List Install) (at kept : ℕ) (d : Install) → at < length t → kept ≤ at
    → is_passed h (get_or t at d) (drop (at + 1) t) ≡ false
    → take (kept + 1) (set t kept (get_or t at d)) ++ left_of h (drop (at + 1) (set t kept (get_or t at d))) ≡ take kept t ++ left_of h (drop at t)
pass_kept h t at kept d lt le passed =
    let y = get_or t at d in
    ap (λ (r : List Install). r ++ left_of h (drop (at + 1) (set t kept y))) (take_more_set t kept y (omega (arith, lt, le)))
    ∙ ap (λ (r : List Install). (take kept t ++ y ∷ []) ++ left_of h r) (drop-set-lt (at + 1) t kept y (omega (arith, le)))
    ∙ append_assoc (take kept t) (y ∷ []) (left_of h (drop (at + 1) t))
    ∙ ap (λ (r : List Install). take kept t ++ r)
    (sym (ap (left_of h) (drop_more t at d lt) ∙ ap (λ b. cond b (left_of h (drop (at + 1) t)) (y ∷ left_of h (drop (at + 1) t))) passed))

-- and when all are passed
pub pass_over_all : (h : ℕ) (t : List Install) (at kept : ℕ) → length t ≤ at → take kept t ++ left_of h (drop at t) ≡ take kept t
pass_over_all h t at kept le = ap (λ (r : List Install). take kept t ++ left_of h r) (drop_all at t le) ∙ nothing (take kept t)
  where
    nothing : (r : List Install) → r ++ [] ≡ r
    nothing [] = refl
    nothing (x ∷ r) = ap (λ q. x ∷ q) (nothing r)

-- ---- those that are left, one by one

pub no_first : (h : ℕ) (t : List Install) (at : ℕ) → at < length t → first_left h (drop at t) ≡ None → left_of h (drop (at + 1) t) ≡ left_of h (drop at t)
no_first h t at lt none =
    let x = get_or t at no_install in
    sym (ap (left_of h) (drop_more t at no_install lt)
    ∙ by_test (is_passed h x (drop (at + 1) t)) (sym (ap (first_left h) (drop_more t at no_install lt)) ∙ none))
  where
    by_test : (b : Bool) → cond {A = Option Install} b None (Some (get_or t at no_install)) ≡ None
        → cond b (left_of h (drop (at + 1) t)) (get_or t at no_install ∷ left_of h (drop (at + 1) t)) ≡ left_of h (drop (at + 1) t)
    by_test true e = refl
    by_test false e = cc

pub one_first : (h : ℕ) (t : List Install) (at : ℕ) (y : Install) → at < length t → first_left h (drop at t) ≡ Some y
    → y ∷ left_of h (drop (at + 1) t) ≡ left_of h (drop at t)
one_first h t at y lt some =
    let x = get_or t at no_install in
    sym (ap (left_of h) (drop_more t at no_install lt)
    ∙ by_test (is_passed h x (drop (at + 1) t)) (sym (ap (first_left h) (drop_more t at no_install lt)) ∙ some))
  where
    by_test : (b : Bool) → cond {A = Option Install} b None (Some (get_or t at no_install)) ≡ Some y
        → cond b (left_of h (drop (at + 1) t)) (get_or t at no_install ∷ left_of h (drop (at + 1) t)) ≡ y ∷ left_of h (drop (at + 1) t)
    by_test true e = cc
    by_test false e = let is : get_or t at no_install ≡ y = cc in ap (λ (z : Install). z ∷ left_of h (drop (at + 1) t)) is

-- the first that is left, told from the version at a place and whether it is passed
pub first_is : (h : ℕ) (t : List Install) (at : ℕ) → at < length t
    → first_left h (drop at t) ≡ cond (is_passed h (get_or t at no_install) (drop (at + 1) t)) None (Some (get_or t at no_install))
first_is h t at lt = ap (first_left h) (drop_more t at no_install lt)
